-- What a write at the gate leaves of the bytes before it.
use Rattle.std.proofs.Common.{◌≡◌, ℕ, ◌+◌, ◌≤◌, List, ◌++◌, length, take, drop, get_or, sym, ◌∙◌, ap, arith, append_assoc, length-append, take-append-drop}
use Rattle.std.proofs.lemmas.List.{take_at, get_or-take}
use Rattle.soc_edge.proofs.Disks.{take-Tears, Tears-written, length-written}
use Rattle.soc_edge.specs.Disk.{Tears}
use Rattle.soc_journal.specs.Bodies.{StandsBefore, IsApart}
use Rattle.soc_journal.specs.Entries.{Entry, first_gate, entry_text}
use Rattle.soc_journal.specs.Text.{version_of}

entry_stays : (bytes after : List ℕ) (place gate count : ℕ) (entry : Entry) → Tears gate count bytes after → StandsBefore bytes place gate entry → StandsBefore after place gate entry
entry_stays bytes after place gate count entry tears before =
    let stands = before.stands in
    let whole = stands.front ++ entry_text entry in
    let end = place + length (entry_text entry) in
    let size : length whole ≡ end = omega (arith, length-append stands.front (entry_text entry), stands.before) in
    let split : bytes ≡ whole ++ stands.rest = stands.whole ∙ sym (append_assoc stands.front (entry_text entry) stands.rest) in
    let within : end ≤ length bytes = omega (arith, size, ap (λ (x : List ℕ). length x) split, length-append whole stands.rest) in
    let same : take end after ≡ whole =
    take-Tears gate count end bytes after tears before.ends within
    ∙ (ap (λ (x : List ℕ). take end x) split ∙ take_at whole stands.rest end size) in
    record {
      legal = before.legal;
      stands = record {
        front = stands.front;
        rest = drop end after;
        whole = sym (take-append-drop end after)
            ∙ (ap (λ (x : List ℕ). x ++ drop end after) same
            ∙ append_assoc stands.front (entry_text entry) (drop end after));
        before = stands.before;
      };
      ends = before.ends;
    }

version_stays : (bytes after : List ℕ) (gate count : ℕ) → first_gate ≤ gate → first_gate ≤ length bytes → Tears gate count bytes after → version_of after ≡ version_of bytes
version_stays bytes after gate count low long tears =
    let seven : 7 + 1 ≤ 8 = omega arith in
    sym (get_or-take 8 after 7 0 seven)
    ∙ (ap (λ (x : List ℕ). get_or x 7 0) (take-Tears gate count 8 bytes after tears low long)
    ∙ get_or-take 8 bytes 7 0 seven)

pub apart : IsApart
apart = record {
  entries = entry_stays;
  version = version_stays;
  whole = λ bytes piece gate. Tears-written bytes gate piece;
  size = λ bytes piece gate within. length-written bytes gate piece within;
}
