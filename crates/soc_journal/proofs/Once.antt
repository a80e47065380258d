-- At most one list of entries fits given bytes.
use Rattle.std.proofs.Common.{◌≡◌, ◌≢◌, ℕ, ◌≤◌, List, [], ◌∷◌, ◌++◌, length, take, drop, refl, sym, ◌∙◌, ap, arith, append_assoc}
use Rattle.std.specs.Int.{to_le_bytes, w32}
use Rattle.std.specs.List.{AllByRecursion}
use Rattle.std.proofs.lemmas.Grind.{flat_map-append}
use Rattle.std.proofs.lemmas.List.{take_at, drop_at}
use Rattle.soc_journal.specs.Entries.{Entry, IsEntryOf, max_body, open_gate, header, entry_text, entries_text, place_behind}
use Rattle.soc_journal.specs.inner.Gates.{entry_head}
use Rattle.soc_journal.specs.Text.{version_of, Begins, IsOneText, IsOneFault, IsOneEntry}
use Rattle.soc_journal.proofs.Bodies.{stands_rest}
use Rattle.soc_journal.proofs.Gates.{heads_same}
use Rattle.soc_journal.proofs.Texts.{text_behind, entry_text-behind, front_of, length-front_of, begins_front}

head_body : (entry : Entry) (more : List ℕ) → entry_text entry ++ more ≡ entry_head entry.kind (length entry.body) ++ (entry.body ++ more)
unfolding entry_text
head_body entry more = append_assoc (open_gate ∷ entry.kind ∷ to_le_bytes w32 (length entry.body)) entry.body more

behind_six : (entry : Entry) (more : List ℕ) → drop 6 (entry_text entry ++ more) ≡ entry.body ++ more
unfolding entry_text
behind_six entry more = refl

-- two entries at the front of the same bytes are one, and what follows them is the same
entry_once : (version : ℕ) (entry other : Entry) (more others : List ℕ) → IsEntryOf version entry → IsEntryOf version other → entry_text entry ++ more ≡ entry_text other ++ others → (entry ≡ other) × (more ≡ others)
entry_once version entry other more others legal legal_too is =
    let short : length entry.body ≤ max_body = legal.short in
    let short_too : length other.body ≤ max_body = legal_too.short in
    let heads = heads_same entry.kind (length entry.body) other (entry.body ++ more) others (omega arith) (omega arith) (sym (head_body entry more) ∙ is) in
    let behind : entry.body ++ more ≡ other.body ++ others =
    sym (behind_six entry more) ∙ (ap (λ (x : List ℕ). drop 6 x) is ∙ behind_six other others) in
    let body : entry.body ≡ other.body =
    sym (take_at entry.body more (length entry.body) refl)
    ∙ (ap (λ (x : List ℕ). take (length entry.body) x) behind ∙ take_at other.body others (length entry.body) (sym heads.1)) in
    let kind : entry.kind ≡ other.kind = heads.0 in (
      (λ i. record { kind = kind i; body = body i }),
      sym (drop_at entry.body more (length entry.body) refl)
          ∙ (ap (λ (x : List ℕ). drop (length entry.body) x) behind ∙ drop_at other.body others (length entry.body) (sym heads.1)),
    )

-- no entry of the version begins here
abbrev Ends : ℕ → List ℕ → Type 0
Ends version rest = (entry : Entry) (more : List ℕ) → IsEntryOf version entry → rest ≢ entry_text entry ++ more

closed_ends : (version gate : ℕ) (rest : List ℕ) → gate ≢ open_gate → Ends version (gate ∷ rest)
closed_ends version gate rest closed entry more legal is =
    let opened : gate ∷ rest ≡ open_gate ∷ text_behind entry more = is ∙ entry_text-behind entry more in
    let same : gate ≡ open_gate = cc in
    closed same

-- two lists of entries at the front of the same bytes are one, where no entry follows them
entries_once : (version : ℕ) (entries others : List Entry) (rest ends : List ℕ) → AllByRecursion (IsEntryOf version) entries → AllByRecursion (IsEntryOf version) others
    → Ends version rest → Ends version ends → entries_text entries ++ rest ≡ entries_text others ++ ends → (entries ≡ others) × (rest ≡ ends)
entries_once version [] [] rest ends all all_too stop stop_too is = (refl, is)
entries_once version [] (other ∷ others) rest ends all all_too stop stop_too is =
    absurd (stop other (entries_text others ++ ends) all_too.0 (is ∙ append_assoc (entry_text other) (entries_text others) ends))
entries_once version (entry ∷ entries) [] rest ends all all_too stop stop_too is =
    absurd (stop_too entry (entries_text entries ++ rest) all.0 (sym is ∙ append_assoc (entry_text entry) (entries_text entries) rest))
entries_once version (entry ∷ entries) (other ∷ others) rest ends all all_too stop stop_too is =
    let first = entry_once version entry other (entries_text entries ++ rest) (entries_text others ++ ends) all.0 all_too.0
    (sym (append_assoc (entry_text entry) (entries_text entries) rest) ∙ (is ∙ append_assoc (entry_text other) (entries_text others) ends)) in
    let then = entries_once version entries others rest ends all.1 all_too.1 stop stop_too first.1 in
    (ap (λ (e : Entry). e ∷ entries) first.0 ∙ ap (λ (es : List Entry). other ∷ es) then.0, then.1)

begins_once : (bytes : List ℕ) (entries others : List Entry) (rest ends : List ℕ) → Begins entries rest bytes → Begins others ends bytes → Ends (version_of bytes) rest → Ends (version_of bytes) ends
    → (entries ≡ others) × (rest ≡ ends)
begins_once bytes entries others rest ends begins begins_too stop stop_too =
    entries_once (version_of bytes) entries others rest ends begins.legal begins_too.legal stop stop_too
    (ap (λ (x : List ℕ). drop 8 x) (sym begins.whole ∙ begins_too.whole))

pub text_once : IsOneText
text_once bytes entries others text other =
    (begins_once bytes entries others (text.gate ∷ text.rest) (other.gate ∷ other.rest) text.begins other.begins
    (closed_ends (version_of bytes) text.gate text.rest text.closed) (closed_ends (version_of bytes) other.gate other.rest other.closed)).0

pub fault_once : IsOneFault
fault_once = record {
  no_text = λ bytes place entries bad text.
      let same = begins_once bytes bad.entries entries bad.rest (text.gate ∷ text.rest) bad.begins text.begins bad.no_entry
      (closed_ends (version_of bytes) text.gate text.rest text.closed) in
      bad.no_gate text.gate text.rest text.closed same.1;
  one = λ bytes place other bad bad_too.
      let same = begins_once bytes bad.entries bad_too.entries bad.rest bad_too.rest bad.begins bad_too.begins bad.no_entry bad_too.no_entry in
      bad.behind ∙ (ap place_behind same.0 ∙ sym bad_too.behind);
}

pub entries_stand : IsOneEntry
entries_stand = record {
  stands = λ bytes front back entry text.
      let rest = text.gate ∷ text.rest in
      record {
        front = front_of (version_of bytes) front;
        rest = entries_text back ++ rest;
        whole = begins_front (front ++ entry ∷ back) rest bytes text.begins
            ∙ (ap (λ (x : List ℕ). (header (version_of bytes) ++ x) ++ rest) (flat_map-append entry_text front (entry ∷ back))
            ∙ regroup (header (version_of bytes)) (entries_text front) (entry_text entry) (entries_text back) rest);
        before = length-front_of (version_of bytes) front;
      };
  one = λ bytes version place entry other legal legal_too stands stands_too.
      (entry_once version entry other stands.rest stands_too.rest legal legal_too
      (sym (stands_rest bytes place entry stands) ∙ stands_rest bytes place other stands_too)).0;
}
  where
    regroup : (a b c d e : List ℕ) → (a ++ (b ++ (c ++ d))) ++ e ≡ (a ++ b) ++ (c ++ (d ++ e))
    regroup a b c d e = simp append_assoc
