-- Entries that are written behind a closed gate, one call of the disk for each.
use Rattle.std.proofs.Common.{◌≡◌, ℕ, ◌+◌, ◌-◌, ◌^◌, ◌<◌, ◌≤◌, Option, Some, None, List, [], ◌∷◌, ◌++◌, length, drop, refl, sym, ◌∙◌, ap, subst, arith, append_assoc, length-append}
use Rattle.std.specs.Option.{option_map}
use Rattle.std.specs.List.{AllByRecursion}
use Rattle.std.proofs.lemmas.List.{append-nil}
use Rattle.soc_edge.specs.Calls.{one_more}
use Rattle.soc_edge.specs.Disk.{written, Tears, WhereTold, DiskTold, MayTear}
use Rattle.soc_journal.specs.Entries.{Entry, IsEntryOf, open_gate, closed_gate, second_version, entry_text, entries_text, sealed, sealed_all}
use Rattle.soc_journal.specs.inner.Staging.{behind_all, HasLength, HasLooked, HasStaged}
use Rattle.soc_journal.proofs.Ranges.{Tears-wider, Tears-append, WhereTold-map, WhereTold-append, MayTear-wider, MayTear-append, written-over}
use Rattle.soc_journal.proofs.Stops.{WhereTold-written}
use Rattle.soc_journal.proofs.Texts.{length-entry_text, length-sealed_all, length-behind_all, sealed_one, entries_text-one, entries_text-push, length-entries_text-append, AllByRecursion-append}

-- ---- how many bytes they have

pub looked_none : (entries : List Entry) (most left : ℕ) → left + 1 ≡ most → HasLooked entries entries most left
looked_none entries most left is = record { front = []; whole = refl; left_is = omega (arith, is); legal = tt }

module _ (entries : List Entry) (entry : Entry) (behind : List Entry) (most left : ℕ) (looked : HasLooked entries (entry ∷ behind) most left) where
  whole_too : entries ≡ (looked.front ++ entry ∷ []) ++ behind
  whole_too = looked.whole ∙ sym (append_assoc looked.front (entry ∷ []) behind)

  pub looked_more : (fewer : ℕ) → fewer + length (entry_text entry) ≡ left → IsEntryOf second_version entry → HasLooked entries behind most fewer
  looked_more fewer is legal =
      let is_left = looked.left_is in
      record {
        front = looked.front ++ entry ∷ [];
        whole = whole_too;
        left_is = omega (arith, is, is_left, length-entries_text-append looked.front (entry ∷ []), ap (λ (x : List ℕ). length x) (entries_text-one entry));
        legal = AllByRecursion-append (IsEntryOf second_version) looked.front (entry ∷ []) looked.legal (legal, tt);
      }

  -- one is too long
  pub looked_full : left < length (entry_text entry) → most < length (entries_text entries) + 1
  looked_full over =
      let is_left = looked.left_is in
      omega (arith, over, is_left, ap (λ (x : List Entry). length (entries_text x)) looked.whole, length-entries_text-append looked.front (entry ∷ behind), length-append (entry_text entry) (entries_text behind))

pub looked_all : (entries rest : List Entry) (most left : ℕ) → HasLooked entries rest most left → rest ≡ [] → HasLength entries most (most - 1 - left)
looked_all entries rest most left looked none =
    let all : entries ≡ looked.front = looked.whole ∙ (ap (λ (x : List Entry). looked.front ++ x) none ∙ append-nil looked.front) in
    let P : List Entry → Type 0 = λ x. AllByRecursion (IsEntryOf second_version) x in
    let is_left = looked.left_is in
    let count = ap (λ (x : List Entry). length (entries_text x)) all in
    record {
      count_is = omega (arith, is_left, count);
      fits = omega (arith, is_left, count);
      legal = subst P (sym all) looked.legal;
    }

-- ---- what stands behind the gate

behind_split : (entries : List Entry) → 0 < length entries → behind_all entries ≡ drop 1 (entries_text entries) ++ closed_gate ∷ []
unfolding entry_text behind_all
behind_split [] some = absurd (omega (arith, some))
behind_split (entry ∷ entries) some = refl

drop_one : (entries : List Entry) (rest : List ℕ) → 0 < length entries → drop 1 (entries_text entries ++ rest) ≡ drop 1 (entries_text entries) ++ rest
unfolding entry_text
drop_one [] rest some = absurd (omega (arith, some))
drop_one (entry ∷ entries) rest some = refl

behind_push : (entries : List Entry) (entry : Entry) → 0 < length entries → behind_all (entries ++ entry ∷ []) ≡ drop 1 (entries_text entries) ++ sealed entry
unfolding behind_all
behind_push entries entry some =
    ap (λ (x : List ℕ). drop 1 x) (entries_text-push entries entry (closed_gate ∷ [])) ∙ drop_one entries (sealed entry) some

behind_one : (entry : Entry) → behind_all (entry ∷ []) ≡ drop 1 (sealed entry)
unfolding behind_all
behind_one entry = ap (λ (x : List ℕ). drop 1 x) (sealed_one entry)

some_text : (entries : List Entry) → 0 < length entries → 0 < length (entries_text entries)
some_text [] some = absurd (omega (arith, some))
some_text (entry ∷ entries) some = omega (arith, length-append (entry_text entry) (entries_text entries), length-entry_text entry)

length-drop_one : (text : List ℕ) → 0 < length text → length (drop 1 text) + 1 ≡ length text
length-drop_one [] some = absurd (omega (arith, some))
length-drop_one (byte ∷ text) some = omega arith

length-one : (entry : Entry) → length (sealed entry) ≡ length (entry_text entry) + 1
length-one entry = length-append (entry_text entry) (closed_gate ∷ [])

-- ---- the first write

-- the places are numbers of 64 bits
pub within_first : (place : ℕ) (entries : List Entry) (first : Entry) (others : List Entry) → entries ≡ first ∷ others → place + length (entries_text entries) < 2 ^ 64 → (place + 1 < 2 ^ 64) × (place + length (entry_text first) < 2 ^ 64)
within_first place entries first others is most =
    let all = ap (λ (x : List Entry). length (entries_text x)) is in
    (omega (arith, most, all, length-append (entry_text first) (entries_text others), length-entry_text first), omega (arith, most, all, length-append (entry_text first) (entries_text others)))

module _ (place : ℕ) (entries : List Entry) (first : Entry) (others : List Entry) (is : entries ≡ first ∷ others) (piece : List ℕ) (is_piece : piece ≡ drop 1 (sealed first)) where
  size_first : length piece ≡ length (entry_text first)
  size_first = omega (arith, ap (λ (x : List ℕ). length x) (is_piece ∙ sym (behind_one first)), length-behind_all (first ∷ []) (omega arith), ap (λ (x : List ℕ). length x) (entries_text-one first))

  size_all : length (behind_all entries) ≡ length (entry_text first) + length (entries_text others)
  size_all =
      omega (arith, ap (λ (x : List Entry). length (behind_all x)) is, length-behind_all (first ∷ others) (omega arith), length-append (entry_text first) (entries_text others))

  pub staged_first : (before now : DiskTold) (next : ℕ) → next ≡ place + length (entry_text first) → now.content ≡ option_map (λ old. written old (place + 1) piece) before.content
      → MayTear (place + 1) (length piece) before now → now.calls ≡ one_more before.calls → HasStaged place entries before next others now
  staged_first before now next at content tears calls =
      let same : piece ≡ behind_all (first ∷ []) = is_piece ∙ sym (behind_one first) in
      record {
        front = first ∷ [];
        whole = is;
        some = omega arith;
        next_is = omega (arith, at, ap (λ (x : List ℕ). length x) (entries_text-one first));
        content = content ∙ ap (λ (x : List ℕ). option_map (λ old. written old (place + 1) x) before.content) same;
        tears = subst (λ (x : List ℕ). MayTear (place + 1) (length x) before now) same tears;
        calls = omega (arith, calls, ap (λ (x : List Entry). length x) is);
      }

  low : place + 1 ≤ place + 1
  low = omega arith

  high : place + 1 + length piece ≤ place + 1 + length (behind_all entries)
  high = omega (arith, size_first, size_all)

  pub torn_first : (told now_told : Option (List ℕ)) → WhereTold (Tears (place + 1) (length piece)) told now_told → WhereTold (Tears (place + 1) (length (behind_all entries))) told now_told
  torn_first told now_told torn =
      WhereTold-map (Tears (place + 1) (length piece)) (Tears (place + 1) (length (behind_all entries)))
      (λ a b tears. Tears-wider (place + 1) (length (behind_all entries)) (place + 1) (length piece) a b tears low high) told now_told torn

  pub tears_first : (before now : DiskTold) → MayTear (place + 1) (length piece) before now → MayTear (place + 1) (length (behind_all entries)) before now
  tears_first before now tears = MayTear-wider (place + 1) (length (behind_all entries)) (place + 1) (length piece) before now tears low high

-- ---- one write more

-- what was written is within the whole
front_high : (place : ℕ) (entries front rest : List Entry) → entries ≡ front ++ rest → 0 < length front → place + 1 + length (behind_all front) ≤ place + 1 + length (behind_all entries)
front_high place entries front rest whole some =
    let all : 0 < length (front ++ rest) = omega (arith, length-append front rest, some) in
    omega (arith, length-behind_all front some, ap (λ (x : List Entry). length (behind_all x)) whole, length-behind_all (front ++ rest) all, length-entries_text-append front rest)

module _ (place : ℕ) (entries : List Entry) (before : DiskTold) (next : ℕ) (rest : List Entry) (now : DiskTold) (staged : HasStaged place entries before next rest now) where
  same_low : place + 1 ≤ place + 1
  same_low = omega arith

  wide : MayTear (place + 1) (length (behind_all entries)) before now
  wide = MayTear-wider (place + 1) (length (behind_all entries)) (place + 1) (length (behind_all staged.front)) before now staged.tears same_low (front_high place entries staged.front rest staged.whole staged.some)

  wide_told : WhereTold (Tears (place + 1) (length (behind_all entries))) before.content now.content
  wide_told =
      WhereTold-map (Tears (place + 1) (length (behind_all staged.front))) (Tears (place + 1) (length (behind_all entries)))
      (λ a b tears. Tears-wider (place + 1) (length (behind_all entries)) (place + 1) (length (behind_all staged.front)) a b tears same_low (front_high place entries staged.front rest staged.whole staged.some)) before.content now.content
      (WhereTold-written before.content now.content (place + 1) (behind_all staged.front) staged.content)

  module _ (entry : Entry) (behind : List Entry) (is : rest ≡ entry ∷ behind) (piece : List ℕ) (is_piece : piece ≡ sealed entry) where
    pushed : entries ≡ (staged.front ++ entry ∷ []) ++ behind
    pushed = staged.whole ∙ (ap (λ (x : List Entry). staged.front ++ x) is ∙ sym (append_assoc staged.front (entry ∷ []) behind))

    some_pushed : 0 < length (staged.front ++ entry ∷ [])
    some_pushed = omega (arith, length-append staged.front (entry ∷ []))

    text_pushed : length (entries_text (staged.front ++ entry ∷ [])) ≡ length (entries_text staged.front) + length (entry_text entry)
    text_pushed = omega (arith, length-entries_text-append staged.front (entry ∷ []), ap (λ (x : List ℕ). length x) (entries_text-one entry))

    piece_size : length piece ≡ length (entry_text entry) + 1
    piece_size = ap (λ (x : List ℕ). length x) is_piece ∙ length-one entry

    one_low : place + 1 ≤ next
    one_low =
        let at = staged.next_is in
        omega (arith, at, some_text staged.front staged.some)

    one_high : next + length piece ≤ place + 1 + length (behind_all (staged.front ++ entry ∷ []))
    one_high =
        let at = staged.next_is in
        omega (arith, at, piece_size, length-behind_all (staged.front ++ entry ∷ []) some_pushed, text_pushed)

    one_all : next + length piece ≤ place + 1 + length (behind_all entries)
    one_all = omega (arith, one_high, front_high place entries (staged.front ++ entry ∷ []) behind pushed some_pushed)

    -- the content, where it is told
    over : (old : List ℕ) → written (written old (place + 1) (behind_all staged.front)) next piece ≡ written old (place + 1) (behind_all (staged.front ++ entry ∷ []))
    over old =
        let start = drop 1 (entries_text staged.front) in
        let at = staged.next_is in
        let here : next ≡ place + 1 + length start = omega (arith, at, length-drop_one (entries_text staged.front) (some_text staged.front staged.some)) in
        ap (λ (x : List ℕ). written (written old (place + 1) x) next piece) (behind_split staged.front staged.some)
        ∙ (ap (λ (n : ℕ). written (written old (place + 1) (start ++ closed_gate ∷ [])) n piece) here
        ∙ (ap (λ (x : List ℕ). written (written old (place + 1) (start ++ closed_gate ∷ [])) (place + 1 + length start) x) is_piece
        ∙ (written-over old (place + 1) start (closed_gate ∷ []) (sealed entry) (omega arith) (omega (arith, length-one entry))
        ∙ ap (λ (x : List ℕ). written old (place + 1) x) (sym (behind_push staged.front entry staged.some)))))

    over_told : (told : Option (List ℕ)) → option_map (λ old. written old next piece) (option_map (λ old. written old (place + 1) (behind_all staged.front)) told) ≡ option_map (λ old. written old (place + 1) (behind_all (staged.front ++ entry ∷ []))) told
    over_told None = refl
    over_told (Some old) = ap (λ (x : List ℕ). Some x) (over old)

    pub staged_more : (after : DiskTold) (then : ℕ) → then ≡ next + length (entry_text entry) → after.content ≡ option_map (λ old. written old next piece) now.content
        → MayTear next (length piece) now after → after.calls ≡ one_more now.calls → HasStaged place entries before then behind after
    staged_more after then at content tears calls =
        let here = staged.next_is in
        let called = staged.calls in
        let count = length (behind_all (staged.front ++ entry ∷ [])) in
        record {
          front = staged.front ++ entry ∷ [];
          whole = pushed;
          some = some_pushed;
          next_is = omega (arith, at, here, text_pushed);
          content = content ∙ (ap (λ (x : Option (List ℕ)). option_map (λ old. written old next piece) x) staged.content ∙ over_told before.content);
          tears = MayTear-append (place + 1) count before now after
              (MayTear-wider (place + 1) count (place + 1) (length (behind_all staged.front)) before now staged.tears same_low (front_high place (staged.front ++ entry ∷ []) staged.front (entry ∷ []) refl staged.some))
              (MayTear-wider (place + 1) count next (length piece) now after tears one_low one_high);
          calls = omega (arith, called, calls, ap (λ (x : List Entry). length x) is);
        }

    -- the write has failed
    pub torn_more : (now_told : Option (List ℕ)) → WhereTold (Tears next (length piece)) now.content now_told → WhereTold (Tears (place + 1) (length (behind_all entries))) before.content now_told
    torn_more now_told torn =
        WhereTold-append (Tears (place + 1) (length (behind_all entries))) (λ a b c. Tears-append (place + 1) (length (behind_all entries)) a b c) before.content now.content now_told wide_told
        (WhereTold-map (Tears next (length piece)) (Tears (place + 1) (length (behind_all entries)))
        (λ a b tears. Tears-wider (place + 1) (length (behind_all entries)) next (length piece) a b tears one_low one_all) now.content now_told torn)

    pub tears_more : (after : DiskTold) → MayTear next (length piece) now after → MayTear (place + 1) (length (behind_all entries)) before after
    tears_more after tears =
        MayTear-append (place + 1) (length (behind_all entries)) before now after wide
        (MayTear-wider (place + 1) (length (behind_all entries)) next (length piece) now after tears one_low one_all)

    -- the next entry's place is a number of 64 bits
    pub within_more : place + length (entries_text entries) < 2 ^ 64 → next + length (entry_text entry) < 2 ^ 64
    within_more most =
        let at = staged.next_is in
        omega (arith, at, most, ap (λ (x : List Entry). length (entries_text x)) pushed, length-entries_text-append (staged.front ++ entry ∷ []) behind, text_pushed)

  -- all are written
  module _ (none : rest ≡ []) where
    all_staged : staged.front ≡ entries
    all_staged = sym (staged.whole ∙ (ap (λ (x : List Entry). staged.front ++ x) none ∙ append-nil staged.front))

    pub content_all : now.content ≡ option_map (λ old. written old (place + 1) (behind_all entries)) before.content
    content_all = staged.content ∙ ap (λ (x : List Entry). option_map (λ old. written old (place + 1) (behind_all x)) before.content) all_staged

    pub torn_all : WhereTold (Tears (place + 1) (length (behind_all entries))) before.content now.content
    torn_all = wide_told

    pub tears_all : MayTear (place + 1) (length (behind_all entries)) before now
    tears_all = wide

    pub calls_all : now.calls ≤ before.calls + length entries
    calls_all =
        let called = staged.calls in
        omega arith
