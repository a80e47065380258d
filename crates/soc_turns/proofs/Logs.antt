-- What the tables and the disk of a book tell is the log that they stand for.
use Rattle.std.proofs.Common.{◌≡◌, ℕ, ◌<◌, ◌^◌, Bool, true, false, cond, IsTrue, List, [], ◌∷◌, ◌++◌, length, take, drop, Option, Some, None, refl, sym, ◌∙◌, ap, subst, arith, append_assoc, ⊎_elim}
use Rattle.std.specs.Prelude.{IsSomeAnd, bytes_eq, if◌then◌else◌}
use Rattle.std.specs.Int.{from_le_bytes, to_le_bytes, w32}
use Rattle.std.specs.List.{AllByRecursion, find}
use Rattle.std.specs.Option.{IsSome, option_map, option_map_or, option_and_then}
use Rattle.std.proofs.Math.Seq.{drop-append_seam, take-append_seam}
use Rattle.std.proofs.lemmas.List.{length-map}
use Rattle.std.proofs.lemmas.Nat.{from_le_bytes-to_le_bytes_4}
use Rattle.soc_raw.specs.Record.{Crash, record_of}
use Rattle.soc_schema.specs.declared.value.Cell.{Cell}
use Rattle.soc_edge.specs.Disk.{DiskTold}
use Rattle.soc_journal.specs.Entries.{Entry, IsEntryOf, entries_text, entry_text, first_gate, header}
use Rattle.soc_journal.specs.States.{JournalState}
use Rattle.soc_journal.specs.Text.{Begins, JournalText, version_of}
use Rattle.soc_journal.proofs.Texts.{entries_text-append}
use Rattle.soc_ledger.specs.declared.event.Event.{Event}
use Rattle.soc_ledger.specs.declared.event.Event.TheVariants as E
use Rattle.soc_ledger.specs.State.{LedgerState}
use Rattle.soc_ledger.proofs.Lists.{true_is_not_false}
use Rattle.soc_vault.specs.Vaults.{Means}
use Rattle.soc_desk.specs.declared.desk.Limits.{Limits}
use Rattle.soc_desk.specs.Basis.{Basis}
use Rattle.soc_desk.specs.Log.{Accepted, Change as Logged, Kept, accept, ask, withdraw, report, keep, done, stop, event_of, events, accepted_of, raw_of}
use Rattle.soc_desk.specs.State.{State, body_of, entry_of, entries_of, kept_of}
use Rattle.soc_book.specs.declared.book.Change.{Change as Pending}
use Rattle.soc_book.specs.inner.Stands.{Stands}
use Rattle.soc_service.specs.declared.change.Change.{Change}
use Rattle.soc_service.specs.Changes.{events_in, text_in}
use Rattle.soc_turns.specs.Changes.{behind_first, changes_at, changes_from, first_body, first_length, has_entry}
use Rattle.soc_turns.specs.Logs.{changes_of, text_of}

-- ---- the entry with which bytes begin

take_front : (xs ys : List ℕ) (n : ℕ) → length xs ≡ n → take n (xs ++ ys) ≡ xs
take_front xs ys n is = subst (λ k. take k (xs ++ ys) ≡ xs) is (take-append_seam xs ys)

drop_front : (xs ys : List ℕ) (n : ℕ) → length xs ≡ n → drop n (xs ++ ys) ≡ ys
drop_front xs ys n is = subst (λ k. drop k (xs ++ ys) ≡ ys) is (drop-append_seam xs ys)

module _ (size body rest : List ℕ) (four : length size ≡ 4) where
  size_there : take 4 ((size ++ body) ++ rest) ≡ size
  size_there = ap (λ x. take 4 x) (append_assoc size body rest) ∙ take_front size (body ++ rest) 4 four

  body_there : drop 4 ((size ++ body) ++ rest) ≡ body ++ rest
  body_there = ap (λ x. drop 4 x) (append_assoc size body rest) ∙ drop_front size (body ++ rest) 4 four

module _ (entry : Entry) (rest : List ℕ) (short : length entry.body < 2 ^ 32) where
  length_is : first_length (entry_text entry ++ rest) ≡ length entry.body
  unfolding entry_text
  length_is =
      ap (λ x. from_le_bytes w32 x) (size_there (to_le_bytes w32 (length entry.body)) entry.body rest refl) ∙ from_le_bytes-to_le_bytes_4 (length entry.body) short

  behind_head : drop 6 (entry_text entry ++ rest) ≡ entry.body ++ rest
  unfolding entry_text
  behind_head = body_there (to_le_bytes w32 (length entry.body)) entry.body rest refl

  first_is : first_body (entry_text entry ++ rest) ≡ entry.body
  first_is = ap (λ x. take (first_length (entry_text entry ++ rest)) x) behind_head ∙ take_front entry.body rest _ (sym length_is)

  behind_is : behind_first (entry_text entry ++ rest) ≡ rest
  behind_is = ap (λ x. drop (first_length (entry_text entry ++ rest)) x) behind_head ∙ drop_front entry.body rest _ (sym length_is)

-- ---- the log

with_text : (event : Event) (a b : Option (List ℕ)) (xs ys : List Change) → a ≡ b → xs ≡ ys → record { event = event; text = a } ∷ xs ≡ record { event = event; text = b } ∷ ys
with_text event a b xs ys same rest = ap (λ t. record { event = event; text = t } ∷ xs) same ∙ ap (λ l. record { event = event; text = b } ∷ l) rest

-- a change with an entry, and those behind it
one_more : (has : Bool) (event : Event) (bytes text : Option (List ℕ)) (events : List Event) (changes : List Change) → has ≡ true
    → option_map first_body bytes ≡ text → changes_from (option_map behind_first bytes) events ≡ changes
    → record { event = event; text = if has then option_map first_body bytes else None } ∷ changes_from (if has then option_map behind_first bytes else bytes) events
    ≡ record { event = event; text = text } ∷ changes
one_more true event bytes text events changes has here there = with_text event _ text _ changes here there
one_more false event bytes text events changes has here there = absurd (true_is_not_false (sym has))

if_is : {A : Type 0} (b c : Bool) (x y : A) → b ≡ c → (if b then x else y) ≡ (if c then x else y)
if_is b c x y is = ap (λ d. if d then x else y) is

kept_has : (basis : Basis) (change : Kept) → has_entry (event_of basis (keep change)) ≡ true
kept_has basis (accept crash) = refl
kept_has basis (ask id) = refl
kept_has basis (withdraw id) = refl
kept_has basis (report made) = refl

module _ (basis : Basis) where
  from_none : (log : List Logged) → basis.is_told ≡ false → changes_from None (events basis log) ≡ changes_of basis log
  from_none [] untold = refl
  from_none (keep change ∷ log) untold =
      one_more (has_entry (event_of basis (keep change))) _ None _ (events basis log) (changes_of basis log) (kept_has basis change)
      (sym (if_is basis.is_told false (Some (body_of change)) None untold)) (from_none log untold)
  from_none (done id ∷ log) untold = with_text (E.Done id) None None _ _ refl (from_none log untold)
  from_none (stop ∷ log) untold = with_text E.Stopped None None _ _ refl (from_none log untold)

  module _ (version : ℕ) (rest : List ℕ) (told : basis.is_told ≡ true) where
    from_entries : (log : List Logged) → AllByRecursion (IsEntryOf version) (entries_of (kept_of log))
        → changes_from (Some (entries_text (entries_of (kept_of log)) ++ rest)) (events basis log) ≡ changes_of basis log
    from_entries [] legal = refl
    from_entries (keep change ∷ log) legal =
        let behind = entries_text (entries_of (kept_of log)) ++ rest in
        let here : entries_text (entry_of change ∷ entries_of (kept_of log)) ++ rest ≡ entry_text (entry_of change) ++ behind =
        append_assoc (entry_text (entry_of change)) (entries_text (entries_of (kept_of log))) rest in
        let fits = legal.0.short in
        let short : length (body_of change) < 2 ^ 32 = omega (arith, fits) in
        one_more (has_entry (event_of basis (keep change))) _ (Some (entries_text (entry_of change ∷ entries_of (kept_of log)) ++ rest)) _ (events basis log) (changes_of basis log) (kept_has basis change)
        (ap (λ b. Some (first_body b)) here ∙ (ap (λ b. Some b) (first_is (entry_of change) behind short) ∙ sym (if_is basis.is_told true (Some (body_of change)) None told)))
        (ap (λ b. changes_from (Some (behind_first b)) (events basis log)) here
        ∙ (ap (λ b. changes_from (Some b) (events basis log)) (behind_is (entry_of change) behind short) ∙ from_entries log legal.1))
    from_entries (done id ∷ log) legal = with_text (E.Done id) None None _ _ refl (from_entries log legal)
    from_entries (stop ∷ log) legal = with_text E.Stopped None None _ _ refl (from_entries log legal)

-- a disk that means these entries begins with them
abbrev HasFront : List Entry → List ℕ → Type 0
HasFront entries bytes = (rest : List ℕ) × Begins entries rest bytes

some_then : {X : Type 0} (o : Option X) {P Q : X → Type 0} → IsSomeAnd o P → ((x : X) → P x → Q x) → IsSomeAnd o Q
some_then None some next = some
some_then (Some x) some next = next x some

front_of : (entries : List Entry) (bytes : List ℕ) → JournalText entries bytes → HasFront entries bytes
front_of entries bytes text = (text.gate ∷ text.rest, text.begins)

all_front : {X : Type 0} (P : X → Type 0) (xs ys : List X) → AllByRecursion P (xs ++ ys) → AllByRecursion P xs
all_front P [] ys all = tt
all_front P (x ∷ xs) ys all = (all.0, all_front P xs ys all.1)

front_of_both : (entries more : List Entry) (bytes : List ℕ) → JournalText (entries ++ more) bytes → HasFront entries bytes
front_of_both entries more bytes text = (
  entries_text more ++ (text.gate ∷ text.rest),
  record {
    whole = text.begins.whole ∙ ap (λ x. header (version_of bytes) ++ x) (entries_text-append entries more (text.gate ∷ text.rest));
    legal = all_front (IsEntryOf (version_of bytes)) entries more text.begins.legal;
  },
)

means_front : (disk : DiskTold) (journal : JournalState) (entries doubt : List Entry) → Means disk journal entries doubt → IsSomeAnd disk.content (HasFront entries)
means_front disk journal entries [] means = some_then disk.content means (λ bytes rests. front_of entries bytes rests.text)
means_front disk journal entries (first ∷ more) means = some_then disk.content means (λ bytes doubts.
    ⊎_elim (λ text. front_of entries bytes text) (λ text. front_of_both entries (first ∷ more) bytes text) doubts.text)

from_content : (basis : Basis) (log : List Logged) (content : Option (List ℕ)) → basis.is_told ≡ true → IsSomeAnd content (HasFront (entries_of (kept_of log)))
    → changes_from (option_map (λ bytes. drop first_gate bytes) content) (events basis log) ≡ changes_of basis log
from_content basis log None told front = absurd front
from_content basis log (Some bytes) told front =
    ap (λ b. changes_from (Some (drop first_gate b)) (events basis log)) front.1.whole
    ∙ from_entries basis (version_of bytes) front.0 told log front.1.legal

from_disk : (basis : Basis) (log : List Logged) (content : Option (List ℕ)) (told : Bool) → basis.is_told ≡ told → (IsTrue told → IsSomeAnd content (HasFront (entries_of (kept_of log))))
    → changes_at told content (events basis log) ≡ changes_of basis log
from_disk basis log content true is front = from_content basis log content is (front refl)
from_disk basis log content false is front = from_none basis log is

-- what events and disk tell is the log of each state that the tables stand for
pub log_is : {basis : Basis} {limits : Limits} {ledger : LedgerState} {rows : List (ℕ × List Cell)} {pending : Option Pending} {journal : JournalState} {disk : DiskTold} {state : State}
    → Stands basis limits ledger rows pending journal disk state → changes_at basis.is_told disk.content ledger.log ≡ changes_of basis state.log
log_is {basis = basis} {journal = journal} {disk = disk} {state = state} stands =
    ap (λ l. changes_at basis.is_told disk.content l) stands.holds.events_are
    ∙ from_disk basis state.log disk.content basis.is_told refl (λ told. means_front disk journal _ _ (stands.told told).means)

-- a change for each event
events-changes_from : (bytes : Option (List ℕ)) (log : List Event) → events_in (changes_from bytes log) ≡ log
events-changes_from bytes [] = refl
events-changes_from bytes (event ∷ log) = ap (λ l. event ∷ l) (events-changes_from (if has_entry event then option_map behind_first bytes else bytes) log)

pub events-changes_at : (told : Bool) (content : Option (List ℕ)) (log : List Event) → events_in (changes_at told content log) ≡ log
events-changes_at told content log = events-changes_from _ log

pub length-changes_at : (told : Bool) (content : Option (List ℕ)) (log : List Event) → length (changes_at told content log) ≡ length log
length-changes_at told content log = sym (length-map (changes_at told content log) (λ change. change.event)) ∙ ap (λ l. length l) (events-changes_at told content log)

pub events_are : (basis : Basis) (log : List Logged) → events_in (changes_of basis log) ≡ events basis log
events_are basis [] = refl
events_are basis (change ∷ log) = ap (λ l. event_of basis change ∷ l) (events_are basis log)

-- ---- the record of a crash

found_text : (b : Bool) (crash : Accepted) (text rest : Option (List ℕ)) (found : Option Accepted) → text ≡ option_map record_of crash.raw → rest ≡ option_map record_of (option_and_then (λ c. c.raw) found)
    → (if b then text else rest) ≡ option_map record_of (option_and_then (λ c. c.raw) (cond b (Some crash) found))
found_text true crash text rest found here there = here
found_text false crash text rest found here there = there

record_text : (told : Bool) (raw : Option Crash) → IsTrue told → IsSome raw → (if told then Some (option_map_or record_of raw []) else None) ≡ option_map record_of raw
record_text false raw told some = absurd (true_is_not_false (sym told))
record_text true None told some = absurd (true_is_not_false (sym some))
record_text true (Some raw) told some = refl

pub text_is : (basis : Basis) (log : List Logged) (id : List ℕ) → IsTrue basis.is_told → AllByRecursion (λ crash. IsSome crash.raw) (accepted_of log)
    → text_in (changes_of basis log) id ≡ option_map record_of (raw_of log id)
text_is basis [] id told some = refl
text_is basis (keep (accept crash) ∷ log) id told some =
    found_text (bytes_eq crash.id id) crash (text_of basis.is_told (keep (accept crash))) (text_in (changes_of basis log) id) (find (λ c. bytes_eq c.id id) (accepted_of log))
    (record_text basis.is_told crash.raw told some.0) (text_is basis log id told some.1)
text_is basis (keep (ask other) ∷ log) id told some = text_is basis log id told some
text_is basis (keep (withdraw other) ∷ log) id told some = text_is basis log id told some
text_is basis (keep (report made) ∷ log) id told some = text_is basis log id told some
text_is basis (done other ∷ log) id told some = text_is basis log id told some
text_is basis (stop ∷ log) id told some = text_is basis log id told some
