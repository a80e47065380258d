-- What a book opens with, from what its journal's entries gave.
use Rattle.std.proofs.Common.{◌≡◌, ℕ, ◌<◌, ◌^◌, IsTrue, List, [], map, Option, Some, None, IfSome, IsSome, inl, inr, sym, ap, subst, ◌∙◌, refl, arith}
use Rattle.soc_book.proofs.Words.{IfSome_then, Crash, Cell, DiskTold, Entry, first_gate, place_behind, JournalState, LedgerState, true_is_not_false, Opens, StopsAt, place_from, Means, Limits, Basis, Change, RefusesEntry, as_told, log_of, State, settled, Recovers, Rows, Stands}
use Rattle.soc_book.specs.declared.opening.Recovery.{Recovery}
use Rattle.soc_book.specs.Openings.{IsBasisOf, OpensBook, StopsAtEntry}
use Rattle.soc_book.proofs.Changes.{settled-legal}
use Rattle.soc_book.proofs.Kept.{entries_told}
use Rattle.soc_book.proofs.Standing.{gate_behind}

-- ---- where no entry is taken

abbrev pub was_given : Recovery → ℕ → List Entry → Type 0
was_given recovery start entries = Recovers recovery.own recovery.ledger recovery.store start entries

abbrev pub refuses : List Entry → Entry → Type 0
refuses entries entry = (basis : Basis) → RefusesEntry basis entries entry

stops_at : (now : Recovery) (bytes : List ℕ) (place : ℕ) → StopsAt was_given refuses now bytes place → StopsAtEntry bytes place
stops_at now bytes place (inl breaks) = inl (record {
  bad = breaks.bad;
  entries = breaks.entries;
  rest = breaks.rest;
  begins = breaks.begins;
  behind = breaks.behind;
  kept = breaks.given.kept;
  are = breaks.given.are;
})
stops_at now bytes place (inr refused) = inr (record {
  entries = refused.entries;
  entry = refused.entry;
  rest = refused.rest;
  begins = refused.begins;
  behind = refused.behind;
  kept = refused.taken.kept;
  are = refused.taken.are;
  refused = refused.refused;
})

pub stops_entry : (now : Recovery) (content : Option (List ℕ)) (place : ℕ) → IfSome content (λ bytes. StopsAt was_given refuses now bytes place) → IfSome content (λ bytes. StopsAtEntry bytes place)
stops_entry now content place stops = IfSome_then content stops (λ bytes here. stops_at now bytes place here)

-- ---- what is opened

some_told : {P : List ℕ → Type 0} (content : Option (List ℕ)) (R : Type 0) → IsSome content → IfSome content P → ((bytes : List ℕ) → P bytes → R) → R
some_told None R some told then = absurd (true_is_not_false (sym some))
some_told (Some bytes) R some told then = then bytes told

-- the same tables over an equal journal and disk
pub stands_over : {X : Type 0} (told : X → DiskTold) {basis : Basis} {limits : Limits} {ledger : LedgerState} {rows : Rows} {journal journal' : JournalState} {x y : X} {state : State} → journal' ≡ journal → y ≡ x
    → Stands basis limits ledger rows None journal (told x) state → Stands basis limits ledger rows None journal' (told y) state
stands_over told {basis = basis} {limits = limits} {ledger = ledger} {rows = rows} {journal' = journal'} {x = x} {state = state} same_journal same stands =
    subst (λ z. Stands basis limits ledger rows None journal' (told z) state) (sym same) (subst (λ (j : JournalState). Stands basis limits ledger rows None j (told x) state) (sym same_journal) stands)

-- what opens a book, of a book over what was read
pub opens_over : {X : Type 0} (told : X → DiskTold) {before : DiskTold} {basis : Basis} {x y : X} {IsRead IsNow : State → Type 0} → y ≡ x → ((state : State) → IsRead state → IsNow state)
    → OpensBook basis before (told x) IsRead → OpensBook basis before (told y) IsNow
opens_over told {before = before} {basis = basis} {IsNow = IsNow} same stands opens = subst (λ z. OpensBook basis before (told z) IsNow) (sym same) (record {
  entries = opens.entries;
  log = opens.log;
  found = opens.found;
  opens = opens.opens;
  now = stands (settled opens.log) opens.now;
  stands = opens.stands;
})

module _ (own : Option (List ℕ)) (ledger : LedgerState) (rows : Rows) (limits : Limits) (row_of : Crash → List Cell) (digest : Option (List ℕ)) (before after : DiskTold) (journal : JournalState)
    (limit : ℕ) (limit_is : limit ≡ limits.journal_bytes) (small : limit < 2 ^ 64) (opens : Opens (λ start entries. Recovers own ledger rows start entries) limit before after journal) (same_own : own ≡ digest)
    (basis : Basis) (is : IsBasisOf row_of digest limits before.content basis) where
  abbrev log : List Change
  log = log_of (map (as_told basis.is_told) opens.given.kept)

  means : IsTrue basis.is_told → Means after journal opens.entries []
  means is_told = some_told before.content (Means after journal opens.entries []) (is.tells is_told) opens.means (λ bytes here. here)

  begins : IsTrue basis.is_told → opens.start ≡ first_gate
  begins is_told =
      let gate : journal.gate ≡ place_behind opens.entries = gate_behind after journal opens.entries [] (means is_told) in
      let stands : journal.gate ≡ place_from opens.start opens.entries = ap (λ (j : JournalState). j.gate) opens.journal_is in
      omega (arith, gate, stands)

  stands : Stands basis limits ledger rows None journal after (settled log)
  stands = record {
    legal = settled-legal basis log (opens.given.legal basis);
    holds = opens.given.holds basis (is.digest_is ∙ sym same_own) begins;
    doubt = tt;
    bounds = record {
      crashes = is.crashes_are;
      bytes = is.bytes;
      limit = ap (λ (j : JournalState). j.limit) opens.journal_is ∙ (limit_is ∙ sym is.bytes);
      short = let same = is.bytes in omega (arith, same, limit_is, small);
    };
    told = λ is_told. record {
      means = subst (λ (es : List Entry). Means after journal es []) (sym (entries_told basis opens.entries opens.given.kept (opens.given.are basis) basis.is_told is_told)) (means is_told);
      fits = tt;
    };
  }

  pub opens_book : OpensBook basis before after (Stands basis limits ledger rows None journal after)
  opens_book = record {
    entries = opens.entries;
    log = log;
    found = opens.found;
    opens = record { kept = opens.given.kept; are = opens.given.are basis; only = opens.given.only basis; log_is = refl };
    now = stands;
    stands = opens.stands;
  }
