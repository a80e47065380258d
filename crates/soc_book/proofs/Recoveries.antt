-- What is taken of one more entry, and that what isn't taken may not follow.
use Rattle.std.proofs.Common.{◌≡◌, ℕ, zero, suc, ◌+◌, ◌<◌, ◌≤◌, ◌^◌, Bool, true, false, not, ◌&&◌, IsTrue, List, [], ◌∷◌, ◌++◌, length, map, Option, Some, None, IfSome, IsSome, MatchOption, inl, inr, ◌↔◌, sym, ap, subst, ◌∙◌, refl, arith, IsSomeAnd}
use Rattle.soc_book.proofs.Words.{is_some, is_err, slice_get, if◌then◌else◌, option_and_then, option_map_or, append-nil, length-map, map-append, none_is_not_some, some-injective, IsId, Crash, IsCrash, record_of, same_crash, Cell, TellsCrash, product_of, bare_row, Entry, accept_kind, ask_kind, withdraw_kind, report_kind, first_gate, head_size, place_behind, Filed, is_due, is_held, was_accepted, IsLegalNext, LedgerState, id_of, with_event, true_is_not_false, not_true, with_row, place_from, Basis, accepting, Accepted, Change, Kept, KeptReport, accept, ask, withdraw, report, keep, accepted_of, event_of, events, is_own, raw_of, IsSound, IsLegal, AreChanges, RefusesEntry, as_told, log_of, told, body_of, kind_of, entry_of, entries_of, AreTold, accepted_apart, Pending, NewCrash, Tells, IsReport, product_at, IsRowOf, NoCrashOf, NoReportOf, Recovers, Rows, Takes, TakesCrash, TakesId, TakesNot, TakesReport, is_among_own, kept_pair, told_pair, NoHeldOf, Holds, IsPending, Fits, Pushes}
use Rattle.std.specs.Prelude.{Result, Ok, Err, OnOk}
use Rattle.soc_base.specs.declared.no_memory.NoMemory.{NoMemory}
use Rattle.soc_ledger.specs.declared.event.Event.TheVariants as E
use Rattle.soc_book.specs.declared.book.Change.TheVariants as P
use Rattle.soc_book.proofs.Changes.{IsSoundCrash, accepted-more, sound_crashes, IsLast}
use Rattle.soc_book.proofs.Filing.{all_got, found_at, got, id_of-got, row_tells_crash, crash_tells_row}
use Rattle.soc_book.proofs.Kept.{accepted_alike, changes_more, events_told, held_alike, held_id, last_of, log-more, told-more, told_legal_more, heads, tails, entries_told}
use Rattle.soc_book.proofs.Pushing.{IsPlaced, pushed}
use Rattle.soc_book.proofs.Reporting.{holds_report}

-- ---- a change by the kind of its entry

accepts_by : (change : Kept) → kind_of change ≡ accept_kind → (crash : Accepted) × (change ≡ accept crash)
accepts_by (accept crash) is = (crash, refl)
accepts_by _ is = absurd (omega (arith, is))

asks_by : (change : Kept) → kind_of change ≡ ask_kind → change ≡ ask (body_of change)
asks_by (ask id) is = refl
asks_by _ is = absurd (omega (arith, is))

withdraws_by : (change : Kept) → kind_of change ≡ withdraw_kind → change ≡ withdraw (body_of change)
withdraws_by (withdraw id) is = refl
withdraws_by _ is = absurd (omega (arith, is))

reports_by : (change : Kept) → kind_of change ≡ report_kind → (made : KeptReport) × (change ≡ report made)
reports_by (report made) is = (made, refl)
reports_by _ is = absurd (omega (arith, is))

-- ---- what the tables tell

-- a basis of these lists and symbols, over a disk that tells nothing
abbrev base : Option (List ℕ) → Basis
base own = record { row_of = bare_row; digest = own; journal_bytes = 0; crashes = 0; is_told = false }

-- of lists that give the same, what stands at a place gives the same
paired : {A B C : Type 0} (f : A → C) (g : B → C) (xs : List A) (ys : List B) (number : ℕ) (x : A) → map f xs ≡ map g ys → slice_get xs number ≡ Some x → (y : B) × (slice_get ys number ≡ Some y) × (f x ≡ g y)
paired f g [] ys number x same at = absurd (none_is_not_some at)
paired f g (a ∷ xs) [] number x same at = cc
paired f g (a ∷ xs) (b ∷ ys) zero x same at = (b, refl, ap f (sym (some-injective at)) ∙ heads same)
paired f g (a ∷ xs) (b ∷ ys) (suc number) x same at = paired f g xs ys number x (tails same) at

some_told : (P : Crash → Type 0) (raw : Option Crash) → IsSome raw → IfSome raw P → IsSomeAnd raw P
some_told P None some tells = absurd (true_is_not_false (sym some))
some_told P (Some raw) some tells = tells

-- the accepted crash of a number
pub record IsCrashAt (ledger : LedgerState) (kept : List Kept) (number : ℕ) : Type 0 where
  pub crash : Accepted
  pub at : slice_get (accepted_of (log_of kept)) number ≡ Some crash
  pub id : id_of ledger number ≡ crash.id
  pub product : product_at ledger number ≡ option_and_then product_of crash.raw

crash_of_pair : (ledger : LedgerState) (kept : List Kept) (number : ℕ) (f : Filed) (crash : Accepted) → slice_get ledger.crashes number ≡ Some f → slice_get (accepted_of (log_of kept)) number ≡ Some crash
    → kept_pair f ≡ told_pair crash → IsCrashAt ledger kept number
crash_of_pair ledger kept number f crash is at same = record {
  crash = crash;
  at = at;
  id = id_of-got ledger number f is ∙ ap (λ (p : List ℕ × Option (List ℕ)). p.0) same;
  product = ap (λ (o : Option Filed). option_and_then (λ (x : Filed). x.product) o) is ∙ ap (λ (p : List ℕ × Option (List ℕ)). p.1) same;
}

module _ (own : Option (List ℕ)) (ledger : LedgerState) (rows : Rows) (start : ℕ) (entries : List Entry) (r : Recovers own ledger rows start entries) where
  abbrev log : List Change
  log = log_of r.kept

  untold : Holds (base own) (log_of (map (as_told false) r.kept)) ledger rows
  untold = r.holds (base own) refl (λ is_told. absurd (true_is_not_false (sym is_told)))

  log_is : ledger.log ≡ events (base own) log
  log_is = untold.events_are ∙ events_told (base own) false r.kept

  pub held_is : (basis : Basis) (id : List ℕ) → is_held ledger.log id ≡ is_held (events basis log) id
  held_is basis id = ap (λ l. is_held l id) log_is ∙ held_alike (base own) basis log id

  pub accepted_is : (basis : Basis) (id : List ℕ) → was_accepted ledger.log id ≡ was_accepted (events basis log) id
  accepted_is basis id = ap (λ l. was_accepted l id) log_is ∙ accepted_alike (base own) basis log id

  pub count_is : length ledger.crashes ≡ length (accepted_of log)
  count_is = sym (length-map ledger.crashes kept_pair) ∙ (ap (λ (ps : List (List ℕ × Option (List ℕ))). length ps) r.crashes_are ∙ length-map (accepted_of log) told_pair)

  pub crash_at : (number : ℕ) → number < length ledger.crashes → IsCrashAt ledger r.kept number
  crash_at number within =
      let f = got ledger.crashes number within in
      let pair = paired kept_pair told_pair ledger.crashes (accepted_of log) number f.0 r.crashes_are f.1 in
      crash_of_pair ledger r.kept number f.0 pair.0 f.1 pair.1 pair.2

  module _ (basis : Basis) (are : AreChanges basis entries r.kept) (number : ℕ) (within : number < length ledger.crashes) where
    raw_at : raw_of log (id_of ledger number) ≡ (crash_at number within).crash.raw
    raw_at =
        let c = crash_at number within in
        let found = found_at (accepted_of log) number c.crash (accepted_apart (told basis) log are.legal.events_legal) c.at in
        ap (λ id. raw_of log id) c.id ∙ ap (λ (o : Option Accepted). option_and_then (λ (x : Accepted). x.raw) o) found

    sound_at : IsSoundCrash (crash_at number within).crash
    sound_at = all_got IsSoundCrash (accepted_of log) number (crash_at number within).crash (sound_crashes log are.legal.sound) (crash_at number within).at

    product_here : IfSome (crash_at number within).crash.raw (λ x. product_at ledger number ≡ product_of x)
    product_here = of_raw (crash_at number within).crash.raw (crash_at number within).product where
      of_raw : (raw : Option Crash) → product_at ledger number ≡ option_and_then product_of raw → IfSome raw (λ x. product_at ledger number ≡ product_of x)
      of_raw None is = tt
      of_raw (Some raw) is = is

    -- a row that tells of the number's crash tells of its raw crash
    pub row_tells : (id : List ℕ) (row : List Cell) → id_of ledger number ≡ id → IsRowOf ledger number id row → IfSome (raw_of log id) (λ raw. TellsCrash raw row)
    row_tells id row id_is of =
        let c = crash_at number within in
        subst (λ (o : Option Crash). IfSome o (λ raw. TellsCrash raw row)) (sym raw_at ∙ ap (λ x. raw_of log x) id_is) (row_tells_crash (product_at ledger number) id c.crash.raw c.crash.id (sym id_is ∙ c.id) sound_at.1 product_here row of)

    -- and the other way round
    pub row_told : (id : List ℕ) (row : List Cell) → id_of ledger number ≡ id → IfSome (raw_of log id) (λ raw. TellsCrash raw row) → IsRowOf ledger number id row
    row_told id row id_is tells =
        let c = crash_at number within in
        let some : IsSome c.crash.raw = all_got (λ (x : Accepted). IsSome x.raw) (accepted_of log) number c.crash (are.legal.told refl) c.at in
        let here = subst (λ (o : Option Crash). IfSome o (λ raw. TellsCrash raw row)) (ap (λ x. raw_of log x) (sym id_is) ∙ raw_at) tells in
        crash_tells_row (product_at ledger number) id c.crash.raw c.crash.id (sym id_is ∙ c.id) sound_at.1 product_here row (some_told (λ raw. TellsCrash raw row) c.crash.raw some here)

  -- ---- one more entry

  module _ (entry : Entry) (place : ℕ) (at : place ≡ place_from start entries) (ends : place + head_size + length entry.body < 2 ^ 64) where
    placed_by : (basis : Basis) (change : Kept) → IsTrue basis.is_told → start ≡ first_gate → entry_of change ≡ entry → IsPlaced basis (log_of (map (as_told basis.is_told) r.kept)) (as_told basis.is_told change) place
    placed_by basis change is_told begins same =
        let body : length (body_of (as_told basis.is_told change)) ≡ length entry.body = ap (λ b. length (body_of (as_told b change))) is_told ∙ ap (λ (e : Entry). length e.body) same in
        record {
          place_is = at ∙ (ap (λ n. place_from n entries) begins ∙ ap (λ (es : List Entry). place_behind es) (sym (entries_told basis entries r.kept (r.are basis) basis.is_told is_told)));
          ends = omega (arith, ends, body);
        }

    -- the tables once a change that may follow is pushed
    holds_by : (change : Kept) (waits : Pending) (ledger' : LedgerState) (rows' : Rows) → entry_of change ≡ entry → Fits ledger waits → ((basis : Basis) (changes : List Change) → IsPending basis changes ledger waits (as_told basis.is_told change)) → Pushes ledger rows waits place ledger' rows'
        → (basis : Basis) → basis.digest ≡ own → (IsTrue basis.is_told → start ≡ first_gate) → Holds basis (log_of (map (as_told basis.is_told) r.kept) ++ keep (as_told basis.is_told change) ∷ []) ledger' rows'
    holds_by change waits ledger' rows' same fits pending pushes basis digest begins =
        let changes = log_of (map (as_told basis.is_told) r.kept) in
        pushed basis changes ledger rows (r.legal basis) (r.holds basis digest begins) waits (as_told basis.is_told change) place ledger' rows' fits (pending basis changes) (λ is_told. placed_by basis change is_told (begins is_told) same) pushes

    -- what one more change needs
    pub record MayFollow (change : Kept) (ledger' : LedgerState) (rows' : Rows) : Type 0 where
      pub entry_is : entry_of change ≡ entry
      pub next : (basis : Basis) → IsLegalNext (events basis log) (event_of basis (keep change))
      pub sound : IsSound log (keep change)
      pub crashes : AreTold (accepted_of (keep change ∷ []))
      pub few : length (accepted_of log) + length (accepted_of (keep change ∷ [])) ≤ 4294967295
      pub same : (basis : Basis) (last : Kept) → entry_of last ≡ entry → IsLast (told basis) log (keep last) → last ≡ change
      pub pairs : map kept_pair ledger'.crashes ≡ map told_pair (accepted_of log ++ accepted_of (keep change ∷ []))
      pub holds : (basis : Basis) → basis.digest ≡ own → (IsTrue basis.is_told → start ≡ first_gate)
          → Holds basis (log_of (map (as_told basis.is_told) r.kept) ++ keep (as_told basis.is_told change) ∷ []) ledger' rows'

    pub more : (change : Kept) (ledger' : LedgerState) (rows' : Rows) → MayFollow change ledger' rows' → Recovers own ledger' rows' start (entries ++ entry ∷ [])
    more change ledger' rows' m = record {
      kept = r.kept ++ change ∷ [];
      are = λ basis. subst (λ (e : Entry). AreChanges basis (entries ++ e ∷ []) (r.kept ++ change ∷ [])) m.entry_is (changes_more basis entries r.kept change (r.are basis) (m.next basis) m.sound m.crashes m.few);
      only = λ basis others are.
          let l = last_of basis entries entry others are in
          let front : l.front ≡ r.kept = r.only basis l.front l.are in
          let last : l.last ≡ change = m.same basis l.last l.entry_is (subst (λ (k : List Kept). IsLast (told basis) (log_of k) (keep l.last)) front l.is) in
          l.whole ∙ (ap (λ (k : List Kept). k ++ l.last ∷ []) front ∙ ap (λ (c : Kept). r.kept ++ c ∷ []) last);
      crashes_are = m.pairs ∙ ap (λ (cs : List Accepted). map told_pair cs) (sym (ap accepted_of (log-more r.kept change) ∙ accepted-more log (keep change)));
      legal = λ basis. told_legal_more basis r.kept change (r.legal basis) (m.next basis) m.sound m.crashes;
      holds = λ basis digest begins. subst (λ (l : List Change). Holds basis l ledger' rows') (sym (told-more basis.is_told r.kept change)) (m.holds basis digest begins);
    }

    -- ---- a crash

    entry_as : (kind : ℕ) (body : List ℕ) → entry.kind ≡ kind → entry.body ≡ body → record { kind = kind; body = body } ≡ entry
    entry_as kind body kind_is body_is =
        let with_kind : ℕ → Entry = λ k. record { kind = k; body = body } in
        let with_body : List ℕ → Entry = λ b. record { kind = entry.kind; body = b } in
        ap with_kind (sym kind_is) ∙ ap with_body (sym body_is)

    kind_is_of : (last : Kept) (kind : ℕ) → entry_of last ≡ entry → entry.kind ≡ kind → kind_of last ≡ kind
    kind_is_of last kind same kind_is = ap (λ (e : Entry). e.kind) same ∙ kind_is

    body_is_of : (last : Kept) → entry_of last ≡ entry → body_of last ≡ entry.body
    body_is_of last same = ap (λ (e : Entry). e.body) same

    same_crash_by : (raw : Crash) (id : List ℕ) (told_raw : Option Crash) → IsCrash raw → IfSome told_raw (λ x. (x.id ≡ id) × IsCrash x) → IsSome told_raw → option_map_or record_of told_raw [] ≡ record_of raw
        → accept record { id = id; raw = told_raw } ≡ accepting raw
    same_crash_by raw id None is sound some body = absurd (true_is_not_false (sym some))
    same_crash_by raw id (Some other) is sound some body =
        let same : other ≡ raw = same_crash other raw sound.1 is body in
        let with_id : List ℕ → Kept = λ x. accept record { id = x; raw = Some other } in
        let with_raw : Crash → Kept = λ x. accept record { id = raw.id; raw = Some x } in
        ap with_id (sym sound.0 ∙ ap (λ (x : Crash). x.id) same) ∙ ap with_raw same

    same_accept : (raw : Crash) → IsCrash raw → entry.kind ≡ accept_kind → record_of raw ≡ entry.body → (basis : Basis) (last : Kept) → entry_of last ≡ entry → IsLast (told basis) log (keep last) → last ≡ accepting raw
    same_accept raw is kind_is body basis last same known =
        let c = accepts_by last (kind_is_of last accept_kind same kind_is) in
        let here = subst (λ (k : Kept). IsLast (told basis) log (keep k)) c.1 known in
        c.1 ∙ same_crash_by raw c.0.id c.0.raw is here.sound.1 (here.told refl).0 (ap body_of (sym c.1) ∙ (body_is_of last same ∙ sym body))

    accept_pending : (basis : Basis) (changes : List Change) (new : NewCrash) (raw : Crash) → Tells new raw → (b : Bool) → basis.is_told ≡ b → IsPending basis changes ledger (P.Accept new) (as_told b (accepting raw))
    accept_pending basis changes new raw tells true is = (tells.id, (tells, is), λ is_told. refl)
    accept_pending basis changes new raw tells false is = (tells.id, tt, λ is_told. absurd (true_is_not_false (sym is_told ∙ is)))

    pair_is : (filed : Filed) (crash : Accepted) → filed.id ≡ crash.id → filed.product ≡ option_and_then product_of crash.raw → kept_pair filed ≡ told_pair crash
    pair_is filed crash same_id same_product =
        let with_id : List ℕ → List ℕ × Option (List ℕ) = λ x. (x, filed.product) in
        let with_product : Option (List ℕ) → List ℕ × Option (List ℕ) = λ x. (crash.id, x) in
        ap with_id same_id ∙ ap with_product same_product

    module _ (ledger' : LedgerState) (rows' : Rows) where
      pub follows_crash : (t : TakesCrash ledger rows place entry.body ledger' rows') → entry.kind ≡ accept_kind → MayFollow (accepting t.raw) ledger' rows'
      follows_crash t kind_is =
          let new_id : was_accepted ledger.log t.raw.id ≡ false = ap (λ id. was_accepted ledger.log id) (sym t.tells.id) ∙ t.fits.1 in
          let filed = t.pushes.0 in
          let filed_pair : kept_pair filed ≡ told_pair record { id = t.raw.id; raw = Some t.raw } =
          pair_is filed (record { id = t.raw.id; raw = Some t.raw }) (t.pushes.1.id ∙ t.tells.id) (t.pushes.1.product ∙ t.tells.product) in
          let few_now : length ledger.crashes < 4294967295 = t.fits.2 in
          record {
            entry_is = entry_as accept_kind (record_of t.raw) kind_is (sym t.whole);
            next = λ basis. ap not (sym (accepted_is basis t.raw.id) ∙ new_id);
            sound = (t.is.id, (refl, t.is));
            crashes = (refl, tt);
            few = omega (arith, few_now, count_is);
            same = same_accept t.raw t.is kind_is t.whole;
            pairs = ap (λ (l : LedgerState). map kept_pair l.crashes) t.pushes.2
                ∙ (map-append kept_pair ledger.crashes (filed ∷ [])
                ∙ (ap (λ (ps : List (List ℕ × Option (List ℕ))). ps ++ kept_pair filed ∷ []) r.crashes_are
                ∙ (ap (λ (p : List ℕ × Option (List ℕ)). map told_pair (accepted_of log) ++ p ∷ []) filed_pair
                ∙ sym (map-append told_pair (accepted_of log) (record { id = t.raw.id; raw = Some t.raw } ∷ [])))));
            holds = holds_by (accepting t.raw) (P.Accept t.new) ledger' rows' (entry_as accept_kind (record_of t.raw) kind_is (sym t.whole)) t.fits (λ basis changes. accept_pending basis changes t.new t.raw t.tells basis.is_told refl) t.pushes;
          }

      -- ---- an id

      held_body : (basis : Basis) (number : ℕ) → id_of ledger number ≡ entry.body → IsTrue (is_held ledger.log (id_of ledger number)) → IsTrue (is_held (events basis log) entry.body)
      held_body basis number id_is held = subst (λ id. IsTrue (is_held (events basis log) id)) id_is (sym (held_is basis (id_of ledger number)) ∙ held)

      same_pairs : ledger'.crashes ≡ ledger.crashes → map kept_pair ledger'.crashes ≡ map told_pair (accepted_of log ++ [])
      same_pairs same = ap (λ (fs : List Filed). map kept_pair fs) same ∙ (r.crashes_are ∙ ap (λ (cs : List Accepted). map told_pair cs) (sym (append-nil (accepted_of log))))

      few_same : length (accepted_of log) + 0 ≤ 4294967295
      few_same = let few : length (accepted_of log) ≤ 4294967295 = (r.are (base own)).few in omega (arith, few)

      ask_pending : (basis : Basis) (changes : List Change) (number : ℕ) → id_of ledger number ≡ entry.body → (b : Bool) → IsPending basis changes ledger (P.Ask number) (as_told b (ask entry.body))
      ask_pending basis changes number id_is true = id_is
      ask_pending basis changes number id_is false = id_is

      pub follows_ask : TakesId P.Ask ledger rows entry.body ledger' rows' → entry.kind ≡ ask_kind → MayFollow (ask entry.body) ledger' rows'
      follows_ask t kind_is = record {
        entry_is = entry_as ask_kind entry.body kind_is refl;
        next = λ basis. held_body basis t.number t.id_is t.fits.2;
        sound = tt;
        crashes = tt;
        few = few_same;
        same = λ basis last same is. asks_by last (kind_is_of last ask_kind same kind_is) ∙ ap ask (body_is_of last same);
        pairs = same_pairs (ap (λ (l : LedgerState). l.crashes) (t.pushes place).0);
        holds = holds_by (ask entry.body) (P.Ask t.number) ledger' rows' (entry_as ask_kind entry.body kind_is refl) t.fits (λ basis changes. ask_pending basis changes t.number t.id_is basis.is_told) (t.pushes place);
      }

      withdraw_pending : (basis : Basis) (changes : List Change) (number : ℕ) → id_of ledger number ≡ entry.body → (b : Bool) → IsPending basis changes ledger (P.Withdraw number) (as_told b (withdraw entry.body))
      withdraw_pending basis changes number id_is true = id_is
      withdraw_pending basis changes number id_is false = id_is

      pub follows_withdraw : TakesId P.Withdraw ledger rows entry.body ledger' rows' → entry.kind ≡ withdraw_kind → MayFollow (withdraw entry.body) ledger' rows'
      follows_withdraw t kind_is = record {
        entry_is = entry_as withdraw_kind entry.body kind_is refl;
        next = λ basis. held_body basis t.number t.id_is t.fits.2;
        sound = tt;
        crashes = tt;
        few = few_same;
        same = λ basis last same is. withdraws_by last (kind_is_of last withdraw_kind same kind_is) ∙ ap withdraw (body_is_of last same);
        pairs = same_pairs (ap (λ (l : LedgerState). l.crashes) (t.pushes place).0);
        holds = holds_by (withdraw entry.body) (P.Withdraw t.number) ledger' rows' (entry_as withdraw_kind entry.body kind_is refl) t.fits (λ basis changes. withdraw_pending basis changes t.number t.id_is basis.is_told) (t.pushes place);
      }

      -- ---- a report

      -- what is sound of a report is what its body says
      report_of_sound : (basis : Basis) (made : KeptReport) → IsLast (told basis) log (keep (report made)) → body_of (report made) ≡ entry.body → IsReport made entry.body
      report_of_sound basis made is body = record {
        is_id = held_id (told basis) log made.id is.legal is.next;
        long = is.sound.0;
        has_text = is.sound.3;
        whole = sym body;
      }

      same_report : entry.kind ≡ report_kind → (made : KeptReport) → ((other : KeptReport) → IsReport other entry.body → other ≡ made) → (basis : Basis) (last : Kept) → entry_of last ≡ entry → IsLast (told basis) log (keep last) → last ≡ report made
      same_report kind_is made only basis last same is =
          let c = reports_by last (kind_is_of last report_kind same kind_is) in
          let here = subst (λ (k : Kept). IsLast (told basis) log (keep k)) c.1 is in
          c.1 ∙ ap report (only c.0 (report_of_sound basis c.0 here (ap body_of (sym c.1) ∙ body_is_of last same)))

      report_told : (b : Bool) (made : KeptReport) → as_told b (report made) ≡ report made
      report_told true made = refl
      report_told false made = refl

      pub follows_report : (t : TakesReport own ledger rows entry.body ledger' rows') → entry.kind ≡ report_kind → MayFollow (report t.made) ledger' rows'
      follows_report t kind_is =
          let held : (basis : Basis) → is_held (events basis log) t.made.id ≡ true = λ basis. subst (λ id. IsTrue (is_held (events basis log) id)) t.id_is (sym (held_is basis (id_of ledger t.number)) ∙ t.fits.2) in
          record {
            entry_is = entry_as report_kind (body_of (report t.made)) kind_is t.is.whole;
            next = held;
            sound = (t.is.long, t.tells.id, row_tells (base own) (r.are (base own)) t.number t.fits.1 t.made.id t.made.row t.id_is t.tells, t.is.has_text);
            crashes = tt;
            few = few_same;
            same = same_report kind_is t.made t.only;
            pairs = same_pairs (ap (λ (l : LedgerState). l.crashes) t.pushed);
            holds = λ basis digest begins.
                let changes = log_of (map (as_told basis.is_told) r.kept) in
                let now = r.holds basis digest begins in
                let held_now : is_held (events basis changes) t.made.id ≡ true = ap (λ l. is_held l t.made.id) (events_told basis basis.is_told r.kept) ∙ held basis in
                let own_is : is_own basis t.made.digest ≡ is_among_own own t.made.digest = ap (λ (o : Option (List ℕ)). is_among_own o t.made.digest) digest in
                let due_is : is_due ledger.log t.made.id ≡ is_due (events basis changes) t.made.id = ap (λ l. is_due l t.made.id) now.events_are in
                let put = t.put ∙ ap (λ d. if is_among_own own t.made.digest && d then with_row (t.number, t.made.row) rows else rows) due_is in
                let there = holds_report basis changes ledger rows (r.legal basis) now t.number t.fits.1 t.made t.id_is (is_among_own own t.made.digest) own_is held_now in
                subst (λ (c : Kept). Holds basis (changes ++ keep c ∷ []) ledger' rows') (sym (report_told basis.is_told t.made))
                (subst (λ (l : LedgerState). Holds basis (changes ++ keep (report t.made) ∷ []) l rows') (sym t.pushed)
                (subst (λ (x : Rows). Holds basis (changes ++ keep (report t.made) ∷ []) (with_event ledger (E.Reported (id_of ledger t.number) (is_among_own own t.made.digest))) x) (sym put) there));
          }

      pub taken : Takes own ledger rows place entry ledger' rows' → Recovers own ledger' rows' start (entries ++ entry ∷ [])
      taken (inl (kind_is, t)) = more (accepting t.raw) ledger' rows' (follows_crash t kind_is)
      taken (inr (inl (kind_is, t))) = more (ask entry.body) ledger' rows' (follows_ask t kind_is)
      taken (inr (inr (inl (kind_is, t)))) = more (withdraw entry.body) ledger' rows' (follows_withdraw t kind_is)
      taken (inr (inr (inr (kind_is, t)))) = more (report t.made) ledger' rows' (follows_report t kind_is)

  -- ---- an entry that isn't taken

  no_accept : (entry : Entry) (basis : Basis) (crash : Accepted) (told_raw : Option Crash) → crash.raw ≡ told_raw → IsLast (told basis) log (keep (accept crash)) → IfSome told_raw (λ x. (x.id ≡ crash.id) × IsCrash x) → IsSome told_raw
      → option_map_or record_of told_raw [] ≡ entry.body → length (accepted_of log) + 1 ≤ 4294967295 → NoCrashOf ledger entry.body → ⊥
  no_accept entry basis crash None here is sound some body few none = true_is_not_false (sym some)
  no_accept entry basis crash (Some raw) here is sound some body few none =
      let new_id : was_accepted ledger.log raw.id ≡ false = ap (λ id. was_accepted ledger.log id) sound.0 ∙ (accepted_is (told basis) crash.id ∙ not_true _ is.next) in
      none raw sound.1 body new_id (omega (arith, few, count_is))

  no_report : (entry : Entry) (basis : Basis) (made : KeptReport) → AreChanges basis entries r.kept → IsLast (told basis) log (keep (report made)) → body_of (report made) ≡ entry.body → NoReportOf ledger entry.body → ⊥
  no_report entry basis made are is body none =
      none made (record { is_id = held_id (told basis) log made.id is.legal is.next; long = is.sound.0; has_text = is.sound.3; whole = sym body }) (held_is (told basis) made.id ∙ is.next)
      (λ number within id_is. row_told basis are number within made.id made.row id_is is.sound.2)

  no_held : (entry : Entry) (basis : Basis) (id : List ℕ) → IsLegal (told basis) log → IsTrue (is_held (events (told basis) log) id) → id ≡ entry.body → NoHeldOf ledger entry.body → ⊥
  no_held entry basis id legal held body none =
      none (subst IsId body (held_id (told basis) log id legal held)) (subst (λ x. IsTrue (is_held ledger.log x)) body (held_is (told basis) id ∙ held))

  nothing_follows : (entry : Entry) (basis : Basis) (last : Kept) → AreChanges basis entries r.kept → TakesNot ledger entry → entry_of last ≡ entry → IsLast (told basis) log (keep last) → length (accepted_of log) + length (accepted_of (keep last ∷ [])) ≤ 4294967295 → ⊥
  nothing_follows entry basis (accept crash) are none same is few =
      no_accept entry basis crash crash.raw refl is is.sound.1 (is.told refl).0 (ap (λ (e : Entry). e.body) same) few (none.accept (sym (ap (λ (e : Entry). e.kind) same)))
  nothing_follows entry basis (ask id) are none same is few = no_held entry basis id is.legal is.next (ap (λ (e : Entry). e.body) same) (none.ask (sym (ap (λ (e : Entry). e.kind) same)))
  nothing_follows entry basis (withdraw id) are none same is few = no_held entry basis id is.legal is.next (ap (λ (e : Entry). e.body) same) (none.withdraw (sym (ap (λ (e : Entry). e.kind) same)))
  nothing_follows entry basis (report made) are none same is few =
      no_report entry basis made are is (ap (λ (e : Entry). e.body) same) (none.report (sym (ap (λ (e : Entry). e.kind) same)))

  pub refused : (entry : Entry) → TakesNot ledger entry → (basis : Basis) → RefusesEntry basis entries entry
  refused entry none basis kept change are all =
      let l = last_of basis entries entry (kept ++ change ∷ []) all in
      let front : l.front ≡ r.kept = r.only basis l.front l.are in
      nothing_follows entry basis l.last (r.are basis) none l.entry_is (subst (λ (k : List Kept). IsLast (told basis) (log_of k) (keep l.last)) front l.is)
      (subst (λ (k : List Kept). length (accepted_of (log_of k)) + length (accepted_of (keep l.last ∷ [])) ≤ 4294967295) front l.few)

-- ---- the beginning, and room

pub nothing_yet : (own : Option (List ℕ)) (ledger : LedgerState) (rows : Rows) (start : ℕ) → ledger ≡ record { log = []; crashes = []; room = 0 } → rows ≡ [] → Recovers own ledger rows start []
nothing_yet own ledger rows start empty none =
    subst (λ (l : LedgerState). Recovers own l rows start []) (sym empty)
    (subst (λ (x : Rows). Recovers own (record { log = []; crashes = []; room = 0 }) x start []) (sym none) nothing)
  where
    no_kept : (others : List Kept) → [] ≡ entries_of others → others ≡ []
    no_kept [] same = refl
    no_kept (change ∷ others) same = cc

    nothing : Recovers own (record { log = []; crashes = []; room = 0 }) [] start []
    nothing = record {
      kept = [];
      are = λ basis. record { entries_are = refl; legal = record { events_legal = tt; sound = tt; told = λ is_told. tt }; few = omega arith };
      only = λ basis others are. no_kept others are.entries_are;
      crashes_are = refl;
      legal = λ basis. record { events_legal = tt; sound = tt; told = λ is_told. tt };
      holds = λ basis digest begins. record {
        events_are = refl;
        filed = tt;
        rows_are = record { rise = tt; each = λ number within. absurd (omega (arith, within)); no_other = tt };
      };
    }

-- the room of a ledger counts for nothing
pub with_room : (own : Option (List ℕ)) (ledger : LedgerState) (room : ℕ) (rows : Rows) (start : ℕ) (entries : List Entry) → Recovers own ledger rows start entries → Recovers own (record ledger { room = room }) rows start entries
with_room own ledger room rows start entries r = record {
  kept = r.kept;
  are = r.are;
  only = r.only;
  crashes_are = r.crashes_are;
  legal = r.legal;
  holds = λ basis digest begins.
      let now = r.holds basis digest begins in
      record { events_are = now.events_are; filed = now.filed; rows_are = record { rise = now.rows_are.rise; each = now.rows_are.each; no_other = now.rows_are.no_other } };
}

-- ---- a crash that isn't new

pub taken_before : (ledger : LedgerState) (raw : Crash) (body : List ℕ) (number : Option ℕ) → IsCrash raw → record_of raw ≡ body
    → MatchOption number (was_accepted ledger.log raw.id ≡ false) (λ n. IsTrue (was_accepted ledger.log raw.id) × (n < length ledger.crashes) × (id_of ledger n ≡ raw.id)) → is_some number ≡ true → NoCrashOf ledger body
taken_before ledger raw body None is whole found some = absurd (true_is_not_false (sym some))
taken_before ledger raw body (Some n) is whole found some = λ other other_is other_whole new few.
    let same : other ≡ raw = same_crash other raw other_is is (other_whole ∙ sym whole) in
    true_is_not_false (sym found.0 ∙ (ap (λ (x : Crash). was_accepted ledger.log x.id) (sym same) ∙ new))

-- ---- a report that tells of another crash

pub tells_not : (ledger : LedgerState) (read : KeptReport) (body : List ℕ) (number : ℕ) (told_by : Bool) → number < length ledger.crashes → id_of ledger number ≡ read.id → (IsTrue told_by ↔ IsRowOf ledger number read.id read.row) → told_by ≡ false
    → ((made : KeptReport) → IsReport made body → made ≡ read) → NoReportOf ledger body
tells_not ledger read body number told_by within id_is tells none only made is held each =
    let same : made ≡ read = only made is in
    let of : IsRowOf ledger number made.id made.row = each number within (id_is ∙ ap (λ (m : KeptReport). m.id) (sym same)) in
    true_is_not_false (sym (tells.1 (subst (λ (m : KeptReport). IsRowOf ledger number m.id m.row) same of)) ∙ none)

-- ---- one entry, with room taken before

pub on_ok : {P : Type 0} (r : Result (Unit {0}) NoMemory) → is_err r ≡ false → OnOk r P → P
on_ok (Ok done) is ok = ok
on_ok (Err error) is ok = absurd (true_is_not_false is)

module _ (own : Option (List ℕ)) (ledger ledger1 : LedgerState) (rows : Rows) (start : ℕ) (entries : List Entry) (reserved : ledger1 ≡ record ledger { room = ledger1.room }) (had : Recovers own ledger rows start entries) where
  had_room : Recovers own ledger1 rows start entries
  had_room = subst (λ (l : LedgerState). Recovers own l rows start entries) (sym reserved) (with_room own ledger ledger1.room rows start entries had)

  pub step_taken : (own' : Option (List ℕ)) (ledger2 : LedgerState) (rows2 : Rows) (entry : Entry) (place : ℕ) → own' ≡ own → place ≡ place_from start entries → place + head_size + length entry.body < 2 ^ 64
      → Takes own ledger1 rows place entry ledger2 rows2 → Recovers own' ledger2 rows2 start (entries ++ entry ∷ [])
  step_taken own' ledger2 rows2 entry place same at ends takes =
      subst (λ (o : Option (List ℕ)). Recovers o ledger2 rows2 start (entries ++ entry ∷ [])) (sym same) (taken own ledger1 rows start entries had_room entry place at ends ledger2 rows2 takes)

  pub step_refused : (entry : Entry) → TakesNot ledger1 entry → (basis : Basis) → RefusesEntry basis entries entry
  step_refused entry none = refused own ledger1 rows start entries had_room entry none
