-- The first bad key of a table, and what its keys say, along its entries.
use Rattle.std.proofs.Common.{◌≡◌, ℕ, Bool, true, false, if◌then◌else◌, List, ◌∷◌, String, Global, string_bytes, refl, sym, ap, subst, ◌∙◌, Option, None, Some, Err, option_and_then, is_lt, Less, Equal, Greater, true≢false, lit≤, codes}
use Rattle.std.specs.Prelude.{unwrap_or}
use Rattle.std.specs.Ordering.{nat_cmp, match_ordering}
use Rattle.std.specs.declared.cmp.Ordering.{Ordering}
use Rattle.std.specs.Cmp.Lexicographic.{slice_cmp}
use Rattle.std.specs.Str.{bytes_eq}
use Rattle.std.proofs.lemmas.Slice.Eq.{bytes_eq-Decides}
use Rattle.std.proofs.lemmas.Bool.{and_parts}
use Rattle.std.proofs.lemmas.Cmp.{nat_list_cmp_total}
use Rattle.std.specs.List.Sorted.{IsStrictlySortedBy}
use Rattle.std.specs.Map.{keys_of}
use Rattle.std.specs.String.{string_cmp}
use Rattle.toml.specs.Data.{Data, Members, no_members, member, get_member, is_before}
use Rattle.toml.specs.View.{view, members_view}
use Rattle.toml.specs.declared.value.Value.{Value}
use Rattle.toml.proofs.Blanks.{below, below_from}
use Rattle.toml.proofs.Views.{Entry}
use Rattle.soc_toml.specs.Keys.{keys_rise}
use Rattle.soc_toml.proofs.Members.{keys_rise-view}
use Rattle.soc_schema.specs.TokenFile.{products_of}
use Rattle.soc_replay.specs.declared.settings.Draft.{Draft}
use Rattle.soc_replay.specs.declared.settings.SettingsError.TheVariants.{BadSetting}
use Rattle.soc_replay.specs.Settings.{at_or, crashes_of, first_bad, is_good, journal_bytes_of, lesser, session_bytes_of, settings_in}
use Rattle.soc_replay.specs.inner.Drafts.{IsInRanges, Takes, defaults, filled}

is_before-earlier : (ms : Members) (j k : List ℕ) → below j k → is_before k ms ≡ true → is_before j ms ≡ true
is_before-earlier no_members j k order h = refl
is_before-earlier (member l d ms) j k order h = ap is_lt (nat_list_cmp_total.trans j k l order (below_from k l h))

-- a key that stands before a table's first is less than its bad ones
pub lesser-first : (ms : Members) (key : List ℕ) → is_before key ms ≡ true → keys_rise ms ≡ true → lesser key (first_bad ms) ≡ key
lesser-first no_members key h rises = refl
lesser-first (member l d ms) key h rises =
    let (next, more) = and_parts (is_before l ms) (keys_rise ms) rises in
    let skipped = lesser-first ms key (is_before-earlier ms key l (below_from key l h) next) more in
    let found : lesser key (Some l) ≡ key = rw h refl in
    let here = ap (λ k. lesser key (Some k)) (lesser-first ms l next more) ∙ found in
    elim (is_good l d) as (λ b. lesser key (if b then first_bad ms else Some (lesser l (first_bad ms))) ≡ key) [ true ↦ skipped | false ↦ here ]

-- a bad key is the first one where all before it are good
pub first_bad-found : (all left rest : List Entry) (key : String Global) (value : Value) (text : List ℕ) (good : Bool)
    → first_bad (members_view all) ≡ first_bad (members_view left) → keys_rise (members_view left) ≡ true → left ≡ (key, value) ∷ rest
    → text ≡ string_bytes key → good ≡ is_good text (view value) → good ≡ false
    → Some (string_bytes key) ≡ first_bad (members_view all)
first_bad-found all left rest key value text good before rises step same is bad =
    let test : is_good (string_bytes key) (view value) ≡ false = rw (← same) (sym is ∙ bad) in
    let parts = and_parts (is_before (string_bytes key) (members_view rest)) (keys_rise (members_view rest)) (ap (λ es. keys_rise (members_view es)) (sym step) ∙ rises) in
    let here : first_bad (members_view ((key, value) ∷ rest)) ≡ Some (string_bytes key) = rw test (ap Some (lesser-first (members_view rest) (string_bytes key) parts.0 parts.1)) in
    sym (before ∙ ap (λ es. first_bad (members_view es)) step ∙ here)

-- what holds of the entries that are left: none before them was bad, and their keys rise
pub record Left (all left : List Entry) : Type 0 where
  pub same : first_bad (members_view all) ≡ first_bad (members_view left)
  pub rising : keys_rise (members_view left) ≡ true

-- all entries are left, and a map's keys rise
pub Left-all : (all left : List Entry) → left ≡ all → IsStrictlySortedBy string_cmp (keys_of all) → Left all left
Left-all all left same rise = rw same (record { same = refl; rising = keys_rise-view all rise })

-- a good key is passed over
pub first_bad-passed : (all left rest : List Entry) (key : String Global) (value : Value) (text : List ℕ) (good : Bool)
    → Left all left → left ≡ (key, value) ∷ rest → text ≡ string_bytes key → good ≡ is_good text (view value) → good ≡ true → Left all rest
first_bad-passed all left rest key value text good before step same is so =
    let test : is_good (string_bytes key) (view value) ≡ true = rw (← same) (sym is ∙ so) in
    let parts = and_parts (is_before (string_bytes key) (members_view rest)) (keys_rise (members_view rest)) (ap (λ es. keys_rise (members_view es)) (sym step) ∙ before.rising) in
    let here : first_bad (members_view ((key, value) ∷ rest)) ≡ first_bad (members_view rest) = rw test refl in
    record { same = before.same ∙ ap (λ es. first_bad (members_view es)) step ∙ here; rising = parts.1 }

-- ---- drafts

unequal : {A : Type 0} (o : Ordering) (a b : A) → is_lt o ≡ true → match_ordering o a b a ≡ a
unequal Less a b h = refl
unequal Equal a b h = absurd (true≢false (sym h))
unequal Greater a b h = refl

-- a key that stands before the others isn't among them
absent : (key : List ℕ) (ms : Members) → is_before key ms ≡ true → keys_rise ms ≡ true → get_member key ms ≡ None
absent key no_members h rises = refl
absent key (member l d ms) h rises =
    let (next, more) = and_parts (is_before l ms) (keys_rise ms) rises in
    unequal (slice_cmp nat_cmp key l) (get_member key ms) (Some d) h ∙ absent key ms (is_before-earlier ms key l (below_from key l h) next) more

at_or-absent : {A : Type 0} (key : List ℕ) (reading : Data → Option A) (default : A) (ms : Members) → is_before key ms ≡ true → keys_rise ms ≡ true
    → at_or key reading default ms ≡ default
at_or-absent key reading default ms h rises = ap (λ m. unwrap_or (option_and_then reading m) default) (absent key ms h rises)

-- a key that passed the test of a name
pub key_is : (key name : List ℕ) (test : Bool) → test ≡ bytes_eq key name → test ≡ true → key ≡ name
key_is key name test is so = (bytes_eq-Decides key name).0 (sym is ∙ so)

pub crashes-taken : (old : Draft) (key : List ℕ) (value : Data) (n : ℕ) → key ≡ codes "crashes" → n ≡ unwrap_or (crashes_of value) old.crashes → Takes old (record old { crashes = n }) key value
crashes-taken old key value n same is rest before rises =
    let absent_here : at_or (codes "crashes") crashes_of n rest ≡ n = at_or-absent (codes "crashes") crashes_of n rest (subst (λ (k : List ℕ). is_before k rest ≡ true) same before) rises in
    let here : filled (record old { crashes = n }) rest ≡ filled old (member (codes "crashes") value rest) =
    ap (λ (c : ℕ). let d : Draft = record (filled old rest) { crashes = c } in d) (absent_here ∙ is) in
    here ∙ ap (λ (k : List ℕ). filled old (member k value rest)) (sym same)

pub journal_bytes-taken : (old : Draft) (key : List ℕ) (value : Data) (n : ℕ) → key ≡ codes "journal_bytes" → n ≡ unwrap_or (journal_bytes_of value) old.journal_bytes
    → Takes old (record old { journal_bytes = n }) key value
journal_bytes-taken old key value n same is rest before rises =
    let absent_here : at_or (codes "journal_bytes") journal_bytes_of n rest ≡ n = at_or-absent (codes "journal_bytes") journal_bytes_of n rest (subst (λ (k : List ℕ). is_before k rest ≡ true) same before) rises in
    let here : filled (record old { journal_bytes = n }) rest ≡ filled old (member (codes "journal_bytes") value rest) =
    ap (λ (c : ℕ). let d : Draft = record (filled old rest) { journal_bytes = c } in d) (absent_here ∙ is) in
    here ∙ ap (λ (k : List ℕ). filled old (member k value rest)) (sym same)

pub session_bytes-taken : (old : Draft) (key : List ℕ) (value : Data) (n : ℕ) → key ≡ codes "session_bytes" → n ≡ unwrap_or (session_bytes_of value) old.session_bytes
    → Takes old (record old { session_bytes = n }) key value
session_bytes-taken old key value n same is rest before rises =
    let absent_here : at_or (codes "session_bytes") session_bytes_of n rest ≡ n = at_or-absent (codes "session_bytes") session_bytes_of n rest (subst (λ (k : List ℕ). is_before k rest ≡ true) same before) rises in
    let here : filled (record old { session_bytes = n }) rest ≡ filled old (member (codes "session_bytes") value rest) =
    ap (λ (c : ℕ). let d : Draft = record (filled old rest) { session_bytes = c } in d) (absent_here ∙ is) in
    here ∙ ap (λ (k : List ℕ). filled old (member k value rest)) (sym same)

pub products-taken : (old new : Draft) (key : List ℕ) (value : Data) → key ≡ codes "public_products" → new ≡ record old { public = unwrap_or (products_of value) old.public } → Takes old new key value
products-taken old new key value same is rest before rises =
    let named = unwrap_or (products_of value) old.public in
    let absent_here : at_or (codes "public_products") products_of named rest ≡ named = at_or-absent (codes "public_products") products_of named rest (subst (λ (k : List ℕ). is_before k rest ≡ true) same before) rises in
    let here : filled (record old { public = named }) rest ≡ filled old (member (codes "public_products") value rest) =
    ap (λ p. let d : Draft = record (filled old rest) { public = p } in d) absent_here in
    ap (λ (d : Draft). filled d rest) is ∙ (here ∙ ap (λ (k : List ℕ). filled old (member k value rest)) (sym same))

pub rule-taken : (old : Draft) (key : List ℕ) (value : Data) → key ≡ codes "rule" → Takes old old key value
rule-taken old key value same rest before rises = ap (λ (k : List ℕ). filled old (member k value rest)) (sym same)

-- the entries that are left, and what the draft took of the others
pub record Reads (all left : List Entry) (draft : Draft) : Type 0 where
  pub entries : Left all left
  pub whole : filled draft (members_view left) ≡ filled defaults (members_view all)
  pub ranges : IsInRanges draft

pub Reads-all : (all left : List Entry) (draft : Draft) → left ≡ all → draft ≡ defaults → IsStrictlySortedBy string_cmp (keys_of all) → Reads all left draft
Reads-all all left draft same none rise = record {
  entries = Left-all all left same rise;
  whole = rw (same, none) refl;
  ranges = rw none (record {
    of_session = record { at_least = lit≤ tt; at_most = lit≤ tt };
    of_journal = record { at_least = lit≤ tt; at_most = lit≤ tt };
    of_crashes = record { at_least = lit≤ tt; at_most = lit≤ tt };
  });
}

pub Reads-passed : (all left rest : List Entry) (old new : Draft) (key : String Global) (value : Value) (text : List ℕ) (good : Bool) → Reads all left old → left ≡ (key, value) ∷ rest
    → text ≡ string_bytes key → good ≡ is_good text (view value) → good ≡ true → Takes old new text (view value) → (IsInRanges old → IsInRanges new) → Reads all rest new
Reads-passed all left rest old new key value text good before step same is so takes within =
    let rises : keys_rise (members_view ((key, value) ∷ rest)) ≡ true = ap (λ es. keys_rise (members_view es)) (sym step) ∙ before.entries.rising in
    let parts = and_parts (is_before (string_bytes key) (members_view rest)) (keys_rise (members_view rest)) rises in
    let taken : filled new (members_view rest) ≡ filled old (member text (view value) (members_view rest)) = takes (members_view rest) (subst (λ (k : List ℕ). is_before k (members_view rest) ≡ true) (sym same) parts.0) parts.1 in
    record {
      entries = first_bad-passed all left rest key value text good before.entries step same is so;
      whole = taken ∙ (ap (λ (k : List ℕ). filled old (member k (view value) (members_view rest))) same ∙ (ap (λ es. filled old (members_view es)) (sym step) ∙ before.whole));
      ranges = within before.ranges;
    }

-- the first bad key is what refuses a table
pub settings_in-bad : (table : Members) (key : List ℕ) → Some key ≡ first_bad table → settings_in table ≡ Err (BadSetting key)
settings_in-bad table key found = rw (← found) refl
