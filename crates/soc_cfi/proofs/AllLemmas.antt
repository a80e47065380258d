-- The rules of several registers, found side by side.
use Rattle.std.proofs.Common.{◌≡◌, ◌≢◌, Bor, ℕ, ◌+◌, ◌<◌, ◌&&◌, List, ◌∷◌, length, set, get_or, cond, refl, sym, ◌∙◌, ap, arith, ◌⊎◌, inl, inr}
use Rattle.std.specs.Option.{option_copied, option_or}
use Rattle.std.specs.Prelude.{Option, None, Some, IfSome, nat_lt, slice_get}
use Rattle.std.specs.Str.{bytes_eq}
use Rattle.std.proofs.lemmas.Bool.{cases_eq, lt-ltb, le-ltb}
use Rattle.std.proofs.lemmas.Bool.Decides.{nat_tests}
use Rattle.std.proofs.lemmas.List.{get_or_default, get_or-set_same, get_or-set_other}
use Rattle.std.proofs.lemmas.Option.{slice_get-get_or}
use Rattle.soc_symfile.specs.Cfi.{Span}
use Rattle.soc_symfile.specs.Line.{LabelEntry}
use Rattle.soc_cfi.specs.Rules.{delta_rule, rule_of, rules_in, rules_of}
use Rattle.soc_cfi.specs.Views.{name_at, rule_at}
use Rattle.soc_cfi.specs.Words.{parts}
use Rattle.soc_cfi.specs.inner.Texts.{begun_by}
use Rattle.soc_cfi.proofs.DeltaLemmas.{rules_up_to, up_to_more, with_delta_rule, none_inside}
use Rattle.soc_cfi.proofs.FindLemmas.{or_assoc, rule_of_more}

pub name_at-get_or : (names : List (Bor (List ℕ))) (i : ℕ) (d : Bor (List ℕ)) → i < length names → name_at names i ≡ (get_or names i d).now
name_at-get_or names i d inside = let there = slice_get-get_or names i d inside in rw there refl

-- the rules before a place are chosen, and now the one at it
module _ (names : List (Bor (List ℕ))) (found : List (Option (Bor (List ℕ)))) (initial : ℕ → Option (List ℕ)) (i : ℕ) (register rule : List ℕ)
    (now : Option (Bor (List ℕ))) (same : length found ≡ length names) (inside : i < length names) where
  abbrev pub Chosen : List (Option (Bor (List ℕ))) → ℕ → Type 0
  Chosen rules count = (k : ℕ) → k < length names → rule_at rules k ≡ cond (nat_lt k count && bytes_eq register (name_at names k)) (Some rule) (initial k)

  module _ (is : option_copied now ≡ cond (bytes_eq register (name_at names i)) (Some rule) (rule_at found i)) (before : Chosen found i) where
    here : rule_at (set found i now) i ≡ cond (bytes_eq register (name_at names i)) (Some rule) (initial i)
    here =
        let first = before i inside in
        let test = le-ltb i i (omega arith) in
        ap option_copied (get_or-set_same found i now None (omega (arith, same)))
        ∙ is ∙ ap (λ o. cond (bytes_eq register (name_at names i)) (Some rule) o) (rw test at first)

    chosen-at : (k : ℕ) → k < length names → (k ≡ i) ⊎ (k ≢ i) → rule_at (set found i now) k ≡ cond (nat_lt k (i + 1) && bytes_eq register (name_at names k)) (Some rule) (initial k)
    chosen-at k below (inl equal) = let test = lt-ltb k (i + 1) (omega arith) in rw (test, equal) here
    chosen-at k below (inr other) =
        let test : nat_lt k (i + 1) ≡ nat_lt k i = grind (arith, nat_tests) in
        ap option_copied (get_or-set_other found i k now None other) ∙ rw test (before k below)

    chosen-more : Chosen (set found i now) (i + 1)
    chosen-more k below = chosen-at k below (cases_eq k i)

  pub chosen_next : (d : Bor (List ℕ)) (held : Option (Bor (List ℕ))) → held ≡ get_or found i held
      → option_copied now ≡ cond (bytes_eq register (get_or names i d).now) (Some rule) (option_copied held)
      → Chosen found i → Chosen (set found i now) (i + 1)
  chosen_next d held there is before =
      let name = name_at-get_or names i d inside in
      let one : rule_at found i ≡ option_copied held = ap option_copied (get_or_default found i None held (omega (arith, same)) ∙ sym there) in
      chosen-more (rw (name, one) is) before

-- a text with one part less
joined : (rest : Option (List ℕ)) (begun before : Option (List ℕ)) (more : Option (List ℕ)) → rest ≡ option_or more begun → option_or rest before ≡ option_or more (option_or begun before)
joined rest begun before more is = rw is (or_assoc more begun before)

pub part_more : (rest part later register : List ℕ) (before after : Option (List ℕ)) → parts rest ≡ part ∷ parts later → after ≡ option_or (begun_by part later register) before
    → option_or (rule_of (rules_of rest) register) before ≡ option_or (rule_of (rules_of later) register) after
part_more rest part later register before after is found =
    rw found (joined (rule_of (rules_of rest) register) (begun_by part later register) before (rule_of (rules_of later) register)
    (ap (λ ps. rule_of (rules_in ps) register) is ∙ rule_of_more part (parts later) register))

-- one delta more
pub delta_more : (span : Span) (offset i : ℕ) (register : List ℕ) (before after : Option (List ℕ)) → i < length span.deltas
    → before ≡ rule_of (rules_up_to span offset i) register
    → IfSome (slice_get span.deltas i) (λ delta. after ≡ option_or (delta_rule offset delta register) before)
    → after ≡ rule_of (rules_up_to span offset (i + 1)) register
delta_more span offset i register before after inside is given = here (slice_get span.deltas i) refl given where
  here : (at : Option LabelEntry) → slice_get span.deltas i ≡ at → IfSome at (λ delta. after ≡ option_or (delta_rule offset delta register) before)
      → after ≡ rule_of (rules_up_to span offset (i + 1)) register
  here None none found = absurd (none_inside span.deltas i none inside)
  here (Some delta) there found =
      found ∙ ap (option_or (delta_rule offset delta register)) is ∙ sym (with_delta_rule offset (rules_up_to span offset i) delta register)
      ∙ ap (λ rules. rule_of rules register) (sym (up_to_more span offset i delta there))
