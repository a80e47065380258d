-- Parts that name a register.
use Rattle.std.proofs.Common.{◌≡◌, ◌≢◌, ℕ, ◌-◌, ◌+◌, Bor, Bool, true, List, [], ◌∷◌, ◌++◌, length, take, eqb, cond, refl, ap, sym, ◌∙◌, arith, lit<, length-append, inl, inr}
use Rattle.std.proofs.lemmas.Bool.{cases_Bool}
use Rattle.std.proofs.lemmas.Bool.Decides.{Decides-eqb}
use Rattle.std.proofs.lemmas.List.{take_at}
use Rattle.std.proofs.lemmas.Slice.Eq.{ends_is}
use Rattle.std.proofs.lemmas.Str.Pattern.{strip_suffix_char}
use Rattle.std.specs.List.{ends_with}
use Rattle.std.specs.Option.{option_copied}
use Rattle.std.specs.Prelude.{Option, None, Some, MatchOption}
use Rattle.std.specs.Str.Pattern.{FindsCharSuffix}
use Rattle.soc_cfi.specs.Rules.{named_by}

abbrev has_colon : List ℕ → Bool
has_colon part = ends_with eqb part (58 ∷ [])

colon_ends : (front : List ℕ) → has_colon (front ++ (58 ∷ [])) ≡ true
colon_ends front = (ends_is Decides-eqb (front ++ (58 ∷ [])) (58 ∷ []) (has_colon (front ++ (58 ∷ []))) refl).1 front refl

front_taken : (front : List ℕ) → take (length (front ++ (58 ∷ [])) - 1) (front ++ (58 ∷ [])) ≡ front
front_taken front =
    let longer : length (front ++ (58 ∷ [])) ≡ length front + 1 = length-append front (58 ∷ []) in
    take_at front (58 ∷ []) (length (front ++ (58 ∷ [])) - 1) (omega arith)

named_front : (front : List ℕ) → Some front ≡ named_by (front ++ (58 ∷ []))
named_front front =
    sym (ap (λ b. cond b (Some (take (length (front ++ (58 ∷ [])) - 1) (front ++ (58 ∷ [])))) None) (colon_ends front) ∙ ap Some (front_taken front))

unnamed : (part : List ℕ) → ((front : List ℕ) → part ≢ front ++ (58 ∷ [])) → None ≡ named_by part
unnamed part other =
    elim (cases_Bool (has_colon part)) [
      | inl ends ↦ absurd (other (take (length part - 1) part) ((ends_is Decides-eqb part (58 ∷ []) (has_colon part) refl).0 ends))
      | inr plain ↦ sym (ap (λ b. cond b (Some (take (length part - 1) part)) None) plain)
    ]

named_cases : (part : List ℕ) (stripped : Option (Bor (List ℕ))) → MatchOption stripped ((front : List ℕ) → part ≢ front ++ (58 ∷ [])) (λ x. part ≡ x.now ++ (58 ∷ [])) → option_copied stripped ≡ named_by part
named_cases part None other = unnamed part other
named_cases part (Some x) split = named_front x.now ∙ sym (ap named_by split)

-- what stands before the colon
pub named_given : (part : List ℕ) (stripped : Option (Bor (List ℕ))) → MatchOption stripped (FindsCharSuffix 58 part None) (λ x. (n : ℕ) × FindsCharSuffix 58 part (Some n) × (x.now ≡ take (length part - n) part) × (length x.now + n ≡ length part)) → option_copied stripped ≡ named_by part
named_given part stripped given = named_cases part stripped (strip_suffix_char 58 part stripped given (lit< tt))
