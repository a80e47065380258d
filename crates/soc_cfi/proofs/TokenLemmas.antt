-- The tokens of a rule's text.
use Rattle.std.proofs.Common.{◌≡◌, ℕ, Bool, true, false, List, [], ◌∷◌, length, cond, eqb, refl, ap, sym, ◌∙◌, subst, arith, inl, inr}
use Rattle.std.proofs.lemmas.Bool.{cases_Bool}
use Rattle.std.proofs.lemmas.Bool.Decides.{nat_tests}
use Rattle.std.proofs.lemmas.List.Elements.{All-from_recursion}
use Rattle.std.proofs.lemmas.List.Splits.{slice_split_at, slice_split_none}
use Rattle.std.specs.List.{AllByRecursion, before_first, join_with_byte, onto_first}
use Rattle.std.specs.Prelude.{All, Option, None, Some, filter, map, nat_lt}
use Rattle.soc_cfi.specs.Rules.{Rule, is_name, named_by, rule_text, rules_in, rules_of, with_rule}
use Rattle.soc_cfi.specs.TokenRules.{TokenRule, by_tokens, token_rules, with_token_rule}
use Rattle.soc_cfi.specs.Words.{parts, tokens}
use Rattle.soc_cfi.proofs.RuleLemmas.{before_first-name, before_first-plain}

-- no byte is a space
abbrev HasNoSpace : List ℕ → Type 0
HasNoSpace part = AllByRecursion (λ byte. eqb byte 32 ≡ false) part

abbrev filled : List ℕ → Bool
filled part = nat_lt 0 (length part)

onto_first_clear : (byte : ℕ) (ps : List (List ℕ)) → eqb byte 32 ≡ false → AllByRecursion HasNoSpace ps → AllByRecursion HasNoSpace (onto_first byte ps)
onto_first_clear byte [] other clear = ((other, tt), tt)
onto_first_clear byte (part ∷ ps) other clear = ((other, clear.0), clear.1)

split_clear : (b : Bool) (byte : ℕ) (ps : List (List ℕ)) → eqb byte 32 ≡ b → AllByRecursion HasNoSpace ps → AllByRecursion HasNoSpace (cond b ([] ∷ ps) (onto_first byte ps))
split_clear true byte ps test clear = (tt, clear)
split_clear false byte ps test clear = onto_first_clear byte ps test clear

parts_clear : (text : List ℕ) → AllByRecursion HasNoSpace (parts text)
parts_clear [] = (tt, tt)
parts_clear (byte ∷ text) = split_clear (eqb byte 32) byte (parts text) refl (parts_clear text)

all_clear : (part : List ℕ) → HasNoSpace part → All (λ byte. eqb byte 32 ≡ false) part
all_clear part clear = All-from_recursion (λ byte. eqb byte 32 ≡ false) part clear

-- parts that are joined by spaces are parted again
tokens_joined : (ps : List (List ℕ)) → AllByRecursion HasNoSpace ps → tokens (join_with_byte 32 ps) ≡ filter filled ps
tokens_joined [] clear = refl
tokens_joined (part ∷ []) clear = ap (filter filled) (slice_split_none (λ byte. eqb byte 32) part (all_clear part clear.0))
tokens_joined (part ∷ next ∷ ps) clear =
    ap (filter filled) (slice_split_at (λ byte. eqb byte 32) part 32 (join_with_byte 32 (next ∷ ps)) (all_clear part clear.0) refl)
    ∙ ap (λ words. cond (filled part) (part ∷ words) words) (tokens_joined (next ∷ ps) clear.1)

cons_filled : (byte : ℕ) (part : List ℕ) → filled (byte ∷ part) ≡ true
cons_filled byte part = grind (arith, nat_tests)

-- a name is a token
name_filled : (part : List ℕ) → is_name part ≡ true → filled part ≡ true
name_filled [] named = cc
name_filled (byte ∷ part) named = cons_filled byte part

filter_chosen : (b : Bool) (part : List ℕ) (ps : List (List ℕ)) → filled part ≡ b → filter filled (part ∷ ps) ≡ cond b (part ∷ filter filled ps) (filter filled ps)
filter_chosen b part ps test = ap (λ c. cond c (part ∷ filter filled ps) (filter filled ps)) test

first_plain : (b : Bool) (part : List ℕ) (ps : List (List ℕ)) → filled part ≡ b → is_name part ≡ false → before_first is_name (filter filled ps) ≡ filter filled (before_first is_name ps) → before_first is_name (filter filled (part ∷ ps)) ≡ filter filled (part ∷ before_first is_name ps)
first_plain true part ps test plain same =
    ap (before_first is_name) (filter_chosen true part ps test) ∙ before_first-plain part (filter filled ps) plain ∙ ap (λ words. part ∷ words) same ∙ sym (filter_chosen true part (before_first is_name ps) test)
first_plain false part ps test plain same =
    ap (before_first is_name) (filter_chosen false part ps test) ∙ same ∙ sym (filter_chosen false part (before_first is_name ps) test)

-- empty parts before a name are passed over
before_first-filter : (ps : List (List ℕ)) → before_first is_name (filter filled ps) ≡ filter filled (before_first is_name ps)
before_first-filter [] = refl
before_first-filter (part ∷ ps) =
    elim (cases_Bool (is_name part)) [
      | inl named ↦ ap (before_first is_name) (filter_chosen true part ps (name_filled part named)) ∙ before_first-name part (filter filled ps) named ∙ sym (ap (filter filled) (before_first-name part ps named))
      | inr plain ↦ first_plain (filled part) part ps refl plain (before_first-filter ps) ∙ sym (ap (filter filled) (before_first-plain part ps plain))
    ]

before_first_clear : (ps : List (List ℕ)) → AllByRecursion HasNoSpace ps → AllByRecursion HasNoSpace (before_first is_name ps)
before_first_clear [] clear = tt
before_first_clear (part ∷ ps) clear =
    let P : List (List ℕ) → Type 0 = λ words. AllByRecursion HasNoSpace words in
    elim (cases_Bool (is_name part)) [
      | inl named ↦ subst P (sym (before_first-name part ps named)) tt
      | inr plain ↦ subst P (sym (before_first-plain part ps plain)) (clear.0, before_first_clear ps clear.1)
    ]

-- the tokens of a rule's text are those up to the next name
tokens_of_rule : (later : List (List ℕ)) → AllByRecursion HasNoSpace later → tokens (rule_text later) ≡ before_first is_name (filter filled later)
tokens_of_rule later clear = tokens_joined (before_first is_name later) (before_first_clear later clear) ∙ sym (before_first-filter later)

rules_step : (name : Option (List ℕ)) (text : List ℕ) (rules : List Rule) (words : List (List ℕ)) (others : List TokenRule) → tokens text ≡ words → map by_tokens rules ≡ others → map by_tokens (with_rule name text rules) ≡ with_token_rule name words others
rules_step None text rules words others same later = later
rules_step (Some register) text rules words others same later =
    ap (λ (t : List (List ℕ)). record { register = register; tokens = t } ∷ map by_tokens rules) same ∙ ap (λ rs. record { register = register; tokens = words } ∷ rs) later

rules_chosen : (b : Bool) (part : List ℕ) (later : List (List ℕ)) → filled part ≡ b → with_token_rule (named_by part) (before_first is_name (filter filled later)) (token_rules (filter filled later)) ≡ token_rules (filter filled (part ∷ later))
rules_chosen true part later test = sym (ap token_rules (filter_chosen true part later test))
rules_chosen false [] later test = refl
rules_chosen false (byte ∷ part) later test = let some = cons_filled byte part in cc

rules_by_tokens : (ps : List (List ℕ)) → AllByRecursion HasNoSpace ps → map by_tokens (rules_in ps) ≡ token_rules (filter filled ps)
rules_by_tokens [] clear = refl
rules_by_tokens (part ∷ later) clear =
    rules_step (named_by part) (rule_text later) (rules_in later) (before_first is_name (filter filled later)) (token_rules (filter filled later)) (tokens_of_rule later clear.1) (rules_by_tokens later clear.1)
    ∙ rules_chosen (filled part) part later refl

pub rules_of_tokens : (text : List ℕ) → map by_tokens (rules_of text) ≡ token_rules (tokens text)
rules_of_tokens text = rules_by_tokens (parts text) (parts_clear text)
