-- What clap's matches hold at the name of an option.
use Rattle.std.proofs.Common.{◌≡◌, ◌≢◌, ℕ, ◌+◌, ◌<◌, ◌≤◌, Bool, true, false, cond, List, [], ◌∷◌, length, drop, get_or, add-one, Option, None, Some, refl, sym, ap, ap₂, subst, ◌∙◌, option_map, ⊎_elim}
use Rattle.std.specs.Prelude.{find, unwrap_or}
use Rattle.std.specs.List.{AllByRecursion}
use Rattle.std.specs.Option.{option_map_or}
use Rattle.std.specs.Borrow.{Bor}
use Rattle.std.proofs.Math.Seq.{drop-cons}
use Rattle.std.proofs.lemmas.Bool.{and_parts}
use Rattle.std.proofs.lemmas.List.{drop_all}
use Rattle.clap.specs.Words.{App, HasKind, Kinds, fault_of, first_of, first_value, is_simple, is_simple_and_free, kind_of, matches_of, rows_of, with_rule}
use Rattle.clap.specs.Walk.{Row, texts}
use Rattle.clap.specs.declared.error.Error.{Error}
use Rattle.clap.specs.declared.error.kind.ErrorKind.TheVariants.{OutOfMemory}
use Rattle.clap.specs.declared.parser.matches.Found.{Found}
use Rattle.clap.proofs.WalkLemmas.{first_value-rows}
use Rattle.clap.proofs.OnLiterals.{clap_on_literals}
use Rattle.soc_words.specs.declared.words.Task.{Task}
use Rattle.soc_words.specs.declared.words.Words.{Words}
use Rattle.soc_words.specs.declared.words.Task.TheVariants.{Check, Make, Replay, Serve, Storm, Export}
use Rattle.soc_words.specs.Words.{app_for, bare_app, name_of, number_between, option_rule, options_of, where_faultless, with_options, words_for, words_in}

-- the text at a name, or another one
chosen : (got : Option (Bor (List ℕ))) (fallback : Bor (List ℕ)) → (unwrap_or got fallback).now ≡ unwrap_or (option_map (λ s. s.now) got) fallback.now
chosen None fallback = refl
chosen (Some text) fallback = refl

pub text-held : (f : Found) (name : List ℕ) (got : Option (Bor (List ℕ))) (fallback taken : Bor (List ℕ)) → option_map (λ s. s.now) got ≡ first_value f name
    → taken ≡ unwrap_or got fallback → taken.now ≡ unwrap_or (first_of name (rows_of f)) fallback.now
text-held f name got fallback taken found is =
    ap (λ (b : Bor (List ℕ)). b.now) is ∙ (chosen got fallback ∙ ap (λ (o : Option (List ℕ)). unwrap_or o fallback.now) (found ∙ first_value-rows f name))

-- a number at a name
pub number-held : (f : Found) (name : List ℕ) (least most default : ℕ) (got : Option (Bor (List ℕ))) (is : Bor (List ℕ)) → option_map (λ s. s.now) got ≡ first_value f name → got ≡ Some is
    → number_between least most is.now ≡ option_map_or (number_between least most) (first_of name (rows_of f)) (Some default)
number-held f name least most default got is found some =
    ap (λ (o : Option (List ℕ)). option_map_or (number_between least most) o (Some default)) (ap (option_map (λ (s : Bor (List ℕ)). s.now)) (sym some) ∙ (found ∙ first_value-rows f name))

pub number-left : (f : Found) (name : List ℕ) (least most default : ℕ) (got : Option (Bor (List ℕ))) → option_map (λ s. s.now) got ≡ first_value f name → got ≡ None
    → Some default ≡ option_map_or (number_between least most) (first_of name (rows_of f)) (Some default)
number-left f name least most default got found none =
    ap (λ (o : Option (List ℕ)). option_map_or (number_between least most) o (Some default)) (ap (option_map (λ (s : Bor (List ℕ)). s.now)) (sym none) ∙ (found ∙ first_value-rows f name))

-- nothing that is looked for is there
pub find_none : {X : Type 0} (test : X → Bool) (xs : List X) → AllByRecursion (λ x. test x ≡ false) xs → find test xs ≡ None
find_none test [] all = refl
find_none test (x ∷ xs) all = ap (λ b. cond b (Some x) (find test xs)) all.0 ∙ find_none test xs all.1

-- ---- the commands are simple

is_free : (task : Task) → is_simple_and_free (app_for task) ≡ true
unfolding app_for clap_on_literals
is_free Check = refl
is_free Make = refl
is_free Replay = refl
is_free Serve = refl
is_free Storm = refl
is_free Export = refl

pub free : (task : Task) (app : App) → app ≡ app_for task → is_simple_and_free app ≡ true
free task app is = ap is_simple_and_free is ∙ is_free task

pub simple : (task : Task) (app : App) → app ≡ app_for task → is_simple app ≡ true
simple task app is = (and_parts _ _ (free task app is)).0

-- the options that are left to be added
pub with_options-more : (app more whole : App) (names : List (Bor (List ℕ))) (at : ℕ) (default : Bor (List ℕ)) → at < length names
    → more ≡ with_rule app (option_rule (get_or names at default).now) → with_options app (texts (drop at names)) ≡ whole → with_options more (texts (drop (at + 1) names)) ≡ whole
with_options-more app more whole names at default less is so_far =
    let next : drop at names ≡ get_or names at default ∷ drop (at + 1) names = drop-cons names at default less ∙ ap (λ (n : ℕ). get_or names at default ∷ drop n names) (sym (add-one at)) in
    ap (λ (a : App). with_options a (texts (drop (at + 1) names))) is ∙ (sym (ap (λ (l : List (Bor (List ℕ))). with_options app (texts l)) next) ∙ so_far)

-- none are left
pub with_options-done : (app whole : App) (names : List (Bor (List ℕ))) (at : ℕ) → length names ≤ at → with_options app (texts (drop at names)) ≡ whole → app ≡ whole
with_options-done app whole names at ended so_far = ap (λ (l : List (Bor (List ℕ))). with_options app (texts l)) (sym (drop_all at names ended)) ∙ so_far

-- all are left
pub with_options-whole : (task : Task) (app : App) (name : List ℕ) (names : List (Bor (List ℕ))) → app ≡ bare_app name → name ≡ name_of task → texts names ≡ options_of task
    → with_options app (texts names) ≡ app_for task
unfolding app_for
with_options-whole task app name names is named listed = ap₂ with_options (is ∙ ap bare_app named) listed

-- words without a fault
pub words_for-taken : (task : Task) (app : App) (words : List (List ℕ)) (rows : List Row) → app ≡ app_for task → fault_of app words ≡ [] → rows ≡ matches_of app words
    → words_for words task ≡ words_in task rows
words_for-taken task app words rows is none found =
    let no_fault : fault_of (app_for task) words ≡ [] = ap (λ (a : App). fault_of a words) (sym is) ∙ none in
    let same : matches_of (app_for task) words ≡ rows = ap (λ (a : App). matches_of a words) (sym is) ∙ sym found in
    ap₂ where_faultless no_fault (ap (words_in task) same)

-- words with one
faulty : (kinds : Kinds) (said : Option Words) (e : Error) → HasKind kinds e → kind_of e ≢ OutOfMemory → where_faultless kinds said ≡ None
faulty [] said e h other = ⊎_elim (λ m. absurd (other m)) (λ among. absurd among) h
faulty (kind ∷ kinds) said e h other = refl

pub words_for-faulty : (task : Task) (app : App) (words : List (List ℕ)) (e : Error) → app ≡ app_for task → HasKind (fault_of app words) e → kind_of e ≢ OutOfMemory → words_for words task ≡ None
words_for-faulty task app words e is h other =
    faulty (fault_of (app_for task) words) (words_in task (matches_of (app_for task) words)) e (subst (λ (a : App). HasKind (fault_of a words) e) is h) other
