-- What holds of the words and the tokens of a token file, along their lists.
use Rattle.std.proofs.Common.{◌≡◌, ℕ, ◌+◌, ◌<◌, ◌≤◌, List, [], ◌∷◌, ◌++◌, length, get_or, drop, drop-cons, add-one, cond, Bool, Bor, Option, true, false, ◌||◌, is_some, bytes_eq, None, Some, Result, Err, option_and_then, refl, sym, ap, ◌∙◌, arith, length-append, ⊎_elim}
use Rattle.std.specs.List.{find, list_any}
use Rattle.std.specs.Option.{option_copied, option_map_or}
use Rattle.std.proofs.lemmas.Bool.{le-ltb, cases_lt}
use Rattle.toml.specs.Data.{Data}
use Rattle.toml.specs.View.{view, items_view}
use Rattle.toml.proofs.Views.{items_view-drop}
use Rattle.toml.specs.declared.value.Value.{Value}
use Rattle.soc_schema.specs.declared.permission.Permission.{Permission}
use Rattle.soc_schema.specs.declared.permission.Permissions.{Permissions}
use Rattle.soc_schema.specs.declared.permission.Permission.TheVariants.{Public}
use Rattle.soc_schema.specs.Permits.{permission_name, with_permission}
use Rattle.soc_schema.specs.declared.token.Token.{Token}
use Rattle.soc_schema.specs.TokenFile.{permission_named, with_named, next_token, tokens_from}

-- a word behind the permissions that were passed over
pub named-passed : (word name : List ℕ) (i : ℕ) (permissions : List Permission) → i < length permissions → name ≡ permission_name (get_or permissions i Public) → false ≡ bytes_eq name word → find (λ p. bytes_eq (permission_name p) word) (drop i permissions) ≡ find (λ p. bytes_eq (permission_name p) word) permissions → find (λ p. bytes_eq (permission_name p) word) (drop (i + 1) permissions) ≡ find (λ p. bytes_eq (permission_name p) word) permissions
named-passed word name i permissions within named differs so_far =
    let p : Permission = get_or permissions i Public in
    let rest : List Permission = drop (i + 1) permissions in
    let first : drop i permissions ≡ p ∷ rest = rw (add-one, drop-cons permissions i Public within) refl in
    let none : bytes_eq (permission_name p) word ≡ false = sym (differs ∙ ap (λ n. bytes_eq n word) named) in
    sym (ap (find (λ q. bytes_eq (permission_name q) word)) first ∙ ap (λ b. cond b (Some p) (find (λ q. bytes_eq (permission_name q) word) rest)) none) ∙ so_far

-- a word that names no permission
pub with_named-refused : (s t : Permissions) (words left rest : List (List ℕ)) (word : List ℕ) → with_named s words ≡ with_named t left → left ≡ word ∷ rest → None ≡ permission_named word → with_named s words ≡ None
with_named-refused s t words left rest word so_far next none =
    so_far ∙ (ap (with_named t) next ∙ ap (option_and_then (λ p. with_named (with_permission t p) rest)) (sym none))

-- a word that names one
pub with_named-taken : (s t u : Permissions) (words left rest : List (List ℕ)) (word : List ℕ) (p : Permission) → with_named s words ≡ with_named t left → left ≡ word ∷ rest → Some p ≡ permission_named word → u ≡ with_permission t p → with_named s words ≡ with_named u rest
with_named-taken s t u words left rest word p so_far next found added =
    so_far ∙ (ap (with_named t) next ∙ (ap (option_and_then (λ q. with_named (with_permission t q) rest)) (sym found) ∙ ap (λ v. with_named v rest) (sym added)))

-- a token stands behind fewer than 256 others
next_token-few : (earlier : List Token) (value : Data) (t : Token) → Some t ≡ next_token earlier value → length earlier < 256
next_token-few earlier value t h =
    ⊎_elim (λ few. few) (λ many. let e : next_token earlier value ≡ None = rw (le-ltb (length earlier) 256 many) refl in let wrong : Some t ≡ None = h ∙ e in cc) (cases_lt (length earlier) 256)

-- what the value at i adds
tokens_from-next : (values : List Value) (i : ℕ) (value : Value) (tokens : List Token) → i < length values → value ≡ get_or values i value → tokens_from tokens (items_view (drop i values)) ≡ option_map_or (λ t. tokens_from (tokens ++ t ∷ []) (items_view (drop (i + 1) values))) (next_token tokens (view value)) (Err (length tokens))
tokens_from-next values i value tokens within read =
    ap (tokens_from tokens) (items_view-drop values i value within) ∙ ap (λ v. option_map_or (λ t. tokens_from (tokens ++ t ∷ []) (items_view (drop (i + 1) values))) (next_token tokens (view v)) (Err (length tokens))) (sym read)

pub tokens_from-taken : (values : List Value) (i : ℕ) (value : Value) (all : Result (List Token) ℕ) (before tokens more : List Token) (t : Token) → all ≡ tokens_from tokens (items_view (drop i values)) → i < length values → value ≡ get_or values i value → before ≡ tokens → Some t ≡ next_token before (view value) → more ≡ tokens ++ t ∷ [] → (all ≡ tokens_from more (items_view (drop (i + 1) values))) × (length more ≤ 256)
tokens_from-taken values i value all before tokens more t so_far within read same next pushed =
    let next' : Some t ≡ next_token tokens (view value) = next ∙ ap (λ l. next_token l (view value)) same in
    let step = so_far ∙ (tokens_from-next values i value tokens within read ∙ (ap (λ o. option_map_or (λ t. tokens_from (tokens ++ t ∷ []) (items_view (drop (i + 1) values))) o (Err (length tokens))) (sym next') ∙ ap (λ l. tokens_from l (items_view (drop (i + 1) values))) (sym pushed))) in
    let few : length tokens < 256 = next_token-few tokens (view value) t next' in
    (step, omega (arith, ap length pushed, length-append tokens (t ∷ [])))

-- a test finds an element where the list has one
pub is_some-find : {X : Type 0} (p : X → Bool) (xs : List X) → is_some (find p xs) ≡ list_any p xs
is_some-find p [] = refl
is_some-find p (x ∷ xs) = elim (p x) as (λ b. is_some (cond b (Some x) (find p xs)) ≡ (b || list_any p xs)) [ true ↦ refl | false ↦ is_some-find p xs ]

pub is_some-copied : {X : Type 0} (o : Option (Bor X)) → is_some o ≡ is_some (option_copied o)
is_some-copied None = refl
is_some-copied (Some x) = refl
