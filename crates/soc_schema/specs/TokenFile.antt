-- The tokens of the service, as a TOML document holds them: this project's profile.
use Rattle.std.specs.Prelude.{ℕ, Bool, true, ◌≡◌, if◌then◌else◌, nat_lt, List, [], ◌∷◌, ◌++◌, length, Option, None, Some, Result, Ok, Err, codes, option_map, option_and_then, is_some, find, ⊤}
use Rattle.std.specs.List.{list_any}
use Rattle.std.specs.Option.{option_map_or}
use Rattle.std.specs.Str.{bytes_eq}
use Rattle.toml.specs.Data.{Data, Items, no_items, item, Members, as_array, as_table, get_member}
use Rattle.soc_toml.specs.Keys.{first_other, visible_at}
use Rattle.soc_toml.specs.Lists.{is_text, texts_of, texts_within}
use Rattle.soc_schema.specs.declared.permission.Permission.{Permission}
use Rattle.soc_schema.specs.declared.permission.Permission.TheVariants.{ProtectedData, ViewRawdump, ReprocessCrashes, Operate}
use Rattle.soc_schema.specs.declared.permission.Permissions.{Permissions}
use Rattle.soc_schema.specs.declared.caller.Products.{Products}
use Rattle.soc_schema.specs.declared.caller.Products.TheVariants.{All as AllProducts, Some as OnlyProducts}
use Rattle.soc_schema.specs.declared.caller.Caller.{Caller}
use Rattle.soc_schema.specs.declared.token.Token.{Token}
use Rattle.soc_schema.specs.declared.token.TokenError.{TokenError}
use Rattle.soc_schema.specs.declared.token.TokenError.TheVariants.{BadToken, NoMemory}
use Rattle.soc_schema.specs.Permits.{permission_name, public_alone, with_permission}

-- `all`, or an array of at most 256 texts
abbrev pub products_of : Data → Option Products
products_of value =
    if is_text (codes "all") value then Some AllProducts else option_map OnlyProducts (texts_within 256 value)

-- the permissions that a token may give: each has `Public`
abbrev pub given_permissions : List Permission
given_permissions = ProtectedData ∷ ViewRawdump ∷ ReprocessCrashes ∷ Operate ∷ []

-- the permission that a word names
abbrev pub permission_named : List ℕ → Option Permission
permission_named word = find (λ p. bytes_eq (permission_name p) word) given_permissions

-- a set with those that the words name, where each of them names one
abbrev pub with_named : Permissions → List (List ℕ) → Option Permissions
with_named s [] = Some s
with_named s (word ∷ words) = option_and_then (λ p. with_named (with_permission s p) words) (permission_named word)

-- an array of words that each name a permission
abbrev pub permissions_of : Data → Option Permissions
permissions_of value = option_and_then (with_named public_alone) (texts_of value)

abbrev pub token_keys : List (List ℕ)
token_keys = codes "key" ∷ codes "products" ∷ codes "permissions" ∷ []

-- a table with all three keys and no other
abbrev pub token_in : Members → Option Token
token_in table =
    if is_some (first_other token_keys table) then None else option_and_then (λ key. option_and_then (λ products. option_map (λ permissions. record { key = key; permissions = permissions; products = products }) (option_and_then permissions_of (get_member (codes "permissions") table))) (option_and_then products_of (get_member (codes "products") table))) (visible_at (codes "key") 64 table)

-- whether one of the tokens has the key
abbrev pub has_key : List ℕ → List Token → Bool
has_key key tokens = list_any (λ t. bytes_eq t.key key) tokens

-- the token that a value is behind these: one with a key of its own, and no 257th
abbrev pub next_token : List Token → Data → Option Token
next_token earlier value =
    if nat_lt (length earlier) 256 then option_and_then (λ t. if has_key t.key earlier then None else Some t) (option_and_then token_in (as_table value)) else None

-- these tokens and those of the values, or the index of the first bad one
abbrev pub tokens_from : List Token → Items → Result (List Token) ℕ
tokens_from earlier no_items = Ok earlier
tokens_from earlier (item value rest) =
    option_map_or (λ t. tokens_from (earlier ++ t ∷ []) rest) (next_token earlier value) (Err (length earlier))

-- the array at the key, where there is one
abbrev pub tokens_under : Option Data → Result (List Token) ℕ
tokens_under None = Ok []
tokens_under (Some value) = option_map_or (tokens_from []) (as_array value) (Err 0)

-- a table with at most the key `token`
abbrev pub tokens_in : Members → Result (List Token) ℕ
tokens_in table =
    if is_some (first_other (codes "token" ∷ []) table) then Err 0 else tokens_under (get_member (codes "token") table)

-- the tokens of a document, or the index of the first bad one
unfoldable pub tokens_of : Data → Result (List Token) ℕ
tokens_of value = option_map_or tokens_in (as_table value) (Err 0)

-- a refusal has the index of the first bad token; want of memory may come at any time
abbrev pub IsRefusal : Result (List Token) ℕ → TokenError → Type 0
IsRefusal tokens (BadToken index) = tokens ≡ Err index
IsRefusal tokens NoMemory = ⊤

-- who asks with a token
abbrev pub caller_with : Token → Caller
caller_with token = record { permissions = token.permissions; products = token.products }

-- who asks: everybody without a key, else who has the token of the key
abbrev pub caller_of : List Token → Option (List ℕ) → Products → Option Caller
caller_of tokens None public = Some (record { permissions = public_alone; products = public })
caller_of tokens (Some key) public = option_map caller_with (find (λ t. bytes_eq t.key key) tokens)

-- whether a caller with this key is known: everybody without a key, else who has the token of the key
abbrev pub is_known : List Token → Option (List ℕ) → Bool
is_known tokens None = true
is_known tokens (Some key) = has_key key tokens
