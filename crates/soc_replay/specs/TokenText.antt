-- The tokens that a file's bytes say, as TOML: this project's profile.
use Rattle.std.specs.Prelude.{◌≡◌, ℕ, List, Result, Ok, Err}
use Rattle.std.specs.Option.{option_map_or}
use Rattle.toml.specs.Data.{table}
use Rattle.soc_schema.specs.declared.token.Token.{Token}
use Rattle.soc_schema.specs.TokenFile.{tokens_of}
use Rattle.soc_replay.specs.declared.token_text.TokensError.{TokensError}
use Rattle.soc_replay.specs.declared.token_text.TokensError.TheVariants.{NotToml, BadToken, NoMemory}
use Rattle.soc_replay.specs.Documents.{document_of}

-- a bad token is named by its index
abbrev pub naming : Result (List Token) ℕ → Result (List Token) TokensError
naming (Ok tokens) = Ok tokens
naming (Err index) = Err (BadToken index)

-- the tokens that a file's bytes say, or why they say none
unfoldable pub tokens_said : List ℕ → Result (List Token) TokensError
tokens_said bytes = option_map_or (λ members. naming (tokens_of (table members))) (document_of bytes) (Err NotToml)

-- a refusal tells why; want of memory may come at any time
abbrev pub IsTokenRefusal : Result (List Token) TokensError → TokensError → Type 0
IsTokenRefusal said NoMemory = Unit {0}
IsTokenRefusal said error = said ≡ Err error
