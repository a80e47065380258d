-- The table that the bytes of a file are, as TOML (version 1.1) in UTF-8.
use Rattle.std.specs.Prelude.{ℕ, if◌then◌else◌, List, Option, None}
use Rattle.std.specs.Str.{is_utf8}
use Rattle.toml.specs.Data.{Members}
use Rattle.toml.specs.Parse.{parse_document}

-- the table of a document, where the bytes are one
unfoldable pub document_of : List ℕ → Option Members
document_of bytes = if is_utf8 bytes then parse_document bytes else None
