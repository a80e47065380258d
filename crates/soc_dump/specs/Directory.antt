-- A dump's header and directory.
use Rattle.std.specs.Prelude.{ℕ, ◌*◌, ◌++◌, ◌==◌, ◌&&◌, nat_le, not, Bool, IsTrue, All, List, [], ◌∷◌, length, drop, map, filter, find, Option}
use Rattle.std.specs.List.{list_any}
use Rattle.soc_dump.specs.declared.directory.Stream.{Stream}
use Rattle.soc_dump.specs.declared.error.DumpError.TheVariants.{NoMagic, BadVersion, OutOfFile, TwoStreams}
use Rattle.soc_dump.specs.Layout.{header_size, header_signature, header_version, header_count, header_directory, signature, version, stream_entry_size, stream_kind, stream_size, stream_place, thread_list, system_stream}
use Rattle.soc_dump.specs.Number.{number_of}
use Rattle.soc_dump.specs.Part.{is_inside, places}
use Rattle.soc_dump.specs.Checks.{Check, check, inside}

-- where the directory stands, and how many entries it has
abbrev pub directory_of : List ℕ → ℕ
directory_of file = number_of file header_directory

abbrev pub stream_count_of : List ℕ → ℕ
stream_count_of file = number_of file header_count

abbrev pub header_checks : List ℕ → List Check
header_checks file =
    check (nat_le header_size (length file)) (OutOfFile 0)
    ∷ check (number_of file header_signature == signature) (NoMagic 0)
    ∷ check (number_of file header_version == version) (BadVersion 4)
    ∷ inside file (directory_of file) (stream_entry_size * stream_count_of file)
    ∷ []

-- the stream that the entry at a place names
abbrev pub stream_at : List ℕ → ℕ → Stream
stream_at file entry = record {
  kind = number_of (drop entry file) stream_kind;
  size = number_of (drop entry file) stream_size;
  place = number_of (drop entry file) stream_place;
  entry = entry;
}

abbrev pub is_used : Stream → Bool
is_used stream = nat_le thread_list stream.kind && nat_le stream.kind system_stream

-- the used streams of some entries, in their order
abbrev pub streams_named : List ℕ → ℕ → ℕ → List Stream
streams_named file place count = filter is_used (map (stream_at file) (places place stream_entry_size count))

abbrev pub used_streams : List ℕ → List Stream
used_streams file = streams_named file (directory_of file) (stream_count_of file)

-- no earlier stream is of the kind, and the stream lies in the file
abbrev pub stream_checks : List ℕ → List Stream → Stream → List Check
stream_checks file earlier stream =
    check (not (list_any (λ other. other.kind == stream.kind) earlier)) (TwoStreams stream.kind stream.entry)
    ∷ inside file stream.place stream.size
    ∷ []

abbrev pub directory_checks : List ℕ → List Stream → List Stream → List Check
directory_checks file earlier [] = []
directory_checks file earlier (stream ∷ streams) =
    stream_checks file earlier stream ++ directory_checks file (earlier ++ stream ∷ []) streams

-- each stream lies in the file
abbrev pub AllInside : List ℕ → List Stream → Type 0
AllInside file streams = All (λ stream. IsTrue (is_inside file stream.place stream.size)) streams

-- the stream of a kind
abbrev pub stream_of : ℕ → List Stream → Option Stream
stream_of kind streams = find (λ stream. stream.kind == kind) streams
