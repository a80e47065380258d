-- The entries of a dump's directory, one after another.
use Rattle.std.proofs.Common.{◌≡◌, ◌≢◌, ℕ, suc, ◌+◌, ◌-◌, ◌*◌, ◌<◌, ◌≤◌, Bool, true, false, List, [], ◌∷◌, ◌++◌, length, drop, None, Some, refl, sym, ap, ◌∙◌, arith, eqb}
use Rattle.std.specs.Prelude.{◌||◌, ◌==◌, nat_le}
use Rattle.std.specs.List.{list_any}
use Rattle.std.proofs.lemmas.Bool.{ne_eqb}
use Rattle.std.proofs.lemmas.Bool.Decides.{nat_tests}
use Rattle.std.proofs.lemmas.Option.{none-some}
use Rattle.soc_base.proofs.Folk.{from_le}
use Rattle.soc_dump.specs.declared.error.DumpError.{DumpError}
use Rattle.soc_dump.specs.declared.error.DumpError.TheVariants.{NoMagic, BadVersion, OutOfFile}
use Rattle.soc_dump.specs.Checks.{Check, check, first_refusal}
use Rattle.soc_dump.specs.Directory.{directory_checks, directory_of, stream_count_of, used_streams}
use Rattle.soc_dump.specs.Dump.{contents_checks, dump_checks}
use Rattle.soc_dump.specs.Layout.{header_signature, header_version, module_list, signature, stream_kind, version}
use Rattle.soc_dump.specs.Number.{number_of}
use Rattle.soc_dump.specs.Part.{is_inside, places}

-- one of so many entries from a place on names a list of modules
abbrev pub has_modules : List ℕ → ℕ → ℕ → Bool
has_modules bytes place count = list_any (λ entry. number_of (drop entry bytes) stream_kind == module_list) (places place 12 count)

first_holds : (check : Check) (checks : List Check) → first_refusal (check ∷ checks) ≡ None → (check ≡ None) × (first_refusal checks ≡ None)
first_holds None checks none = (refl, none)
first_holds (Some refusal) checks none = absurd (none-some refusal (sym none))

holds : (b : Bool) (refusal : DumpError) → check b refusal ≡ None → b ≡ true
holds true refusal none = refl
holds false refusal none = absurd (none-some refusal (sym none))

-- a dump that isn't refused has a header, and its directory lies in it
fourth : (a b c d : Check) (more : List Check) → first_refusal ((a ∷ b ∷ c ∷ d ∷ []) ++ more) ≡ None → (a ≡ None) × (d ≡ None)
fourth a b c d more none =
    let second = first_holds a (b ∷ c ∷ d ∷ more) none in
    let third = first_holds b (c ∷ d ∷ more) second.1 in
    let last = first_holds c (d ∷ more) third.1 in
    (second.0, (first_holds d more last.1).0)

pub long_header : (bytes : List ℕ) → first_refusal (dump_checks bytes) ≡ None → 32 ≤ length bytes
unfolding dump_checks
long_header bytes none =
    let checks = fourth (check (nat_le 32 (length bytes)) (OutOfFile 0)) (check (number_of bytes header_signature == signature) (NoMagic 0)) (check (number_of bytes header_version == version) (BadVersion 4)) (check (is_inside bytes (directory_of bytes) (12 * stream_count_of bytes)) (OutOfFile (directory_of bytes))) (directory_checks bytes [] (used_streams bytes) ++ contents_checks bytes (used_streams bytes)) none in
    from_le 32 (length bytes) (holds (nat_le 32 (length bytes)) (OutOfFile 0) checks.0)

directory_inside : (bytes : List ℕ) → first_refusal (dump_checks bytes) ≡ None → is_inside bytes (directory_of bytes) (12 * stream_count_of bytes) ≡ true
unfolding dump_checks
directory_inside bytes none =
    let checks = fourth (check (nat_le 32 (length bytes)) (OutOfFile 0)) (check (number_of bytes header_signature == signature) (NoMagic 0)) (check (number_of bytes header_version == version) (BadVersion 4)) (check (is_inside bytes (directory_of bytes) (12 * stream_count_of bytes)) (OutOfFile (directory_of bytes))) (directory_checks bytes [] (used_streams bytes) ++ contents_checks bytes (used_streams bytes)) none in
    holds (is_inside bytes (directory_of bytes) (12 * stream_count_of bytes)) (OutOfFile (directory_of bytes)) checks.1

inside_from : (size place long : ℕ) → ((size == 0) || nat_le (place + size) long) ≡ true → 0 < size → place + size ≤ long
inside_from size place long test some = grind (arith, nat_tests)

pub entry_inside : (bytes : List ℕ) (directory count index : ℕ) → first_refusal (dump_checks bytes) ≡ None → directory ≡ directory_of bytes → count ≡ stream_count_of bytes → index < count
    → directory + index * 12 + 4 ≤ length bytes
entry_inside bytes directory count index none is_directory is_count within =
    let test : is_inside bytes directory (12 * count) ≡ true =
    ap (λ (d : ℕ). is_inside bytes d (12 * count)) is_directory ∙ ap (λ (n : ℕ). is_inside bytes (directory_of bytes) (12 * n)) is_count ∙ directory_inside bytes none in
    let all : directory + 12 * count ≤ length bytes = inside_from (12 * count) directory (length bytes) test (omega arith) in
    omega arith

-- one entry further
pub one_further : (bytes : List ℕ) (directory index count : ℕ) (whole : Bool) → index < count → number_of (drop (directory + index * 12) bytes) stream_kind ≢ 4
    → whole ≡ has_modules bytes (directory + index * 12) (count - index) → whole ≡ has_modules bytes (directory + (index + 1) * 12) (count - (index + 1))
one_further bytes directory index count whole within other so_far =
    let left : count - index ≡ suc (count - (index + 1)) = omega arith in
    let next : directory + index * 12 + 12 ≡ directory + (index + 1) * 12 = omega arith in
    let differs : eqb (number_of (drop (directory + index * 12) bytes) stream_kind) 4 ≡ false = ne_eqb _ 4 other in
    so_far ∙ ap (has_modules bytes (directory + index * 12)) left
    ∙ ap (λ (b : Bool). b || has_modules bytes (directory + index * 12 + 12) (count - (index + 1))) differs
    ∙ ap (λ (place : ℕ). has_modules bytes place (count - (index + 1))) next
