-- What the crate `regex` says of a text that it doesn't compile.
use Rattle.std.proofs.Common.{◌≡◌, ℕ, ◌<◌, Bool, true, false, ◌&&◌, List, Option, None, Some, refl, arith, inl, inr}
use Rattle.std.specs.Prelude.{nat_le, IfSome, ◌≢◌}
use Rattle.std.specs.Option.{option_map_or}
use Rattle.std.specs.Str.{chars, is_utf8, IsUtf8}
use Rattle.std.proofs.lemmas.Bool.Decides.{nat_tests}
use Rattle.regex_syntax.specs.Grammar.{read}
use Rattle.regex_syntax.specs.declared.error.ErrorKind.{ErrorKind}
use Rattle.regex_syntax.specs.declared.error.ErrorKind.TheVariants.{OutOfMemory}
use Rattle.regex_syntax.specs.declared.error.Error as parser
use Rattle.regex.specs.Patterns.{default_config, Refuses}
use Rattle.regex.specs.Failures.{IsPattern, IsRightKind}
use Rattle.regex.specs.Sources.{IsRefusal}
use Rattle.regex.specs.declared.error.Error.{Error}
use Rattle.regex.specs.declared.error.Error.TheVariants.{Syntax, CompiledTooBig, Internal}
use Rattle.soc_siglists.specs.Patterns.{is_pattern}
use Rattle.soc_siglists.proofs.PatternLemmas.{Found, read_is_pattern}

none_false : (o : Option Found) (most : ℕ) → o ≡ None → option_map_or (λ (found : Found). nat_le found.0.depth most) o false ≡ false
none_false None most e = refl
none_false (Some x) most e = absurd cc

deep_false : (o : Option Found) (most : ℕ) → IfSome o (λ found. most < found.0.depth) → option_map_or (λ (found : Found). nat_le found.0.depth most) o false ≡ false
deep_false None most h = refl
deep_false (Some x) most h = grind (arith, nat_tests)

both_false : (a b : Bool) → b ≡ false → (a && b) ≡ false
both_false true b e = e
both_false false b e = refl

refused_false : (text : List ℕ) (kind : ErrorKind) → kind ≢ OutOfMemory → Refuses default_config text kind → is_pattern text ≡ false
unfolding is_pattern Refuses
refused_false text kind right refuses = elim refuses [
  | inl memory ↦ absurd (right memory)
  | inr (inl none) ↦ both_false (is_utf8 text) _ (none_false (read default_config (chars text)) default_config.nest_limit none)
  | inr (inr deep) ↦ both_false (is_utf8 text) _ (deep_false (read default_config (chars text)) default_config.nest_limit deep.1)
]

pub no_pattern : (text : List ℕ) (error : Error) (e : parser.Error) → error ≡ Syntax e → IsRefusal default_config text error → IsRightKind default_config text error
    → is_pattern text ≡ false
no_pattern text error e is refuses right = refused_false text e.kind (rw is at right) (refuses e is)

read_true : (text : List ℕ) → IsUtf8 text → IsPattern default_config text → is_pattern text ≡ true
read_true text utf8 found = read_is_pattern text found.0 found.1 utf8 found.2

pub too_big : (text : List ℕ) (error : Error) → IsUtf8 text → error ≡ CompiledTooBig → IsRightKind default_config text error → is_pattern text ≡ true
too_big text error utf8 is right = read_true text utf8 (rw is at right)

pub internal : (text : List ℕ) (error : Error) → IsUtf8 text → error ≡ Internal → IsRightKind default_config text error → is_pattern text ≡ true
internal text error utf8 is right = read_true text utf8 (rw is at right)
