-- Lists of paths, and reading what they name.
use Rattle.std.proofs.Common.{◌≡◌, ℕ, zero, suc, ◌<◌, Bool, true, false, cond, List, [], ◌∷◌, length, get_or, None, Some, refl, ap, ◌∙◌, arith}
use Rattle.std.specs.Prelude.{◌&&◌, nat_le}
use Rattle.std.specs.List.{list_all}
use Rattle.std.specs.Str.{is_utf8}
use Rattle.soc_siglists.specs.Reading.{patterns_in}
use Rattle.soc_report.specs.declared.error.KitError.{KitError}
use Rattle.soc_report.specs.declared.error.KitError.TheVariants.{BadLine, BadPattern, MakerFault, TreeFault, Missing, NoMemory}
use Rattle.soc_report.specs.inner.Reading.{RefusesList, RefusesPaths}

and_false : (a b : Bool) → a ≡ false → (a && b) ≡ false
and_false a b is = ap (λ x. x && b) is

and_false_last : (a b : Bool) → b ≡ false → (a && b) ≡ false
and_false_last true b is = is
and_false_last false b is = refl

pub all_false : (xs : List (List ℕ)) (i : ℕ) (d : List ℕ) → i < length xs → is_utf8 (get_or xs i d) ≡ false → list_all is_utf8 xs ≡ false
all_false [] i d inside bad = absurd (omega arith)
all_false (x ∷ xs) zero d inside bad = and_false (is_utf8 x) (list_all is_utf8 xs) bad
all_false (x ∷ xs) (suc i) d inside bad = and_false_last (is_utf8 x) (list_all is_utf8 xs) (all_false xs i d (omega arith) bad)

-- an entry that isn't UTF-8 refuses the list
pub refuses_paths : (error : KitError) (bytes : List ℕ) (paths : List (List ℕ)) → RefusesList error → patterns_in bytes ≡ paths → list_all is_utf8 paths ≡ false → RefusesPaths error bytes
refuses_paths (Missing name) bytes paths is same bad = (
  is,
  ap (λ (ps : List (List ℕ)). cond (nat_le (length ps) 4096 && list_all is_utf8 ps) (Some ps) None) same
      ∙ ap (λ (b : Bool). cond b (Some paths) None) (and_false_last (nat_le (length paths) 4096) (list_all is_utf8 paths) bad),
)
refuses_paths NoMemory bytes paths is same bad = tt
refuses_paths TreeFault bytes paths is same bad = absurd is
refuses_paths MakerFault bytes paths is same bad = absurd is
refuses_paths (BadLine name line) bytes paths is same bad = absurd is
refuses_paths (BadPattern list line) bytes paths is same bad = absurd is
