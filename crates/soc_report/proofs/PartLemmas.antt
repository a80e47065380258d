-- The parts of the path of a module's symbol file: its id is the middle one.
use Rattle.std.proofs.Common.{◌≡◌, ℕ, suc, ◌+◌, ◌-◌, ◌/◌, ◌<◌, true, false, cond, List, [], ◌∷◌, ◌++◌, map, length, take, drop, codes, Option, Some, unwrap_or, refl, sym, ap, ◌∙◌, arith, length-append}
use Rattle.std.specs.Prelude.{slice_get}
use Rattle.std.specs.Char.{to_ascii_lowercase}
use Rattle.std.specs.List.{count_by, onto_first}
use Rattle.std.specs.Str.{str_eq_ignore_ascii_case, str_to_ascii_lowercase}
use Rattle.std.proofs.lemmas.Bool.{cond_both}
use Rattle.std.proofs.lemmas.Bool.Decides.{nat_tests}
use Rattle.std.proofs.lemmas.List.{take-append-drop}
use Rattle.std.proofs.lemmas.List.Splits.{length-slice_split}
use Rattle.std.proofs.lemmas.List.Sums.{sum_by-append, sum_by-cons}
use Rattle.std.proofs.lemmas.Slice.Eq.{bytes_eq-Decides}
use Rattle.soc_symfile.specs.Path.{ends_in_pdb, stem_of, path_of}
use Rattle.soc_report.specs.inner.Parts.{is_slash, parts_of, middle_of}

abbrev Parts : Type 0
Parts = List (List ℕ)

onto_append : (x : ℕ) (ps qs : Parts) → 0 < length ps → onto_first x (ps ++ qs) ≡ onto_first x ps ++ qs
onto_append x [] qs some = absurd (omega arith)
onto_append x (p ∷ ps) qs some = refl

some_part : (bs : List ℕ) → 0 < length (parts_of bs)
some_part bs = omega (arith, length-slice_split is_slash bs)

split_append : (a b : List ℕ) → parts_of (a ++ 47 ∷ b) ≡ parts_of a ++ parts_of b
split_append [] b = refl
split_append (x ∷ a) b =
    elim (is_slash x) as (λ s. cond s ([] ∷ parts_of (a ++ 47 ∷ b)) (onto_first x (parts_of (a ++ 47 ∷ b))) ≡ cond s ([] ∷ parts_of a) (onto_first x (parts_of a)) ++ parts_of b) [
      | true ↦ ap (λ (ps : Parts). [] ∷ ps) (split_append a b)
      | false ↦ ap (onto_first x) (split_append a b) ∙ onto_append x (parts_of a) (parts_of b) (some_part a)
    ]

count_append : (a b : List ℕ) → count_by is_slash (a ++ b) ≡ count_by is_slash a + count_by is_slash b
count_append a b = sum_by-append _ a b

-- ---- the name has as many parts as the debug file

lower_slash : (c : ℕ) → is_slash (to_ascii_lowercase c) ≡ is_slash c
lower_slash c = grind (arith, nat_tests)

lower_count : (bs : List ℕ) → count_by is_slash (map to_ascii_lowercase bs) ≡ count_by is_slash bs
lower_count [] = refl
lower_count (c ∷ bs) =
    sum_by-cons (λ b. cond (is_slash b) 1 0) (to_ascii_lowercase c) (map to_ascii_lowercase bs)
    ∙ ap (λ b. cond b 1 0 + count_by is_slash (map to_ascii_lowercase bs)) (lower_slash c) ∙ ap (λ n. cond (is_slash c) 1 0 + n) (lower_count bs)
    ∙ sym (sum_by-cons (λ b. cond (is_slash b) 1 0) c bs)

end_count : (end : List ℕ) → str_eq_ignore_ascii_case end (codes ".pdb") ≡ true → count_by is_slash end ≡ 0
end_count end is =
    let same : map to_ascii_lowercase end ≡ codes ".pdb" = (bytes_eq-Decides (str_to_ascii_lowercase end) (codes ".pdb")).0 is in
    sym (lower_count end) ∙ ap (count_by is_slash) same

stem_count : (file : List ℕ) → count_by is_slash (stem_of file) ≡ count_by is_slash file
stem_count file =
    cond_both (ends_in_pdb file) (take (length file - 4) file) file (λ stem. count_by is_slash stem ≡ count_by is_slash file)
    (λ ends.
    let front = take (length file - 4) file in
    let end = drop (length file - 4) file in
    let none : count_by is_slash end ≡ 0 = end_count end ends in
    let both : count_by is_slash (front ++ end) ≡ count_by is_slash front + count_by is_slash end = count_append front end in
    let whole : count_by is_slash (front ++ end) ≡ count_by is_slash file = ap (count_by is_slash) (take-append-drop (length file - 4) file) in
    omega arith)
    (λ _. refl)

name_length : (file : List ℕ) → length (parts_of (stem_of file ++ codes ".sym")) ≡ length (parts_of file)
name_length file =
    let none : count_by is_slash (codes ".sym") ≡ 0 = refl in
    omega (arith, length-slice_split is_slash (stem_of file ++ codes ".sym"), length-slice_split is_slash file, count_append (stem_of file) (codes ".sym"), stem_count file)

-- ---- the middle part

at_length : (ps qs : Parts) (p : List ℕ) → slice_get (ps ++ p ∷ qs) (length ps) ≡ Some p
at_length [] qs p = refl
at_length (x ∷ ps) qs p = at_length ps qs p

no_slashes : (bs : List ℕ) → count_by is_slash bs ≡ 0 → parts_of bs ≡ bs ∷ []
no_slashes [] none = refl
no_slashes (c ∷ bs) none =
    elim (is_slash c) as (λ s. cond s 1 0 + count_by is_slash bs ≡ 0 → cond s ([] ∷ parts_of bs) (onto_first c (parts_of bs)) ≡ (c ∷ bs) ∷ []) [
      | true ↦ λ h. absurd (omega (arith, h))
      | false ↦ λ h. ap (onto_first c) (no_slashes bs (omega (arith, h)))
    ] (sym (sum_by-cons (λ b. cond (is_slash b) 1 0) c bs) ∙ none)

path_parts : (file id : List ℕ) → count_by is_slash id ≡ 0 → parts_of (path_of file id) ≡ parts_of file ++ id ∷ parts_of (stem_of file ++ codes ".sym")
path_parts file id none =
    let name = stem_of file ++ codes ".sym" in
    split_append file (id ++ 47 ∷ name)
    ∙ ap (λ (ps : Parts). parts_of file ++ ps) (split_append id name ∙ ap (λ (ps : Parts). ps ++ parts_of name) (no_slashes id none))

pub middle_is : (path file id : List ℕ) → path ≡ path_of file id → count_by is_slash id ≡ 0 → middle_of path ≡ id
unfolding middle_of
middle_is path file id is none =
    let name = stem_of file ++ codes ".sym" in
    let parts : parts_of path ≡ parts_of file ++ id ∷ parts_of name = ap parts_of is ∙ path_parts file id none in
    let long : length (parts_of file ++ id ∷ parts_of name) ≡ length (parts_of file) + suc (length (parts_of name)) = length-append (parts_of file) (id ∷ parts_of name) in
    let half : length (parts_of file ++ id ∷ parts_of name) / 2 ≡ length (parts_of file) = let same = name_length file in omega arith in
    ap (λ (ps : Parts). unwrap_or (slice_get ps (length ps / 2)) []) parts
    ∙ ap (λ (k : ℕ). unwrap_or (slice_get (parts_of file ++ id ∷ parts_of name) k) []) half
    ∙ ap (λ (o : Option (List ℕ)). unwrap_or o []) (at_length (parts_of file) (parts_of name) id)
