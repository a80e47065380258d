-- Reading a tree, file by file.
use Rattle.std.proofs.Common.{◌≡◌, ℕ, Bool, true, false, cond, List, [], ◌∷◌, ◌++◌, map, Option, None, Some, option_map, unwrap_or, codes, Ok, Err, sym, ap, ◌∙◌, subst, arith}
use Rattle.std.specs.Prelude.{IfSome, find, is_none}
use Rattle.std.specs.Option.{option_map_or}
use Rattle.std.proofs.lemmas.List.{map-append}
use Rattle.std.proofs.lemmas.Option.{none-some}
use Rattle.soc_edge.specs.Tree.{TreeTold, OnlyLooks}
use Rattle.soc_report.specs.declared.error.KitError.{KitError}
use Rattle.soc_report.specs.declared.error.KitError.TheVariants.{BadLine, BadPattern, MakerFault, TreeFault, Missing, NoMemory}
use Rattle.soc_report.specs.Texts.{SymbolText, KitTexts, Files, text_at, symbols_list, name_of, paths_in, missing_at, missing_in, symbol_text, texts_in, IsReadFrom}
use Rattle.soc_report.specs.inner.Reading.{IsThere, AreThere, RefusesPaths, RefusesSymbol, RefusesSymbols}

pub looks_on : (a b c : TreeTold) → OnlyLooks a b → OnlyLooks b c → OnlyLooks a c
looks_on a b c first second = record {
  files_stay = second.files_stay ∙ first.files_stay;
  faults_never_fall = omega (arith, first.faults_never_fall, second.faults_never_fall);
}

-- what is said of the files of a tree that was only looked at
pub carried : (P : Files → Type 0) (a b : TreeTold) → OnlyLooks a b → IfSome b.files P → IfSome a.files P
carried P a b looks holds = subst (λ (o : Option Files). IfSome o P) looks.files_stay holds

pub both : (P Q R : Files → Type 0) (told : Option Files) → ((files : Files) → P files → Q files → R files) → IfSome told P → IfSome told Q → IfSome told R
both P Q R None join p q = tt
both P Q R (Some files) join p q = join files p q

pub one : (P Q : Files → Type 0) (told : Option Files) → ((files : Files) → P files → Q files) → IfSome told P → IfSome told Q
one P Q None step p = tt
one P Q (Some files) step p = step files p

-- ---- symbol files

abbrev lacks : Files → List ℕ → Bool
lacks files path = is_none (files (name_of path))

none_missing : (files : Files) (paths : List (List ℕ)) (path content : List ℕ) → missing_at files paths ≡ None → files (name_of path) ≡ Some content → missing_at files (paths ++ path ∷ []) ≡ None
none_missing files [] path content none there = ap (λ (o : Option (List ℕ)). option_map name_of (cond (is_none o) (Some path) None)) there
none_missing files (p ∷ ps) path content none there =
    elim (lacks files p) as (λ b. option_map name_of (cond b (Some p) (find (lacks files) ps)) ≡ None → option_map name_of (cond b (Some p) (find (lacks files) (ps ++ path ∷ []))) ≡ None) [
      | true ↦ λ h. absurd (none-some _ (sym h))
      | false ↦ λ h. none_missing files ps path content h there
    ] none

pub there_more : (files : Files) (paths : List (List ℕ)) (symbols : List SymbolText) (path : List ℕ) (s : SymbolText) → AreThere files paths symbols → IsThere files path s
    → AreThere files (paths ++ path ∷ []) (symbols ++ s ∷ [])
there_more files paths symbols path s are is =
    let own : s ≡ symbol_text files path =
    ap (λ (p : List ℕ). record { path = p; content = s.content }) is.same_path ∙ ap (λ (o : Option (List ℕ)). record { path = path; content = unwrap_or o [] }) (sym is.content) in
    record {
      all = none_missing files paths path s.content are.all is.content;
      texts =
          ap (λ (ss : List SymbolText). ss ++ s ∷ []) are.texts ∙ ap (λ (t : SymbolText). map (symbol_text files) paths ++ t ∷ []) own
          ∙ sym (map-append (symbol_text files) paths (path ∷ []));
    }

missing_first : (files : Files) (paths : List (List ℕ)) (path : List ℕ) (more : List (List ℕ)) → missing_at files paths ≡ None → files (name_of path) ≡ None → missing_at files (paths ++ path ∷ more) ≡ Some (name_of path)
missing_first files [] path more none gone = ap (λ (o : Option (List ℕ)). option_map name_of (cond (is_none o) (Some path) (find (lacks files) more))) gone
missing_first files (p ∷ ps) path more none gone =
    elim (lacks files p) as (λ b. option_map name_of (cond b (Some p) (find (lacks files) ps)) ≡ None → option_map name_of (cond b (Some p) (find (lacks files) (ps ++ path ∷ more))) ≡ Some (name_of path)) [
      | true ↦ λ h. absurd (none-some _ (sym h))
      | false ↦ λ h. missing_first files ps path more h gone
    ] none

pub refused_more : (files : Files) (paths whole : List (List ℕ)) (symbols : List SymbolText) (path : List ℕ) (more : List (List ℕ)) (error : KitError) → whole ≡ paths ++ path ∷ more
    → AreThere files paths symbols → RefusesSymbol error files path → RefusesSymbols error files whole
refused_more files paths whole symbols path more (Missing name) is are refuses =
    ap (missing_at files) is ∙ missing_first files paths path more are.all refuses.1 ∙ ap Some (sym refuses.0)
refused_more files paths whole symbols path more NoMemory is are refuses = tt
refused_more files paths whole symbols path more TreeFault is are refuses = tt
refused_more files paths whole symbols path more MakerFault is are refuses = absurd refuses
refused_more files paths whole symbols path more (BadLine name line) is are refuses = absurd refuses
refused_more files paths whole symbols path more (BadPattern list line) is are refuses = absurd refuses

-- ---- the whole

pub read_no_list : (error : KitError) (files : Files) (list : List ℕ) → list ≡ text_at files symbols_list → RefusesPaths error list → IsReadFrom (Err error) files
read_no_list (Missing name) files list is refuses =
    ap (λ (l : List ℕ). option_map_or (missing_at files) (paths_in l) (Some symbols_list)) (sym is)
    ∙ ap (λ (o : Option (List (List ℕ))). option_map_or (missing_at files) o (Some symbols_list)) refuses.1 ∙ ap Some (sym refuses.0)
read_no_list NoMemory files list is refuses = tt
read_no_list TreeFault files list is refuses = tt
read_no_list MakerFault files list is refuses = refuses
read_no_list (BadLine name line) files list is refuses = refuses
read_no_list (BadPattern name line) files list is refuses = refuses

missing_is : (files : Files) (list : List ℕ) (paths : List (List ℕ)) → list ≡ text_at files symbols_list → paths_in list ≡ Some paths → missing_in files ≡ missing_at files paths
missing_is files list paths is reads =
    ap (λ (l : List ℕ). option_map_or (missing_at files) (paths_in l) (Some symbols_list)) (sym is)
    ∙ ap (λ (o : Option (List (List ℕ))). option_map_or (missing_at files) o (Some symbols_list)) reads

pub read_refused : (error : KitError) (files : Files) (list : List ℕ) (paths : List (List ℕ)) → list ≡ text_at files symbols_list → paths_in list ≡ Some paths → RefusesSymbols error files paths → IsReadFrom (Err error) files
read_refused (Missing name) files list paths is reads refuses = missing_is files list paths is reads ∙ refuses
read_refused NoMemory files list paths is reads refuses = tt
read_refused TreeFault files list paths is reads refuses = tt
read_refused MakerFault files list paths is reads refuses = refuses
read_refused (BadLine name line) files list paths is reads refuses = refuses
read_refused (BadPattern pattern_list line) files list paths is reads refuses = refuses

pub read_all : (files : Files) (texts : KitTexts) (list : List ℕ) (paths : List (List ℕ)) → texts.irrelevant ≡ text_at files (codes "irrelevant.txt") → texts.prefix ≡ text_at files (codes "prefix.txt")
    → texts.sentinel ≡ text_at files (codes "sentinel.txt") → list ≡ text_at files symbols_list → paths_in list ≡ Some paths → AreThere files paths texts.symbols → IsReadFrom (Ok texts) files
read_all files texts list paths irrelevant prefix sentinel is reads are =
    let symbols : texts.symbols ≡ (texts_in files).symbols =
    are.texts ∙ ap (λ (o : Option (List (List ℕ))). map (symbol_text files) (unwrap_or o [])) (sym reads ∙ ap paths_in is) in
    let a : texts ≡ record texts { irrelevant = (texts_in files).irrelevant } = ap (λ (t : List ℕ). record texts { irrelevant = t }) irrelevant in
    let b = ap (λ (t : List ℕ). record texts { irrelevant = (texts_in files).irrelevant; prefix = t }) prefix in
    let d = ap (λ (t : List ℕ). record texts { irrelevant = (texts_in files).irrelevant; prefix = (texts_in files).prefix; sentinel = t }) sentinel in
    let e = ap (λ (ss : List SymbolText). record { irrelevant = (texts_in files).irrelevant; prefix = (texts_in files).prefix; sentinel = (texts_in files).sentinel; symbols = ss }) symbols in
    (missing_is files list paths is reads ∙ are.all, a ∙ b ∙ d ∙ e)

-- the same of a tree that may not tell its files
pub read_told : (told : Option Files) (texts : KitTexts) (list : List ℕ) (paths : List (List ℕ)) → IfSome told (λ files. texts.irrelevant ≡ text_at files (codes "irrelevant.txt"))
    → IfSome told (λ files. texts.prefix ≡ text_at files (codes "prefix.txt")) → IfSome told (λ files. texts.sentinel ≡ text_at files (codes "sentinel.txt"))
    → IfSome told (λ files. list ≡ text_at files symbols_list) → paths_in list ≡ Some paths → IfSome told (λ files. AreThere files paths texts.symbols) → IfSome told (IsReadFrom (Ok texts))
read_told None texts list paths irrelevant prefix sentinel is reads are = tt
read_told (Some files) texts list paths irrelevant prefix sentinel is reads are = read_all files texts list paths irrelevant prefix sentinel is reads are
