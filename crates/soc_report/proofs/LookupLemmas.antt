-- Looking up symbol files.
use Rattle.std.proofs.Common.{Bor, ◌≡◌, ◌≢◌, ℕ, zero, suc, ◌<◌, ◌≤◌, Bool, true, false, cond, List, [], ◌∷◌, ◌++◌, length, map, get_or, Option, None, Some, option_map, Result, Ok, refl, sym, ap, ◌∙◌, arith, subst}
use Rattle.std.specs.Prelude.{IfSome, bytes_eq, find, filter_map, is_some, nat_lt, option_copied, slice_get}
use Rattle.std.specs.List.{cons_option}
use Rattle.std.specs.Option.{option_or}
use Rattle.std.specs.Result.{result_ok, result_err}
use Rattle.std.proofs.lemmas.Bool.Decides.{nat_tests}
use Rattle.std.proofs.lemmas.Option.{none-some, slice_get-map, slice_get_past, slice_get_read}
use Rattle.std.proofs.lemmas.Slice.Eq.{bytes_eq-Decides}
use Rattle.soc_base.proofs.Folk.{some_same}
use Rattle.soc_symfile.specs.Records.{Records, records_of}
use Rattle.soc_report.specs.declared.error.KitError.{KitError}
use Rattle.soc_report.specs.declared.error.KitError.TheVariants.{BadLine, BadPattern, MakerFault, TreeFault, Missing, NoMemory}
use Rattle.soc_report.specs.declared.texts.SymbolFile.{SymbolFile}
use Rattle.soc_report.specs.Texts.{SymbolText, name_of}
use Rattle.soc_report.specs.Kits.{SymbolEntry, symbol_entry, bad_symbols, first_bad_symbols}
use Rattle.soc_report.specs.inner.Index.{LeadsTo}
use Rattle.soc_report.specs.inner.Kits.{HaveRecords, OnlyBadLine, HasNoSlash, LeadsOn, IsFirst, IsNowhere, ids_of}
use Rattle.soc_report.specs.inner.Parts.{middle_of}
use Rattle.soc_report.specs.inner.Reading.{symbol_view}
use Rattle.soc_report.proofs.PartLemmas.{middle_is}

-- ---- records

pub records_length : (symbols : List SymbolText) (records : List Records) → HaveRecords symbols records → length records ≡ length symbols
records_length [] [] have = refl
records_length [] (r ∷ rs) have = absurd have
records_length (s ∷ ss) [] have = absurd have
records_length (s ∷ ss) (r ∷ rs) have = ap suc (records_length ss rs have.1)

-- one more symbol file was read
pub have_more : (symbols : List SymbolText) (records : List Records) (s : SymbolText) (r : Records) → HaveRecords symbols records → records_of s.content ≡ Ok r → HaveRecords (symbols ++ s ∷ []) (records ++ r ∷ [])
have_more [] [] s r have is = (is, tt)
have_more [] (x ∷ xs) s r have is = absurd have
have_more (y ∷ ys) [] s r have is = absurd have
have_more (y ∷ ys) (x ∷ xs) s r have is = (have.0, have_more ys xs s r have.1 is)

none_bad : (s : SymbolText) (r : Records) → records_of s.content ≡ Ok r → bad_symbols s ≡ None
none_bad s r is = ap (λ (o : Result Records ℕ). option_map (λ line. BadLine (name_of s.path) line) (result_err o)) is

pub no_bad : (symbols : List SymbolText) (records : List Records) → HaveRecords symbols records → first_bad_symbols symbols ≡ None
no_bad [] records have = refl
no_bad (s ∷ ss) [] have = absurd have
no_bad (s ∷ ss) (r ∷ rs) have = ap (λ (o : Option KitError). option_or o (first_bad_symbols ss)) (none_bad s r have.0) ∙ no_bad ss rs have.1

-- the first bad one behind good ones
bad_behind : (symbols : List SymbolText) (records : List Records) (s : SymbolText) (more : List SymbolText) (error : KitError) → HaveRecords symbols records → bad_symbols s ≡ Some error → first_bad_symbols (symbols ++ s ∷ more) ≡ Some error
bad_behind [] records s more error have bad = ap (λ (o : Option KitError). option_or o (first_bad_symbols more)) bad
bad_behind (x ∷ xs) [] s more error have bad = absurd have
bad_behind (x ∷ xs) (r ∷ rs) s more error have bad =
    ap (λ (o : Option KitError). option_or o (first_bad_symbols (xs ++ s ∷ more))) (none_bad x r have.0) ∙ bad_behind xs rs s more error have.1 bad

pub refused_behind : (symbols : List SymbolText) (records : List Records) (s : SymbolText) (more whole : List SymbolText) (error : KitError) → whole ≡ symbols ++ s ∷ more → HaveRecords symbols records
    → OnlyBadLine error (bad_symbols s) → OnlyBadLine error (first_bad_symbols whole)
refused_behind symbols records s more whole (BadLine name line) is have bad = ap first_bad_symbols is ∙ bad_behind symbols records s more (BadLine name line) have bad
refused_behind symbols records s more whole NoMemory is have bad = tt
refused_behind symbols records s more whole TreeFault is have bad = absurd bad
refused_behind symbols records s more whole MakerFault is have bad = absurd bad
refused_behind symbols records s more whole (Missing name) is have bad = absurd bad
refused_behind symbols records s more whole (BadPattern list line) is have bad = absurd bad

-- ---- by path

abbrev found_in : List ℕ → List SymbolText → Option Records
found_in target symbols = option_map (λ e. e.records) (find (λ e. bytes_eq e.path target) (filter_map symbol_entry symbols))

entry_is : (s : SymbolText) (r : Records) → records_of s.content ≡ Ok r → symbol_entry s ≡ Some (record { path = s.path; records = r })
entry_is s r is = ap (λ (o : Result Records ℕ). option_map (λ records. record { path = s.path; records = records }) (result_ok o)) is

no_match : (xs ys : List ℕ) → xs ≢ ys → bytes_eq xs ys ≡ false
no_match xs ys differ = elim (bytes_eq xs ys) as (λ b. bytes_eq xs ys ≡ b → bytes_eq xs ys ≡ false)
    [ true ↦ λ e. absurd (differ ((bytes_eq-Decides xs ys).0 e)) | false ↦ λ e. e ] refl

-- a first one that has the path, and that hasn't
first_has : (target : List ℕ) (s : SymbolText) (ss : List SymbolText) (r : Records) → records_of s.content ≡ Ok r → s.path ≡ target → found_in target (s ∷ ss) ≡ Some r
first_has target s ss r is same =
    ap (λ (o : Option SymbolEntry). option_map (λ e. e.records) (find (λ e. bytes_eq e.path target) (cons_option o (filter_map symbol_entry ss)))) (entry_is s r is)
    ∙ ap (λ (b : Bool). option_map (λ e. e.records) (cond b (Some (record { path = s.path; records = r })) (find (λ e. bytes_eq e.path target) (filter_map symbol_entry ss)))) ((bytes_eq-Decides s.path target).1 same)

first_lacks : (target : List ℕ) (s : SymbolText) (ss : List SymbolText) (r : Records) → records_of s.content ≡ Ok r → s.path ≢ target → found_in target (s ∷ ss) ≡ found_in target ss
first_lacks target s ss r is differ =
    ap (λ (o : Option SymbolEntry). option_map (λ e. e.records) (find (λ e. bytes_eq e.path target) (cons_option o (filter_map symbol_entry ss)))) (entry_is s r is)
    ∙ ap (λ (b : Bool). option_map (λ e. e.records) (cond b (Some (record { path = s.path; records = r })) (find (λ e. bytes_eq e.path target) (filter_map symbol_entry ss)))) (no_match s.path target differ)

pub found_nowhere : (target : List ℕ) (symbols : List SymbolText) (records : List Records) → HaveRecords symbols records → IsNowhere symbols target → found_in target symbols ≡ None
found_nowhere target [] records have nowhere = refl
found_nowhere target (s ∷ ss) [] have nowhere = absurd have
found_nowhere target (s ∷ ss) (r ∷ rs) have nowhere =
    first_lacks target s ss r have.0 (nowhere 0 s refl) ∙ found_nowhere target ss rs have.1 (λ other symbol at. nowhere (suc other) symbol at)

found_at : (target : List ℕ) (symbols : List SymbolText) (records : List Records) (place : ℕ) (s : SymbolText) (r : Records) → HaveRecords symbols records
    → ((other : ℕ) (symbol : SymbolText) → other < place → slice_get symbols other ≡ Some symbol → symbol.path ≢ target)
    → slice_get symbols place ≡ Some s → s.path ≡ target → slice_get records place ≡ Some r → found_in target symbols ≡ Some r
found_at target [] records place s r have before at same read = absurd (none-some _ at)
found_at target (x ∷ xs) [] place s r have before at same read = absurd have
found_at target (x ∷ xs) (y ∷ ys) zero s r have before at same read =
    first_has target x xs y have.0 (ap (λ (t : SymbolText). t.path) (some_same _ _ at) ∙ same) ∙ read
found_at target (x ∷ xs) (y ∷ ys) (suc place) s r have before at same read =
    first_lacks target x xs y have.0 (before 0 x (omega arith) refl)
    ∙ found_at target xs ys place s r have.1 (λ other symbol less there. before (suc other) symbol (omega (arith, less)) there) at same read

-- each symbol file has its records at its own place
at_place : (symbols : List SymbolText) (records : List Records) (place : ℕ) (s : SymbolText) → HaveRecords symbols records → slice_get symbols place ≡ Some s → (r : Records) × (slice_get records place ≡ Some r)
at_place [] records place s have at = absurd (none-some _ at)
at_place (x ∷ xs) [] place s have at = absurd have
at_place (x ∷ xs) (y ∷ ys) zero s have at = (y, refl)
at_place (x ∷ xs) (y ∷ ys) (suc place) s have at = at_place xs ys place s have.1 at

pub found_first : (target : List ℕ) (symbols : List SymbolText) (records : List Records) (place : ℕ) → HaveRecords symbols records → IsFirst symbols target place → slice_get records place ≡ found_in target symbols
found_first target symbols records place have is =
    let some = at_place symbols records place is.symbol have is.at in
    some.1 ∙ sym (found_at target symbols records place is.symbol some.0 have is.before is.at is.same some.1)

-- what is read at a place
past_end : (i n : ℕ) → false ≡ nat_lt i n → n ≤ i
past_end i n test = grind (arith, nat_tests)

inside : (i n : ℕ) → true ≡ nat_lt i n → i < n
inside i n test = grind (arith, nat_tests)

pub got : {A : Type 0} (xs : List A) (i : ℕ) (r : Option (Bor A)) → is_some r ≡ nat_lt i (length xs) → IfSome r (λ x. x.now ≡ get_or xs i x.now) → option_copied r ≡ slice_get xs i
got xs i None some read = sym (slice_get_past xs i (past_end i (length xs) some))
got xs i (Some x) some read = sym (slice_get_read xs (length xs) i x.now refl (inside i (length xs) some) read)

-- ---- by id

ids_at : (symbols : List SymbolText) (place : ℕ) (s : SymbolText) → slice_get symbols place ≡ Some s → slice_get (ids_of symbols) place ≡ Some (middle_of s.path)
ids_at [] place s at = absurd (none-some _ at)
ids_at (x ∷ xs) zero s at = ap (λ (t : SymbolText). Some (middle_of t.path)) (some_same _ _ at)
ids_at (x ∷ xs) (suc place) s at = ids_at xs place s at

-- the id of a symbol file in the program's list
pub id_here : (files : List SymbolFile) (place : ℕ) (file : SymbolFile) (id : List ℕ) → place < length files → file ≡ get_or files place file → id ≡ middle_of file.path
    → slice_get (ids_of (map symbol_view files)) place ≡ Some id
id_here files place file id inside is is_id =
    let there : slice_get files place ≡ Some file = slice_get_read files (length files) place file refl inside is in
    ids_at (map symbol_view files) place (symbol_view file) (slice_get-map symbol_view files place ∙ ap (option_map symbol_view) there) ∙ ap Some (sym is_id)

ids_length : (symbols : List SymbolText) → length (ids_of symbols) ≡ length symbols
ids_length [] = refl
ids_length (s ∷ ss) = ap suc (ids_length ss)

-- a chain leads past no path of its id
pub leads_by_chain : (symbols : List SymbolText) (id : List ℕ) (start place : ℕ) → LeadsTo (ids_of symbols) id start place → HasNoSlash id → LeadsOn symbols id start place
leads_by_chain symbols id start place leads plain = record {
  within = leads.within;
  passed = λ other symbol file after before at same.
      leads.skipped other after before (ids_at symbols other symbol at ∙ ap Some (middle_is symbol.path file id same plain));
  on_chain = λ _ inside. leads.found (subst (λ (n : ℕ). place < n) (sym (ids_length symbols)) inside);
}
