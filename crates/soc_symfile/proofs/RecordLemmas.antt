-- The records when one line more is said.
use Rattle.std.proofs.Common.{◌≡◌, ℕ, ◌<◌, Bool, true, false, List, [], ◌∷◌, ◌++◌, length, map, Option, Some, None, refl, sym, ◌∙◌, ap, arith, append-nil, suc}
use Rattle.std.specs.Prelude.{filter_map, is_none, not, ◌||◌, nat_lt, Ok}
use Rattle.std.specs.List.{list_any}
use Rattle.std.proofs.lemmas.List.Elements.{filter_map-append}
use Rattle.std.proofs.lemmas.Bool.Decides.{nat_tests}
use Rattle.soc_symfile.specs.declared.entries.SourceLine.{SourceLine}
use Rattle.soc_symfile.specs.Line.{ExtentEntry, LabelEntry, FileEntry, LineEntry, Other, File, Function, Source, Public, Init, Delta}
use Rattle.soc_symfile.specs.Records.{Records, records_in, owners_in, onto_owner, is_said, is_bad, function_in, source_in, public_in, file_in, init_in, delta_in}
use Rattle.soc_symfile.specs.inner.Tables.{Adds, onto_last, with_functions, with_publics, with_files, with_inits}
use Rattle.soc_symfile.proofs.OwnerLemmas.{groups, groups_are, groups-owner, groups-other, groups-part, first_parts}

none_more : {A Y : Type 0} (h : A → Option Y) (said : List A) (line : A) → h line ≡ None → filter_map h (said ++ line ∷ []) ≡ filter_map h said
none_more h said line none = filter_map-append h said (line ∷ []) ∙ rw none (append-nil (filter_map h said))

one_more : {A Y : Type 0} (h : A → Option Y) (said : List A) (line : A) (y : Y) → h line ≡ Some y → filter_map h (said ++ line ∷ []) ≡ filter_map h said ++ y ∷ []
one_more h said line y some = filter_map-append h said (line ∷ []) ∙ rw some refl

owners_same : {A O P : Type 0} (owner : A → Option O) (part : A → Option P) (said : List A) (line : A) → owner line ≡ None → part line ≡ None
    → owners_in owner part (said ++ line ∷ []) ≡ owners_in owner part said
owners_same owner part said line a b = groups_are owner part (said ++ line ∷ []) ∙ groups-other owner part line a b said ∙ sym (groups_are owner part said)

owner_more : {A O P : Type 0} (owner : A → Option O) (part : A → Option P) (said : List A) (line : A) (o : O) → owner line ≡ Some o
    → owners_in owner part (said ++ line ∷ []) ≡ owners_in owner part said ++ (o, []) ∷ []
owner_more {A} {O} {P} owner part said line o is =
    groups_are owner part (said ++ line ∷ []) ∙ groups-owner owner part line o is said ∙ ap (λ (gs : List (O × List P)). gs ++ (o, []) ∷ []) (sym (groups_are owner part said))

part_more : {A O P : Type 0} (owner : A → Option O) (part : A → Option P) (said : List A) (line : A) (x : P) → owner line ≡ None → part line ≡ Some x
    → owners_in owner part (said ++ line ∷ []) ≡ onto_last x (owners_in owner part said)
part_more owner part said line x a is =
    groups_are owner part (said ++ line ∷ []) ∙ groups-part owner part line x a is said ∙ ap (onto_last x) (sym (groups_are owner part said))

-- an owner was said exactly where there are owners
said_step : {O P : Type 0} (o : Option O) (parts : List P) (gs : List (O × List P)) → (not (is_none o) || nat_lt 0 (length gs)) ≡ nat_lt 0 (length (onto_owner o parts gs))
said_step None parts gs = refl
said_step (Some o) parts gs = let some : 0 < suc (length gs) = omega arith in grind (arith, nat_tests)

said_groups : {O P : Type 0} (owner : LineEntry → Option O) (part : LineEntry → Option P) (said : List LineEntry)
    → list_any (is_said owner) (map (λ (line : LineEntry). Some line) said) ≡ nat_lt 0 (length (groups owner part said))
said_groups owner part [] = refl
said_groups owner part (line ∷ said) =
    ap (λ b. not (is_none (owner line)) || b) (said_groups owner part said) ∙ said_step (owner line) (first_parts owner part said) (groups owner part said)

pub said_owners : {O P : Type 0} (owner : LineEntry → Option O) (part : LineEntry → Option P) (said : List LineEntry)
    → list_any (is_said owner) (map (λ (line : LineEntry). Some line) said) ≡ nat_lt 0 (length (owners_in owner part said))
said_owners owner part said = said_groups owner part said ∙ ap (λ gs. nat_lt 0 (length gs)) (sym (groups_are owner part said))

pub adds-other : (number : ℕ) (old : Records) (said : List LineEntry) → old ≡ records_in said → Adds (Ok tt) said Other number old
adds-other number old said is = (refl, rw (is, owners_same function_in source_in said Other refl refl, none_more public_in said Other refl, none_more file_in said Other refl, owners_same init_in delta_in said Other refl refl) refl)

pub adds-file : (number : ℕ) (old new : Records) (file : FileEntry) → new ≡ with_files old (old.files ++ file ∷ []) → (said : List LineEntry) → old ≡ records_in said → Adds (Ok tt) said (File file) number new
adds-file number old new file made said is =
    (refl, rw (made, is, owners_same function_in source_in said (File file) refl refl, none_more public_in said (File file) refl, one_more file_in said (File file) file refl, owners_same init_in delta_in said (File file) refl refl) refl)

pub adds-public : (number : ℕ) (old new : Records) (label : LabelEntry) → new ≡ with_publics old (old.publics ++ label ∷ []) → (said : List LineEntry) → old ≡ records_in said → Adds (Ok tt) said (Public label) number new
adds-public number old new label made said is =
    (refl, rw (made, is, owners_same function_in source_in said (Public label) refl refl, one_more public_in said (Public label) label refl, none_more file_in said (Public label) refl, owners_same init_in delta_in said (Public label) refl refl) refl)

pub adds-function : (number : ℕ) (old new : Records) (extent : ExtentEntry) → new ≡ with_functions old (old.functions ++ (extent, []) ∷ []) → (said : List LineEntry) → old ≡ records_in said → Adds (Ok tt) said (Function extent) number new
adds-function number old new extent made said is =
    (refl, rw (made, is, owner_more function_in source_in said (Function extent) extent refl, none_more public_in said (Function extent) refl, none_more file_in said (Function extent) refl, owners_same init_in delta_in said (Function extent) refl refl) refl)

pub adds-init : (number : ℕ) (old new : Records) (extent : ExtentEntry) → new ≡ with_inits old (old.inits ++ (extent, []) ∷ []) → (said : List LineEntry) → old ≡ records_in said → Adds (Ok tt) said (Init extent) number new
adds-init number old new extent made said is =
    (refl, rw (made, is, owners_same function_in source_in said (Init extent) refl refl, none_more public_in said (Init extent) refl, none_more file_in said (Init extent) refl, owner_more init_in delta_in said (Init extent) extent refl) refl)

lt_test : (n : ℕ) → 0 < n → nat_lt 0 n ≡ true
lt_test n some = grind (arith, nat_tests)

pub adds-source : (number : ℕ) (old new : Records) (line : SourceLine) → 0 < length old.functions → new ≡ with_functions old (onto_last line old.functions) → (said : List LineEntry) → old ≡ records_in said → Adds (Ok tt) said (Source line) number new
adds-source number old new line some made said is =
    let owner : nat_lt 0 (length (owners_in function_in source_in said)) ≡ true = lt_test _ (rw is at some) in (
      ap not (said_owners function_in source_in said ∙ owner),
      rw (made, is, part_more function_in source_in said (Source line) line refl refl, none_more public_in said (Source line) refl, none_more file_in said (Source line) refl, owners_same init_in delta_in said (Source line) refl refl) refl,
    )

pub adds-delta : (number : ℕ) (old new : Records) (label : LabelEntry) → 0 < length old.inits → new ≡ with_inits old (onto_last label old.inits) → (said : List LineEntry) → old ≡ records_in said → Adds (Ok tt) said (Delta label) number new
adds-delta number old new label some made said is =
    let owner : nat_lt 0 (length (owners_in init_in delta_in said)) ≡ true = lt_test _ (rw is at some) in (
      ap not (said_owners init_in delta_in said ∙ owner),
      rw (made, is, owners_same function_in source_in said (Delta label) refl refl, none_more public_in said (Delta label) refl, none_more file_in said (Delta label) refl, part_more init_in delta_in said (Delta label) label refl refl) refl,
    )

-- a record that belongs to none
pub lone-source : (number : ℕ) (old : Records) (line : SourceLine) (any : Bool) → any ≡ nat_lt 0 (length old.functions) → any ≡ false → (said : List LineEntry) → old ≡ records_in said
    → is_bad (map (λ (other : LineEntry). Some other) said) (Some (Source line)) ≡ true
lone-source number old line any test none said is =
    let owners : any ≡ nat_lt 0 (length (owners_in function_in source_in said)) = rw is at test in
    ap not (said_owners function_in source_in said ∙ sym owners ∙ none)

pub lone-delta : (number : ℕ) (old : Records) (label : LabelEntry) (any : Bool) → any ≡ nat_lt 0 (length old.inits) → any ≡ false → (said : List LineEntry) → old ≡ records_in said
    → is_bad (map (λ (other : LineEntry). Some other) said) (Some (Delta label)) ≡ true
lone-delta number old label any test none said is =
    let owners : any ≡ nat_lt 0 (length (owners_in init_in delta_in said)) = rw is at test in
    ap not (said_owners init_in delta_in said ∙ sym owners ∙ none)

pub some_there : (n : ℕ) → true ≡ nat_lt 0 n → 0 < n
some_there n test = grind (arith, nat_tests)
