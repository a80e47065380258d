-- Reading a kit, and looking up its symbol files.
use Rattle.std.proofs.Common.{◌≡◌, ℕ, ◌+◌, ◌<◌, ◌≤◌, List, ◌++◌, length, codes, Option, Some, None, Ok, option_map, sym, ap, ◌∙◌, subst, arith, inl, inr}
use Rattle.std.specs.Prelude.{slice_get, slice_index}
use Rattle.std.specs.Option.{option_or}
use Rattle.std.proofs.lemmas.Bool.{cases_lt}
use Rattle.std.proofs.lemmas.List.{length-append}
use Rattle.soc_base.proofs.Folk.{some_same}
use Rattle.soc_siglists.specs.declared.error.ListName.{ListName}
use Rattle.soc_siglists.specs.Reading.{first_bad}
use Rattle.soc_symfile.specs.Path.{path_of, stem_of}
use Rattle.soc_symfile.specs.Records.{Records}
use Rattle.soc_walk.specs.Process.{NoneLonger}
use Rattle.soc_report.specs.declared.index.Index.{Index}
use Rattle.soc_report.specs.Kits.{IsKit, bad_pattern, first_bad_symbols, kit_of, symbols_in}
use Rattle.soc_report.specs.Texts.{KitTexts, SymbolText}
use Rattle.soc_report.specs.inner.Index.{IsIndex, LeadsTo, place_or}
use Rattle.soc_report.specs.inner.Kits.{HasNoSlash, HaveRecords, LeadsOn, ids_of}
use Rattle.soc_report.proofs.LookupLemmas.{found_nowhere, leads_by_chain, no_bad}

-- ---- reading

pub all_read : (kit texts : KitTexts) (records : List Records) → first_bad texts.irrelevant texts.prefix texts.sentinel ≡ None → HaveRecords texts.symbols records → kit ≡ texts → IsKit (Ok kit) texts
all_read kit texts records none have same =
    (ap (λ (o : Option (ListName × ℕ)). option_or (option_map bad_pattern o) (first_bad_symbols texts.symbols)) none ∙ no_bad texts.symbols records have, same)

-- ---- the index

pub kit_first : (symbols : List SymbolText) (index : Index) (id : List ℕ) (place : ℕ) → IsIndex (ids_of symbols) index → place ≡ place_or (length index.next.items) index.first id → HasNoSlash id
    → LeadsOn symbols id 0 place
kit_first symbols index id place is first plain =
    let goes : place_or (length (ids_of symbols)) index.first id ≡ place = ap (λ (n : ℕ). place_or n index.first id) (sym is.count) ∙ sym first in
    leads_by_chain symbols id 0 place (subst (LeadsTo (ids_of symbols) id 0) goes (is.first id)) plain

pub kit_next : (symbols : List SymbolText) (index : Index) (id : List ℕ) (place next : ℕ) → IsIndex (ids_of symbols) index → slice_get (ids_of symbols) place ≡ Some id → next ≡ slice_index index.next.items place
    → HasNoSlash id → LeadsOn symbols id (place + 1) next
kit_next symbols index id place next is here goes plain =
    leads_by_chain symbols id (place + 1) next (subst (LeadsTo (ids_of symbols) id (place + 1)) (sym goes) (is.next place id (omega arith) here)) plain

-- ---- the longest path

pub up_to_next : (symbols : List SymbolText) (place longest most : ℕ) (path : List ℕ)
    → ((other : ℕ) (symbol : SymbolText) → other < place → slice_get symbols other ≡ Some symbol → length symbol.path ≤ longest)
    → option_map (λ s. s.path) (slice_get symbols place) ≡ Some path → longest ≤ most → length path ≤ most
    → (other : ℕ) (symbol : SymbolText) → other < place + 1 → slice_get symbols other ≡ Some symbol → length symbol.path ≤ most
up_to_next symbols place longest most path before here up_to last other symbol below at = elim (cases_lt other place) [
  | inl less ↦ omega (arith, before other symbol less at, up_to)
  | inr more ↦
      let same : other ≡ place = omega (arith, below, more) in
      let path_of_other : option_map (λ s. s.path) (slice_get symbols other) ≡ Some symbol.path = ap (option_map (λ s. s.path)) at in
      let path_is : symbol.path ≡ path = some_same _ _ (sym path_of_other ∙ ap (λ n. option_map (λ s. s.path) (slice_get symbols n)) same ∙ here) in
      omega (arith, ap length path_is, last)
]

pub none_longer : (texts : KitTexts) (records : List Records) (most : ℕ) → HaveRecords texts.symbols records
    → ((place : ℕ) (symbol : SymbolText) → slice_get texts.symbols place ≡ Some symbol → length symbol.path ≤ most) → NoneLonger (symbols_in (kit_of texts)) most
none_longer texts records most have up_to = λ file id longer.
    found_nowhere (path_of file id) texts.symbols records have
    (λ place symbol at same. absurd (omega (arith, longer, up_to place symbol at, ap length same, length-append file (codes "/" ++ (id ++ (codes "/" ++ (stem_of file ++ codes ".sym")))))))
