-- What holds of the texts of rows: a text begins with one value, one cell and one list of cells at most.
use Rattle.std.proofs.Common.{◌≡◌, ◌≢◌, ℕ, suc, ◌+◌, ◌^◌, ◌<◌, ◌≤◌, true, false, List, [], ◌∷◌, ◌++◌, length, get_or, take, drop, refl, sym, ap, ◌∙◌, subst, arith, append_assoc, length-append, append-nil, slice_index, if◌then◌else◌}
use Rattle.std.proofs.lemmas.Grind.{flat_map-append}
use Rattle.std.specs.Int.{to_le_bytes, from_le_bytes, w32, w64}
use Rattle.std.specs.List.{AllByRecursion}
use Rattle.std.proofs.lemmas.Nat.{from_le_bytes-to_le_bytes_4, from_le_bytes-to_le_bytes_8}
use Rattle.std.proofs.lemmas.List.{take_all}
use Rattle.std.proofs.lemmas.List.Folds.{length-flat_map-take}
use Rattle.std.proofs.Math.Seq.{drop-append_seam, take-append_seam}
use Rattle.soc_base.specs.Cursor.{counted}
use Rattle.soc_raw.specs.Refusals.{Refuses}
use Rattle.soc_raw.specs.declared.record_error.RecordError.{RecordError}
use Rattle.soc_raw.specs.declared.record_error.RecordError.TheVariants.{BadRecord, NoMemory}
use Rattle.soc_schema.specs.declared.value.Value.{Value}
use Rattle.soc_schema.specs.declared.value.Value.TheVariants.{Text, Number, Flag}
use Rattle.soc_schema.specs.declared.value.Cell.{Cell}
use Rattle.soc_schema.specs.Rows.{IsCell, IsRow, RisesFrom, cell}
use Rattle.soc_schema.specs.RowText.{value_text, cell_text, cells_text, row_text, IsShort, IsValue, HasText}
use Rattle.soc_schema.specs.inner.Reading.{ReadsCell, ReadsCells}

-- fronts of one length are the same, and so is what follows them
append-split : {A : Type 0} (a b r s : List A) → length a ≡ length b → a ++ r ≡ b ++ s → (a ≡ b) × (r ≡ s)
append-split a b r s same e =
    let front : a ≡ b = sym (take-append_seam a r) ∙ (ap (λ l. take (length a) l) e ∙ (ap (λ n. take n (b ++ s)) same ∙ take-append_seam b s)) in
    let back : r ≡ s = sym (drop-append_seam a r) ∙ (ap (λ l. drop (length a) l) e ∙ (ap (λ n. drop n (b ++ s)) same ∙ drop-append_seam b s)) in
    (front, back)

cons-head : (x y : ℕ) (xs ys : List ℕ) → x ∷ xs ≡ y ∷ ys → x ≡ y
cons-head x y xs ys e = ap (λ l. slice_index l 0) e

apart : {C : Type 0} (x y : ℕ) (xs ys : List ℕ) → x ≢ y → x ∷ xs ≡ y ∷ ys → C
apart x y xs ys d e = absurd (d (cons-head x y xs ys e))

cons-tail : (x y : ℕ) (xs ys : List ℕ) → x ∷ xs ≡ y ∷ ys → xs ≡ ys
cons-tail x y xs ys e = ap (λ l. drop 1 l) e

pub le_32-split : (n m : ℕ) (r s : List ℕ) → n < 2 ^ 32 → m < 2 ^ 32 → to_le_bytes w32 n ++ r ≡ to_le_bytes w32 m ++ s → (n ≡ m) × (r ≡ s)
le_32-split n m r s hn hm e =
    let parts = append-split (to_le_bytes w32 n) (to_le_bytes w32 m) r s refl e in
    (sym (from_le_bytes-to_le_bytes_4 n hn) ∙ (ap (from_le_bytes w32) parts.0 ∙ from_le_bytes-to_le_bytes_4 m hm), parts.1)

le_64-split : (n m : ℕ) (r s : List ℕ) → n < 2 ^ 64 → m < 2 ^ 64 → to_le_bytes w64 n ++ r ≡ to_le_bytes w64 m ++ s → (n ≡ m) × (r ≡ s)
le_64-split n m r s hn hm e =
    let parts = append-split (to_le_bytes w64 n) (to_le_bytes w64 m) r s refl e in
    (sym (from_le_bytes-to_le_bytes_8 n hn) ∙ (ap (from_le_bytes w64) parts.0 ∙ from_le_bytes-to_le_bytes_8 m hm), parts.1)

-- a length in front of a text fixes how much of what follows is the text
counted-front : (n : ℕ) (bytes rest t s : List ℕ) → bytes ≡ to_le_bytes w32 n ++ rest → bytes ≡ counted t ++ s → n < 2 ^ 32 → length t < 2 ^ 32 → (n ≡ length t) × (rest ≡ t ++ s)
counted-front n bytes rest t s e h hn ht =
    le_32-split n (length t) rest (t ++ s) hn ht (sym e ∙ (h ∙ append_assoc (to_le_bytes w32 (length t)) t s))

counted-split : (a b r s : List ℕ) → length a < 2 ^ 32 → length b < 2 ^ 32 → counted a ++ r ≡ counted b ++ s → (a ≡ b) × (r ≡ s)
counted-split a b r s ha hb e =
    let front = counted-front (length a) (counted a ++ r) (a ++ r) b s (append_assoc (to_le_bytes w32 (length a)) a r) e ha hb in
    append-split a b r s front.0 front.1

-- values whose texts begin the same bytes are the same
pub value_text-split : (v w : Value) (r s : List ℕ) → IsValue v → IsValue w → value_text v ++ r ≡ value_text w ++ s → (v ≡ w) × (r ≡ s)
value_text-split (Text a) (Text b) r s hv hw e =
    let parts = counted-split a b r s hv.1 hw.1 (cons-tail 0 0 (counted a ++ r) (counted b ++ s) e) in
    (ap Text parts.0, parts.1)
value_text-split (Text a) (Number m) r s hv hw e = apart 0 1 (counted a ++ r) (to_le_bytes w64 m ++ s) (omega arith) e
value_text-split (Text a) (Flag c) r s hv hw e = apart 0 2 (counted a ++ r) ((if c then 1 else 0) ∷ s) (omega arith) e
value_text-split (Number n) (Text b) r s hv hw e = apart 1 0 (to_le_bytes w64 n ++ r) (counted b ++ s) (omega arith) e
value_text-split (Number n) (Number m) r s hv hw e =
    let parts = le_64-split n m r s hv hw (cons-tail 1 1 (to_le_bytes w64 n ++ r) (to_le_bytes w64 m ++ s) e) in
    (ap Number parts.0, parts.1)
value_text-split (Number n) (Flag c) r s hv hw e = apart 1 2 (to_le_bytes w64 n ++ r) ((if c then 1 else 0) ∷ s) (omega arith) e
value_text-split (Flag b) (Text a) r s hv hw e = apart 2 0 ((if b then 1 else 0) ∷ r) (counted a ++ s) (omega arith) e
value_text-split (Flag b) (Number m) r s hv hw e = apart 2 1 ((if b then 1 else 0) ∷ r) (to_le_bytes w64 m ++ s) (omega arith) e
value_text-split (Flag true) (Flag true) r s hv hw e = (refl, ap (λ l. drop 2 l) e)
value_text-split (Flag true) (Flag false) r s hv hw e = apart 1 0 r s (omega arith) (cons-tail 2 2 (1 ∷ r) (0 ∷ s) e)
value_text-split (Flag false) (Flag true) r s hv hw e = apart 0 1 r s (omega arith) (cons-tail 2 2 (0 ∷ r) (1 ∷ s) e)
value_text-split (Flag false) (Flag false) r s hv hw e = (refl, ap (λ l. drop 2 l) e)

pub cell_text-split : (c d : Cell) (r s : List ℕ) → IsValue c.value → IsValue d.value → cell_text c ++ r ≡ cell_text d ++ s → (c ≡ d) × (r ≡ s)
cell_text-split c d r s hc hd e =
    let fields : c.field ≡ d.field = cons-head _ _ _ _ e in
    let parts = value_text-split c.value d.value r s hc hd (cons-tail _ _ _ _ e) in
    (ap (λ f. cell f c.value) fields ∙ ap (λ v. cell d.field v) parts.0, parts.1)

-- where the fields of more cells may begin
abbrev pub next_low : ℕ → List Cell → ℕ
next_low low [] = low
next_low low (c ∷ cs) = next_low (c.field + 1) cs

pub RisesFrom-front : (low : ℕ) (a b : List Cell) → RisesFrom low (a ++ b) → RisesFrom (next_low low a) b
RisesFrom-front low [] b h = h
RisesFrom-front low (c ∷ cs) b h = RisesFrom-front (c.field + 1) cs b h.2

pub RisesFrom-push : (low : ℕ) (a : List Cell) (c : Cell) → RisesFrom low a → next_low low a ≤ c.field → IsCell c → RisesFrom low (a ++ c ∷ [])
RisesFrom-push low [] c h above good = (above, good, tt)
RisesFrom-push low (d ∷ ds) c h above good = (h.0, h.1, RisesFrom-push (d.field + 1) ds c h.2 above good)

pub next_low-push : (low : ℕ) (a : List Cell) (c : Cell) → next_low low (a ++ c ∷ []) ≡ c.field + 1
next_low-push low [] c = refl
next_low-push low (d ∷ ds) c = next_low-push (d.field + 1) ds c

abbrev AllValues : List Cell → Type 0
AllValues cells = AllByRecursion (λ c. IsValue c.value) cells

pub AllValues-push : (a : List Cell) (c : Cell) → AllByRecursion (λ c. IsValue c.value) a → IsValue c.value → AllByRecursion (λ c. IsValue c.value) (a ++ c ∷ [])
AllValues-push [] c h good = (good, tt)
AllValues-push (d ∷ ds) c h good = (h.0, AllValues-push ds c h.1 good)

AllValues-back : (a b : List Cell) → AllValues (a ++ b) → AllValues b
AllValues-back [] b h = h
AllValues-back (d ∷ ds) b h = AllValues-back ds b h.1

pub cells_text-push : (a : List Cell) (c : Cell) → cells_text (a ++ c ∷ []) ≡ cells_text a ++ cell_text c
cells_text-push a c = flat_map-append cell_text a (c ∷ []) ∙ ap (λ l. cells_text a ++ l) (append-nil (cell_text c))

-- cells so far and what follows them begin each list of cells with this text
pub ReadsCells-more : (low : ℕ) (a b : List Cell) (rest s : List ℕ) → AllByRecursion (λ c. IsValue c.value) a → AllByRecursion (λ c. IsValue c.value) b → length a ≤ length b → cells_text a ++ rest ≡ cells_text b ++ s → (more : List Cell) × (b ≡ a ++ more) × (rest ≡ cells_text more ++ s)
ReadsCells-more low [] b rest s ha hb fits e = (b, refl, e)
ReadsCells-more low (c ∷ cs) [] rest s ha hb fits e = absurd (omega arith)
ReadsCells-more low (c ∷ cs) (d ∷ ds) rest s ha hb fits e =
    let e' : cell_text c ++ (cells_text cs ++ rest) ≡ cell_text d ++ (cells_text ds ++ s) = sym (append_assoc (cell_text c) (cells_text cs) rest) ∙ (e ∙ append_assoc (cell_text d) (cells_text ds) s) in
    let parts = cell_text-split c d (cells_text cs ++ rest) (cells_text ds ++ s) ha.0 hb.0 e' in
    let later = ReadsCells-more low cs ds rest s ha.1 hb.1 (omega arith) parts.1 in
    (later.0, ap (λ x. x ∷ ds) (sym parts.0) ∙ ap (λ l. c ∷ l) later.1, later.2)

-- a row has at most as many cells as the table has fields
pub RisesFrom-few : (low : ℕ) (cells : List Cell) → RisesFrom low cells → low ≤ 36 → low + length cells ≤ 36
RisesFrom-few low [] h fits = omega arith
RisesFrom-few low (c ∷ cs) h fits =
    let first : low ≤ c.field = h.0 in
    let inside : c.field < 36 = h.1.in_table in
    let later : c.field + 1 + length cs ≤ 36 = RisesFrom-few (c.field + 1) cs h.2 (omega arith) in
    omega arith

pub IsRow-short : (cells : List Cell) → IsRow cells → length cells < 2 ^ 32
IsRow-short cells h = let few : 0 + length cells ≤ 36 = RisesFrom-few 0 cells h (omega arith) in omega arith

-- a list of cells read so far, and one more
pub ReadsCells-push : (i low : ℕ) (all rest left : List ℕ) (cells more : List Cell) (c : Cell) → ReadsCells 0 i all cells rest → low ≡ next_low 0 cells → ReadsCell low rest c left → more ≡ cells ++ c ∷ [] → ReadsCells 0 (i + 1) all more left
ReadsCells-push i low all rest left cells more c h at next pushed =
    let above : next_low 0 cells ≤ c.field = subst (λ n. n ≤ c.field) at next.above in
    record {
      rises = subst (RisesFrom 0) (sym pushed) (RisesFrom-push 0 cells c h.rises above next.of_table);
      sound = subst AllValues (sym pushed) (AllValues-push cells c h.sound next.sound);
      many = ap length pushed ∙ (length-append cells (c ∷ []) ∙ ap (λ n. n + 1) h.many);
      begins = h.begins ∙ (ap (λ l. cells_text cells ++ l) next.begins ∙ (sym (append_assoc (cells_text cells) (cell_text c) left) ∙ ap (λ l. l ++ left) (sym (ap cells_text pushed ∙ cells_text-push cells c))));
    }

no_more : (i n low : ℕ) (all rest : List ℕ) (cells other more : List Cell) (s : List ℕ) → other ≡ cells ++ more → rest ≡ cells_text more ++ s → low ≡ next_low 0 cells → length cells < length other → ((c : Cell) (s : List ℕ) → ¬ (ReadsCell low rest c s)) → ReadsCells 0 n all other s → ⊥
no_more i n low all rest cells other [] s e t at fewer bad o =
    let same : length other ≡ length cells = ap length (e ∙ append-nil cells) in
    omega arith
no_more i n low all rest cells other (m ∷ ms) s e t at fewer bad o =
    let rises = RisesFrom-front 0 cells (m ∷ ms) (subst (RisesFrom 0) e o.rises) in
    let sound = AllValues-back cells (m ∷ ms) (subst AllValues e o.sound) in
    bad m (cells_text ms ++ s) (record { above = subst (λ k. k ≤ m.field) (sym at) rises.0; of_table = rises.1; sound = sound.0; begins = t ∙ append_assoc (cell_text m) (cells_text ms) s })

-- where no further cell can be read, no longer list of cells begins the bytes
pub ReadsCells-refused : (i n low : ℕ) (all rest : List ℕ) (cells : List Cell) → ReadsCells 0 i all cells rest → low ≡ next_low 0 cells → i < n → ((c : Cell) (s : List ℕ) → ¬ (ReadsCell low rest c s)) → (other : List Cell) (s : List ℕ) → ¬ (ReadsCells 0 n all other s)
ReadsCells-refused i n low all rest cells h at less bad other s o =
    let fewer : length cells < length other = omega (arith, h.many, o.many) in
    let begun = ReadsCells-more 0 cells other rest s h.sound o.sound (omega arith) (sym h.begins ∙ o.begins) in
    no_more i n low all rest cells other begun.0 s begun.1 begun.2 at fewer bad o

none_more : (cells other more : List Cell) (left s : List ℕ) → length other ≡ length cells → other ≡ cells ++ more → left ≡ cells_text more ++ s → (other ≡ cells) × (left ≡ s)
none_more cells other [] left s same e t = (e ∙ append-nil cells, t)
none_more cells other (m ∷ ms) left s same e t =
    let longer : length other ≡ length cells + suc (length ms) = ap length e ∙ length-append cells (m ∷ ms) in
    absurd (omega arith)

-- bytes begin with one list of so many cells at most
pub ReadsCells-same : (n : ℕ) (bytes : List ℕ) (cells other : List Cell) (left s : List ℕ) → ReadsCells 0 n bytes cells left → ReadsCells 0 n bytes other s → (other ≡ cells) × (left ≡ s)
ReadsCells-same n bytes cells other left s h o =
    let same : length other ≡ length cells = o.many ∙ sym h.many in
    let begun = ReadsCells-more 0 cells other left s h.sound o.sound (omega arith) (sym h.begins ∙ o.begins) in
    none_more cells other begun.0 left s same begun.1 begun.2

-- behind the number of cells stand the cells
pub HasText-reads : (n : ℕ) (bytes rest : List ℕ) (cells : List Cell) → bytes ≡ to_le_bytes w32 n ++ rest → n < 2 ^ 32 → HasText cells bytes → ReadsCells 0 n rest cells []
HasText-reads n bytes rest cells e hn h =
    let parts = le_32-split n (length cells) rest (cells_text cells) hn (IsRow-short cells h.is_row) (sym e ∙ h.whole) in
    record { rises = h.is_row; sound = h.values; many = sym parts.0; begins = parts.1 ∙ sym (append-nil (cells_text cells)) }

pub Refuses-weaker : (e : RecordError) (P Q : Type 0) → (P → Q) → Refuses e P → Refuses e Q
Refuses-weaker BadRecord P Q f h = f h
Refuses-weaker NoMemory P Q f h = tt

-- behind the cells of a row's text stands nothing, and no other row has the text
pub HasText-ends : (n : ℕ) (bytes rest left : List ℕ) (cells other : List Cell) → bytes ≡ to_le_bytes w32 n ++ rest → n < 2 ^ 32 → ReadsCells 0 n rest cells left → HasText other bytes → (other ≡ cells) × (left ≡ [])
HasText-ends n bytes rest left cells other e hn h o =
    ReadsCells-same n rest cells other left [] h (HasText-reads n bytes rest other e hn o)

IsShort-from : (v : Value) → length (value_text v) < 2 ^ 32 → IsShort v
IsShort-from (Text t) h = let e : length (counted t) ≡ 4 + length t = length-append (to_le_bytes w32 (length t)) t in omega arith
IsShort-from (Number n) h = tt
IsShort-from (Flag b) h = tt

-- a text of fewer than 2^32 bytes holds short texts alone
pub AllShort-from : (cells : List Cell) → length (cells_text cells) < 2 ^ 32 → AllByRecursion (λ c. IsShort c.value) cells
AllShort-from [] h = tt
AllShort-from (c ∷ cs) h =
    let both : length (cells_text (c ∷ cs)) ≡ length (cell_text c) + length (cells_text cs) = length-append (cell_text c) (cells_text cs) in
    (IsShort-from c.value (omega arith), AllShort-from cs (omega arith))

pub length-row_text : (cells : List Cell) → length (row_text cells) ≡ 4 + length (cells_text cells)
length-row_text cells = length-append (to_le_bytes w32 (length cells)) (cells_text cells)

pub size-le : (cells : List Cell) (i : ℕ) (c : Cell) → i < length cells → c ≡ get_or cells i c → length (cells_text (take i cells)) + length (cell_text c) ≤ length (cells_text cells)
size-le cells i c within read =
    let le : length (cells_text (take i cells)) + length (cell_text (get_or cells i c)) ≤ length (cells_text cells) = length-flat_map-take cell_text cells i c within in
    let same : length (cell_text c) ≡ length (cell_text (get_or cells i c)) = ap (λ x. length (cell_text x)) read in
    omega arith

pub size-all : (cells : List Cell) (i : ℕ) → length cells ≤ i → length (cells_text (take i cells)) ≡ length (cells_text cells)
size-all cells i past = ap (λ l. length (cells_text l)) (take_all i cells past)

pub fits-all : (cells now : List Cell) (most left i : ℕ) → cells ≡ now → left + length (cells_text (take i cells)) + 4 ≡ most → length cells ≤ i → length (row_text now) ≤ most
fits-all cells now most left i same taken past =
    let whole : length (cells_text (take i cells)) ≡ length (cells_text now) = size-all cells i past ∙ ap (λ l. length (cells_text l)) same in
    let row : length (row_text now) ≡ 4 + length (cells_text now) = length-row_text now in
    omega arith

pub fits-none : (cells now : List Cell) (most left i size : ℕ) (c : Cell) → cells ≡ now → left + length (cells_text (take i cells)) + 4 ≡ most → i < length cells → c ≡ get_or cells i c → size ≡ length (cell_text c) → left < size → length (row_text now) ≤ most → ⊥
fits-none cells now most left i size c same taken within read sized less fits =
    let part : length (cells_text (take i cells)) + length (cell_text c) ≤ length (cells_text cells) = size-le cells i c within read in
    let whole : length (cells_text cells) ≡ length (cells_text now) = ap (λ l. length (cells_text l)) same in
    let row : length (row_text now) ≡ 4 + length (cells_text now) = length-row_text now in
    omega arith

pub fits-short : (now : List Cell) (most : ℕ) → length (row_text now) ≤ most → most < 2 ^ 32 → AllByRecursion (λ c. IsShort c.value) now
fits-short now most fits small =
    let row : length (row_text now) ≡ 4 + length (cells_text now) = length-row_text now in
    AllShort-from now (omega arith)
