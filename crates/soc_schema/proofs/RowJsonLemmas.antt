-- A row's object is its members in the order of the table.
use Rattle.std.proofs.Common.{◌≡◌, ℕ, ◌+◌, ◌<◌, ◌≤◌, List, [], ◌∷◌, ◌++◌, Bool, true, false, refl, sym, ap, ◌∙◌, arith, append-nil, append_assoc}
use Rattle.std.proofs.lemmas.Bool.{false≢true, agree_below, agree_below_at}
use Rattle.std.specs.Prelude.{⊤, codes}
use Rattle.json.specs.Token.{Token}
use Rattle.json.specs.Token as token
use Rattle.json.specs.Print.{print, print_from}
use Rattle.std.specs.Ordering.{is_gt, nat_cmp}
use Rattle.std.specs.declared.cmp.Ordering.{Ordering}
use Rattle.std.specs.declared.cmp.Ordering.TheVariants.{Less, Equal, Greater}
use Rattle.std.specs.Cmp.Lexicographic.{slice_cmp}
use Rattle.serde_json.specs.Data.{Data, Members, no_members, member, object, put, string}
use Rattle.serde_json.specs.Written.{compact_text, members_text}
use Rattle.soc_schema.specs.Commas.{after_commas, joined}
use Rattle.soc_schema.specs.Fields.{field_entry, field_table, name_of}
use Rattle.soc_schema.specs.RowJson.{data_of, row_json, value_json, with_cells}
use Rattle.soc_schema.specs.Rows.{IsRow, RisesFrom}
use Rattle.soc_schema.specs.declared.value.Cell.{Cell}
use Rattle.soc_schema.specs.inner.Members.{cell_json}

-- the names rise with the fields, by a test over the whole table
abbrev comes_after : ℕ → ℕ → Bool
comes_after g f = is_gt (slice_cmp nat_cmp (name_of g) (name_of f))

abbrev is_last : ℕ → Bool
is_last g = agree_below (comes_after g) (λ _. true) g

all_rise : agree_below is_last (λ _. true) 36 ≡ true
unfolding name_of field_entry field_table
all_rise = refl

greater : (o : Ordering) → is_gt o ≡ true → o ≡ Greater
greater Less h = absurd (false≢true h)
greater Equal h = absurd (false≢true h)
greater Greater h = refl

names_rise : (f g : ℕ) → f < g → g < 36 → slice_cmp nat_cmp (name_of g) (name_of f) ≡ Greater
names_rise f g below within =
    greater (slice_cmp nat_cmp (name_of g) (name_of f)) (agree_below_at (comes_after g) (λ _. true) g f (agree_below_at is_last (λ _. true) 36 g all_rise within) below)

-- members with one more at the end, and with a row's cells at the end
abbrev ended : Members → List ℕ → Data → Members
ended no_members k d = member k d no_members
ended (member l e ms) k d = member l e (ended ms k d)

abbrev listed : List Cell → Members
listed [] = no_members
listed (c ∷ cs) = member (name_of c.field) (data_of c.value) (listed cs)

abbrev onto : Members → List Cell → Members
onto no_members cells = listed cells
onto (member l e ms) cells = member l e (onto ms cells)

onto-none : (ms : Members) → onto ms [] ≡ ms
onto-none no_members = refl
onto-none (member l e ms) = ap (λ m. member l e m) (onto-none ms)

onto-ended : (ms : Members) (c : Cell) (cs : List Cell) → onto (ended ms (name_of c.field) (data_of c.value)) cs ≡ onto ms (c ∷ cs)
onto-ended no_members c cs = refl
onto-ended (member l e ms) c cs = ap (λ m. member l e m) (onto-ended ms c cs)

-- the names of these fields are greater than those of the members
abbrev AreBelow : ℕ → Members → Type 0
AreBelow low no_members = ⊤
AreBelow low (member l e ms) = ((g : ℕ) → low ≤ g → g < 36 → slice_cmp nat_cmp (name_of g) l ≡ Greater) × AreBelow low ms

put_last : (low : ℕ) (ms : Members) (f : ℕ) (d : Data) → AreBelow low ms → low ≤ f → f < 36 → put (name_of f) d ms ≡ ended ms (name_of f) d
put_last low no_members f d below above within = refl
put_last low (member l e ms) f d below above within =
    rw (below.0 f above within) (ap (λ m. member l e m) (put_last low ms f d below.1 above within))

still_below : (low : ℕ) (ms : Members) (f : ℕ) (d : Data) → AreBelow low ms → low ≤ f → AreBelow (f + 1) (ended ms (name_of f) d)
still_below low no_members f d below above = ((λ g after within. names_rise f g (omega arith) within), tt)
still_below low (member l e ms) f d below above =
    ((λ g after within. below.0 g (omega arith) within), still_below low ms f d below.1 above)

with_cells-onto : (low : ℕ) (ms : Members) (cells : List Cell) → AreBelow low ms → RisesFrom low cells → with_cells ms cells ≡ onto ms cells
with_cells-onto low ms [] below rises = sym (onto-none ms)
with_cells-onto low ms (c ∷ cs) below rises =
    ap (λ m. with_cells m cs) (put_last low ms c.field (data_of c.value) below rises.0 rises.1.in_table)
    ∙ with_cells-onto (c.field + 1) (ended ms (name_of c.field) (data_of c.value)) cs (still_below low ms c.field (data_of c.value) below rises.0) rises.2
    ∙ onto-ended ms c cs

-- the texts of the cells, and what is behind them
member_text : (c : Cell) (rest : List ℕ) → compact_text (string (name_of c.field)) ++ (58 ∷ (value_json c.value ++ rest)) ≡ cell_json c ++ rest
member_text c rest =
    let name = compact_text (string (name_of c.field)) in
    sym (append_assoc name (codes ":") (value_json c.value ++ rest)) ∙ sym (append_assoc (name ++ codes ":") (value_json c.value) rest)

later_text : (cells : List Cell) → members_text true (listed cells) ≡ after_commas cell_json cells ++ codes "}"
later_text [] = refl
later_text (c ∷ cs) =
    ap (λ t. 44 ∷ t) (member_text c (members_text true (listed cs)) ∙ ap (λ t. cell_json c ++ t) (later_text cs) ∙ sym (append_assoc (cell_json c) (after_commas cell_json cs) (codes "}")))

all_text : (cells : List Cell) → members_text false (listed cells) ≡ joined cell_json cells ++ codes "}"
all_text [] = refl
all_text (c ∷ cs) =
    member_text c (members_text true (listed cs)) ∙ ap (λ t. cell_json c ++ t) (later_text cs) ∙ sym (append_assoc (cell_json c) (after_commas cell_json cs) (codes "}"))

row_text : (cells : List Cell) → IsRow cells → row_json cells ≡ codes "{" ++ (joined cell_json cells ++ codes "}")
unfolding row_json
row_text cells is_row = ap (λ ms. compact_text (object ms)) (with_cells-onto 0 no_members cells tt is_row) ∙ ap (λ t. 123 ∷ t) (all_text cells)

-- the object of a row is put behind a text
pub row_put : (row cells : List Cell) (out a b t : List ℕ) → cells ≡ row → IsRow cells → a ≡ out ++ codes "{" → b ≡ a ++ joined cell_json cells → t ≡ b ++ codes "}" → t ≡ out ++ row_json row
row_put row cells out a b t same is_row first second third =
    third ∙ ap (λ l. l ++ codes "}") (second ∙ ap (λ l. l ++ joined cell_json cells) first)
    ∙ append_assoc (out ++ codes "{") (joined cell_json cells) (codes "}") ∙ append_assoc out (codes "{") (joined cell_json cells ++ codes "}")
    ∙ ap (λ l. out ++ l) (sym (row_text cells is_row) ∙ ap row_json same)

-- a text in quotes is put behind a text
pub text_put : (out text before now : List ℕ) (tokens : List Token) → before ≡ out → tokens ≡ token.string text ∷ [] → now ≡ before ++ print tokens → now ≡ out ++ compact_text (string text)
unfolding print_from
text_put out text before now tokens same one is =
    is ∙ ap (λ l. l ++ print tokens) same ∙ ap (λ ts. out ++ print ts) one ∙ ap (λ l. out ++ l) (append-nil (compact_text (string text)))
