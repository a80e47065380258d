-- Empty lines in a text, and where the first block ends.
use Rattle.std.proofs.Common.{◌≡◌, ℕ, ◌+◌, ◌-◌, ◌<◌, ◌≤◌, List, ◌++◌, length, take, drop, sym, ap, subst, ◌∙◌, arith, length-append, length-drop}
use Rattle.std.proofs.lemmas.List.{drop-take, drop-drop, length-take-le, take_all, take-take}
use Rattle.std.proofs.Math.Seq.{take-add, drop-append_seam}
use Rattle.memchr.specs.Find.{OccursAt, Nowhere, NoneBefore}
use Rattle.memchr.proofs.lemmas.MatchLemmas.{OccursAt-part, OccursAt-from_part}
use Rattle.soc_http.specs.Block.{empty_line, EndsInEmptyLine, IsBlock, HasNoBlock}

below_unless : (a b : ℕ) → (a ≤ b → ⊥) → b < a
below_unless a b h = omega arith

-- an empty line stands in the text from place k on
abbrev StandsAt : List ℕ → ℕ → Type 0
StandsAt text k = take 4 (drop k text) ≡ empty_line

-- it ends a front of the text
ends-from_stands : (text : List ℕ) (k : ℕ) → StandsAt text k → EndsInEmptyLine (take (k + 4) text)
ends-from_stands text k stands = (take k text, take-add k 4 text ∙ ap (λ l. take k text ++ l) stands)

-- the front of n bytes ends in an empty line, which stands at this place
record Ends (text : List ℕ) (n : ℕ) : Type 0 where
  place : ℕ
  is : n ≡ place + 4
  stands : StandsAt text place

stands-from_ends : (text : List ℕ) (n : ℕ) → n ≤ length text → EndsInEmptyLine (take n text) → Ends text n
stands-from_ends text n within ends =
    let front = ends.0 in
    let len : n ≡ length front + 4 = sym (length-take-le n text within) ∙ ap length ends.1 ∙ length-append front empty_line in
    let e : take (length front + 4) text ≡ front ++ empty_line = ap (λ m. take m text) (sym len) ∙ ends.1 in
    record {
      place = length front;
      is = len;
      stands = sym (drop-take (length front) 4 text) ∙ ap (drop (length front)) e ∙ drop-append_seam front empty_line;
    }

-- of a text and a search from one place on, before which no block ends
module _ (text hay : List ℕ) (searched from : ℕ) (within : searched ≤ length text)
    (none : HasNoBlock (take searched text)) (from_is : from ≡ searched - 3) (hay_is : hay ≡ drop from text) where
  -- where a front ends in an empty line, the search meets it
  record Meets (n : ℕ) : Type 0 where
    place : ℕ
    is : n ≡ from + place + 4
    occurs : OccursAt hay empty_line place

  meets : (n : ℕ) → n ≤ length text → EndsInEmptyLine (take n text) → Meets n
  meets n fits ends =
      let found = stands-from_ends text n fits ends in
      let is : n ≡ found.place + 4 = found.is in
      let later : searched < n = below_unless n searched (λ le. none n (subst EndsInEmptyLine (sym (take-take n searched text le)) ends)) in
      let low : from ≤ found.place = omega arith in
      let k = found.place - from in
      let whole : from + k ≡ found.place = omega arith in
      let part : take 4 (drop k hay) ≡ empty_line =
      ap (λ l. take 4 (drop k l)) hay_is ∙ ap (take 4) (drop-drop k from text ∙ ap (λ m. drop m text) whole) ∙ found.stands in
      let len : length hay ≡ length text - from = ap length hay_is ∙ length-drop from text in
      let room : k + 4 ≤ length hay = omega arith in
      record { place = k; is = omega arith; occurs = OccursAt-from_part hay empty_line k room part }

  missed : Nowhere (OccursAt hay empty_line) 0 (length hay + 1) → (n : ℕ) → n ≤ length text → EndsInEmptyLine (take n text) → ⊥
  missed nowhere n fits ends =
      let met = meets n fits ends in
      let room : met.place + 4 ≤ length hay = met.occurs.fits in
      nowhere met.place (omega arith) (omega arith) met.occurs

  -- the search meets none
  pub HasNoBlock-from_none : Nowhere (OccursAt hay empty_line) 0 (length hay + 1) → HasNoBlock text
  HasNoBlock-from_none nowhere = λ n ends.
      let longer : length text < n = below_unless n (length text) (λ fits. missed nowhere n fits ends) in
      let all : take n text ≡ take (length text) text =
      take_all n text (omega arith) ∙ sym (take_all (length text) text (omega arith)) in
      missed nowhere (length text) (omega arith) (subst EndsInEmptyLine all ends)

  -- the search meets its first one at this place
  pub IsBlock-from_first : (k : ℕ) → NoneBefore (OccursAt hay empty_line) 0 (length hay + 1) k → OccursAt hay empty_line k
      → (from + k + 4 ≤ length text) × IsBlock (take (from + k + 4) text)
  IsBlock-from_first k first occurs =
      let len : length hay ≡ length text - from = ap length hay_is ∙ length-drop from text in
      let room : k + 4 ≤ length hay = occurs.fits in
      let fits : from + k + 4 ≤ length text = omega arith in
      let size : length (take (from + k + 4) text) ≡ from + k + 4 = length-take-le (from + k + 4) text fits in
      let part : take 4 (drop (from + k) text) ≡ empty_line =
      ap (take 4) (sym (drop-drop k from text) ∙ ap (drop k) (sym hay_is)) ∙ OccursAt-part hay empty_line k occurs in (
        fits,
        record {
          ends = ends-from_stands text (from + k) part;
          shortest = λ n less ends.
              let short : n < from + k + 4 = omega arith in
              let met = meets n (omega arith) (subst EndsInEmptyLine (take-take n (from + k + 4) text (omega arith)) ends) in
              let is : n ≡ from + met.place + 4 = met.is in
              first.before met.place (omega arith) (omega arith) met.occurs;
        },
      )
