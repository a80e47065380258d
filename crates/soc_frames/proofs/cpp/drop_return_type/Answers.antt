use Rattle.std.proofs.Common.{◌≡◌, ℕ, List, drop, subst, ◌∙◌}
use Rattle.std.proofs.lemmas.Str.Pattern.{contains_text}
use Rattle.soc_frames.specs.Cpp.{conversion, behind_spaces}
use Rattle.soc_frames.proofs.BoundaryLemmas.{boundary_in}
use Rattle.soc_frames.proofs.TextLemmas.{conversion_stays, type_goes}
use Rattle.soc_frames.proofs.cpp.drop_return_type.Goals as goal

value_in : (name other : List ℕ) (start : ℕ) → other ≡ name → drop start other ≡ behind_spaces other → drop start name ≡ behind_spaces name
value_in name other start same value = subst (λ (text : List ℕ). drop start text ≡ behind_spaces text) same value

pub returns-then-contains : goal.returns-then-contains
returns-then-contains c =
    conversion_stays c.args.s.now c.contains.result (contains_text c.contains.result conversion c.args.s.now c.contains.ensures.cases) c.if-contains.true

pub range_from-requires : goal.range_from-requires
range_from-requires c = λ some. boundary_in c.args.s.now c.as_bytes.result.now c.name_start.result c.as_bytes.ensures.value c.name_start.ensures.boundary c.utf8.s

pub returns : goal.returns
returns c =
    type_goes c.args.s.now c.range_from.result.now c.contains.result (contains_text c.contains.result conversion c.args.s.now c.contains.ensures.cases) c.if-contains.false
    (c.range_from.ensures.value ∙ value_in c.args.s.now c.as_bytes.result.now c.name_start.result c.as_bytes.ensures.value c.name_start.ensures.value)
