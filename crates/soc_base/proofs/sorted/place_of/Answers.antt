use Rattle.std.proofs.Common.{◌+◌, ◌-◌, ◌/◌, arith, sym, ap, ◌∙◌}
use Rattle.std.specs.Cmp.Lexicographic.{slice_cmp}
use Rattle.std.specs.Ordering.{nat_cmp}
use Rattle.soc_base.proofs.Places.{below_from, above_from, place_of_equal}
use Rattle.soc_base.proofs.sorted.place_of.Goals as goal

pub loop-low-preserved-in-Less : goal.loop-low-preserved-in-Less
loop-low-preserved-in-Less g c =
    let inv = c.loop-low.invariant in (
      omega arith,
      inv.1,
      below_from (λ e. e.name) (λ e. e.value) c.args.entries.now c.args.name.now c.requires (c.loop-low.low + (c.loop-low.high - c.loop-low.low) / 2) c.index-entries-middle.result
          (omega arith) (ap (λ e. slice_cmp nat_cmp e.name c.args.name.now) (sym c.index-entries-middle.is) ∙ sym c.compare.ensures ∙ c.in-Less.is),
      inv.3,
    )

pub returns-in-Equal : goal.returns-in-Equal
returns-in-Equal g c =
    let inv = c.loop-low.invariant in
    place_of_equal (λ e. e.name) (λ e. e.value) c.args.entries.now c.args.name.now c.requires (c.loop-low.low + (c.loop-low.high - c.loop-low.low) / 2) c.index-entries-middle.result
    (omega arith) (ap (λ e. slice_cmp nat_cmp e.name c.args.name.now) (sym c.index-entries-middle.is) ∙ sym c.compare.ensures ∙ c.in-Equal.is)

pub loop-low-preserved : goal.loop-low-preserved
loop-low-preserved g c =
    let inv = c.loop-low.invariant in (
      omega arith,
      omega arith,
      inv.2,
      above_from (λ e. e.name) (λ e. e.value) c.args.entries.now c.args.name.now c.requires (c.loop-low.low + (c.loop-low.high - c.loop-low.low) / 2) c.index-entries-middle.result
          (omega arith) (ap (λ e. slice_cmp nat_cmp e.name c.args.name.now) (sym c.index-entries-middle.is) ∙ sym c.compare.ensures ∙ c.in-Greater.is),
    )
