use Rattle.std.proofs.Common.{◌<◌, length, arith, refl, sym, ◌∙◌}
use Rattle.std.proofs.lemmas.Option.{slice_get_read}
use Rattle.soc_forms.specs.Fields.{is_extra}
use Rattle.soc_forms.proofs.SubmissionLemmas.{filter_hit}
use Rattle.soc_forms.proofs.submissions.next_extra.Goals as goal

pub returns-then-is_extra : goal.returns-then-is_extra
returns-then-is_extra c =
    let inside : c.loop-i.i < length c.args.parts.now = omega arith in
    record {
      part = c.index-parts-i.result;
      inside = inside;
      stands = slice_get_read c.args.parts.now (length c.args.parts.now) c.loop-i.i c.index-parts-i.result refl inside c.index-parts-i.is;
      first =
          filter_hit is_extra c.args.parts.now c.loop-i.i c.index-parts-i.result _ inside c.index-parts-i.is c.loop-i.invariant
          (sym c.is_extra.ensures ∙ c.if-is_extra.true);
    }
