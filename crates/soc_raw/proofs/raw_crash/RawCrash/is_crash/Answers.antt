use Rattle.std.proofs.Common.{List, ℕ, subst, arith}
use Rattle.std.specs.Str.{IsUtf8}
use Rattle.soc_raw.proofs.raw_crash.RawCrash.is_crash.Goals as goal

pub returns : goal.returns
returns c =
    let Q : List ℕ → Type 0 = IsUtf8 in
    record {
      id = c.as_str-id.ensures.id;
      moment = c.args.self.now.moment_in;
      draw = omega arith;
      rule = subst Q c.as_str-rule.ensures c.as_str-rule.utf8;
      annotations = c.len-annotations.ensures.texts;
      annotations_rise = c.len-annotations.ensures.rising;
      few_annotations = c.args.self.now.few_annotations;
      dumps = c.len-dumps.ensures.names;
      dumps_rise = c.len-dumps.ensures.rising;
      few_dumps = c.args.self.now.few_dumps;
      fits = c.args.self.now.fits;
    }
