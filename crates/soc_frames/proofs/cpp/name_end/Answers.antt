use Rattle.std.proofs.Common.{◌<◌, ◌≤◌, ◌-◌, length, take, ap, sym, ◌∙◌, arith}
use Rattle.std.proofs.lemmas.List.{take_all, length-take-le}
use Rattle.std.proofs.lemmas.Str.{IsCharBoundary-end}
use Rattle.soc_frames.specs.Cpp.{without_ends}
use Rattle.soc_frames.proofs.TextLemmas.{ends_stop, ends_more, end_boundary}
use Rattle.soc_frames.proofs.cpp.name_end.Goals as goal

pub loop-end-init : goal.loop-end-init
loop-end-init c =
    let name = c.args.name.now in
    record {
      most = length name;
      enough = omega arith;
      within = omega arith;
      same = ap (without_ends (length name)) (sym (take_all (length name) name (omega arith)));
      boundary = IsCharBoundary-end name;
    }

pub returns-then-len-eq0-clause-value : goal.returns-then-len-eq0-clause-value
returns-then-len-eq0-clause-value c =
    let i = c.loop-end.invariant in
    sym (i.same ∙ ends_stop i.most c.end_len-len.result (take c.loop-end.end c.args.name.now) c.end_len-len.ensures.value c.if-len-eq0.true)

pub overflow_sub-end : goal.overflow_sub-end
overflow_sub-end c = omega (arith, c.end_len-len.ensures.bound, length-take-le c.loop-end.end c.args.name.now c.loop-end.invariant.within)

pub loop-end-smaller : goal.loop-end-smaller
loop-end-smaller c = omega (arith, c.end_len-len.ensures.bound, length-take-le c.loop-end.end c.args.name.now c.loop-end.invariant.within, c.if-len-eq0.false)

pub loop-end-preserved : goal.loop-end-preserved
loop-end-preserved c =
    let i = c.loop-end.invariant in
    let name = c.args.name.now in
    let fits : c.end_len-len.result ≤ c.loop-end.end = omega (arith, c.end_len-len.ensures.bound, length-take-le c.loop-end.end name i.within) in
    let some : 0 < c.end_len-len.result = omega (arith, c.if-len-eq0.false) in
    record {
      most = i.most - 1;
      enough = omega (arith, i.enough);
      within = omega (arith, i.within);
      same = i.same ∙ ends_more name c.loop-end.end i.most c.end_len-len.result i.within i.enough c.end_len-len.ensures.value some fits;
      boundary = end_boundary name c.loop-end.end c.end_len-len.result i.within c.end_len-len.ensures.value some fits;
    }
