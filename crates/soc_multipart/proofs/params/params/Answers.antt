use Rattle.std.proofs.Common.{[], ◌∷◌, sym, subst, refl}
use Rattle.std.proofs.lemmas.Slice.{pushed}
use Rattle.soc_multipart.specs.Params.{ReadsParam, AreDistinct}
use Rattle.soc_multipart.specs.inner.Views.{param_text}
use Rattle.soc_multipart.proofs.Basics.{match_none, match_some, some_from_test}
use Rattle.soc_multipart.proofs.ChainLemmas.{chain_grow}
use Rattle.soc_multipart.proofs.FindLemmas.{texts_push}
use Rattle.soc_multipart.proofs.ParamLemmas.{params_stop, params_clash, param_shorter, distinct_push}
use Rattle.soc_multipart.proofs.SeenLemmas.{HasNames, names_push, seen_before, never_seen}
use Rattle.soc_multipart.proofs.params.params.Goals as goal

pub returns-in_default : goal.returns-in_default
returns-in_default c =
    params_stop _ _ _ _ c.loop-rest.invariant.in_order
    (some_from_test _ _ c.is_empty.ensures c.loop-rest-test.true)
    (match_none _ _ _ c.in_ok-read.ensures c.in_default.is)

pub loop-rest-smaller : goal.loop-rest-smaller
loop-rest-smaller c = param_shorter _ _ _ _ (match_some _ _ _ _ c.in_ok-read.ensures c.in-Some.is)

pub returns-then-not-is_new : goal.returns-then-not-is_new
returns-then-not-is_new c =
    let found = seen_before _ c.in_ok-name.name _ c.in-Some.read.param.name.now _ c.in_ok-name.ensures.ok c.loop-rest.invariant.seen c.in_ok-is_new.ensures.added c.if-not-is_new.true in
    params_clash _ _ _ _ (param_text c.in-Some.read.param) _ found.0 c.loop-rest.invariant.in_order
    (match_some _ _ _ _ c.in_ok-read.ensures c.in-Some.is) found.1

pub loop-rest-preserved : goal.loop-rest-preserved
loop-rest-preserved c =
    let now = texts_push _ c.loop-rest.found.items c.in-Some.read.param (pushed (c.in-Some.read.param ∷ []) refl c.in_ok-push.was c.push.ensures.items) in
    record {
      in_order =
          chain_grow (ReadsParam c.args.spaced) _ _ _ _ _ _ c.loop-rest.invariant.in_order
          (match_some _ _ _ _ c.in_ok-read.ensures c.in-Some.is) now;
      distinct =
          subst AreDistinct (sym now)
          (distinct_push _ (param_text c.in-Some.read.param) c.loop-rest.invariant.distinct
          (never_seen _ c.in_ok-name.name _ c.in-Some.read.param.name.now _ c.in_ok-name.ensures.ok c.loop-rest.invariant.seen c.in_ok-is_new.ensures.added c.if-not-is_new.false));
      seen =
          subst (HasNames c.insert.new.self.keys) (sym now)
          (names_push _ _ c.in_ok-name.name _ (param_text c.in-Some.read.param) c.in_ok-is_new.ensures.keys c.in_ok-name.ensures.ok c.loop-rest.invariant.seen);
    }
