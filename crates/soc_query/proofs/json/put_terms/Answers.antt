use Rattle.std.proofs.Common.{sym}
use Rattle.soc_query.specs.Json.{term_json}
use Rattle.soc_schema.proofs.CommaLemmas.{joined_step}
use Rattle.soc_query.proofs.json.put_terms.Goals as goal

pub loop-i-preserved : goal.loop-i-preserved
loop-i-preserved c =
    joined_step term_json c.args.terms.now c.loop-i.i c.index-terms-i.result c.args.out.now.items c.loop-i.out.items c.put_comma.new.out.items _ c.loop-i-test.true (sym c.index-terms-i.is) c.loop-i.invariant c.in_ok-put_comma.ensures c.in_ok-put_term.ensures
