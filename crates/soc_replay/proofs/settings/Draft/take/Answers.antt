use Rattle.std.proofs.lemmas.Result.{IfOk-weaker}
use Rattle.toml.specs.View.{view}
use Rattle.soc_replay.proofs.SettingLemmas.{crashes-taken, journal_bytes-taken, key_is, products-taken, session_bytes-taken}
use Rattle.soc_replay.proofs.settings.Draft.take.Goals as goal

pub returns-then-eq-clause-taken : goal.returns-then-eq-clause-taken
returns-then-eq-clause-taken c =
    λ good. crashes-taken c.args.self.now c.args.key.now (view c.args.value.now) c.take.new.place (key_is _ _ _ c.eq.ensures c.if-eq.true) c.take.ensures.taken

pub returns-then-eq-2-clause-taken : goal.returns-then-eq-2-clause-taken
returns-then-eq-2-clause-taken c =
    λ good. journal_bytes-taken c.args.self.now c.args.key.now (view c.args.value.now) c.take-then-eq-2.new.place (key_is _ _ _ c.eq-else-eq.ensures c.if-eq-2.true) c.take-then-eq-2.ensures.taken

pub returns-then-eq-3-clause-taken : goal.returns-then-eq-3-clause-taken
returns-then-eq-3-clause-taken c =
    IfOk-weaker c.take_products.result _ _
    (λ good is. λ held. products-taken c.args.self.now c.take_products.new.self c.args.key.now (view c.args.value.now) (key_is _ _ _ c.eq-else-eq-2.ensures c.if-eq-3.true) is)
    c.take_products.ensures.taken

pub returns-then-eq-5-clause-taken : goal.returns-then-eq-5-clause-taken
returns-then-eq-5-clause-taken c =
    λ good. session_bytes-taken c.args.self.now c.args.key.now (view c.args.value.now) c.take-then-eq-5.new.place (key_is _ _ _ c.eq-else-eq-4.ensures c.if-eq-5.true) c.take-then-eq-5.ensures.taken
