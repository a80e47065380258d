use Rattle.soc_store.proofs.KeyLemmas.{tells_lower, tells_higher}
use Rattle.soc_store.proofs.slot.Slot.compare.Goals as goal

pub returns-then-self-key : goal.returns-then-self-key
returns-then-self-key c = tells_lower c.self.inside.term.value c.args.self.now c.args.value.now c.self.inside.key c.args.key c.self.invariant.0 c.self.view_is c.requires c.if-self-key.true

pub returns-then-key-self : goal.returns-then-key-self
returns-then-key-self c = tells_higher c.self.inside.term.value c.args.self.now c.args.value.now c.self.inside.key c.args.key c.self.invariant.0 c.self.view_is c.requires c.if-key-self.true
