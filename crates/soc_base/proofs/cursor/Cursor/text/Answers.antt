use Rattle.std.proofs.Common.{None, refl, Bor, List, ℕ}
use Rattle.soc_base.proofs.Cursors.{no_text_there}
use Rattle.soc_base.proofs.cursor.Cursor.text.Goals as goal

pub returns-in_default-text_of-clause-takes : goal.returns-in_default-text_of-clause-takes
returns-in_default-text_of-clause-takes c =
    no_text_there (λ (t : Bor (List ℕ)). t.now) None c.self.inside.rest.now c.args.self.now _ _ c.self.view_is refl c.in-Some.ensures.reads c.in_default-text_of.ensures
