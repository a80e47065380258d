use Rattle.std.proofs.Common.{◌≡◌, ℕ, List, [], false}
use Rattle.soc_edge.specs.Ahead.{outlook}
use Rattle.soc_edge.specs.Told.{NeverFall}
use Rattle.soc_session.specs.Desk.{ways}
use Rattle.soc_session.specs.declared.ending.SessionEnd.{SessionEnd}
use Rattle.soc_session.specs.Replies.{closing, no_memory}
use Rattle.soc_session.specs.Session.{Around, around}
use Rattle.soc_session.specs.inner.Steps.{ServesFrom}
use Rattle.soc_session.proofs.connection.session.Given as goal

-- whatever is served from here on is served from the start
abbrev pub invariant-loop-left : goal.invariant-loop-left
invariant-loop-left g l =
    ((after : Around g.row.K.Denot) (held : List ℕ) (end : SessionEnd)
    → ServesFrom g.K.Desk.Asks (ways l.setting.rules.now (g.S.Stacks.stack_of l.setting.stacks.now)) l.buffer l.left
    (around (g.X.Tells.told l.link) l.desk (outlook (g.C.Clock.told l.clock) (g.W.Draws.told l.draws))) after held end
    → ServesFrom g.K.Desk.Asks (ways l.setting.rules.now (g.S.Stacks.stack_of l.setting.stacks.now)) [] l.setting.rules.now.session_bytes
    (around (g.X.Tells.told l.initial.link) l.initial.desk (outlook (g.C.Clock.told l.initial.clock) (g.W.Draws.told l.initial.draws))) after held end)
    × (closing false l.spare ≡ no_memory)
    × NeverFall (g.X.Tells.told l.initial.link) (g.X.Tells.told l.link)

abbrev pub decreases-loop-left : goal.decreases-loop-left
decreases-loop-left g l = l.left
