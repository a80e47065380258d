use Rattle.soc_turns.proofs.Sharing.{allowed, answers_now, log_goes_on, runs_still, stands_still}
use Rattle.soc_turns.proofs.shared.SharedBookLogged.turn.Goals as goal

pub ask_prepared-requires : goal.ask_prepared-requires
ask_prepared-requires g c =
    let b = c.args.self.now.book in
    allowed g.D.Telling.tells b (g.met.D.Telling.steady b.vault.disk.now) (g.R.Reporter.digest_of b.reporter.now) c.args.command c.requires

pub invariant_of-self-clause-stands : goal.invariant_of-self-clause-stands
invariant_of-self-clause-stands g c =
    stands_still g.D.Telling.tells c.args.self.now.book c.ask_prepared.new.self c.ask_prepared.ensures.setting c.args.command c.ask_prepared.result c.ask_prepared.ensures.asks c.args.self.now.stands

pub invariant_of-self-clause-runs : goal.invariant_of-self-clause-runs
invariant_of-self-clause-runs g c =
    let n = c.ask_prepared.new.self in
    runs_still g.D.Telling.tells c.args.self.now.book n c.ask_prepared.ensures.setting c.args.command c.ask_prepared.result c.ask_prepared.ensures.asks c.args.self.now.stands
    (g.met.D.Disk.sound n.vault.disk.now) c.args.self.now.opened.value c.args.self.now.runs

pub returns-clause-log : goal.returns-clause-log
returns-clause-log g c =
    log_goes_on g.D.Telling.tells c.args.self.now.book c.ask_prepared.new.self c.ask_prepared.ensures.setting c.args.command c.ask_prepared.result c.ask_prepared.ensures.asks c.args.self.now.stands

pub returns-clause-answers : goal.returns-clause-answers
returns-clause-answers g c =
    answers_now g.D.Telling.tells c.args.self.now.book c.ask_prepared.new.self c.ask_prepared.ensures.setting c.args.command c.ask_prepared.result c.ask_prepared.ensures.asks c.args.self.now.stands
