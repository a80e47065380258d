use Rattle.std.proofs.Common.{◌≡◌, ap, sym, ◌∙◌, arith, false}
use Rattle.std.specs.Prelude.{◌||◌}
use Rattle.soc_collect.specs.Serving.{any_stopped}
use Rattle.soc_collect.proofs.ServingLemmas.{both_false, grows, run, serves}
use Rattle.soc_collect.proofs.serving.answer.Goals as goal

pub returns-clause-same_desk : goal.returns-clause-same_desk
returns-clause-same_desk g c =
    let session = c.session-end.ensures.serves in
    let ran = run _ g.K.Desk.Asks (λ v. v.desk.ghost_name) (λ v. v.desk.now) (λ v. v.stopped) (λ v command receipt w asked. asked)
    c.has_stopped.new.desk session.responses c.session-end.new.desk session.runs in
    ran.0 ∙ c.has_stopped.ensures.1.0

pub returns-clause-serves : goal.returns-clause-serves
returns-clause-serves g c =
    let session = c.session-end.ensures.serves in
    let looked = c.has_stopped.ensures in
    let ran = run _ g.K.Desk.Asks (λ v. v.desk.ghost_name) (λ v. v.desk.now) (λ v. v.stopped) (λ v command receipt w asked. asked)
    c.has_stopped.new.desk session.responses c.session-end.new.desk session.runs in
    let unsaid : looked.0.stopped ≡ false = sym looked.2 ∙ c.if-has_stopped.false in
    record {
      receipt = looked.0;
      between = c.has_stopped.new.desk.desk.now;
      looks = looked.1.1;
      goes_on = (
        unsaid,
        serves _ g.K.Desk.Asks (λ v. v.desk.ghost_name) (λ v. v.desk.now) (λ v. v.stopped) (λ v command receipt w asked. asked)
            _ _ _ c.session-end.new.buffer c.session-end.result session,
        ran.2 ∙ ap (λ s. s || any_stopped session.responses) (both_false _ _ _ looked.1.2 c.requires.unstopped unsaid),
      );
    }

pub returns-clause-added : goal.returns-clause-added
returns-clause-added g c =
    let session = c.session-end.ensures.serves in
    let looked = c.has_stopped.ensures in
    let ran = run _ g.K.Desk.Asks (λ v. v.desk.ghost_name) (λ v. v.desk.now) (λ v. v.stopped) (λ v command receipt w asked. asked)
    c.has_stopped.new.desk session.responses c.session-end.new.desk session.runs in
    let law = g.met.K.KeepingDesk.added_grows in
    let first = law _ _ looked.0 _ looked.1.1 in
    let rest = grows g.K.Desk.Asks g.K.KeepingDesk.added _ law _ session.responses _ first.1 ran.1 in
    (omega (arith, first.0, rest.0), rest.1)
