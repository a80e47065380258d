use Rattle.std.proofs.Common.{refl, ap}
use Rattle.soc_http.specs.declared.route.Route.TheVariants as R
use Rattle.soc_session.specs.declared.routes.asks.Action.TheVariants as action
use Rattle.soc_session.specs.Parameters.{id_in}
use Rattle.soc_session.specs.Plan.{page_of}
use Rattle.soc_session.proofs.IntakeLemmas.{Awaits-collects, Awaits-passing, Awaits-plan, Awaits-submit}
use Rattle.soc_session.proofs.routes.look_at_route.Goals as goal

pub returns-in-Submit : goal.returns-in-Submit
returns-in-Submit c = Awaits-submit c.args.rules.now c.args.route c.args.caller c.args.head.now c.intake.result c.in-Submit.is c.intake.ensures

pub returns-in-RawCrash : goal.returns-in-RawCrash
returns-in-RawCrash c =
    Awaits-passing c.args.rules.now c.args.route R.RawCrash c.args.caller c.args.head.now c.annotations.result c.passing.result _ c.in-RawCrash.is c.annotations.ensures (λ body. (refl, refl)) c.passing.ensures

pub returns-in-RawDump : goal.returns-in-RawDump
returns-in-RawDump c =
    Awaits-passing c.args.rules.now c.args.route R.RawDump c.args.caller c.args.head.now c.dump.result c.passing-in-RawDump.result _ c.in-RawDump.is c.dump.ensures (λ body. (refl, refl)) c.passing-in-RawDump.ensures

pub returns-in-Stack : goal.returns-in-Stack
returns-in-Stack c =
    Awaits-passing c.args.rules.now c.args.route R.Stack c.args.caller c.args.head.now c.stack.result c.passing-in-Stack.result _ c.in-Stack.is c.stack.ensures (λ body. (refl, refl)) c.passing-in-Stack.ensures

pub returns-in-ProcessedCrash : goal.returns-in-ProcessedCrash
returns-in-ProcessedCrash c =
    Awaits-passing c.args.rules.now c.args.route R.ProcessedCrash c.args.caller c.args.head.now c.report.result c.passing-in-ProcessedCrash.result _ c.in-ProcessedCrash.is c.report.ensures (λ body. (refl, refl)) c.passing-in-ProcessedCrash.ensures

pub returns-in-SuperSearch : goal.returns-in-SuperSearch
returns-in-SuperSearch c =
    Awaits-passing c.args.rules.now c.args.route R.SuperSearch c.args.caller c.args.head.now c.reports.result c.passing-in-SuperSearch.result _ c.in-SuperSearch.is c.reports.ensures (λ body. (refl, refl)) c.passing-in-SuperSearch.ensures

pub returns-in-SuperSearchFields : goal.returns-in-SuperSearchFields
returns-in-SuperSearchFields c =
    Awaits-passing c.args.rules.now c.args.route R.SuperSearchFields c.args.caller c.args.head.now c.fields.result c.passing-in-SuperSearchFields.result _ c.in-SuperSearchFields.is c.fields.ensures (λ body. (refl, refl)) c.passing-in-SuperSearchFields.ensures

pub returns-in-Tops : goal.returns-in-Tops
returns-in-Tops c =
    Awaits-passing c.args.rules.now c.args.route R.Tops c.args.caller c.args.head.now c.tops.result c.passing-in-Tops.result _ c.in-Tops.is c.tops.ensures (λ body. (refl, refl)) c.passing-in-Tops.ensures

pub returns-in-Search : goal.returns-in-Search
returns-in-Search c =
    Awaits-passing c.args.rules.now c.args.route R.Search c.args.caller c.args.head.now c.reports-in-Search.result c.passing-in-Search.result _ c.in-Search.is c.reports-in-Search.ensures (λ body. (refl, refl)) c.passing-in-Search.ensures

pub returns-in-TopsPage : goal.returns-in-TopsPage
returns-in-TopsPage c =
    Awaits-passing c.args.rules.now c.args.route R.TopsPage c.args.caller c.args.head.now c.tops-in-TopsPage.result c.passing-in-TopsPage.result _ c.in-TopsPage.is c.tops-in-TopsPage.ensures (λ body. (refl, refl)) c.passing-in-TopsPage.ensures

pub returns-in-Reprocessing : goal.returns-in-Reprocessing
returns-in-Reprocessing c = Awaits-collects c.args.rules.now c.args.route R.Reprocessing c.args.caller c.args.head.now action.Reprocess c.in-Reprocessing.is (λ body. (refl, refl))

pub returns-in-PriorityJob : goal.returns-in-PriorityJob
returns-in-PriorityJob c = Awaits-collects c.args.rules.now c.args.route R.PriorityJob c.args.caller c.args.head.now action.Prioritise c.in-PriorityJob.is (λ body. (refl, refl))

pub returns-in-Withdrawal : goal.returns-in-Withdrawal
returns-in-Withdrawal c = Awaits-collects c.args.rules.now c.args.route R.Withdrawal c.args.caller c.args.head.now action.Withdraw c.in-Withdrawal.is (λ body. (refl, refl))

pub returns-in-Report : goal.returns-in-Report
returns-in-Report c =
    Awaits-passing c.args.rules.now c.args.route (R.Report c.in-Report.id) c.args.caller c.args.head.now c.report-in-Report.result c.passing-in-Report.result (page_of c.args.caller (id_in c.as_str.result.now)) c.in-Report.is c.report-in-Report.ensures
    (λ body. (refl, ap (λ t. page_of c.args.caller (id_in t)) c.as_str.ensures)) c.passing-in-Report.ensures

pub returns-in-Turn : goal.returns-in-Turn
returns-in-Turn c = Awaits-plan c.args.rules.now c.args.route R.Turn c.args.caller c.args.head.now c.turn.result _ c.in-Turn.is c.turn.ensures (λ body. (refl, refl))

pub returns-in-Drain : goal.returns-in-Drain
returns-in-Drain c = Awaits-plan c.args.rules.now c.args.route R.Drain c.args.caller c.args.head.now c.drain.result _ c.in-Drain.is c.drain.ensures (λ body. (refl, refl))

pub returns-in-Stop : goal.returns-in-Stop
returns-in-Stop c = Awaits-plan c.args.rules.now c.args.route R.Stop c.args.caller c.args.head.now c.stop.result _ c.in-Stop.is c.stop.ensures (λ body. (refl, refl))

pub returns-in-Counts : goal.returns-in-Counts
returns-in-Counts c = Awaits-plan c.args.rules.now c.args.route R.Counts c.args.caller c.args.head.now c.counts.result _ c.in-Counts.is c.counts.ensures (λ body. (refl, refl))

pub returns-in-Heartbeat : goal.returns-in-Heartbeat
returns-in-Heartbeat c = Awaits-plan c.args.rules.now c.args.route R.Heartbeat c.args.caller c.args.head.now c.heartbeat.result _ c.in-Heartbeat.is c.heartbeat.ensures (λ body. (refl, refl))

pub returns-in-Alive : goal.returns-in-Alive
returns-in-Alive c =
    Awaits-passing c.args.rules.now c.args.route R.Alive c.args.caller c.args.head.now c.alive.result c.passing-in-Alive.result _ c.in-Alive.is c.alive.ensures (λ body. (refl, refl)) c.passing-in-Alive.ensures

pub returns-in-Version : goal.returns-in-Version
returns-in-Version c =
    Awaits-passing c.args.rules.now c.args.route R.Version c.args.caller c.args.head.now c.version.result c.passing-in-Version.result _ c.in-Version.is c.version.ensures (λ body. (refl, refl)) c.passing-in-Version.ensures

pub returns-in-Front : goal.returns-in-Front
returns-in-Front c =
    Awaits-passing c.args.rules.now c.args.route R.Front c.args.caller c.args.head.now c.page.result c.passing-in-Front.result _ c.in-Front.is c.page.ensures (λ body. (refl, refl)) c.passing-in-Front.ensures
