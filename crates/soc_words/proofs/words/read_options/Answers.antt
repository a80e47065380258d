use Rattle.std.proofs.Common.{◌≡◌, ◌∙◌, ap, map, string_bytes}
use Rattle.std.proofs.lemmas.Result.{IfOk-weaker}
use Rattle.clap.specs.Words.{app_of, found_of, rows_of, with_rule}
use Rattle.soc_words.specs.declared.words.WordsError.TheVariants.{NotOurs}
use Rattle.soc_words.specs.Words.{app_for}
use Rattle.soc_words.proofs.OptionLemmas.{free, simple, with_options-done, with_options-more, with_options-whole, words_for-faulty, words_for-taken}
use Rattle.soc_words.proofs.words.read_options.Goals as goal

pub loop-name-init : goal.loop-name-init
loop-name-init c = with_options-whole c.args.task _ _ c.options-name-items.result.now c.bare_command-command.ensures c.name.ensures c.options-name-items.ensures

pub loop-name-preserved : goal.loop-name-preserved
loop-name-preserved c =
    with_options-more (app_of c.loop-name.command) (app_of c.in_ok-command.command) (app_for c.args.task) c.options-name-items.result.now c.loop-name.name-index _ c.loop-name-test.true
    (c.in_ok-command.ensures.shape c.option.ensures.local ∙ ap (with_rule (app_of c.loop-name.command)) c.option.ensures.rule) c.loop-name.invariant

pub returns-in-Ok-clause-ok : goal.returns-in-Ok-clause-ok
returns-in-Ok-clause-ok c =
    let app = app_of c.loop-name.command in
    let words = map string_bytes c.args.words.now in
    let is : app ≡ app_for c.args.task = with_options-done app (app_for c.args.task) c.options-name-items.result.now c.loop-name.name-index c.loop-name-test.false c.loop-name.invariant in
    let taken = words_for-taken c.args.task app words (rows_of (found_of c.in-Ok.matches)) is (c.in-Ok.ensures.kinds (free c.args.task app is))
    (c.in-Ok.ensures.matches (simple c.args.task app is)).0 in
    IfOk-weaker c.read_matches.result _ _ (λ said found. taken ∙ found) c.read_matches.ensures.ok

pub returns-in-Ok-clause-not_ours : goal.returns-in-Ok-clause-not_ours
returns-in-Ok-clause-not_ours c =
    let app = app_of c.loop-name.command in
    let words = map string_bytes c.args.words.now in
    let is : app ≡ app_for c.args.task = with_options-done app (app_for c.args.task) c.options-name-items.result.now c.loop-name.name-index c.loop-name-test.false c.loop-name.invariant in
    let taken = words_for-taken c.args.task app words (rows_of (found_of c.in-Ok.matches)) is (c.in-Ok.ensures.kinds (free c.args.task app is))
    (c.in-Ok.ensures.matches (simple c.args.task app is)).0 in
    λ refused. taken ∙ c.read_matches.ensures.not_ours refused

pub returns-in-Err-clause-not_ours : goal.returns-in-Err-clause-not_ours
returns-in-Err-clause-not_ours c =
    let app = app_of c.loop-name.command in
    let words = map string_bytes c.args.words.now in
    let is : app ≡ app_for c.args.task = with_options-done app (app_for c.args.task) c.options-name-items.result.now c.loop-name.name-index c.loop-name-test.false c.loop-name.invariant in
    λ refused.
    let told : c.refusal_of.result ≡ NotOurs = cc in
    words_for-faulty c.args.task app words c.in-Err.error is (c.in-Err.ensures.kinds (free c.args.task app is))
    (λ same. c.refusal_of.ensures told (c.kind.ensures ∙ same))
