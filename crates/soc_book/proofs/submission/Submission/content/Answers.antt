use Rattle.std.proofs.Common.{ap, ◌∙◌}
use Rattle.soc_book.proofs.Words.{Entry}
use Rattle.soc_book.proofs.Submissions.{content_behind}
use Rattle.soc_book.proofs.submission.Submission.content.Goals as goal

pub returns : goal.returns
returns c raw is =
    let body = c.body-record.ensures ∙ ap (λ (e : Entry). e.body) is.entry in
    content_behind raw c.body-record.result.now c.args.self.now.new.content c.min-place.result body is.tells.content c.min-place.ensures
