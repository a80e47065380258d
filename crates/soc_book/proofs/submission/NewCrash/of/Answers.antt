use Rattle.std.proofs.Common.{arith}
use Rattle.soc_book.proofs.Words.{crash_of}
use Rattle.soc_book.proofs.Submissions.{head_within}
use Rattle.soc_book.proofs.submission.NewCrash.of.Goals as goal

pub digest_behind-digest-requires : goal.digest_behind-digest-requires
digest_behind-digest-requires c =
    let within = head_within (crash_of c.args.raw.now) c.args.text.now c.requires in
    let place = c.content_place-content.ensures.place in
    omega (arith, within, place)
