use Rattle.std.proofs.Common.{refl}
use Rattle.soc_book.proofs.Words.{crash_of, StandsFor, IsSubmissionOf}
use Rattle.soc_book.proofs.Deciding.{begun_does, doesnt_begin, writes_submit}
use Rattle.soc_book.proofs.book.Book.submit.Goals as goal

pub returns-in-Err-clause-does : goal.returns-in-Err-clause-does
returns-in-Err-clause-does g c raw of basis state stands =
    doesnt_begin (writes_submit basis raw) stands c.begin.ensures.looks (StandsFor basis c.begin.new.self) c.in-Err.refusal refl (c.in-Err.ensures.begins basis state stands)

pub returns-in-Ok-clause-does : goal.returns-in-Ok-clause-does
returns-in-Ok-clause-does g c raw of basis state stands =
    let made : IsSubmissionOf c.in-Ok.submission (crash_of raw) = rw c.in-Ok.ensures.made at of in
    begun_does (writes_submit basis raw) stands c.begin.ensures.looks (StandsFor basis c.begin.new.self) refl (c.in-Ok.ensures.begins basis state stands)
    (StandsFor basis c.submit_settled.new.self) (c.submit_settled.ensures.decided raw made basis)
