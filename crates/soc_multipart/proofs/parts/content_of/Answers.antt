use Rattle.soc_multipart.proofs.Basics.{some_from_test}
use Rattle.soc_multipart.proofs.PartLemmas.{ends_open, open_not_empty}
use Rattle.soc_multipart.proofs.parts.content_of.Goals as goal

pub returns-then-not-is_empty : goal.returns-then-not-is_empty
returns-then-not-is_empty c = λ lines h.
    open_not_empty _ _ lines (ends_open _ lines _ _ c.in-Open.is h) (some_from_test _ _ c.is_empty.ensures c.if-not-is_empty.true)
