use Rattle.soc_http.proofs.BlockLemmas.{HasNoBlock-from_none, IsBlock-from_first}
use Rattle.soc_http.proofs.search.block_end.Goals as goal

pub returns-in-Some : goal.returns-in-Some
returns-in-Some c =
    IsBlock-from_first _ _ _ _ c.requires.within c.requires.none_before c.saturating_sub-from.ensures c.after.ensures _
    c.in-Some.ensures.0 c.in-Some.ensures.1

pub returns-in-None : goal.returns-in-None
returns-in-None c =
    HasNoBlock-from_none _ _ _ _ c.requires.within c.requires.none_before c.saturating_sub-from.ensures c.after.ensures
    c.in-None.ensures
