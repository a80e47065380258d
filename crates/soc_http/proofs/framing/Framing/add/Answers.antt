use Rattle.soc_http.proofs.LengthLemmas.{framing_of-snoc}
use Rattle.soc_http.proofs.framing.Framing.add.Goals as goal

pub returns : goal.returns
returns c = λ before e.
    rw (c.stated_by_line-self.ensures, c.is_same_word.ensures, c.is_close.ensures) (framing_of-snoc before _ _ e)
