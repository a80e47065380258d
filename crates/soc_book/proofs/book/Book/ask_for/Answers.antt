use Rattle.soc_book.proofs.Words.{ask}
use Rattle.soc_book.proofs.Asking.{ask_legal}
use Rattle.soc_book.proofs.book.Book.ask_for.Goals as goal

pub returns-clause-writes : goal.returns-clause-writes
returns-clause-writes g c basis log stands =
    c.write.ensures.writes basis log (ask c.args.id) stands c.requires.held.id_is
    (ask_legal stands c.args.id c.args.number c.requires.held) (λ is_told. c.requires.entry)
