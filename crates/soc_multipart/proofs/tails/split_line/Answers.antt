use Rattle.soc_multipart.proofs.TailLemmas.{piece_to_feed, piece_inline}
use Rattle.soc_multipart.proofs.tails.split_line.Goals as goal

pub returns-in-Some-clause-line : goal.returns-in-Some-clause-line
returns-in-Some-clause-line c = piece_to_feed c.args.piece.now _ c.in-Some.at c.before-in-Some.ensures c.in-Some.ensures

pub returns-in-None-clause-line : goal.returns-in-None-clause-line
returns-in-None-clause-line c = piece_inline c.args.piece.now c.in-None.ensures
