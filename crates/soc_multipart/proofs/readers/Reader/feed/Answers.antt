use Rattle.soc_multipart.proofs.ReaderLemmas.{refusal_of}
use Rattle.soc_multipart.proofs.readers.Reader.feed.Goals as goal

pub returns-in-Err-clause-refused : goal.returns-in-Err-clause-refused
returns-in-Err-clause-refused c = λ fed w.
    refusal_of c.args.self.now c.self.inside c.replace-state.result c.as_slice.result.now c.args.piece.now fed c.in-Err.fault c.self.view_is c.as_slice.ensures.value
    c.replace-state.ensures.value c.in-Err.ensures.refused w
