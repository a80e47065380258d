use Rattle.soc_multipart.proofs.ReaderLemmas.{stay}
use Rattle.soc_multipart.proofs.readers.parts_stay.Goals as goal

pub returns : goal.returns
returns c = stay
