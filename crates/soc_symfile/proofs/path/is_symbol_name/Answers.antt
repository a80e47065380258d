use Rattle.std.proofs.Common.{codes}
use Rattle.soc_symfile.proofs.PathLemmas.{rest_is}
use Rattle.soc_symfile.specs.Path.{stem_of}
use Rattle.soc_symfile.proofs.path.is_symbol_name.Goals as goal

pub returns-in-Some : goal.returns-in-Some
returns-in-Some c =
    let begins = rw (c.as_bytes.ensures.value, c.stem_of.ensures) at c.in-Some.ensures in
    rest_is c.args.name.now (stem_of c.args.debug_file.now) c.in-Some.rest.now (codes ".sym") c.eq.result begins (rw c.as_slice.ensures at c.eq.ensures)
