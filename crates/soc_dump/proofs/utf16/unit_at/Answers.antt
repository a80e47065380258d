use Rattle.std.proofs.Common.{◌*◌, ◌∙◌}
use Rattle.std.proofs.lemmas.List.{take_rest}
use Rattle.soc_dump.proofs.Utf16Lemmas.{units-at}
use Rattle.soc_dump.proofs.utf16.unit_at.Goals as goal

pub returns : goal.returns
returns c =
    let read = rw (take_rest c.args.path.now (c.args.index * 2)) at c.read_u16.ensures in
    read ∙ units-at c.args.path.now c.args.index c.requires
