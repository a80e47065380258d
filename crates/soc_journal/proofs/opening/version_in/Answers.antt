use Rattle.std.proofs.Common.{◌∙◌, sym}
use Rattle.soc_journal.proofs.Headers.{reads_version}
use Rattle.soc_journal.proofs.opening.version_in.Goals as goal

pub returns-then-eq : goal.returns-then-eq
returns-then-eq c =
    let parts = c.in_ok-magic.ensures.cases in
    reads_version c.args.front.now _ _ _ _ parts.1 parts.2 c.requires c.as_slice.ensures (sym c.if-eq.ensures) (c.copied.ensures ∙ c.first.ensures.value)
