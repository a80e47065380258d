-- A book's setting stays over calls that follow one another.
use Rattle.std.proofs.Common.{◌∙◌}
use Rattle.soc_edge.specs.declared.disk.Disk as disk
use Rattle.soc_schema.specs.declared.reporter.Reporter as reporter
use Rattle.soc_book.proofs.Words.{Book, SameSetting}

pub same_setting : {D R : Type 0} {d : disk.Ghosts D} {r : reporter.Ghosts R} {before between after : Book D R d r} → SameSetting before between → SameSetting between after → SameSetting before after
same_setting first second =
    record { same_disk = second.same_disk ∙ first.same_disk; limits = second.limits ∙ first.limits; reporter = second.reporter ∙ first.reporter }
