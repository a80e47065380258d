use Rattle.soc_dump.proofs.NumberLemmas.{fits_of_four}
use Rattle.soc_dump.proofs.field.narrow.Goals as goal

pub overflow_cast-result : goal.overflow_cast-result
overflow_cast-result c = fits_of_four _ c.args.field.width c.wide.ensures.small c.requires.fits
