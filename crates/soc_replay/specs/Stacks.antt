-- The stacks of crashes, as a kit of these texts makes them. Which crashes a caller sees is the desk's to say, so of the caller
-- the permissions alone count.
use Rattle.std.specs.Prelude.{ℕ, List, Option}
use Rattle.soc_raw.specs.Record.{Crash}
use Rattle.soc_schema.specs.declared.caller.Products.TheVariants.{All}
use Rattle.soc_schema.specs.declared.permission.Permissions.{Permissions}
use Rattle.soc_report.specs.Kits.{kit_of}
use Rattle.soc_report.specs.StackText.{stack_text}
use Rattle.soc_report.specs.Texts.{KitTexts}

abbrev pub stacks_by : KitTexts → Permissions → Crash → Option (List ℕ)
stacks_by texts shown crash = stack_text (kit_of texts) (record { permissions = shown; products = All }) crash
