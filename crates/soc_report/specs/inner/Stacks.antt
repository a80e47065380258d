-- What a crash says of its stack, and its signature.
use Rattle.std.specs.Prelude.{Bool, false, length, codes, Option, option_and_then}
use Rattle.std.specs.Option.{option_map_or}
use Rattle.soc_raw.specs.Record.{Crash}
use Rattle.soc_dump.specs.Dump.{Contents}
use Rattle.soc_sigrules.specs.Signatures.{signature_of}
use Rattle.soc_report.specs.declared.stack.Signed.{Signed}
use Rattle.soc_report.specs.Annotations.{text_at, lists_browser}
use Rattle.soc_report.specs.Dumps.{reason_of}
use Rattle.soc_report.specs.Kits.{KitEntry}
use Rattle.soc_report.specs.Stacks.{stack_of, is_overflow, input_of}

abbrev pub overflows : Option Contents → Bool
overflows dump = option_map_or is_overflow (option_and_then reason_of dump) false

abbrev pub names_browser : Crash → Bool
names_browser crash = option_map_or lists_browser (text_at crash (codes "additional_minidumps")) false

abbrev pub signed_of : KitEntry → Crash → Option Contents → Signed
signed_of kit crash dump = record {
  signature = signature_of kit.lists (input_of crash dump (stack_of kit dump));
  frame_count = length (stack_of kit dump);
}
