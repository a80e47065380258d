-- What the program's values say, without where they lie in memory.
use Rattle.std.specs.Prelude.{ℕ, [], slice_index_or}
use Rattle.soc_raw.specs.RawCrash.{crash_of}
use Rattle.soc_report.specs.declared.known.Known as code_known
use Rattle.soc_report.specs.declared.source.Source as code_source
use Rattle.soc_report.specs.declared.source.Source.TheVariants as code
use Rattle.soc_schema.specs.declared.field.FieldKind.{FieldKind}
use Rattle.soc_schema.specs.declared.field.FieldKind.TheVariants as kind
use Rattle.soc_report.specs.Report.{Known, Source, Line, line, sources, product, text, number, flag, age, id, moment, rule, success, architecture, processors, platform, version, modules, address, reason, thread, frames, signature, proto, notes}

abbrev pub known_view : code_known.Known → Known
known_view known = record {
  crash = crash_of known.raw.now;
  reading = known.reading.now;
  module_count = known.module_count;
  frame_count = known.frame_count;
  signature = known.signature;
}

-- the source at a place of the table
abbrev pub no_line : Line
no_line = line [] notes

abbrev pub source_at : ℕ → Source
source_at place = (slice_index_or sources place no_line).source

-- what values a source gives
abbrev pub kind_of_source : Source → FieldKind
kind_of_source (number name) = kind.Number
kind_of_source (age name) = kind.Number
kind_of_source processors = kind.Number
kind_of_source modules = kind.Number
kind_of_source thread = kind.Number
kind_of_source frames = kind.Number
kind_of_source (flag name) = kind.Flag
kind_of_source success = kind.Flag
kind_of_source product = kind.Text
kind_of_source (text name) = kind.Text
kind_of_source id = kind.Text
kind_of_source moment = kind.Text
kind_of_source rule = kind.Text
kind_of_source architecture = kind.Text
kind_of_source platform = kind.Text
kind_of_source version = kind.Text
kind_of_source address = kind.Text
kind_of_source reason = kind.Text
kind_of_source signature = kind.Text
kind_of_source proto = kind.Text
kind_of_source notes = kind.Text

abbrev pub source_view : code_source.Source → Source
source_view code.Product = product
source_view (code.Text name) = text name.now
source_view (code.Number name) = number name.now
source_view (code.Flag name) = flag name.now
source_view (code.Age name) = age name.now
source_view code.Id = id
source_view code.Moment = moment
source_view code.Rule = rule
source_view code.Success = success
source_view code.Architecture = architecture
source_view code.Processors = processors
source_view code.Platform = platform
source_view code.Version = version
source_view code.Modules = modules
source_view code.Address = address
source_view code.Reason = reason
source_view code.Thread = thread
source_view code.Frames = frames
source_view code.Signature = signature
source_view code.Proto = proto
source_view code.Notes = notes
