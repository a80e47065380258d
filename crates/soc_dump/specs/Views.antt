-- What the program's values hold, without the places where their slices lie in memory.
use Rattle.std.specs.Prelude.{Option, option_map}
use Rattle.soc_dump.specs.declared.thread.Thread.{Thread}
use Rattle.soc_dump.specs.declared.exception.Exception.{Exception}
use Rattle.soc_dump.specs.declared.modules.Module.{Module}
use Rattle.soc_dump.specs.declared.memory.Region.{Region}
use Rattle.soc_dump.specs.Entries.{ThreadEntry, ModuleEntry, MemoryEntry, ExceptionEntry, file_name_of}

abbrev pub thread_entry : Thread → ThreadEntry
thread_entry thread = record {
  id = thread.id;
  stack_start = thread.stack_start;
  stack = thread.stack.now;
  context = thread.context.now;
}

abbrev pub memory_entry : Region → MemoryEntry
memory_entry region = record { start = region.start; bytes = region.bytes.now }

abbrev pub module_entry : Module → ModuleEntry
module_entry loaded = record {
  base = loaded.base;
  size = loaded.size;
  name = file_name_of loaded.path.now;
  code_view = loaded.code_view.now;
}

abbrev pub exception_entry : Exception → ExceptionEntry
exception_entry exception = record {
  thread = exception.thread;
  code = exception.code;
  address = exception.address;
  count = exception.count;
  info = exception.info;
  context = exception.context.now;
}

abbrev pub exception_view : Option Exception → Option ExceptionEntry
exception_view exception = option_map exception_entry exception
