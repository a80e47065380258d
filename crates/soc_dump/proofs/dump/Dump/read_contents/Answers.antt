use Rattle.std.proofs.Common.{◌++◌}
use Rattle.std.proofs.lemmas.Result.{err_from_is_err_and}
use Rattle.soc_dump.specs.Layout.{thread_list, module_list, memory_list, exception_stream, system_stream}
use Rattle.soc_dump.specs.Directory.{stream_of}
use Rattle.soc_dump.specs.Dump.{asked, contents_checks, contents_in, thread_list_checks, module_list_checks, memory_list_checks, exception_stream_checks, system_stream_checks}
use Rattle.soc_dump.proofs.CheckLemmas.{refused_first, refused_second, refused_third, refused_fourth, refused_fifth, none_fifth}
use Rattle.soc_dump.proofs.ListLemmas.{contents_same}
use Rattle.soc_dump.proofs.dump.Dump.read_contents.Goals as goal

pub returns-in_err-threads : goal.returns-in_err-threads
unfolding contents_checks
returns-in_err-threads c =
    let file = c.args.file.now in
    let streams = c.args.streams.now in
    let p = err_from_is_err_and c.from_residual.result c.from_residual.ensures.1 in
    rw (p.1, p.2) (refused_first c.in_err-threads.field-0.0 (asked (thread_list_checks file) (stream_of thread_list streams)) (asked (module_list_checks file) (stream_of module_list streams) ++ (asked (memory_list_checks file) (stream_of memory_list streams) ++ (asked (exception_stream_checks file) (stream_of exception_stream streams) ++ (asked (system_stream_checks file) (stream_of system_stream streams))))) c.in_err-threads.ensures)

pub returns-in_err-modules : goal.returns-in_err-modules
unfolding contents_checks
returns-in_err-modules c =
    let file = c.args.file.now in
    let streams = c.args.streams.now in
    let p = err_from_is_err_and c.from_residual-in_err-modules.result c.from_residual-in_err-modules.ensures.1 in
    rw (p.1, p.2) (refused_second c.in_err-modules.field-0.0 (asked (thread_list_checks file) (stream_of thread_list streams)) (asked (module_list_checks file) (stream_of module_list streams)) (asked (memory_list_checks file) (stream_of memory_list streams) ++ (asked (exception_stream_checks file) (stream_of exception_stream streams) ++ (asked (system_stream_checks file) (stream_of system_stream streams)))) c.in_ok-threads.ensures.0 c.in_err-modules.ensures)

pub returns-in_err-memory : goal.returns-in_err-memory
unfolding contents_checks
returns-in_err-memory c =
    let file = c.args.file.now in
    let streams = c.args.streams.now in
    let p = err_from_is_err_and c.from_residual-in_err-memory.result c.from_residual-in_err-memory.ensures.1 in
    rw (p.1, p.2) (refused_third c.in_err-memory.field-0.0 (asked (thread_list_checks file) (stream_of thread_list streams)) (asked (module_list_checks file) (stream_of module_list streams)) (asked (memory_list_checks file) (stream_of memory_list streams)) (asked (exception_stream_checks file) (stream_of exception_stream streams) ++ (asked (system_stream_checks file) (stream_of system_stream streams))) c.in_ok-threads.ensures.0 c.in_ok-modules.ensures.0 c.in_err-memory.ensures)

pub returns-in_err-exception : goal.returns-in_err-exception
unfolding contents_checks
returns-in_err-exception c =
    let file = c.args.file.now in
    let streams = c.args.streams.now in
    let p = err_from_is_err_and c.from_residual-in_err-exception.result c.from_residual-in_err-exception.ensures.1 in
    rw (p.1, p.2) (refused_fourth c.in_err-exception.field-0.0 (asked (thread_list_checks file) (stream_of thread_list streams)) (asked (module_list_checks file) (stream_of module_list streams)) (asked (memory_list_checks file) (stream_of memory_list streams)) (asked (exception_stream_checks file) (stream_of exception_stream streams)) (asked (system_stream_checks file) (stream_of system_stream streams)) c.in_ok-threads.ensures.0 c.in_ok-modules.ensures.0 c.in_ok-memory.ensures.0 c.in_err-exception.ensures)

pub returns-in_err-system : goal.returns-in_err-system
unfolding contents_checks
returns-in_err-system c =
    let file = c.args.file.now in
    let streams = c.args.streams.now in
    let p = err_from_is_err_and c.from_residual-in_err-system.result c.from_residual-in_err-system.ensures.1 in
    rw (p.1, p.2) (refused_fifth c.in_err-system.field-0.0 (asked (thread_list_checks file) (stream_of thread_list streams)) (asked (module_list_checks file) (stream_of module_list streams)) (asked (memory_list_checks file) (stream_of memory_list streams)) (asked (exception_stream_checks file) (stream_of exception_stream streams)) (asked (system_stream_checks file) (stream_of system_stream streams)) c.in_ok-threads.ensures.0 c.in_ok-modules.ensures.0 c.in_ok-memory.ensures.0 c.in_ok-exception.ensures.0 c.in_err-system.ensures)

pub returns : goal.returns
unfolding contents_checks contents_in
returns c =
    let file = c.args.file.now in
    let streams = c.args.streams.now in (
      none_fifth (asked (thread_list_checks file) (stream_of thread_list streams))
          (asked (module_list_checks file) (stream_of module_list streams))
          (asked (memory_list_checks file) (stream_of memory_list streams))
          (asked (exception_stream_checks file) (stream_of exception_stream streams))
          (asked (system_stream_checks file) (stream_of system_stream streams))
          c.in_ok-threads.ensures.0 c.in_ok-modules.ensures.0 c.in_ok-memory.ensures.0 c.in_ok-exception.ensures.0 c.in_ok-system.ensures.0,
      contents_same c.in_ok-threads.ensures.1 c.in_ok-modules.ensures.1 c.in_ok-memory.ensures.1 c.in_ok-exception.ensures.1 c.in_ok-system.ensures.1,
    )
