use Rattle.std.proofs.Common.{◌≡◌, ◌∙◌, [], ◌++◌}
use Rattle.std.proofs.lemmas.Result.{err_from_is_err_and}
use Rattle.soc_dump.specs.Directory.{header_checks, directory_checks, used_streams}
use Rattle.soc_dump.specs.Dump.{contents_of, dump_checks, contents_checks}
use Rattle.soc_dump.proofs.CheckLemmas.{refused_first, refused_second, read_behind}
use Rattle.soc_dump.proofs.dump.Dump.read.Goals as goal

pub returns-in_err-directory : goal.returns-in_err-directory
unfolding dump_checks
returns-in_err-directory c =
    let file = c.args.b.now in
    let p = err_from_is_err_and c.from_residual.result c.from_residual.ensures.1 in
    rw (p.1, p.2) (refused_first c.in_err-directory.field-0.0 (header_checks file)
    (directory_checks file [] (used_streams file) ++ contents_checks file (used_streams file)) c.in_err-directory.ensures)

pub returns-in_err-streams : goal.returns-in_err-streams
unfolding dump_checks
returns-in_err-streams c =
    let file = c.args.b.now in
    let header = c.in_ok-directory.ensures in
    let p = err_from_is_err_and c.from_residual-in_err-streams.result c.from_residual-in_err-streams.ensures.1 in
    let found = rw (header.1.0, header.1.1) at c.in_err-streams.ensures in
    rw (p.1, p.2) (refused_second c.in_err-streams.field-0.0 (header_checks file) (directory_checks file [] (used_streams file))
    (contents_checks file (used_streams file)) header.0 found)

pub returns : goal.returns
unfolding dump_checks
returns c =
    let file = c.args.b.now in
    let header = c.in_ok-directory.ensures in
    let directory = rw (header.1.0, header.1.1) at c.in_ok-streams.ensures in
    let kept = c.as_slice.ensures.value ∙ directory.1.0 in
    let read = rw kept at c.read_contents.ensures in
    let behind = read_behind c.read_contents.result (directory_checks file [] (used_streams file)) (contents_checks file (used_streams file))
    (λ dump. dump ≡ contents_of file) directory.0 read in
    read_behind c.read_contents.result (header_checks file) (directory_checks file [] (used_streams file) ++ contents_checks file (used_streams file))
    (λ dump. dump ≡ contents_of file) header.0 behind
