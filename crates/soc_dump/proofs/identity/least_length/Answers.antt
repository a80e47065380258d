use Rattle.std.proofs.Common.{◌/◌, ◌≤◌, ◌∙◌, length, sym, arith}
use Rattle.soc_text.specs.Paths.{base_name_of}
use Rattle.soc_dump.specs.Entries.{units, utf16_text}
use Rattle.soc_dump.specs.Identity.{pdb_path_of}
use Rattle.soc_dump.specs.Views.{module_entry}
use Rattle.soc_dump.proofs.IdentityLemmas.{debug_file_of-pdb, debug_file_of-build}
use Rattle.soc_dump.proofs.LossyLemmas.{lossy-length}
use Rattle.soc_dump.proofs.Utf16Lemmas.{text-length, units-length}
use Rattle.soc_dump.proofs.identity.least_length.Goals as goal

pub returns-then-names_pdb : goal.returns-then-names_pdb
returns-then-names_pdb c =
    let pdb = sym c.names_pdb.ensures ∙ c.if-names_pdb.true in
    rw (debug_file_of-pdb (module_entry c.args.module.now) pdb, c.pdb_name.ensures)
    (lossy-length (base_name_of (pdb_path_of c.args.module.now.code_view.now)))

pub returns-then-holds_build_id : goal.returns-then-holds_build_id
returns-then-holds_build_id c =
    let pdb = sym c.names_pdb.ensures ∙ c.if-names_pdb.false in
    let build = sym c.holds_build_id.ensures ∙ c.if-holds_build_id.true in
    let name = c.name_part.result.now in
    let least : length name / 2 ≤ length (utf16_text (units name)) = omega (arith, text-length (units name), units-length name) in
    rw (debug_file_of-build (module_entry c.args.module.now) pdb build) (rw c.name_part.ensures at least)
