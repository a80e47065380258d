use Rattle.std.proofs.Common.{◌∙◌, sym}
use Rattle.soc_dump.specs.Views.{module_entry}
use Rattle.soc_dump.proofs.IdentityLemmas.{debug_file_of-pdb, debug_file_of-build, debug_file_of-other}
use Rattle.soc_dump.proofs.identity.debug_file.Goals as goal

pub returns-then-names_pdb : goal.returns-then-names_pdb
returns-then-names_pdb c =
    let pdb = sym c.names_pdb.ensures ∙ c.if-names_pdb.true in
    rw (debug_file_of-pdb (module_entry c.args.module.now) pdb) (rw c.pdb_name.ensures at c.lossy.ensures)

pub returns-then-holds_build_id : goal.returns-then-holds_build_id
returns-then-holds_build_id c =
    let pdb = sym c.names_pdb.ensures ∙ c.if-names_pdb.false in
    let build = sym c.holds_build_id.ensures ∙ c.if-holds_build_id.true in
    rw (debug_file_of-build (module_entry c.args.module.now) pdb build) c.name.ensures

pub returns : goal.returns
returns c =
    let pdb = sym c.names_pdb.ensures ∙ c.if-names_pdb.false in
    let build = sym c.holds_build_id.ensures ∙ c.if-holds_build_id.false in
    rw (debug_file_of-other (module_entry c.args.module.now) pdb build) c.of.ensures
