use Rattle.std.proofs.Common.{◌∙◌, sym}
use Rattle.soc_dump.proofs.IdentityLemmas.{debug_id_of-pdb, debug_id_of-build, debug_id_of-other}
use Rattle.soc_dump.proofs.identity.debug_id.Goals as goal

pub returns-then-names_pdb : goal.returns-then-names_pdb
returns-then-names_pdb c =
    let pdb = sym c.names_pdb.ensures ∙ c.if-names_pdb.true in
    rw (debug_id_of-pdb c.args.module.now.code_view.now pdb) c.pdb_id.ensures

pub returns-then-holds_build_id : goal.returns-then-holds_build_id
returns-then-holds_build_id c =
    let pdb = sym c.names_pdb.ensures ∙ c.if-names_pdb.false in
    let build = sym c.holds_build_id.ensures ∙ c.if-holds_build_id.true in
    rw (debug_id_of-build c.args.module.now.code_view.now pdb build) c.build_id.ensures

pub returns : goal.returns
returns c =
    let pdb = sym c.names_pdb.ensures ∙ c.if-names_pdb.false in
    let build = sym c.holds_build_id.ensures ∙ c.if-holds_build_id.false in
    rw (debug_id_of-other c.args.module.now.code_view.now pdb build) c.of.ensures
