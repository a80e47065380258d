use Rattle.std.proofs.Common.{refl}
use Rattle.soc_symfile.proofs.RecordLemmas.{adds-other, adds-file, adds-public, adds-function, adds-init, adds-source, adds-delta, lone-source, lone-delta, some_there}
use Rattle.soc_symfile.specs.Views.{label_entry}
use Rattle.soc_symfile.proofs.tables.Tables.add.Goals as goal

pub returns-in-Other : goal.returns-in-Other
returns-in-Other c = rw c.in-Other.is (adds-other c.args.number c.args.self.now)

pub returns-in_ok-add_file-in-File : goal.returns-in_ok-add_file-in-File
returns-in_ok-add_file-in-File c = rw c.in-File.is (adds-file c.args.number c.args.self.now _ _ c.in_ok-add_file-in-File.ensures)

pub returns-in_ok-add_public-in-Public : goal.returns-in_ok-add_public-in-Public
returns-in_ok-add_public-in-Public c = rw c.in-Public.is (adds-public c.args.number c.args.self.now _ _ c.in_ok-add_public-in-Public.ensures)

pub returns-in_ok-add_function-in-Function : goal.returns-in_ok-add_function-in-Function
returns-in_ok-add_function-in-Function c = rw c.in-Function.is (adds-function c.args.number c.args.self.now _ _ c.in_ok-add_function-in-Function.ensures)

pub returns-in_ok-add_init-in-Init : goal.returns-in_ok-add_init-in-Init
returns-in_ok-add_init-in-Init c = rw c.in-Init.is (adds-init c.args.number c.args.self.now _ _ c.in_ok-add_init-in-Init.ensures)

pub returns-in_ok-add_source-in-Source : goal.returns-in_ok-add_source-in-Source
returns-in_ok-add_source-in-Source c =
    rw c.in-Source.is (adds-source c.args.number c.args.self.now _ _ (some_there _ c.if-not-has_function.ensures) c.in_ok-add_source-in-Source.ensures)

pub returns-in_ok-add_delta-in-Delta : goal.returns-in_ok-add_delta-in-Delta
returns-in_ok-add_delta-in-Delta c =
    rw c.in-Delta.is (adds-delta c.args.number c.args.self.now _ _ (some_there _ c.if-not-has_init.ensures) c.in_ok-add_delta-in-Delta.ensures)

pub returns-then-not-has_function : goal.returns-then-not-has_function
returns-then-not-has_function c =
    rw c.in-Source.is (λ said is. (refl, lone-source c.args.number c.args.self.now c.in-Source.line c.has_function.result c.has_function.ensures c.if-not-has_function.true said is))

pub returns-then-not-has_init : goal.returns-then-not-has_init
returns-then-not-has_init c =
    rw c.in-Delta.is (λ said is. (refl, lone-delta c.args.number c.args.self.now (label_entry c.in-Delta.label) c.has_init.result c.has_init.ensures c.if-not-has_init.true said is))
