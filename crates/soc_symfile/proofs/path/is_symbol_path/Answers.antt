use Rattle.std.proofs.Common.{◌++◌, false, codes, IsTrue}
use Rattle.soc_symfile.specs.Path.{stem_of}
use Rattle.soc_symfile.proofs.PathLemmas.{part_iff}
use Rattle.soc_symfile.proofs.path.is_symbol_path.Goals as goal

pub returns-in_default-strip_part : goal.returns-in_default-strip_part
returns-in_default-strip_part c =
    let begins = rw c.as_bytes.ensures.value at c.in-Some.ensures in
    part_iff c.args.path.now c.args.debug_file.now c.in-Some.rest.now (codes "/") (c.args.debug_id.now ++ (codes "/" ++ (stem_of c.args.debug_file.now ++ codes ".sym"))) (IsTrue false)
    begins (λ h. absurd (cc), λ same. absurd (c.in_default-strip_part.ensures _ same))

pub returns : goal.returns
returns c =
    let begins = rw c.as_bytes.ensures.value at c.in-Some.ensures in
    let name = stem_of c.args.debug_file.now ++ codes ".sym" in
    part_iff c.args.path.now c.args.debug_file.now c.in-Some.rest.now (codes "/") (c.args.debug_id.now ++ (codes "/" ++ name)) (IsTrue c.is_symbol_name.result) begins
    (part_iff c.in-Some.rest.now c.args.debug_id.now c.in-Some-strip_part.name.now (codes "/") name (IsTrue c.is_symbol_name.result) c.in-Some-strip_part.ensures c.is_symbol_name.ensures)
