use Rattle.std.proofs.Common.{List, ℕ, subst}
use Rattle.std.specs.Str.{IsUtf8}
use Rattle.soc_base.specs.Names.{HasTextName}
use Rattle.soc_base.proofs.NamedPairs.{all_set, keeps_name}
use Rattle.soc_base.proofs.blobs.Blobs.set.Goals as goal

pub invariant_of-self : goal.invariant_of-self
invariant_of-self c =
    let P : List ℕ → Type 0 = IsUtf8 in
    all_set HasTextName keeps_name c.set.result c.self.inside.map c.set.new.self c.args.name c.args.value c.set.ensures.ok c.set.ensures.err c.self.invariant (subst P c.as_str-name.ensures c.as_str-name.utf8)
