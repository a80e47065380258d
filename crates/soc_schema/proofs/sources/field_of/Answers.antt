use Rattle.std.proofs.Common.{rules}
use Rattle.std.proofs.lemmas.Fn.{always_returns_same}
use Rattle.soc_base.specs.Names.{byte_cmp}
use Rattle.soc_schema.specs.inner.Sources.{annotation_of}
use Rattle.soc_schema.proofs.SourceLemmas.{found, absent}
use Rattle.soc_schema.proofs.sources.field_of.Goals as goal

-- the closure compares the annotation of a field with the one that is looked for
pub returns-in-Ok : goal.returns-in-Ok
returns-in-Ok c =
    found c.args.annotation.now c.in-Ok.place _ c.in-Ok.ensures.bound (c.in-Ok.ensures.position (λ f. byte_cmp (annotation_of f) c.args.annotation.now) (always_returns_same _ _ _ (λ a r g called. (search rules, search rules))))

pub returns-in-Err : goal.returns-in-Err
returns-in-Err c =
    absent c.args.annotation.now c.in-Err.field-0 (c.in-Err.ensures.position (λ f. byte_cmp (annotation_of f) c.args.annotation.now) (always_returns_same _ _ _ (λ a r g called. (search rules, search rules))))
