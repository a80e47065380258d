use Rattle.std.proofs.Common.{◌∙◌, ap, ◌++◌, ◌∷◌, []}
use Rattle.json.specs.Token as token
use Rattle.soc_schema.proofs.RowJsonLemmas.{text_put}
use Rattle.soc_schema.proofs.json_text.put_text.Goals as goal

pub returns : goal.returns
returns c =
    text_put c.args.out.now.items c.args.text.now c.string.new.self.before _ c.string.new.self.tokens
    (c.in_ok-string.ensures.room.0 ∙ c.new-writer.ensures.before ∙ ap (λ v. v.items) c.replace.ensures.value)
    (c.in_ok-string.ensures.ok ∙ ap (λ ts. ts ++ token.string c.args.text.now ∷ []) c.new-writer.ensures.tokens)
    c.into_inner.ensures.items
