use Rattle.std.proofs.Common.{◌∙◌, ap, bytes_eq, is_some}
use Rattle.soc_schema.specs.declared.token.Token.{Token}
use Rattle.soc_schema.proofs.TokenLemmas.{is_some-copied, is_some-find}
use Rattle.soc_schema.proofs.token.Tokens.has_key.Goals as goal

pub returns : goal.returns
returns c =
    c.is_some.ensures ∙ is_some-copied c.with_key.result ∙ ap is_some c.with_key.ensures
    ∙ is_some-find (λ (t : Token). bytes_eq t.key c.args.key.now) c.args.self.now
