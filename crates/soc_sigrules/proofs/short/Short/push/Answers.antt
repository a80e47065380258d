use Rattle.std.proofs.Common.{List, ℕ, ◌++◌, ap, ◌∙◌}
use Rattle.soc_sigrules.specs.Chars.{first_chars}
use Rattle.soc_sigrules.proofs.ShortLemmas.{room_left, still_full, pushed}
use Rattle.soc_sigrules.proofs.short.Short.push.Goals as goal

pub overflow_sub-self : goal.overflow_sub-self
overflow_sub-self g c = room_left c.first_chars-front.result.now c.args.text.now c.self.inside.room _ c.char_count.ensures c.first_chars-front.ensures

pub invariant_of-self-2 : goal.invariant_of-self-2
invariant_of-self-2 g c =
    still_full _ _ _ c.first_chars-front.result.now c.args.text.now c.self.inside.room _ c.self.invariant c.in_ok-push_str.ensures.bytes c.char_count.ensures c.first_chars-front.ensures

pub returns : goal.returns
returns g c =
    pushed g.row.MOST _ _ c.first_chars-front.result.now c.args.text.now c.self.inside.room c.self.invariant c.in_ok-push_str.ensures.bytes c.first_chars-front.ensures
    ∙ ap (λ (xs : List ℕ). first_chars g.row.MOST (xs ++ c.args.text.now)) c.self.view_is
