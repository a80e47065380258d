use Rattle.std.proofs.Common.{[], ◌∷◌, ◌∙◌, ap, refl}
use Rattle.soc_book.proofs.Words.{Entry}
use Rattle.soc_book.proofs.book.Book.write.Goals as goal

pub returns-in-Ok-clause-writes : goal.returns-in-Ok-clause-writes
returns-in-Ok-clause-writes g c basis log change stands are next same =
    let did = c.in-Ok.ensures.appended basis log (change ∷ []) stands are next (λ is_told. c.from_ref.ensures.value ∙ ap (λ (e : Entry). e ∷ []) (same is_told)) in
    (did.0, did.1, record { result = _; appended = did.2; replies = refl })

pub returns-in-Err-clause-writes : goal.returns-in-Err-clause-writes
returns-in-Err-clause-writes g c basis log change stands are next same =
    let did = c.in-Err.ensures.appended basis log (change ∷ []) stands are next (λ is_told. c.from_ref.ensures.value ∙ ap (λ (e : Entry). e ∷ []) (same is_told)) in
    (did.0, did.1, record { result = _; appended = did.2; replies = refl })
