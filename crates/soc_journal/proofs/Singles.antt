-- One entry, as a list of one.
use Rattle.std.proofs.Common.{◌≡◌, ℕ, ◌+◌, List, [], ◌∷◌, length, ◌∙◌, ap}
use Rattle.soc_journal.specs.Entries.{Entry, beside_body, entry_text, entries_text, sealed, sealed_all}
use Rattle.soc_journal.proofs.Texts.{length-sealed, sealed_one, entries_text-one}

module _ (entries : List Entry) (entry : Entry) (is : entries ≡ entry ∷ []) where
  pub sealed_is : sealed_all entries ≡ sealed entry
  sealed_is = ap sealed_all is ∙ sealed_one entry

  pub count_is : length (entries_text entries) ≡ length (entry_text entry)
  count_is = ap (λ (x : List Entry). length (entries_text x)) is ∙ ap (λ (x : List ℕ). length x) (entries_text-one entry)

  pub size_is : length (sealed_all entries) ≡ beside_body + length entry.body
  size_is = ap (λ (x : List ℕ). length x) sealed_is ∙ length-sealed entry
