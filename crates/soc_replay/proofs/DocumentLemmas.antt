-- What a file's bytes are as a table, by whether they are text.
use Rattle.std.proofs.Common.{◌≡◌, ◌↔◌, ℕ, Bool, true, false, IsTrue, List, None, refl}
use Rattle.std.proofs.lemmas.Str.{IsUtf8-from_is_utf8, is_utf8-from_IsUtf8}
use Rattle.std.specs.Str.{IsUtf8, is_utf8}
use Rattle.toml.specs.Parse.{parse_document}
use Rattle.soc_base.proofs.Folk.{not_true}
use Rattle.soc_replay.specs.Documents.{document_of}

-- a test that failed refutes what it tests
pub refuted : {P : Type 0} (test : Bool) → (IsTrue test ↔ P) → test ≡ false → ¬ P
refuted test tests failed p = let passed : test ≡ true = tests.1 p in cc

pub document_of-no_text : (bytes : List ℕ) → ¬ (IsUtf8 bytes) → None ≡ document_of bytes
unfolding document_of
document_of-no_text bytes no_text =
    let test : is_utf8 bytes ≡ false = not_true (is_utf8 bytes) (λ h. no_text (IsUtf8-from_is_utf8 bytes h)) in
    rw test refl

pub document_of-text : (bytes text : List ℕ) → text ≡ bytes → IsUtf8 bytes → parse_document text ≡ document_of bytes
unfolding document_of
document_of-text bytes text same utf8 = rw (same, is_utf8-from_IsUtf8 bytes utf8) refl
