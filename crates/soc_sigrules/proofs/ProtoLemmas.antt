-- All frames, cut to their first characters, one frame more.
use Rattle.std.proofs.Common.{◌≡◌, Bool, true, false, cond, ℕ, List, ◌++◌, sym, ap, ◌∙◌, append_assoc}
use Rattle.std.specs.Str.{IsUtf8}
use Rattle.soc_sigrules.specs.Chars.{first_chars}
use Rattle.soc_sigrules.specs.Stacks.{separator}
use Rattle.soc_sigrules.specs.inner.Steps.{proto_with}
use Rattle.soc_sigrules.proofs.CharLemmas.{first_chars-again, first_chars-none}

pub pushed_later : (has : Bool) (old middle last frame : List ℕ) → IsUtf8 frame → has ≡ true → middle ≡ first_chars 2000 (old ++ separator) → last ≡ first_chars 2000 (middle ++ frame)
    → last ≡ proto_with has old frame
pushed_later has old middle last frame utf8 some first second =
    second
    ∙ ap (λ (xs : List ℕ). first_chars 2000 (xs ++ frame)) first
    ∙ first_chars-again 2000 (old ++ separator) frame (first_chars-none frame utf8)
    ∙ ap (first_chars 2000) (append_assoc old separator frame)
    ∙ ap (λ b. first_chars 2000 (old ++ cond b (separator ++ frame) frame)) (sym some)

pub pushed_first : (has : Bool) (old last frame : List ℕ) → has ≡ false → last ≡ first_chars 2000 (old ++ frame) → last ≡ proto_with has old frame
pushed_first has old last frame none is = is ∙ ap (λ b. first_chars 2000 (old ++ cond b (separator ++ frame) frame)) (sym none)
