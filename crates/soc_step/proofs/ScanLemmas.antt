-- One word of a scan. The facts are as the code's calls give them.
use Rattle.std.proofs.Common.{◌≡◌, ℕ, zero, suc, ◌+◌, ◌-◌, ◌<◌, true, false, Option, Some, None, refl, sym, ◌∙◌, ap, arith}
use Rattle.soc_step.specs.Machine.{Registers, behind, bytes_of}
use Rattle.soc_step.specs.Step.{scan, word_at}
use Rattle.soc_step.specs.Surroundings.{Surroundings}

module _ (around : Surroundings) (registers : Registers) where
  -- a word as the call gives it, whose width is the machine's
  word_of : (width address : ℕ) (word : Option ℕ) → width ≡ bytes_of registers.machine.width → word ≡ around.word address width → word_at around registers address ≡ word
  word_of width address word same read = sym (read ∙ ap (around.word address) same)

  pub scan-unread : (width left address : ℕ) → width ≡ bytes_of registers.machine.width → None ≡ around.word address width → scan around registers left address ≡ None
  unfolding scan
  scan-unread width zero address same unread = refl
  scan-unread width (suc more) address same unread = rw (word_of width address None same unread) refl

  pub scan-at_end : (width left address word : ℕ) → width ≡ bytes_of registers.machine.width → Some word ≡ around.word address width → None ≡ behind registers.machine address → scan around registers left address ≡ None
  unfolding scan
  scan-at_end width zero address word same read end = refl
  scan-at_end width (suc more) address word same read end = rw (word_of width address (Some word) same read, ← end) refl

  pub scan-taken : (width left address word next : ℕ) → 0 < left → width ≡ bytes_of registers.machine.width → Some word ≡ around.word address width → Some next ≡ behind registers.machine address → true ≡ around.takes word → scan around registers left address ≡ Some (word, next)
  unfolding scan
  scan-taken width zero address word next some same read on takes = absurd (omega arith)
  scan-taken width (suc more) address word next some same read on takes =
      rw (word_of width address (Some word) same read, ← on, ← takes) refl

  pub scan-on : (width left more address word next : ℕ) → more + 1 ≡ left → width ≡ bytes_of registers.machine.width → Some word ≡ around.word address width → Some next ≡ behind registers.machine address → false ≡ around.takes word → scan around registers left address ≡ scan around registers more next
  unfolding scan
  scan-on width zero more address word next one same read on takes = absurd (omega arith)
  scan-on width (suc left) more address word next one same read on takes =
      let e : left ≡ more = omega arith in
      rw (word_of width address (Some word) same read, ← on, ← takes) (ap (λ n. scan around registers n next) e)

  pub scan-done : (left address : ℕ) → left ≡ 0 → scan around registers left address ≡ None
  unfolding scan
  scan-done zero address none = refl
  scan-done (suc more) address none = absurd (omega arith)
