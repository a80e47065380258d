-- The frame at an address, by the place of the module that holds it.
use Rattle.std.proofs.Common.{◌≡◌, ℕ, Option, Some, None, sym, ◌∙◌, ap}
use Rattle.std.specs.Prelude.{position, slice_get}
use Rattle.std.specs.Option.{option_map_or}
use Rattle.soc_frames.specs.declared.frame.Frame.{Frame}
use Rattle.soc_frames.specs.declared.frame.Trust.{Trust}
use Rattle.soc_walk.specs.Process.{LoadedEntry, ProcessEntry, holds, loaded_at}
use Rattle.soc_walk.specs.Walk.{frame_at, in_module, in_no_module}
use Rattle.soc_walk.proofs.PlaceLemmas.{find-at}

module _ (process : ProcessEntry) (instruction address : ℕ) (trust : Trust) (frame : Frame) where
  from : (loaded : Option LoadedEntry) → loaded_at process address ≡ loaded → frame ≡ option_map_or (in_module instruction address trust) loaded (in_no_module instruction address trust) → frame ≡ frame_at process instruction address trust
  from loaded is shown = shown ∙ sym (ap (λ l. option_map_or (in_module instruction address trust) l (in_no_module instruction address trust)) is)

  pub at_none : None ≡ position (holds address) process.loaded → frame ≡ in_no_module instruction address trust → frame ≡ frame_at process instruction address trust
  at_none none shown = from None (find-at (holds address) process.loaded None (sym none)) shown

  pub at_some : (index : ℕ) (loaded : LoadedEntry) → Some index ≡ position (holds address) process.loaded → Some loaded ≡ slice_get process.loaded index → frame ≡ in_module instruction address trust loaded → frame ≡ frame_at process instruction address trust
  at_some index loaded found is shown = from (Some loaded) (find-at (holds address) process.loaded (Some index) (sym found) ∙ sym is) shown

  pub at_lost : (index : ℕ) → Some index ≡ position (holds address) process.loaded → None ≡ slice_get process.loaded index → frame ≡ in_no_module instruction address trust → frame ≡ frame_at process instruction address trust
  at_lost index found is shown = from None (find-at (holds address) process.loaded (Some index) (sym found) ∙ sym is) shown
