-- One frame of a walk.
use Rattle.std.proofs.Common.{◌≡◌, ℕ, zero, suc, ◌+◌, ◌-◌, ◌<◌, Bool, false, List, [], ◌∷◌, ◌++◌, map, Some, None, refl, sym, ◌∙◌, ap, append_assoc, append-nil, ◌≤◌, arith}
use Rattle.std.proofs.lemmas.List.{map_push}
use Rattle.soc_frames.specs.declared.frame.Frame.{Frame}
use Rattle.soc_step.specs.declared.step.Caller.{Caller}
use Rattle.soc_walk.specs.declared.borrowed.BorrowedFrame.{BorrowedFrame}
use Rattle.soc_walk.specs.Process.{ProcessEntry}
use Rattle.soc_walk.specs.Views.{frame_copy}
use Rattle.soc_walk.specs.Walk.{frame_of, frames_from, next_of}

module _ (process : ProcessEntry) (first : Bool) (here : Caller) where
  on : (left more : ℕ) (next : Caller) → more + 1 ≡ left → Some next ≡ next_of process first here.values → frames_from process left first here ≡ frame_of process first here ∷ frames_from process more false next
  unfolding frames_from
  on zero more next one is = absurd (omega arith)
  on (suc left) more next one is =
      let same : left ≡ more = omega arith in
      rw (← is) (ap (λ n. frame_of process first here ∷ frames_from process n false next) same)

  end : (left : ℕ) → 0 < left → None ≡ next_of process first here.values → frames_from process left first here ≡ frame_of process first here ∷ []
  unfolding frames_from
  end zero some is = absurd (omega arith)
  end (suc left) some is = rw (← is) refl

  pub pushed-on : (whole : List Frame) (items : List BorrowedFrame) (frame : BorrowedFrame) (count : ℕ) (next : Caller) → count < 1024
      → whole ≡ map (frame_copy process.loaded) items ++ frames_from process (1024 - count) first here
      → frame_copy process.loaded frame ≡ frame_of process first here
      → Some next ≡ next_of process first here.values
      → whole ≡ map (frame_copy process.loaded) (items ++ frame ∷ []) ++ frames_from process (1024 - (count + 1)) false next
  pushed-on whole items frame count next lt so_far copied is =
      so_far ∙ rw (on (1024 - count) (1024 - (count + 1)) next (omega arith) is, map_push (frame_copy process.loaded) items frame, copied, append_assoc) refl

  pub pushed-last : (whole : List Frame) (items : List BorrowedFrame) (frame : BorrowedFrame) (count : ℕ) → count < 1024
      → whole ≡ map (frame_copy process.loaded) items ++ frames_from process (1024 - count) first here
      → frame_copy process.loaded frame ≡ frame_of process first here
      → None ≡ next_of process first here.values
      → map (frame_copy process.loaded) (items ++ frame ∷ []) ≡ whole
  pushed-last whole items frame count lt so_far copied is =
      sym (so_far ∙ rw (end (1024 - count) (omega arith) is, map_push (frame_copy process.loaded) items frame, copied) refl)

none-left : (process : ProcessEntry) (first : Bool) (here : Caller) (left : ℕ) → left ≡ 0 → frames_from process left first here ≡ []
unfolding frames_from
none-left process first here zero is = refl
none-left process first here (suc left) is = absurd (omega arith)

pub all-pushed : (process : ProcessEntry) (first : Bool) (here : Caller) (whole : List Frame) (items : List BorrowedFrame) (count : ℕ) → 1024 ≤ count
    → whole ≡ map (frame_copy process.loaded) items ++ frames_from process (1024 - count) first here
    → map (frame_copy process.loaded) items ≡ whole
all-pushed process first here whole items count le so_far =
    let none : frames_from process (1024 - count) first here ≡ [] = none-left process first here (1024 - count) (omega arith) in
    let e = so_far ∙ ap (λ rest. map (frame_copy process.loaded) items ++ rest) none in
    sym (e ∙ append-nil (map (frame_copy process.loaded) items))
