-- Made crashes, written one after another.
use Rattle.std.proofs.Common.{◌≡◌, ℕ, zero, suc, ◌+◌, ◌-◌, ◌<◌, List, [], ◌++◌, ap, sym, subst, ◌∙◌, append_assoc, append-nil, arith, add-one}
use Rattle.soc_edge.specs.Told.{Told, Writes, WritesFront}
use Rattle.soc_edge.proofs.Told.{Writes-append, WritesFront-behind, WritesFront-longer}
use Rattle.soc_made.specs.Made.{made_crash, made_crashes}

-- so many crashes more
made_crashes-add : (seed done left : ℕ) → (more : List ℕ) × (made_crashes seed (done + left) ≡ made_crashes seed done ++ more)
made_crashes-add seed done zero =
    let same : done + 0 ≡ done = omega arith in
    ([], ap (made_crashes seed) same ∙ sym (append-nil (made_crashes seed done)))
made_crashes-add seed done (suc left) =
    let so_far = made_crashes-add seed done left in
    let one : done + suc left ≡ suc (done + left) = omega arith in
    let last : List ℕ = made_crash seed (done + left) in (
      so_far.0 ++ last,
      ap (made_crashes seed) one ∙ (ap (λ (l : List ℕ). l ++ last) so_far.1 ∙ append_assoc (made_crashes seed done) so_far.0 last),
    )

made_crashes-one : (seed done : ℕ) → made_crashes seed (done + 1) ≡ made_crashes seed done ++ made_crash seed done
made_crashes-one seed done = ap (made_crashes seed) (add-one done)

-- one more was written
pub Writes-one : (before middle after : Told) (seed done : ℕ) (bytes : List ℕ) → bytes ≡ made_crash seed done → Writes before middle (made_crashes seed done) → Writes middle after bytes
    → Writes before after (made_crashes seed (done + 1))
Writes-one before middle after seed done bytes is first then =
    subst (Writes before after) (sym (made_crashes-one seed done))
    (Writes-append before middle after _ _ first (subst (Writes middle after) is then))

-- one more was cut off
pub WritesFront-one : (before middle after : Told) (seed done count : ℕ) (bytes : List ℕ) → bytes ≡ made_crash seed done → done < count → Writes before middle (made_crashes seed done)
    → WritesFront middle after bytes → WritesFront before after (made_crashes seed count)
WritesFront-one before middle after seed done count bytes is less first then =
    let more = made_crashes-add seed (done + 1) (count - (done + 1)) in
    let all : (done + 1) + (count - (done + 1)) ≡ count = omega arith in
    let split : made_crashes seed count ≡ (made_crashes seed done ++ made_crash seed done) ++ more.0 =
    ap (made_crashes seed) (sym all) ∙ (more.1 ∙ ap (λ (l : List ℕ). l ++ more.0) (made_crashes-one seed done)) in
    subst (WritesFront before after) (sym split)
    (WritesFront-longer before after _ more.0 (WritesFront-behind before middle after _ _ first (subst (WritesFront middle after) is then)))
