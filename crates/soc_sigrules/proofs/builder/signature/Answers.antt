use Rattle.std.proofs.Common.{◌≡◌, List, ℕ, [], ◌∷◌, ◌++◌, ap, sym, ◌∙◌, append_assoc, append-nil}
use Rattle.std.proofs.lemmas.Result.{IfOk-weaker}
use Rattle.soc_sigrules.specs.Signatures.{signature_of}
use Rattle.soc_sigrules.proofs.builder.signature.Goals as goal

pub loop-frame-init : goal.loop-frame-init
loop-frame-init c = ([], c.into_iter-frame-iterator.ensures.into_iter_gives, c.in_ok-builder.ensures)

pub loop-frame-preserved : goal.loop-frame-preserved
loop-frame-preserved c =
    let pushed = c.loop-frame.invariant.0 in
    let frame = c.in-Some.frame.now in (
      pushed ++ frame ∷ [],
      append_assoc pushed (frame ∷ []) c.next.new.self
          ∙ ap (λ (left : List (List ℕ)). pushed ++ left) (sym c.in-Some.ensures.steps)
          ∙ c.loop-frame.invariant.1,
      c.in_ok-builder-2.ensures.frames c.args.lists.now pushed c.loop-frame.invariant.2,
    )

pub returns : goal.returns
returns c =
    let pushed = c.loop-frame.invariant.0 in
    let all : pushed ≡ c.args.input.now.frames =
    sym (append-nil pushed) ∙ ap (λ (left : List (List ℕ)). pushed ++ left) (sym c.in-None.ensures.steps.0) ∙ c.loop-frame.invariant.1 in
    IfOk-weaker c.end.result _ _
    (λ _ is. is c.args.lists.now pushed c.loop-frame.invariant.2
    ∙ ap (λ (frames : List (List ℕ)). signature_of c.args.lists.now (record c.args.input.now { frames = frames })) all)
    c.end.ensures
