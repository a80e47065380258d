use Rattle.std.proofs.Common.{true, List, ℕ, ◌++◌, ap, ◌∙◌}
use Rattle.soc_sigrules.specs.Chars.{first_chars}
use Rattle.soc_sigrules.specs.inner.Protos.{ProtoState}
use Rattle.soc_sigrules.specs.inner.Steps.{proto_with}
use Rattle.soc_sigrules.proofs.ProtoLemmas.{pushed_later, pushed_first}
use Rattle.soc_sigrules.proofs.proto.Proto.push.Goals.{then-self+in_ok-push, else-self}
use Rattle.soc_sigrules.proofs.proto.Proto.push.Goals as goal

pub returns : goal.returns
returns c =
    let with : List ℕ → ProtoState = λ text. record { has_frames = true; text = text } in
    let held = ap (λ (s : ProtoState). with (proto_with s.has_frames s.text c.args.frame.now)) c.self.view_is in
    elim c.if-self.branch [
      | then-self+in_ok-push w ↦
          ap with
          (pushed_later c.self.inside.has_frames c.self.inside.text c.if-self.self-inside.text c.push-2.new.self c.args.frame.now c.utf8.frame w.if-self.true
          ((λ i. (w.self-inside-is i).text) ∙ w.in_ok-push.ensures) c.in_ok-push-2.ensures)
          ∙ held
      | else-self w ↦
          ap with
          (pushed_first c.self.inside.has_frames c.self.inside.text c.push-2.new.self c.args.frame.now w.if-self.false
          (c.in_ok-push-2.ensures ∙ (λ i. first_chars 2000 ((w.self-inside-is i).text ++ c.args.frame.now))))
          ∙ held
    ]
