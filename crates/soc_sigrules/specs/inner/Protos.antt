-- All frames, as the program holds them.
use Rattle.std.specs.Prelude.{ℕ, Bool, List}

pub record ProtoState : Type 0 where
  pub has_frames : Bool
  pub text : List ℕ
