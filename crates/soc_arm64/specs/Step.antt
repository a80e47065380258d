-- The step on ARM64: that of every architecture, on this machine and with this test of a word of the stack.
use Rattle.std.specs.Prelude.{ℕ, ◌-◌, ◌&&◌, nat_lt, Bool, List, Option, option_map}
use Rattle.soc_cfi.specs.Rules.{Rule}
use Rattle.soc_frames.specs.declared.frame.Trust.{Trust}
use Rattle.soc_step.specs.Machine.{Registers, Values}
use Rattle.soc_step.specs.Step.{caller_of}
use Rattle.soc_step.specs.Surroundings.{surroundings}
use Rattle.soc_arm64.specs.Machine.{arm64}

abbrev pub on_arm64 : Values → Registers
on_arm64 values = record { machine = arm64; values = values }

-- a word counts as a return address where it lies in a module, and the address before it can be code
abbrev pub takes : (ℕ → Bool) → (ℕ → Bool) → ℕ → Bool
takes in_module in_code word = nat_lt 0 word && in_module word && in_code (word - 1)

-- the values of the caller, and how it was found
abbrev pub caller64 : (ℕ → ℕ → Option ℕ) → (ℕ → Bool) → (ℕ → Bool) → (ℕ → Option (List Rule)) → Bool → Values → Option (Values × Trust)
caller64 word in_module in_code rules first values =
    option_map (λ caller. (caller.values, caller.trust)) (caller_of (surroundings word in_module (takes in_module in_code) rules) first (on_arm64 values))
