-- Worked examples, on a machine of five registers.
use Rattle.std.specs.Prelude.{◌≡◌, ℕ, ◌==◌, ◌&&◌, nat_le, nat_lt, Bool, true, false, if◌then◌else◌, List, [], ◌∷◌, ◌++◌, Option, None, Some, codes, refl, replicate}
use Rattle.soc_cfi.specs.Rules.{Rule, rules_of}
use Rattle.soc_frames.specs.declared.frame.Trust.{Trust}
use Rattle.soc_frames.specs.declared.frame.Trust.TheVariants.{Cfi, FramePointer, Scan}
use Rattle.soc_step.specs.declared.machine.Width.TheVariants.{Eight}
use Rattle.soc_step.specs.declared.step.Caller.{Caller}
use Rattle.soc_step.specs.Machine.{Machine, Register, Registers, Values, values_by}
use Rattle.soc_step.specs.Step.{caller_of, scan, scanned_words}
use Rattle.soc_step.specs.Surroundings.{Surroundings, surroundings}

abbrev register : List ℕ → Bool → Register
register name is_kept = record { name = name; other_name = None; is_kept = is_kept }

abbrev machine : Machine
machine = record {
  width = Eight;
  registers = register (codes "sp") false ∷ register (codes "fp") true ∷ register (codes "ip") false ∷ register (codes "b") true ∷ register (codes "c") false ∷ [];
  stack_pointer = 0;
  frame_pointer = 1;
  instruction_pointer = 2;
}

abbrev five : Option ℕ → Option ℕ → Option ℕ → Option ℕ → Option ℕ → Values
five sp fp ip b c = (sp ∷ fp ∷ ip ∷ b ∷ c ∷ []) ++ replicate 28 None

abbrev frame : Registers
frame = record { machine = machine; values = five (Some 0x6ff0) (Some 0x7000) (Some 0x10000100) (Some 1) (Some 2) }

-- the stack holds two words, and a module lies from 0x10000000 on
abbrev stack_word : ℕ → ℕ → Option ℕ
stack_word address width = if address == 0x7000 then Some 0x7100 else if address == 0x7008 then Some 0x10000200 else None

abbrev in_module : ℕ → Bool
in_module address = nat_le 0x10000000 address && nat_lt address 0x10001000

abbrev around : List ℕ → Surroundings
around rules = surroundings stack_word in_module in_module (λ address. if address == 0x10000100 then Some (rules_of rules) else None)

abbrev caller : Values → Trust → Option Caller
caller values trust = Some (record { values = values; trust = trust })

by_frame_pointer : caller_of (around []) true frame ≡ caller (five (Some 0x7010) (Some 0x7100) (Some 0x10000200) None None) FramePointer
unfolding values_by
by_frame_pointer = refl

by_rules : caller_of (around (codes ".cfa: sp 32 + .ra: .cfa 8 - ^")) true frame ≡ caller (five (Some 0x7010) (Some 0x7000) (Some 0x10000200) (Some 1) None) Cfi
unfolding values_by
by_rules = refl

-- a rule of a register that fails makes it unknown, also one that a call keeps
unknown : caller_of (around (codes ".cfa: sp 32 + .ra: .cfa 8 - ^ sp: .cfa 8 + ip: 7 b: c ^ c: b")) true frame ≡ caller (five (Some 0x7018) (Some 0x7000) (Some 0x10000200) None (Some 1)) Cfi
unfolding values_by
unknown = refl

-- a rule of the frame address that divides by 0, and one of the stack pointer that fails
no_frame_address : caller_of (around (codes ".cfa: sp 0 / .ra: .cfa 8 - ^")) true frame ≡ caller_of (around []) true frame
unfolding values_by
no_frame_address = refl

no_stack_pointer : caller_of (around (codes ".cfa: sp 32 + .ra: .cfa 8 - ^ sp: x")) true frame ≡ caller_of (around []) true frame
unfolding values_by
no_stack_pointer = refl

-- a caller's rules are looked up at an address that is less by 1
one_less : caller_of (around (codes ".cfa: sp 32 + .ra: .cfa 8 - ^")) false frame ≡ caller_of (around []) true frame
unfolding values_by
one_less = refl

-- of words that are all 0 but the last of 160
abbrev zeros : Surroundings
zeros = surroundings (λ address width. if address == 0x74f8 then Some 0x10000000 else Some 0) in_module in_module (λ _. None)

last_word : scan zeros frame (scanned_words true) 0x7000 ≡ Some (0x10000000, 0x7500)
unfolding scan
last_word = refl

too_far : scan zeros frame (scanned_words false) 0x7000 ≡ None
unfolding scan
too_far = refl

-- the word behind the last one has no address
at_the_end : scan zeros frame 1 0xfffffffffffffff8 ≡ None
unfolding scan
at_the_end = refl
