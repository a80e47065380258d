-- The registers of ARM64 by their names in rules, in the order in which this project keeps their values.
use Rattle.std.specs.Prelude.{ℕ, true, false, List, [], ◌∷◌, ◌++◌, map, Some, None, codes}
use Rattle.soc_step.specs.Machine.{Machine, Register}
use Rattle.soc_step.specs.declared.machine.Width.TheVariants.{Eight}

abbrev pub lost : List ℕ → Register
lost name = record { name = name; other_name = None; is_kept = false }

abbrev pub kept : List ℕ → Register
kept name = record { name = name; other_name = None; is_kept = true }

-- x0 to x18
abbrev pub lost_names : List (List ℕ)
lost_names =
    codes "x0" ∷ codes "x1" ∷ codes "x2" ∷ codes "x3" ∷ codes "x4" ∷ codes "x5" ∷ codes "x6" ∷ codes "x7" ∷ codes "x8" ∷ codes "x9" ∷ codes "x10" ∷ codes "x11" ∷ codes "x12" ∷ codes "x13" ∷ codes "x14" ∷ codes "x15" ∷ codes "x16" ∷ codes "x17" ∷ codes "x18" ∷ []

-- x19 to x28
abbrev pub kept_names : List (List ℕ)
kept_names =
    codes "x19" ∷ codes "x20" ∷ codes "x21" ∷ codes "x22" ∷ codes "x23" ∷ codes "x24" ∷ codes "x25" ∷ codes "x26" ∷ codes "x27" ∷ codes "x28" ∷ []

abbrev pub frame_register : Register
frame_register = record { name = codes "x29"; other_name = Some (codes "fp"); is_kept = true }

abbrev pub link_register : Register
link_register = record { name = codes "x30"; other_name = Some (codes "lr"); is_kept = false }

-- x0 to x30, sp and pc
abbrev pub registers : List Register
registers = map lost lost_names ++ (map kept kept_names ++ (frame_register ∷ link_register ∷ lost (codes "sp") ∷ lost (codes "pc") ∷ []))

abbrev pub arm64 : Machine
arm64 = record { width = Eight; registers = registers; stack_pointer = 31; frame_pointer = 29; instruction_pointer = 32 }
