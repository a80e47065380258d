-- AMD64 and x86 as machines: their registers by their names in rules, and what a call keeps of them.
use Rattle.std.specs.Prelude.{ℕ, true, false, List, [], ◌∷◌, None, codes}
use Rattle.soc_step.specs.Machine.{Machine, Register}
use Rattle.soc_step.specs.declared.machine.Width.TheVariants.{Four, Eight}

abbrev pub lost : List ℕ → Register
lost name = record { name = name; other_name = None; is_kept = false }

abbrev pub kept : List ℕ → Register
kept name = record { name = name; other_name = None; is_kept = true }

abbrev pub amd64_registers : List Register
amd64_registers =
    lost (codes "$rax") ∷ lost (codes "$rcx") ∷ lost (codes "$rdx") ∷ kept (codes "$rbx") ∷ lost (codes "$rsp") ∷ kept (codes "$rbp") ∷ lost (codes "$rsi") ∷ lost (codes "$rdi") ∷ lost (codes "$r8") ∷ lost (codes "$r9") ∷ lost (codes "$r10") ∷ lost (codes "$r11") ∷ kept (codes "$r12") ∷ kept (codes "$r13") ∷ kept (codes "$r14") ∷ kept (codes "$r15") ∷ lost (codes "$rip") ∷ []

abbrev pub amd64 : Machine
amd64 = record { width = Eight; registers = amd64_registers; stack_pointer = 4; frame_pointer = 5; instruction_pointer = 16 }

abbrev pub x86_registers : List Register
x86_registers =
    kept (codes "$edi") ∷ kept (codes "$esi") ∷ kept (codes "$ebx") ∷ lost (codes "$edx") ∷ lost (codes "$ecx") ∷ lost (codes "$eax") ∷ kept (codes "$ebp") ∷ lost (codes "$eip") ∷ lost (codes "$esp") ∷ []

abbrev pub x86 : Machine
x86 = record { width = Four; registers = x86_registers; stack_pointer = 8; frame_pointer = 6; instruction_pointer = 7 }
