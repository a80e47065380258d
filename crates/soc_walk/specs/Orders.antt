-- One table of AMD64's registers and one of x86's: the order in which a dump's context gives their values, that in which
-- rules name them, and that of the machine are one.
use Rattle.std.specs.Prelude.{◌≡◌, ℕ, List, [], ◌∷◌, Some, codes, map, slice_get, refl}
use Rattle.std.specs.List.{list_any}
use Rattle.std.specs.Str.{bytes_eq}
use Rattle.soc_dump.specs.declared.field.Field.{Field}
use Rattle.soc_dump.specs.Registers as context
use Rattle.soc_cfi.specs.declared.registers.Arch.TheVariants.{X86, Amd64}
use Rattle.soc_cfi.specs.Registers.{names_of, stack_pointer_of, frame_pointer_of, instruction_pointer_of, kept_of, width_of}
use Rattle.soc_step.specs.Machine.{bytes_of}
use Rattle.soc_walk.specs.Machines.{amd64, x86}

-- a register's name in rules, and where a context has it
abbrev Entry : Type 0
Entry = List ℕ × Field

abbrev amd64_table : List Entry
amd64_table =
    (codes "$rax", context.amd64_rax) ∷ (codes "$rcx", context.amd64_rcx) ∷ (codes "$rdx", context.amd64_rdx) ∷ (codes "$rbx", context.amd64_rbx)
    ∷ (codes "$rsp", context.amd64_rsp) ∷ (codes "$rbp", context.amd64_rbp) ∷ (codes "$rsi", context.amd64_rsi) ∷ (codes "$rdi", context.amd64_rdi)
    ∷ (codes "$r8", context.amd64_r8) ∷ (codes "$r9", context.amd64_r9) ∷ (codes "$r10", context.amd64_r10) ∷ (codes "$r11", context.amd64_r11)
    ∷ (codes "$r12", context.amd64_r12) ∷ (codes "$r13", context.amd64_r13) ∷ (codes "$r14", context.amd64_r14) ∷ (codes "$r15", context.amd64_r15)
    ∷ (codes "$rip", context.amd64_rip) ∷ []

amd64_in_contexts : map (λ (e : Entry). e.1) amd64_table ≡ context.amd64_registers
amd64_in_contexts = refl

amd64_in_rules : map (λ (e : Entry). e.0) amd64_table ≡ names_of Amd64
amd64_in_rules = refl

amd64_in_walks : map (λ (e : Entry). e.0) amd64_table ≡ map (λ r. r.name) amd64.registers
amd64_in_walks = refl

amd64_stack_pointer : slice_get (names_of Amd64) amd64.stack_pointer ≡ Some (stack_pointer_of Amd64)
amd64_stack_pointer = refl

amd64_frame_pointer : slice_get (names_of Amd64) amd64.frame_pointer ≡ Some (frame_pointer_of Amd64)
amd64_frame_pointer = refl

amd64_instruction_pointer : slice_get (names_of Amd64) amd64.instruction_pointer ≡ Some (instruction_pointer_of Amd64)
amd64_instruction_pointer = refl

amd64_kept : map (λ r. r.is_kept) amd64.registers ≡ map (λ name. list_any (bytes_eq name) (kept_of Amd64)) (names_of Amd64)
amd64_kept = refl

amd64_width : bytes_of amd64.width ≡ width_of Amd64
amd64_width = refl

abbrev x86_table : List Entry
x86_table =
    (codes "$edi", context.x86_edi) ∷ (codes "$esi", context.x86_esi) ∷ (codes "$ebx", context.x86_ebx) ∷ (codes "$edx", context.x86_edx)
    ∷ (codes "$ecx", context.x86_ecx) ∷ (codes "$eax", context.x86_eax) ∷ (codes "$ebp", context.x86_ebp) ∷ (codes "$eip", context.x86_eip)
    ∷ (codes "$esp", context.x86_esp) ∷ []

x86_in_contexts : map (λ (e : Entry). e.1) x86_table ≡ context.x86_registers
x86_in_contexts = refl

x86_in_rules : map (λ (e : Entry). e.0) x86_table ≡ names_of X86
x86_in_rules = refl

x86_in_walks : map (λ (e : Entry). e.0) x86_table ≡ map (λ r. r.name) x86.registers
x86_in_walks = refl

x86_stack_pointer : slice_get (names_of X86) x86.stack_pointer ≡ Some (stack_pointer_of X86)
x86_stack_pointer = refl

x86_frame_pointer : slice_get (names_of X86) x86.frame_pointer ≡ Some (frame_pointer_of X86)
x86_frame_pointer = refl

x86_instruction_pointer : slice_get (names_of X86) x86.instruction_pointer ≡ Some (instruction_pointer_of X86)
x86_instruction_pointer = refl

x86_kept : map (λ r. r.is_kept) x86.registers ≡ map (λ name. list_any (bytes_eq name) (kept_of X86)) (names_of X86)
x86_kept = refl

x86_width : bytes_of x86.width ≡ width_of X86
x86_width = refl
