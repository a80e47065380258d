-- Where the registers stand in a processor's context (the Windows headers' CONTEXT).
use Rattle.std.specs.Prelude.{ℕ, nat_le, if◌then◌else◌, List, [], ◌∷◌, length, map, Option, None, Some}
use Rattle.soc_dump.specs.declared.field.Field.{Field}
use Rattle.soc_dump.specs.Layout.{field}
use Rattle.soc_dump.specs.Number.{number_of}

abbrev pub amd64_context_size : ℕ
amd64_context_size = 1232

abbrev pub amd64_rax : Field
amd64_rax = field 120 8

abbrev pub amd64_rcx : Field
amd64_rcx = field 128 8

abbrev pub amd64_rdx : Field
amd64_rdx = field 136 8

abbrev pub amd64_rbx : Field
amd64_rbx = field 144 8

abbrev pub amd64_rsp : Field
amd64_rsp = field 152 8

abbrev pub amd64_rbp : Field
amd64_rbp = field 160 8

abbrev pub amd64_rsi : Field
amd64_rsi = field 168 8

abbrev pub amd64_rdi : Field
amd64_rdi = field 176 8

abbrev pub amd64_r8 : Field
amd64_r8 = field 184 8

abbrev pub amd64_r9 : Field
amd64_r9 = field 192 8

abbrev pub amd64_r10 : Field
amd64_r10 = field 200 8

abbrev pub amd64_r11 : Field
amd64_r11 = field 208 8

abbrev pub amd64_r12 : Field
amd64_r12 = field 216 8

abbrev pub amd64_r13 : Field
amd64_r13 = field 224 8

abbrev pub amd64_r14 : Field
amd64_r14 = field 232 8

abbrev pub amd64_r15 : Field
amd64_r15 = field 240 8

abbrev pub amd64_rip : Field
amd64_rip = field 248 8

-- rax to rip, in the order of the list
abbrev pub amd64_registers : List Field
amd64_registers =
    amd64_rax ∷ amd64_rcx ∷ amd64_rdx ∷ amd64_rbx ∷ amd64_rsp ∷ amd64_rbp ∷ amd64_rsi ∷ amd64_rdi ∷ amd64_r8 ∷ amd64_r9 ∷ amd64_r10 ∷ amd64_r11 ∷ amd64_r12 ∷ amd64_r13 ∷ amd64_r14 ∷ amd64_r15 ∷ amd64_rip ∷ []

abbrev pub x86_context_size : ℕ
x86_context_size = 716

abbrev pub x86_edi : Field
x86_edi = field 156 4

abbrev pub x86_esi : Field
x86_esi = field 160 4

abbrev pub x86_ebx : Field
x86_ebx = field 164 4

abbrev pub x86_edx : Field
x86_edx = field 168 4

abbrev pub x86_ecx : Field
x86_ecx = field 172 4

abbrev pub x86_eax : Field
x86_eax = field 176 4

abbrev pub x86_ebp : Field
x86_ebp = field 180 4

abbrev pub x86_eip : Field
x86_eip = field 184 4

abbrev pub x86_esp : Field
x86_esp = field 196 4

-- edi to esp, in the order of the list
abbrev pub x86_registers : List Field
x86_registers =
    x86_edi ∷ x86_esi ∷ x86_ebx ∷ x86_edx ∷ x86_ecx ∷ x86_eax ∷ x86_ebp ∷ x86_eip ∷ x86_esp ∷ []

-- the registers of a context of so many bytes or more, in the list's order; none where it is shorter
abbrev pub context_registers : ℕ → List Field → List ℕ → Option (List ℕ)
context_registers size registers context =
    if nat_le size (length context) then Some (map (number_of context) registers) else None

abbrev pub amd64_registers_of : List ℕ → Option (List ℕ)
amd64_registers_of context = context_registers amd64_context_size amd64_registers context

abbrev pub x86_registers_of : List ℕ → Option (List ℕ)
x86_registers_of context = context_registers x86_context_size x86_registers context
