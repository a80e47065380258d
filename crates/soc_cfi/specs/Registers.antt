-- The registers that rules name (Breakpad's symbol files), in the order in which this project keeps their values.
use Rattle.std.specs.Prelude.{ℕ, List, [], ◌∷◌, Option, codes, position, slice_get}
use Rattle.std.specs.Option.{option_and_then, option_flatten}
use Rattle.std.specs.Str.{bytes_eq}
use Rattle.soc_cfi.specs.declared.registers.Arch.{Arch}
use Rattle.soc_cfi.specs.declared.registers.Arch.TheVariants.{X86, Amd64}
use Rattle.soc_cfi.specs.declared.registers.Registers.{Registers}

abbrev pub x86_names : List (List ℕ)
x86_names =
    codes "$edi" ∷ codes "$esi" ∷ codes "$ebx" ∷ codes "$edx" ∷ codes "$ecx" ∷ codes "$eax" ∷ codes "$ebp" ∷ codes "$eip" ∷ codes "$esp" ∷ []

abbrev pub amd64_names : List (List ℕ)
amd64_names =
    codes "$rax" ∷ codes "$rcx" ∷ codes "$rdx" ∷ codes "$rbx" ∷ codes "$rsp" ∷ codes "$rbp" ∷ codes "$rsi" ∷ codes "$rdi" ∷ codes "$r8" ∷ codes "$r9" ∷ codes "$r10" ∷ codes "$r11" ∷ codes "$r12" ∷ codes "$r13" ∷ codes "$r14" ∷ codes "$r15" ∷ codes "$rip" ∷ []

abbrev pub names_of : Arch → List (List ℕ)
names_of X86 = x86_names
names_of Amd64 = amd64_names

-- the registers that have a part of their own in a walk
abbrev pub stack_pointer_of : Arch → List ℕ
stack_pointer_of X86 = codes "$esp"
stack_pointer_of Amd64 = codes "$rsp"

abbrev pub frame_pointer_of : Arch → List ℕ
frame_pointer_of X86 = codes "$ebp"
frame_pointer_of Amd64 = codes "$rbp"

abbrev pub instruction_pointer_of : Arch → List ℕ
instruction_pointer_of X86 = codes "$eip"
instruction_pointer_of Amd64 = codes "$rip"

-- those that a function keeps for its caller
abbrev pub kept_of : Arch → List (List ℕ)
kept_of X86 = codes "$ebx" ∷ codes "$ebp" ∷ codes "$esi" ∷ codes "$edi" ∷ []
kept_of Amd64 = codes "$rbx" ∷ codes "$rbp" ∷ codes "$r12" ∷ codes "$r13" ∷ codes "$r14" ∷ codes "$r15" ∷ []

-- the bytes of a word
abbrev pub width_of : Arch → ℕ
width_of X86 = 4
width_of Amd64 = 8

-- the place of a register, by its name with its `$`
abbrev pub place_of : Arch → List ℕ → Option ℕ
place_of arch name = position (λ other. bytes_eq other name) (names_of arch)

-- the value of a register, by its name; none where it isn't known
abbrev pub register_of : Registers → List ℕ → Option ℕ
register_of registers name =
    option_and_then (λ place. option_flatten (slice_get registers.values place)) (place_of registers.arch name)
