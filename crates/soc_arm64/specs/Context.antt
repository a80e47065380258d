-- The registers of an ARM64 context, in this project's profile of the minidump layout: x0 to x30, sp and pc, eight bytes
-- each, from byte 8 on.
use Rattle.std.specs.Prelude.{ℕ, ◌+◌, ◌*◌, nat_le, if◌then◌else◌, List, length, drop, Option, None, Some}
use Rattle.byteorder.specs.Endian.{little_number}
use Rattle.soc_step.specs.Machine.{Values, values_by}

-- how many bytes a context has at least
abbrev pub context_size : ℕ
context_size = 912

abbrev pub register_at : List ℕ → ℕ → ℕ
register_at context place = little_number 8 (drop (8 + 8 * place) context)

-- none where the context is shorter
abbrev pub registers_of : List ℕ → Option Values
registers_of context =
    if nat_le context_size (length context) then Some (values_by (λ place. Some (register_at context place))) else None
