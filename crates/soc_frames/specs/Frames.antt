-- The text that stands for a frame in signatures (this project's profile, after Socorro's signatures).
use Rattle.std.specs.Prelude.{ℕ, Bool, false, if◌then◌else◌, List, ◌++◌, codes, Option, None, Some}
use Rattle.std.specs.Fmt.{digits, decimal}
use Rattle.std.specs.Option.{option_map_or}
use Rattle.soc_text.specs.Paths.{base_name_of}
use Rattle.soc_frames.specs.declared.frame.Frame.{Frame}
use Rattle.soc_frames.specs.Depth.{ends}
use Rattle.soc_frames.specs.Cpp.{cpp_text}
use Rattle.soc_frames.specs.Rust.{rust_text}

-- in lower-case hexadecimal
abbrev pub hexadecimal : ℕ → List ℕ
hexadecimal number = digits 16 false number

-- where a frame lies: in its module, or in memory
abbrev pub address_text : Frame → List ℕ
address_text frame =
    option_map_or (λ module_name. module_name ++ (codes "@0x" ++ hexadecimal frame.offset)) frame.module (codes "@0x" ++ hexadecimal frame.instruction)

-- file and line where both are there, else this
abbrev pub line_or : Option (List ℕ) → Option ℕ → List ℕ → List ℕ
line_or None line other = other
line_or (Some file) None other = other
line_or (Some file) (Some line) other = base_name_of file ++ (codes "#" ++ decimal line)

-- the text of a frame without a function
abbrev pub place_text : Frame → List ℕ
place_text frame = line_or frame.file frame.line (address_text frame)

-- a function of Rust: its file says so
abbrev pub is_rust : Frame → Bool
is_rust frame = option_map_or (λ path. ends path (codes ".rs")) frame.file false

abbrev pub normal_of : Frame → List ℕ
normal_of frame =
    option_map_or (λ function. if is_rust frame then rust_text function else cpp_text function) frame.function (place_text frame)
