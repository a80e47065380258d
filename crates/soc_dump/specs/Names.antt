-- Names of architectures and platforms, and the texts of crash reasons. The texts are this project's own.
use Rattle.std.specs.Prelude.{ℕ, ◌==◌, ◌&&◌, ◌||◌, nat_le, if◌then◌else◌, List, [], ◌++◌, Option, None, Some, codes, slice_index}
use Rattle.std.specs.Option.{option_map_or}
use Rattle.std.specs.Int.{w32, to_be_bytes}
use Rattle.hex.specs.Hex.{encode_lower}
use Rattle.soc_dump.specs.Entries.{ExceptionEntry}

abbrev pub architecture_name_of : ℕ → List ℕ
architecture_name_of arch =
    if arch == 0 then codes "x86"
    else if arch == 9 then codes "amd64"
    else if arch == 12 then codes "arm64"
    else codes "unknown"

abbrev pub windows : ℕ
windows = 2

abbrev pub linux : ℕ
linux = 0x8201

abbrev pub android : ℕ
android = 0x8203

abbrev pub platform_name_of : ℕ → List ℕ
platform_name_of platform =
    if platform == windows then codes "Windows NT"
    else if platform == 0x8101 then codes "Mac OS X"
    else if platform == linux then codes "Linux"
    else if platform == android then codes "Android"
    else codes "unknown"

-- Windows' exceptions
abbrev pub access_violation : ℕ
access_violation = 0xC0000005

abbrev pub windows_reason_of : ℕ → Option (List ℕ)
windows_reason_of code =
    if code == access_violation then Some (codes "EXCEPTION_ACCESS_VIOLATION")
    else if code == 0xC00000FD then Some (codes "EXCEPTION_STACK_OVERFLOW")
    else if code == 0x80000003 then Some (codes "EXCEPTION_BREAKPOINT")
    else if code == 0xC000001D then Some (codes "EXCEPTION_ILLEGAL_INSTRUCTION")
    else if code == 0xC0000094 then Some (codes "EXCEPTION_INT_DIVIDE_BY_ZERO")
    else if code == 0xC0000409 then Some (codes "EXCEPTION_STACK_BUFFER_OVERRUN")
    else None

-- what an access violation did, by its first parameter
abbrev pub access_of : ℕ → List ℕ
access_of parameter =
    if parameter == 0 then codes "_READ"
    else if parameter == 1 then codes "_WRITE"
    else if parameter == 8 then codes "_EXEC"
    else []

abbrev pub access_suffix_of : ExceptionEntry → List ℕ
access_suffix_of exception =
    if (exception.code == access_violation) && nat_le 1 exception.count then access_of (slice_index exception.info 0) else []

-- signals of Linux and Android
abbrev pub signal_of : ℕ → Option (List ℕ)
signal_of code =
    if code == 4 then Some (codes "SIGILL")
    else if code == 5 then Some (codes "SIGTRAP")
    else if code == 6 then Some (codes "SIGABRT")
    else if code == 7 then Some (codes "SIGBUS")
    else if code == 8 then Some (codes "SIGFPE")
    else if code == 11 then Some (codes "SIGSEGV")
    else None

-- the name of a code on a platform, if it has one
abbrev pub reason_name_of : Option ℕ → ℕ → Option (List ℕ)
reason_name_of None code = None
reason_name_of (Some platform) code =
    if platform == windows then windows_reason_of code
    else if (platform == linux) || (platform == android) then signal_of code
    else None

-- what follows the name
abbrev pub reason_suffix_of : Option ℕ → ExceptionEntry → List ℕ
reason_suffix_of None exception = []
reason_suffix_of (Some platform) exception = if platform == windows then access_suffix_of exception else []

-- a code without a name: eight digits
abbrev pub code_text : ℕ → List ℕ
code_text code = codes "0x" ++ encode_lower (to_be_bytes w32 code)

abbrev pub crash_reason_of : Option ℕ → ExceptionEntry → List ℕ
crash_reason_of platform exception =
    option_map_or (λ name. name ++ reason_suffix_of platform exception) (reason_name_of platform exception.code) (code_text exception.code)
