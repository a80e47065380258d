-- The dump of a made crash: a minidump of one module and one thread, which crashed in it. Numbers are little-endian. Which
-- numbers stand there is this project's profile; where they stand is the layout of minidumps.
use Rattle.std.specs.Prelude.{ℕ, ◌+◌, ◌-◌, List, [], ◌∷◌, ◌++◌, codes, flat_map, length, replicate}
use Rattle.std.specs.Int.{to_le_bytes, w16, w32, w64}
use Rattle.soc_text.specs.Digits.{zero}

-- bytes at a place of the dump
pub record Field : Type 0 where
  pub place : ℕ
  pub bytes : List ℕ

-- a number of two, of four and of eight bytes
abbrev pub short : ℕ → ℕ → Field
short place value = record { place = place; bytes = to_le_bytes w16 value }

abbrev pub word : ℕ → ℕ → Field
word place value = record { place = place; bytes = to_le_bytes w32 value }

abbrev pub long : ℕ → ℕ → Field
long place value = record { place = place; bytes = to_le_bytes w64 value }

-- what stands there, and zeros up to the place
unfoldable pub padded : List ℕ → ℕ → List ℕ
padded front place = front ++ replicate (place - length front) 0

abbrev pub placed : List ℕ → Field → List ℕ
placed front field = padded front field.place ++ field.bytes

-- the fields at their places, in rising order, and zeros between them
abbrev pub laid : List ℕ → List Field → List ℕ
laid front [] = front
laid front (field ∷ rest) = laid (placed front field) rest

abbrev pub dump_size : ℕ
dump_size = 1728

-- ---- where each part begins

abbrev pub directory : ℕ
directory = 32

abbrev pub system : ℕ
system = 80

abbrev pub modules : ℕ
modules = 136

abbrev pub exception : ℕ
exception = 248

abbrev pub threads : ℕ
threads = 416

abbrev pub module_name : ℕ
module_name = 468

abbrev pub context : ℕ
context = 496

abbrev pub context_size : ℕ
context_size = 1232

-- ---- what stands in each part

-- the signature `MDMP`, the version, the count of streams and the place of the directory
abbrev pub header_fields : List Field
header_fields = word 0 0x504D_444D ∷ word 4 0xA793 ∷ word 8 4 ∷ word 12 directory ∷ []

-- an entry of the directory: a stream's type, size and place
abbrev pub entry : ℕ → ℕ → ℕ → ℕ → List Field
entry at kind size place = word at kind ∷ word (at + 4) size ∷ word (at + 8) place ∷ []

-- the streams of the system (7), of the modules (4), of the exception (6) and of the threads (3)
abbrev pub directory_fields : List Field
directory_fields =
    entry directory 7 56 system ++ (entry (directory + 12) 4 112 modules
    ++ (entry (directory + 24) 6 168 exception ++ entry (directory + 36) 3 52 threads))

-- AMD64 (9), one processor, Windows NT (2)
abbrev pub system_fields : List Field
system_fields = short system 9 ∷ record { place = system + 6; bytes = 1 ∷ [] } ∷ word (system + 20) 2 ∷ []

-- one module: its base, its size and the place of its name
abbrev pub module_fields : List Field
module_fields = word modules 1 ∷ long (modules + 4) 0x1000_0000 ∷ word (modules + 12) 0x1000 ∷ word (modules + 24) module_name ∷ []

-- the thread, an access violation, the count of its parameters, and where the context lies
abbrev pub exception_fields : List Field
exception_fields =
    word exception 1 ∷ word (exception + 8) 0xC000_0005 ∷ word (exception + 32) 2 ∷ word (exception + 160) context_size
    ∷ word (exception + 164) context ∷ []

-- one thread: its number, and where the context lies
abbrev pub thread_fields : List Field
thread_fields = word threads 1 ∷ word (threads + 4) 1 ∷ word (threads + 44) context_size ∷ word (threads + 48) context ∷ []

-- ASCII text in UTF-16
abbrev pub wide : List ℕ → List ℕ
wide text = flat_map (λ code. to_le_bytes w16 code) text

-- `made0.dll` to `made4.dll`
abbrev pub name_of_module : ℕ → List ℕ
name_of_module digit = codes "made" ++ ((zero + digit) ∷ codes ".dll")

-- the name's length in bytes, and the name
abbrev pub name_fields : ℕ → List Field
name_fields digit = word module_name 18 ∷ record { place = module_name + 4; bytes = wide (name_of_module digit) } ∷ []

-- the instruction pointer, in the module
abbrev pub context_fields : List Field
context_fields = long (context + 248) 0x1000_0100 ∷ []

abbrev pub fields : ℕ → List Field
fields digit =
    header_fields ++ (directory_fields ++ (system_fields ++ (module_fields ++ (exception_fields ++ (thread_fields ++ (name_fields digit ++ context_fields))))))

-- the dump whose module has this digit in its name
unfoldable pub dump : ℕ → List ℕ
dump digit = padded (laid [] (fields digit)) dump_size
