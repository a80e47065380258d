-- Where the fields of a minidump's structures stand: the offset of a field's first byte in its structure, and how
-- many bytes it has (the Windows headers' MINIDUMP_HEADER, MINIDUMP_DIRECTORY, MINIDUMP_THREAD, and so on).
use Rattle.std.specs.Prelude.{ℕ}
use Rattle.soc_dump.specs.declared.field.Field.{Field}

abbrev pub field : ℕ → ℕ → Field
field offset width = record { offset = offset; width = width }

-- the header, 32 bytes. The version is the low half of four bytes
abbrev pub header_size : ℕ
header_size = 32

abbrev pub header_signature : Field
header_signature = field 0 4

abbrev pub header_version : Field
header_version = field 4 2

abbrev pub header_count : Field
header_count = field 8 4

abbrev pub header_directory : Field
header_directory = field 12 4

-- `MDMP`
abbrev pub signature : ℕ
signature = 0x504D444D

abbrev pub version : ℕ
version = 0xA793

-- an entry of the directory
abbrev pub stream_entry_size : ℕ
stream_entry_size = 12

abbrev pub stream_kind : Field
stream_kind = field 0 4

abbrev pub stream_size : Field
stream_size = field 4 4

abbrev pub stream_place : Field
stream_place = field 8 4

-- the kinds of stream that are used
abbrev pub thread_list : ℕ
thread_list = 3

abbrev pub module_list : ℕ
module_list = 4

abbrev pub memory_list : ℕ
memory_list = 5

abbrev pub exception_stream : ℕ
exception_stream = 6

abbrev pub system_stream : ℕ
system_stream = 7

-- a list begins with the number of its entries
abbrev pub list_count : Field
list_count = field 0 4

-- an entry of the thread list
abbrev pub thread_size : ℕ
thread_size = 48

abbrev pub thread_id : Field
thread_id = field 0 4

abbrev pub thread_stack_start : Field
thread_stack_start = field 24 8

abbrev pub thread_stack_size : Field
thread_stack_size = field 32 4

abbrev pub thread_stack_place : Field
thread_stack_place = field 36 4

abbrev pub thread_context_size : Field
thread_context_size = field 40 4

abbrev pub thread_context_place : Field
thread_context_place = field 44 4

-- an entry of the module list
abbrev pub module_size : ℕ
module_size = 108

abbrev pub module_base : Field
module_base = field 0 8

abbrev pub module_length : Field
module_length = field 8 4

abbrev pub module_name_place : Field
module_name_place = field 20 4

abbrev pub module_code_view_size : Field
module_code_view_size = field 76 4

abbrev pub module_code_view_place : Field
module_code_view_place = field 80 4

-- a string begins with its length in bytes
abbrev pub string_head : ℕ
string_head = 4

abbrev pub string_length : Field
string_length = field 0 4

-- an entry of the memory list
abbrev pub memory_size : ℕ
memory_size = 16

abbrev pub memory_start : Field
memory_start = field 0 8

abbrev pub memory_length : Field
memory_length = field 8 4

abbrev pub memory_place : Field
memory_place = field 12 4

-- the exception
abbrev pub exception_size : ℕ
exception_size = 168

abbrev pub exception_thread : Field
exception_thread = field 0 4

abbrev pub exception_code : Field
exception_code = field 8 4

abbrev pub exception_address : Field
exception_address = field 24 8

abbrev pub exception_count : Field
exception_count = field 32 4

abbrev pub exception_parameters : ℕ
exception_parameters = 40

abbrev pub exception_context_size : Field
exception_context_size = field 160 4

abbrev pub exception_context_place : Field
exception_context_place = field 164 4

-- the system
abbrev pub system_size : ℕ
system_size = 56

abbrev pub system_architecture : Field
system_architecture = field 0 2

abbrev pub system_processors : Field
system_processors = field 6 1

abbrev pub system_major : Field
system_major = field 8 4

abbrev pub system_minor : Field
system_minor = field 12 4

abbrev pub system_build : Field
system_build = field 16 4

abbrev pub system_platform : Field
system_platform = field 20 4

-- a code view record: its kind, and a GUID, an age and a file name, or a build id
abbrev pub code_view_kind : Field
code_view_kind = field 0 4

abbrev pub code_view_id : ℕ
code_view_id = 4

abbrev pub pdb_kind : ℕ
pdb_kind = 0x53445352

abbrev pub pdb_age : Field
pdb_age = field 20 4

abbrev pub pdb_file : ℕ
pdb_file = 24

abbrev pub build_id_kind : ℕ
build_id_kind = 0x4270454C
