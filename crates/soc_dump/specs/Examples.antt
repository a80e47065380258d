-- Small dumps, read by computation.
use Rattle.std.specs.Prelude.{◌≡◌, ℕ, List, [], ◌∷◌, ◌++◌, None, Some, replicate, refl}
use Rattle.byteorder.specs.Endian.{little_bytes}
use Rattle.soc_dump.specs.declared.error.DumpError.TheVariants.{OutOfFile, TwoStreams}
use Rattle.soc_dump.specs.Layout.{signature, version}
use Rattle.soc_dump.specs.Checks.{first_refusal}
use Rattle.soc_dump.specs.Dump.{Contents, contents_in, contents_of, contents_checks, dump_checks}

abbrev pub four : ℕ → List ℕ
four number = little_bytes 4 number

-- a header, with the directory right behind it
abbrev pub header : ℕ → List ℕ
header count = four signature ++ four version ++ four count ++ four 32 ++ replicate 16 0

-- a thread without a stack or a context
abbrev pub thread : ℕ → List ℕ
thread id = four id ++ replicate 44 0

-- one list of one thread, without and with padding
abbrev pub plain : List ℕ
plain = header 1 ++ four 3 ++ four 52 ++ four 44 ++ four 1 ++ thread 7

abbrev pub padded : List ℕ
padded = header 1 ++ four 3 ++ four 56 ++ four 44 ++ four 1 ++ four 0 ++ thread 7

abbrev pub one_thread : Contents
one_thread = record {
  threads = record { id = 7; stack_start = 0; stack = []; context = [] } ∷ [];
  modules = [];
  memory = [];
  exception = None;
  system = None;
}

pub plain_list : contents_of plain ≡ one_thread
unfolding contents_in
plain_list = refl

pub padded_list : contents_of padded ≡ one_thread
unfolding contents_in
padded_list = refl

pub padded_accepted : first_refusal (dump_checks padded) ≡ None
unfolding contents_checks dump_checks
padded_accepted = refl

-- the same stream twice
abbrev pub twice : List ℕ
twice = header 2 ++ four 3 ++ four 52 ++ four 56 ++ four 3 ++ four 52 ++ four 56 ++ four 1 ++ thread 7

pub twice_refused : first_refusal (dump_checks twice) ≡ Some (TwoStreams 3 44)
unfolding contents_checks dump_checks
twice_refused = refl

-- a system of 55 bytes, and before it in the directory an exception of 168 that are not there
abbrev pub short : List ℕ
short = header 2 ++ four 6 ++ four 168 ++ four 60 ++ four 7 ++ four 55 ++ four 56 ++ replicate 55 0

pub short_refused : first_refusal (dump_checks short) ≡ Some (OutOfFile 60)
unfolding contents_checks dump_checks
short_refused = refl
