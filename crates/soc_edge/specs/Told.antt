-- What a source and a sink tell of themselves. Content is optional: `None` where the object doesn't tell. A clause on
-- content holds where it is told, and is written `IfSome told (λ bytes. ..)`. This project's own.
use Rattle.std.specs.Prelude.{◌≡◌, ℕ, ◌<◌, ◌≤◌, Option, None, List, length, take}
use Rattle.std.specs.Io.KnownBytes.{append_known, prepend_known}
use Rattle.soc_edge.specs.Faults.{Rose}

-- what is left to be read, what was written, and how often a read and a write have failed
pub record Told : Type 0 where
  pub left : Option (List ℕ)
  pub held : Option (List ℕ)
  pub read_faults : ℕ
  pub write_faults : ℕ

-- of what tells nothing
abbrev pub untold : Told
untold = record { left = None; held = None; read_faults = 0; write_faults = 0 }

-- a source and a sink as one
abbrev pub joined : Told → Told → Told
joined source sink = record source { held = sink.held; write_faults = sink.write_faults }

-- nothing but reads: what is held stays, and no write failed
pub record OnlyReads (before after : Told) : Type 0 where
  pub held_stays : after.held ≡ before.held
  pub reads_never_fall : before.read_faults ≤ after.read_faults
  pub write_faults_stay : after.write_faults ≡ before.write_faults

-- nothing but writes: what is left stays, and no read failed
pub record OnlyWrites (before after : Told) : Type 0 where
  pub left_stays : after.left ≡ before.left
  pub read_faults_stay : after.read_faults ≡ before.read_faults
  pub writes_never_fall : before.write_faults ≤ after.write_faults

-- whatever was read and written, no fault is forgotten
pub record NeverFall (before after : Told) : Type 0 where
  pub reads : before.read_faults ≤ after.read_faults
  pub writes : before.write_faults ≤ after.write_faults

-- a read failed
abbrev pub ReadFailed : Told → Told → Type 0
ReadFailed before after = Rose before.read_faults after.read_faults

-- a write failed
abbrev pub WriteFailed : Told → Told → Type 0
WriteFailed before after = Rose before.write_faults after.write_faults

-- a link answers a read fault and a write fault only where that count rose in this call
pub record HasCause (read_fault write_fault : Type 0) (before after : Told) : Type 0 where
  pub read : read_fault → ReadFailed before after
  pub write : write_fault → WriteFailed before after

-- what was left began with these bytes, and loses them; what wasn't told is not told afterwards
abbrev pub Gives : Option (List ℕ) → Option (List ℕ) → List ℕ → Type 0
Gives before after bytes = before ≡ prepend_known bytes after

-- what is held grows by these bytes at its end; what wasn't told is not told afterwards
abbrev pub Takes : Option (List ℕ) → Option (List ℕ) → List ℕ → Type 0
Takes before after bytes = after ≡ append_known before bytes

-- what is held grows by the first of these bytes, and not by all of them
pub record TakesFront (before after : Option (List ℕ)) (bytes : List ℕ) : Type 0 where
  pub count : ℕ
  pub not_all : count < length bytes
  pub takes : Takes before after (take count bytes)

-- reads gave these bytes, and nothing else was done
pub record Reads (before after : Told) (bytes : List ℕ) : Type 0 where
  pub gives : Gives before.left after.left bytes
  pub only : OnlyReads before after

-- writes took these bytes, and nothing else was done
pub record Writes (before after : Told) (bytes : List ℕ) : Type 0 where
  pub takes : Takes before.held after.held bytes
  pub only : OnlyWrites before after

-- writes took the first of these bytes and not all of them, and nothing else was done
pub record WritesFront (before after : Told) (bytes : List ℕ) : Type 0 where
  pub front : TakesFront before.held after.held bytes
  pub only : OnlyWrites before after
