-- A disk that is read through a window, as contracts see it.
use Rattle.std.specs.Prelude.{◌≡◌, ℕ, ◌+◌, ◌-◌, ◌≤◌, min, Option, IfSome, List, length, take, drop, refl}
use Rattle.std.specs.Coded.{Coded, code_by, coded×, coded_ℕ}
use Rattle.soc_edge.specs.Disk.{DiskTold, IsDisk}

-- how many bytes a window has: 64 KiB
abbrev pub window_size : ℕ
window_size = 65_536

-- the disk, where the bytes that the window holds begin on it, how many they are, and how many calls were made
pub record Ahead (D : Type 0) : Type 0 where
  pub disk : D
  pub from : ℕ
  pub held : ℕ
  pub calls : ℕ

module _ {D : Type 0} where
  abbrev pub ahead_code : Coded D → Coded (Ahead D)
  ahead_code c = code_by (D × (ℕ × (ℕ × ℕ))) (coded× c (coded× coded_ℕ (coded× coded_ℕ coded_ℕ)))
      (λ a. (a.disk, (a.from, (a.held, a.calls)))) (λ p. record { disk = p.0; from = p.1.0; held = p.1.1.0; calls = p.1.1.1 }) (λ _. refl)

-- what the disk tells, with a count of calls of its own
abbrev pub ahead_told : DiskTold → ℕ → DiskTold
ahead_told disk calls = record disk { calls = calls }

-- a window holds all of so many bytes at a place
pub record Covers (from held place count : ℕ) : Type 0 where
  pub behind : from ≤ place
  pub ends : place + count ≤ from + held

-- a window holds what it has room for of what the disk has from a place on
pub record IsFilled (told : Option (List ℕ)) (place from held : ℕ) : Type 0 where
  pub begins : from ≡ place
  pub fills : IfSome told (λ bytes. held ≡ min window_size (length bytes - place))

-- the window holds what the disk reads as from this place on
pub record IsWindow (told : Option (List ℕ)) (from held : ℕ) (window : List ℕ) : Type 0 where
  pub size : length window ≡ window_size
  pub within : held ≤ window_size
  pub reads : IfSome told (λ bytes. (held ≤ length bytes - from) × (take held window ≡ take held (drop from bytes)))

-- it is a disk as the other is
pub IsDisk-ahead : (disk : DiskTold) (calls : ℕ) → IsDisk disk → IsDisk (ahead_told disk calls)
IsDisk-ahead disk calls sound = record {
  reads_as_image = sound.reads_as_image;
  counts_now = sound.counts_now;
  only_now = sound.only_now;
  wider = sound.wider;
}
