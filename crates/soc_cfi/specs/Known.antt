-- What is known where a rule is evaluated.
use Rattle.std.specs.Prelude.{◌≡◌, ℕ, ◌<◌, ◌⊎◌, List, Option, IfSome}
use Rattle.std.specs.List.{AllByRecursion}
use Rattle.soc_cfi.specs.Operators.{values_of}

pub record Known : Type 0 where
  -- the bytes of a word
  pub width : ℕ
  -- the value of a register, by its name
  pub register : List ℕ → Option ℕ
  -- the canonical frame address
  pub cfa : Option ℕ
  -- the word of memory at an address
  pub word : ℕ → Option ℕ

abbrev pub known : ℕ → (List ℕ → Option ℕ) → Option ℕ → (ℕ → ℕ → Option ℕ) → Known
known width register cfa words = record { width = width; register = register; cfa = cfa; word = λ address. words address width }

-- the widths of words
abbrev pub IsWidth : ℕ → Type 0
IsWidth width = (width ≡ 4) ⊎ (width ≡ 8)

-- the registers and the frame address are words of this width
abbrev pub HoldsWords : ℕ → (List ℕ → Option ℕ) → Option ℕ → Type 0
HoldsWords width register cfa = ((name : List ℕ) → IfSome (register name) (λ value. value < values_of width)) × IfSome cfa (λ value. value < values_of width)

-- the values of a stack are words of this width
abbrev pub AreWords : ℕ → List ℕ → Type 0
AreWords width stack = AllByRecursion (λ value. value < values_of width) stack
