-- The digested text of a kit, by concatenation: this project's profile. Numbers are little-endian.
use Rattle.std.specs.Prelude.{◌≡◌, ℕ, ◌^◌, ◌<◌, List, ◌++◌, length, flat_map}
use Rattle.std.specs.Int.{to_le_bytes, w64}
use Rattle.std.specs.List.{AllByRecursion}
use Rattle.soc_report.specs.Texts.{SymbolText, KitTexts}

-- a text after its length in 8 bytes
abbrev pub sized : List ℕ → List ℕ
sized text = to_le_bytes w64 (length text) ++ text

abbrev pub digested_symbol : SymbolText → List ℕ
digested_symbol symbol = sized symbol.path ++ sized symbol.content

-- the three lists, how many symbol files there are, and each one's path and content
abbrev pub digested : KitTexts → List ℕ
digested texts =
    sized texts.irrelevant
    ++ (sized texts.prefix
    ++ (sized texts.sentinel
    ++ (to_le_bytes w64 (length texts.symbols) ++ flat_map digested_symbol texts.symbols)))

-- lengths that 8 bytes hold, as those of all texts in memory
pub record IsShort (symbol : SymbolText) : Type 0 where
  pub path : length symbol.path < 2 ^ 64
  pub content : length symbol.content < 2 ^ 64

pub record AreShort (texts : KitTexts) : Type 0 where
  pub irrelevant : length texts.irrelevant < 2 ^ 64
  pub prefix : length texts.prefix < 2 ^ 64
  pub sentinel : length texts.sentinel < 2 ^ 64
  pub count : length texts.symbols < 2 ^ 64
  pub symbols : AllByRecursion IsShort texts.symbols

-- equal digested texts are those of equal lists, paths and symbols
abbrev pub IsOneKit : Type 0
IsOneKit = (a b : KitTexts) → AreShort a → AreShort b → digested a ≡ digested b → a ≡ b
