-- A digested text is that of one kit.
use Rattle.std.proofs.Common.{◌≡◌, ℕ, ◌^◌, ◌<◌, List, [], ◌∷◌, ◌++◌, length, drop, get_or, refl, sym, ap, ◌∙◌, arith, append_assoc}
use Rattle.std.specs.Prelude.{flat_map}
use Rattle.std.specs.Int.{from_le_bytes, to_le_bytes, w64}
use Rattle.std.specs.List.{AllByRecursion}
use Rattle.std.proofs.lemmas.Nat.{from_le_bytes-to_le_bytes_8}
use Rattle.soc_report.specs.Texts.{SymbolText}
use Rattle.soc_report.specs.Digests.{sized, digested_symbol, IsShort, IsOneKit}

-- texts of one length that begin equal texts are equal, and so is what follows
same_front : (a b x y : List ℕ) → length a ≡ length b → a ++ x ≡ b ++ y → (a ≡ b) × (x ≡ y)
same_front [] [] x y long same = (refl, same)
same_front [] (d ∷ b) x y long same = absurd (omega (arith, long))
same_front (c ∷ a) [] x y long same = absurd (omega (arith, long))
same_front (c ∷ a) (d ∷ b) x y long same =
    let first : c ≡ d = ap (λ (l : List ℕ). get_or l 0 0) same in
    let rest = same_front a b x y (omega (arith, long)) (ap (drop 1) same) in
    (ap (λ (n : ℕ). n ∷ a) first ∙ ap (λ (l : List ℕ). d ∷ l) rest.0, rest.1)

same_number : (m n : ℕ) (x y : List ℕ) → m < 2 ^ 64 → n < 2 ^ 64 → to_le_bytes w64 m ++ x ≡ to_le_bytes w64 n ++ y → (m ≡ n) × (x ≡ y)
same_number m n x y small_m small_n same =
    let parts = same_front (to_le_bytes w64 m) (to_le_bytes w64 n) x y refl same in
    (sym (from_le_bytes-to_le_bytes_8 m small_m) ∙ ap (from_le_bytes w64) parts.0 ∙ from_le_bytes-to_le_bytes_8 n small_n, parts.1)

same_sized : (a b x y : List ℕ) → length a < 2 ^ 64 → length b < 2 ^ 64 → sized a ++ x ≡ sized b ++ y → (a ≡ b) × (x ≡ y)
same_sized a b x y short_a short_b same =
    let apart = sym (append_assoc (to_le_bytes w64 (length a)) a x) ∙ same ∙ append_assoc (to_le_bytes w64 (length b)) b y in
    let lengths = same_number (length a) (length b) (a ++ x) (b ++ y) short_a short_b apart in
    same_front a b x y lengths.0 lengths.1

same_symbol : (a b : SymbolText) (x y : List ℕ) → IsShort a → IsShort b → digested_symbol a ++ x ≡ digested_symbol b ++ y → (a ≡ b) × (x ≡ y)
same_symbol a b x y short_a short_b same =
    let apart = sym (append_assoc (sized a.path) (sized a.content) x) ∙ same ∙ append_assoc (sized b.path) (sized b.content) y in
    let paths = same_sized a.path b.path (sized a.content ++ x) (sized b.content ++ y) short_a.path short_b.path apart in
    let contents = same_sized a.content b.content x y short_a.content short_b.content paths.1 in
    let first : a ≡ record { path = b.path; content = a.content } = ap (λ (p : List ℕ). record { path = p; content = a.content }) paths.0 in
    let second : record { path = b.path; content = a.content } ≡ b = ap (λ (t : List ℕ). record { path = b.path; content = t }) contents.0 in
    (first ∙ second, contents.1)

same_symbols : (ss ts : List SymbolText) → AllByRecursion IsShort ss → AllByRecursion IsShort ts → length ss ≡ length ts → flat_map digested_symbol ss ≡ flat_map digested_symbol ts → ss ≡ ts
same_symbols [] [] short_ss short_ts long same = refl
same_symbols [] (t ∷ ts) short_ss short_ts long same = absurd (omega (arith, long))
same_symbols (s ∷ ss) [] short_ss short_ts long same = absurd (omega (arith, long))
same_symbols (s ∷ ss) (t ∷ ts) short_ss short_ts long same =
    let parts = same_symbol s t (flat_map digested_symbol ss) (flat_map digested_symbol ts) short_ss.0 short_ts.0 same in
    ap (λ (x : SymbolText). x ∷ ss) parts.0 ∙ ap (λ (xs : List SymbolText). t ∷ xs) (same_symbols ss ts short_ss.1 short_ts.1 (omega (arith, long)) parts.1)

pub one_kit : IsOneKit
one_kit a b short_a short_b same =
    let symbols_a = to_le_bytes w64 (length a.symbols) ++ flat_map digested_symbol a.symbols in
    let symbols_b = to_le_bytes w64 (length b.symbols) ++ flat_map digested_symbol b.symbols in
    let one = same_sized a.irrelevant b.irrelevant (sized a.prefix ++ (sized a.sentinel ++ symbols_a)) (sized b.prefix ++ (sized b.sentinel ++ symbols_b)) short_a.irrelevant short_b.irrelevant same in
    let two = same_sized a.prefix b.prefix (sized a.sentinel ++ symbols_a) (sized b.sentinel ++ symbols_b) short_a.prefix short_b.prefix one.1 in
    let three = same_sized a.sentinel b.sentinel symbols_a symbols_b short_a.sentinel short_b.sentinel two.1 in
    let four = same_number (length a.symbols) (length b.symbols) (flat_map digested_symbol a.symbols) (flat_map digested_symbol b.symbols) short_a.count short_b.count three.1 in
    let five = same_symbols a.symbols b.symbols short_a.symbols short_b.symbols four.0 four.1 in
    let to_one : a ≡ record a { irrelevant = b.irrelevant } = ap (λ (t : List ℕ). record a { irrelevant = t }) one.0 in
    let to_two : record a { irrelevant = b.irrelevant } ≡ record { irrelevant = b.irrelevant; prefix = b.prefix; sentinel = a.sentinel; symbols = a.symbols } =
    ap (λ (t : List ℕ). record { irrelevant = b.irrelevant; prefix = t; sentinel = a.sentinel; symbols = a.symbols }) two.0 in
    let to_three : record { irrelevant = b.irrelevant; prefix = b.prefix; sentinel = a.sentinel; symbols = a.symbols } ≡ record b { symbols = a.symbols } =
    ap (λ (t : List ℕ). record { irrelevant = b.irrelevant; prefix = b.prefix; sentinel = t; symbols = a.symbols }) three.0 in
    let to_four : record b { symbols = a.symbols } ≡ b = ap (λ (ss : List SymbolText). record b { symbols = ss }) five in
    to_one ∙ to_two ∙ to_three ∙ to_four
