-- A first line, as it is found in what was read of an input, and lines that are texts.
use Rattle.std.proofs.Common.{◌≡◌, ℕ, zero, suc, ◌+◌, ◌<◌, ◌≤◌, Bool, ◌&&◌, inl, inr, cond, true, false, List, [], ◌∷◌, ◌++◌, length, take, drop, eqb, Option, None, Some, IfSome, refl, sym, ap, ◌∙◌, subst, arith}
use Rattle.std.specs.Prelude.{◌==◌, if◌then◌else◌, nat_le, nat_lt, not, position}
use Rattle.std.specs.Char.{is_ascii_graphic}
use Rattle.std.specs.Io.KnownBytes.{IsAtEnd}
use Rattle.std.specs.List.{list_all, position_or_len}
use Rattle.std.specs.Option.{option_and_then}
use Rattle.std.specs.Str.{IsAscii, IsUtf8}
use Rattle.std.proofs.lemmas.Bool.{cases_lt, eq-eqb, ne_eqb}
use Rattle.std.proofs.lemmas.Bool.Decides.{nat_tests}
use Rattle.std.proofs.lemmas.List.{append-nil, length-take-le, take-append-le, take-take, take_all}
use Rattle.std.proofs.lemmas.List.Folds.{prefix_len-append}
use Rattle.std.proofs.lemmas.Str.{IsUtf8-from_ascii}
use Rattle.std.proofs.Math.Seq.{take-add, take-append_seam}
use Rattle.std.proofs.lemmas.List.Sums.{prefix_len-le-length}
use Rattle.soc_base.proofs.Folk.{and_parts, none_is_not_some, some_same}
use Rattle.soc_toml.specs.Keys.{has_form, of_form}
use Rattle.soc_schema.specs.declared.caller.Caller.{Caller}
use Rattle.soc_schema.specs.declared.caller.Products.{Products}
use Rattle.soc_schema.specs.declared.token.Token.{Token}
use Rattle.soc_schema.specs.TokenFile.{caller_of}
use Rattle.soc_edge.specs.Told.{Gives, OnlyReads, Reads, Told}
use Rattle.soc_edge.proofs.Told.{Reads-append}
use Rattle.soc_export.specs.Keys.{Asks, caller_by_line, first_line, is_line_feed, most_key}

-- ---- the first line of bytes that go on

-- where there is a line feed among them it ends there
line_ended : (bytes rest : List ℕ) (n : ℕ) → position_or_len is_line_feed bytes ≡ n → n < length bytes → first_line (bytes ++ rest) ≡ take n bytes
line_ended bytes rest n is less =
    let apart : eqb n (length bytes) ≡ false = ne_eqb n (length bytes) (λ same. omega (arith, same)) in
    let place : position_or_len is_line_feed (bytes ++ rest) ≡ n =
    prefix_len-append (λ byte. not (is_line_feed byte)) bytes rest
    ∙ (ap (λ (m : ℕ). cond (eqb m (length bytes)) (length bytes + position_or_len is_line_feed rest) m) is
    ∙ ap (λ b. cond b (length bytes + position_or_len is_line_feed rest) n) apart) in
    ap (λ (m : ℕ). take m (bytes ++ rest)) place ∙ take-append-le n bytes rest (omega arith)

-- and else it has all of them
line_goes_on : (bytes rest : List ℕ) → position_or_len is_line_feed bytes ≡ length bytes → take (length bytes) (first_line (bytes ++ rest)) ≡ bytes
line_goes_on bytes rest is =
    let place : position_or_len is_line_feed (bytes ++ rest) ≡ length bytes + position_or_len is_line_feed rest =
    prefix_len-append (λ byte. not (is_line_feed byte)) bytes rest
    ∙ ap (λ b. cond b (length bytes + position_or_len is_line_feed rest) (position_or_len is_line_feed bytes)) (eq-eqb _ _ is) in
    ap (λ (m : ℕ). take (length bytes) (take m (bytes ++ rest))) place
    ∙ (take-take (length bytes) (length bytes + position_or_len is_line_feed rest) (bytes ++ rest) (omega arith)
    ∙ take-append_seam bytes rest)

-- ---- what was read of an input

-- what is so of all that may be left is so where it is told
where_told : (before after : Option (List ℕ)) (bytes : List ℕ) (P : List ℕ → Type 0) → Gives before after bytes → ((rest : List ℕ) → after ≡ Some rest → P (bytes ++ rest)) → IfSome before P
where_told before None bytes P gives each = subst (λ o. IfSome o P) (sym gives) tt
where_told before (Some rest) bytes P gives each = subst (λ o. IfSome o P) (sym gives) (each rest refl)

module _ (before after : Option (List ℕ)) (bytes : List ℕ) (most : ℕ) (gives : Gives before after bytes) (few : length bytes ≤ most) where
  -- a line feed was found
  ended : (line : List ℕ) (n : ℕ) → position_or_len is_line_feed bytes ≡ n → n < length bytes → line ≡ take n bytes
      → IfSome before (λ told. line ≡ take most (first_line told))
  ended line n is less cut =
      where_told before after bytes _ gives (λ rest _.
      let long : length (take n bytes) ≡ n = length-take-le n bytes (omega arith) in
      cut ∙ (sym (take_all most (take n bytes) (omega (arith, long))) ∙ ap (take most) (sym (line_ended bytes rest n is less))))

  -- the input ended
  at_end : (line : List ℕ) → position_or_len is_line_feed bytes ≡ length bytes → IsAtEnd after → line ≡ bytes
      → IfSome before (λ told. line ≡ take most (first_line told))
  at_end line is end all =
      where_told before after bytes _ gives (λ rest left.
      let none : rest ≡ [] = subst IsAtEnd left end in
      let whole : first_line (bytes ++ rest) ≡ bytes =
      ap (λ (r : List ℕ). first_line (bytes ++ r)) none ∙ (ap first_line (append-nil bytes) ∙ (ap (λ (m : ℕ). take m bytes) is ∙ take_all (length bytes) bytes (omega arith))) in
      all ∙ (sym (take_all most bytes few) ∙ ap (take most) (sym whole)))

  -- as much was read as is looked at
  full : (line : List ℕ) → position_or_len is_line_feed bytes ≡ length bytes → length bytes ≡ most → line ≡ bytes
      → IfSome before (λ told. line ≡ take most (first_line told))
  full line is all same =
      where_told before after bytes _ gives (λ rest _.
      same ∙ (sym (line_goes_on bytes rest is) ∙ ap (λ (m : ℕ). take m (first_line (bytes ++ rest))) all))

-- ---- a line that is read piece by piece

-- one more read behind what stands in front
pub read_more : (a b c : Told) (line grown : List ℕ) (at n : ℕ) → Reads a b (take at line) → take at grown ≡ take at line → Reads b c (take n (drop at grown)) → Reads a c (take (at + n) grown)
read_more a b c line grown at n first front next =
    subst (Reads a c) (ap (λ l. l ++ take n (drop at grown)) (sym front) ∙ sym (take-add at n grown)) (Reads-append a b c (take at line) (take n (drop at grown)) first next)

pub read_on : (a b c : Told) (line grown : List ℕ) (at n : ℕ) → Reads a b (take at line) → take at grown ≡ take at line → Reads b c (take n (drop at grown)) → OnlyReads a c
read_on a b c line grown at n first front next = (read_more a b c line grown at n first front next).only

-- nothing more came
pub line_at_end : (a b c : Told) (line grown : List ℕ) (at n : ℕ) → Reads a b (take at line) → take at grown ≡ take at line → Reads b c (take n (drop at grown))
    → position_or_len is_line_feed (take at line) ≡ at → at ≤ length grown → n ≡ 0 → IsAtEnd c.left → IfSome a.left (λ told. take at grown ≡ take (length grown) (first_line told))
line_at_end a b c line grown at n first front next no_feed within none end =
    let reads : Reads a c (take at grown) = subst (λ (m : ℕ). Reads a c (take m grown)) (omega (arith, none)) (read_more a b c line grown at n first front next) in
    let long : length (take at grown) ≡ at = length-take-le at grown within in
    at_end a.left c.left (take at grown) (length grown) reads.gives (omega (arith, long)) (take at grown)
    (ap (position_or_len is_line_feed) front ∙ (no_feed ∙ sym long)) end refl

-- a line feed came
pub line_ends : (a b c : Told) (line grown : List ℕ) (at n end : ℕ) → Reads a b (take at line) → take at grown ≡ take at line → Reads b c (take n (drop at grown))
    → at + n ≤ length grown → end ≡ position_or_len is_line_feed (take (at + n) grown) → end < at + n → IfSome a.left (λ told. take end grown ≡ take (length grown) (first_line told))
line_ends a b c line grown at n end first front next within is less =
    let reads : Reads a c (take (at + n) grown) = read_more a b c line grown at n first front next in
    let long : length (take (at + n) grown) ≡ at + n = length-take-le (at + n) grown within in
    ended a.left c.left (take (at + n) grown) (length grown) reads.gives (omega (arith, long)) (take end grown) end (sym is) (omega (arith, long))
    (sym (take-take end (at + n) grown (omega arith)))

-- none came
pub feed_missing : (grown : List ℕ) (filled end : ℕ) → filled ≤ length grown → end ≡ position_or_len is_line_feed (take filled grown) → filled ≤ end → position_or_len is_line_feed (take filled grown) ≡ filled
feed_missing grown filled end within is least =
    let long : length (take filled grown) ≡ filled = length-take-le filled grown within in
    let most : position_or_len is_line_feed (take filled grown) ≤ length (take filled grown) = prefix_len-le-length (λ byte. not (is_line_feed byte)) (take filled grown) in
    omega (arith, long, most, is, least)

-- there is no more room
pub line_full : (a b : Told) (line : List ℕ) (at : ℕ) → Reads a b (take at line) → position_or_len is_line_feed (take at line) ≡ at → at ≤ length line → length line ≤ at
    → IfSome a.left (λ told. take at line ≡ take (length line) (first_line told))
line_full a b line at reads no_feed within all =
    let long : length (take at line) ≡ at = length-take-le at line within in
    full a.left b.left (take at line) (length line) reads.gives (omega (arith, long)) (take at line) (no_feed ∙ sym long) (omega (arith, long)) refl

-- ---- places

-- the place of the first, or all
pub place_found : {X : Type 0} (p : X → Bool) (xs : List X) (n : ℕ) → position p xs ≡ Some n → n ≡ position_or_len p xs
place_found p xs n is =
    elim (nat_lt (position_or_len p xs) (length xs)) as (λ b. cond b (Some (position_or_len p xs)) None ≡ Some n → n ≡ position_or_len p xs) [
      | true ↦ λ e. sym (some_same (position_or_len p xs) n e)
      | false ↦ λ e. absurd (none_is_not_some e)
    ] is

pub place_missing : {X : Type 0} (p : X → Bool) (xs : List X) → position p xs ≡ None → length xs ≡ position_or_len p xs
place_missing p xs is =
    let within : position_or_len p xs ≤ length xs = prefix_len-le-length _ xs in
    elim (nat_lt (position_or_len p xs) (length xs)) as (λ b. nat_lt (position_or_len p xs) (length xs) ≡ b → cond b (Some (position_or_len p xs)) None ≡ None → length xs ≡ position_or_len p xs) [
      | true ↦ λ less e. absurd (none_is_not_some (sym e))
      | false ↦ λ less e. all_of (position_or_len p xs) (length xs) within less
    ] refl is
  where
    all_of : (n m : ℕ) → n ≤ m → nat_lt n m ≡ false → m ≡ n
    all_of n m within less = grind (arith, nat_tests)

-- ---- keys

-- visible characters are text
visible_text : (bytes : List ℕ) → list_all is_ascii_graphic bytes ≡ true → IsUtf8 bytes
visible_text bytes all = IsUtf8-from_ascii bytes (visible_ascii bytes all) where
  visible_small : (byte : ℕ) → is_ascii_graphic byte ≡ true → byte < 128
  visible_small byte visible = grind (arith, nat_tests)

  visible_ascii : (bytes : List ℕ) → list_all is_ascii_graphic bytes ≡ true → IsAscii bytes
  visible_ascii [] all i = omega arith
  visible_ascii (byte ∷ bytes) all zero = visible_small byte (and_parts (is_ascii_graphic byte) _ all).0
  visible_ascii (byte ∷ bytes) all (suc i) = visible_ascii bytes (and_parts (is_ascii_graphic byte) _ all).1 i

pub visible_key : (line : List ℕ) → has_form is_ascii_graphic most_key line ≡ true → IsUtf8 line
visible_key line form = visible_text line (and_parts (nat_le 1 (length line) && nat_le (length line) most_key) (list_all is_ascii_graphic line) form).1

too_long : (text : List ℕ) → most_key < length text → has_form is_ascii_graphic most_key text ≡ false
too_long text long = ap (λ b. (nat_le 1 (length text) && b) && list_all is_ascii_graphic text) (above (length text) long) ∙ neither (nat_le 1 (length text)) (list_all is_ascii_graphic text) where
  above : (n : ℕ) → most_key < n → nat_le n most_key ≡ false
  above n long = grind (arith, nat_tests)

  neither : (a b : Bool) → ((a && false) && b) ≡ false
  neither true b = refl
  neither false b = refl

-- a line that has no form of a key is nobody's
no_key : (tokens : List Token) (public : Products) (line : List ℕ) → 0 < length line → has_form is_ascii_graphic most_key line ≡ false → caller_by_line tokens public line ≡ None
no_key tokens public [] some form = absurd (omega arith)
no_key tokens public (byte ∷ bytes) some form = ap (λ b. if b then caller_of tokens (Some (byte ∷ bytes)) public else None) form

pub keyed : (tokens : List Token) (public : Products) (line : List ℕ) → (length line == 0) ≡ false → (key : Option (List ℕ)) → key ≡ of_form is_ascii_graphic most_key line
    → option_and_then (λ k. caller_of tokens (Some k) public) key ≡ caller_by_line tokens public line
keyed tokens public [] some key is = let bad : true ≡ false = some in cc
keyed tokens public (byte ∷ bytes) some key is =
    ap (option_and_then (λ k. caller_of tokens (Some k) public)) is
    ∙ elim (has_form is_ascii_graphic most_key (byte ∷ bytes)) as (λ b. option_and_then (λ k. caller_of tokens (Some k) public) (if b then Some (byte ∷ bytes) else None)
    ≡ (if b then caller_of tokens (Some (byte ∷ bytes)) public else None)) [ true ↦ refl | false ↦ refl ]

-- so much of a line is enough
line_cut : (tokens : List Token) (public : Products) (line : List ℕ) → caller_by_line tokens public (take 65 line) ≡ caller_by_line tokens public line
line_cut tokens public line =
    elim (cases_lt 65 (length line)) [
      | inl long ↦
          let cut : length (take 65 line) ≡ 65 = length-take-le 65 line (omega arith) in
          no_key tokens public (take 65 line) (omega (arith, cut)) (too_long (take 65 line) (omega (arith, cut)))
          ∙ sym (no_key tokens public line (omega arith) (too_long line (omega arith)))
      | inr short ↦ ap (caller_by_line tokens public) (take_all 65 line short)
    ]

pub asked_by : (tokens : List Token) (public : Products) (before after : Told) (line : List ℕ) (caller : Option Caller) (most : ℕ) → OnlyReads before after
    → IfSome before.left (λ told. line ≡ take most (first_line told)) → caller ≡ caller_by_line tokens public line → most ≡ 65 → Asks tokens public before after caller
asked_by tokens public before after line caller most only is asks enough = record {
  only = only;
  by_line = elim before.left as (λ o. IfSome o (λ told. line ≡ take most (first_line told)) → IfSome o (λ input. caller ≡ caller_by_line tokens public (first_line input))) [
    | None ↦ λ _. tt
    | Some input ↦ λ cut. asks ∙ (ap (caller_by_line tokens public) (cut ∙ ap (λ (n : ℕ). take n (first_line input)) enough) ∙ line_cut tokens public (first_line input))
  ] is;
}
