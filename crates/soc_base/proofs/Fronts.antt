-- Reading bytes from their front, and what was written there.
use Rattle.std.proofs.Common.{◌≡◌, ℕ, ◌+◌, ◌^◌, ◌<◌, ◌≤◌, Bool, true, false, cond, ltb, List, ◌++◌, length, length-append, get_or, take, drop, Option, Some, None, refl, sym, ap, subst, ◌∙◌, append_assoc, arith, inl, inr}
use Rattle.std.specs.Int.{Width, w32, w64, byte_len, from_le_bytes, to_le_bytes}
use Rattle.std.specs.Str.{IsUtf8, is_utf8}
use Rattle.std.proofs.lemmas.Bool.{cases_lt, ltb-false, le-ltb}
use Rattle.std.proofs.lemmas.List.{take_at, drop_at, take-append-drop, length-take-le, get_or-drop, get_or-take, get_or_past}
use Rattle.std.proofs.lemmas.Nat.{le_bytes_4, le_bytes_8, from_le_bytes-to_le_bytes_4, from_le_bytes-to_le_bytes_8}
use Rattle.std.proofs.lemmas.Str.{IsUtf8-from_is_utf8, is_utf8-from_IsUtf8}
use Rattle.soc_base.specs.Cursor.{counted}
use Rattle.soc_base.specs.Options.{◌>>=◌}
use Rattle.soc_base.specs.Cursor.{number_at, bytes_at, blob_at, text_at}
use Rattle.soc_base.proofs.Folk.{not_true, some_same}

pub no_text : (bytes : List ℕ) → (IsUtf8 bytes → ⊥) → is_utf8 bytes ≡ false
no_text bytes h = not_true (is_utf8 bytes) (λ e. h (IsUtf8-from_is_utf8 bytes e))

pub is_text : (bytes : List ℕ) → IsUtf8 bytes → is_utf8 bytes ≡ true
is_text bytes h = is_utf8-from_IsUtf8 bytes h

abbrev pub IsBytes : List ℕ → Type 0
IsBytes bytes = (i : ℕ) → get_or bytes i 0 < 256

pub bytes_behind : (n : ℕ) (bytes : List ℕ) → IsBytes bytes → IsBytes (drop n bytes)
bytes_behind n bytes h i = rw get_or-drop (h (n + i))

pub bytes_before : (n : ℕ) (bytes : List ℕ) → n ≤ length bytes → IsBytes bytes → IsBytes (take n bytes)
bytes_before n bytes inside h i =
    elim (cases_lt i n) [
      | inl lt ↦ rw (get_or-take n bytes i 0 lt) (h i)
      | inr le ↦ (let len = length-take-le n bytes inside in rw (get_or_past (take n bytes) i 0 (omega arith)) (omega arith))
    ]

-- steps that read something
pub bound : {A B : Type 0} (r : Option A) (f : A → Option B) (y : B) → (r >>= f) ≡ Some y → (x : A) × (r ≡ Some x) × (f x ≡ Some y)
bound None f y e = absurd cc
bound (Some x) f y e = (x, refl, e)

pub passed : {A : Type 0} (b : Bool) (x y : A) → cond b (Some x) None ≡ Some y → (b ≡ true) × (x ≡ y)
passed true x y e = (refl, some_same x y e)
passed false x y e = absurd cc

pub unbarred : {A : Type 0} (b : Bool) (x : Option A) (y : A) → cond b None x ≡ Some y → (b ≡ false) × (x ≡ Some y)
unbarred true x y e = absurd cc
unbarred false x y e = (refl, e)

-- the bytes are the text and then the rest
pub record Splits (bytes text rest : List ℕ) : Type 0 where
  pub whole : bytes ≡ text ++ rest
  pub fits : IsBytes rest

pub joined : (a x b y c : List ℕ) → Splits a x b → Splits b y c → Splits a (x ++ y) c
joined a x b y c p q = record { whole = p.whole ∙ ap (λ t. x ++ t) q.whole ∙ sym (append_assoc x y c); fits = q.fits }

-- ---- numbers

pub record IsWidth (w : Width) (limit : ℕ) : Type 0 where
  pub len : (n : ℕ) → length (to_le_bytes w n) ≡ byte_len w
  pub back : (bytes : List ℕ) → length bytes ≡ byte_len w → IsBytes bytes → to_le_bytes w (from_le_bytes w bytes) ≡ bytes
  pub again : (n : ℕ) → n < limit → from_le_bytes w (to_le_bytes w n) ≡ n
  pub below : (bytes : List ℕ) → IsBytes bytes → from_le_bytes w bytes < limit

pub four : IsWidth w32 (2 ^ 32)
four = record {
  len = λ n. refl;
  back = λ bytes len fits. le_bytes_4 bytes _ len fits refl;
  again = λ n lt. from_le_bytes-to_le_bytes_4 n lt;
  below = λ bytes fits. omega (arith, fits 0, fits 1, fits 2, fits 3);
}

pub eight : IsWidth w64 (2 ^ 64)
eight = record {
  len = λ n. refl;
  back = λ bytes len fits. le_bytes_8 bytes _ len fits refl;
  again = λ n lt. from_le_bytes-to_le_bytes_8 n lt;
  below = λ bytes fits. omega (arith, fits 0, fits 1, fits 2, fits 3, fits 4, fits 5, fits 6, fits 7);
}

pub number_splits : (w : Width) (limit : ℕ) (width : IsWidth w limit) (bytes : List ℕ) (x : ℕ × List ℕ) → IsBytes bytes → number_at w bytes ≡ Some x → Splits bytes (to_le_bytes w x.0) x.1 × (x.0 < limit)
number_splits w limit width bytes x fits e =
    let g = unbarred (ltb (length bytes) (byte_len w)) (Some (from_le_bytes w (take (byte_len w) bytes), drop (byte_len w) bytes)) x e in
    let long : byte_len w ≤ length bytes = ltb-false _ _ g.0 in
    let front_fits = bytes_before (byte_len w) bytes long fits in
    let front : to_le_bytes w (from_le_bytes w (take (byte_len w) bytes)) ≡ take (byte_len w) bytes = width.back (take (byte_len w) bytes) (length-take-le (byte_len w) bytes long) front_fits in
    let P : ℕ × List ℕ → Type 0 = λ y. Splits bytes (to_le_bytes w y.0) y.1 × (y.0 < limit) in
    subst P (some_same (from_le_bytes w (take (byte_len w) bytes), drop (byte_len w) bytes) x g.1)
    (record { whole = sym (take-append-drop (byte_len w) bytes) ∙ ap (λ t. t ++ drop (byte_len w) bytes) (sym front); fits = bytes_behind (byte_len w) bytes fits }, width.below (take (byte_len w) bytes) front_fits)

pub number_again : (w : Width) (limit : ℕ) (width : IsWidth w limit) (n : ℕ) (rest : List ℕ) → n < limit → number_at w (to_le_bytes w n ++ rest) ≡ Some (n, rest)
number_again w limit width n rest lt =
    let len = width.len n in
    let long : ltb (length (to_le_bytes w n ++ rest)) (byte_len w) ≡ false = le-ltb _ _ (omega (arith, length-append (to_le_bytes w n) rest)) in
    rw (long, take_at (to_le_bytes w n) rest (byte_len w) len, drop_at (to_le_bytes w n) rest (byte_len w) len, width.again n lt) refl

-- ---- bytes, blobs, texts

pub bytes_split : (n : ℕ) (bytes : List ℕ) (x : List ℕ × List ℕ) → IsBytes bytes → bytes_at n bytes ≡ Some x → Splits bytes x.0 x.1 × (length x.0 ≡ n)
bytes_split n bytes x fits e =
    let g = unbarred (ltb (length bytes) n) (Some (take n bytes, drop n bytes)) x e in
    let long : n ≤ length bytes = ltb-false _ _ g.0 in
    let P : List ℕ × List ℕ → Type 0 = λ y. Splits bytes y.0 y.1 × (length y.0 ≡ n) in
    subst P (some_same (take n bytes, drop n bytes) x g.1)
    (record { whole = sym (take-append-drop n bytes); fits = bytes_behind n bytes fits }, length-take-le n bytes long)

pub bytes_again : (n : ℕ) (x rest : List ℕ) → length x ≡ n → bytes_at n (x ++ rest) ≡ Some (x, rest)
bytes_again n x rest len =
    let long : ltb (length (x ++ rest)) n ≡ false = le-ltb _ _ (omega (arith, length-append x rest)) in
    rw (long, take_at x rest n len, drop_at x rest n len) refl

pub blob_splits : (bytes : List ℕ) (x : List ℕ × List ℕ) → IsBytes bytes → blob_at bytes ≡ Some x → Splits bytes (counted x.0) x.1
unfolding blob_at
blob_splits bytes x fits e =
    let b = bound (number_at w32 bytes) (λ n. bytes_at n.0 n.1) x e in
    let n = number_splits w32 (2 ^ 32) four bytes b.0 fits b.1 in
    let t = bytes_split b.0.0 b.0.1 x n.0.fits b.2 in
    let both = joined bytes (to_le_bytes w32 b.0.0) b.0.1 x.0 x.1 n.0 t.0 in
    let P : ℕ → Type 0 = λ k. Splits bytes (to_le_bytes w32 k ++ x.0) x.1 in
    subst P {x = b.0.0} (sym t.1) both

pub blob_again : (x rest : List ℕ) → length x < 2 ^ 32 → blob_at (counted x ++ rest) ≡ Some (x, rest)
unfolding blob_at
blob_again x rest short =
    rw (number_again w32 (2 ^ 32) four (length x) (x ++ rest) short) (bytes_again (length x) x rest refl)

pub text_splits : (bytes : List ℕ) (x : List ℕ × List ℕ) → IsBytes bytes → text_at bytes ≡ Some x → Splits bytes (counted x.0) x.1 × IsUtf8 x.0
unfolding text_at
text_splits bytes x fits e =
    let b = bound (blob_at bytes) (λ blob. cond (is_utf8 blob.0) (Some blob) None) x e in
    let t = passed (is_utf8 b.0.0) b.0 x b.2 in
    let P : List ℕ × List ℕ → Type 0 = λ y. Splits bytes (counted y.0) y.1 × IsUtf8 y.0 in
    subst P {x = b.0} t.1 (blob_splits bytes b.0 fits b.1, IsUtf8-from_is_utf8 b.0.0 t.0)

pub text_again : (x rest : List ℕ) → length x < 2 ^ 32 → IsUtf8 x → text_at (counted x ++ rest) ≡ Some (x, rest)
unfolding text_at
text_again x rest short text = rw (blob_again x rest short, is_utf8-from_IsUtf8 x text) refl
