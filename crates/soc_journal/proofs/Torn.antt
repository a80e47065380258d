-- A list with one byte between a front and a rest, once a write behind that byte, or of it alone, was made or torn.
use Rattle.std.proofs.Common.{◌≡◌, ℕ, ◌+◌, ◌<◌, ◌≤◌, List, [], ◌∷◌, ◌++◌, length, take, drop, get_or, sym, ◌∙◌, ap, arith, append_assoc, length-append, take-append-drop}
use Rattle.std.proofs.lemmas.List.{take_at, drop_at, drop_more}
use Rattle.soc_edge.proofs.Disks.{written-within, take-Tears, drop-Tears}
use Rattle.soc_edge.specs.Disk.{written, Tears}

module _ (front : List ℕ) (byte : ℕ) (rest : List ℕ) (place : ℕ) (stands : length front ≡ place) where
  regroup : front ++ byte ∷ rest ≡ (front ++ byte ∷ []) ++ rest
  regroup = sym (append_assoc front (byte ∷ []) rest)

  length-front : length (front ++ byte ∷ []) ≡ place + 1
  length-front = omega (arith, stands, length-append front (byte ∷ []))

  pub long : place + 1 ≤ length (front ++ byte ∷ rest)
  long = omega (arith, stands, length-append front (byte ∷ rest))

  take-front : take (place + 1) (front ++ byte ∷ rest) ≡ front ++ byte ∷ []
  take-front = ap (λ (x : List ℕ). take (place + 1) x) regroup ∙ take_at (front ++ byte ∷ []) rest (place + 1) length-front

  drop-front : drop (place + 1) (front ++ byte ∷ rest) ≡ rest
  drop-front = ap (λ (x : List ℕ). drop (place + 1) x) regroup ∙ drop_at (front ++ byte ∷ []) rest (place + 1) length-front

  -- a write behind the byte, cut short anywhere, leaves the front and the byte
  pub torn_behind : (count : ℕ) (image : List ℕ) → Tears (place + 1) count (front ++ byte ∷ rest) image → image ≡ front ++ byte ∷ drop (place + 1) image
  torn_behind count image tears =
      let same : take (place + 1) image ≡ front ++ byte ∷ [] =
      take-Tears (place + 1) count (place + 1) (front ++ byte ∷ rest) image tears (omega arith) long ∙ take-front in
      sym (take-append-drop (place + 1) image)
      ∙ (ap (λ (x : List ℕ). x ++ drop (place + 1) image) same
      ∙ append_assoc front (byte ∷ []) (drop (place + 1) image))

  -- and the whole write puts its bytes there
  pub written_behind : (piece : List ℕ) → written (front ++ byte ∷ rest) (place + 1) piece ≡ front ++ byte ∷ (piece ++ drop (place + 1 + length piece) (front ++ byte ∷ rest))
  written_behind piece =
      let more = piece ++ drop (place + 1 + length piece) (front ++ byte ∷ rest) in
      written-within (front ++ byte ∷ rest) (place + 1) piece long
      ∙ (ap (λ (x : List ℕ). x ++ more) take-front
      ∙ append_assoc front (byte ∷ []) more)

  take-before : take place (front ++ byte ∷ rest) ≡ front
  take-before = take_at front (byte ∷ rest) place stands

  -- a write of the byte alone, cut short, leaves any byte there
  pub torn_byte : (image : List ℕ) → Tears place 1 (front ++ byte ∷ rest) image → image ≡ front ++ get_or image place 0 ∷ rest
  torn_byte image tears =
      let low : place ≤ length (front ++ byte ∷ rest) = omega (arith, long) in
      let longer : place < length image = omega (arith, long, tears.no_shorter) in
      let same : take place image ≡ front = take-Tears place 1 place (front ++ byte ∷ rest) image tears (omega arith) low ∙ take-before in
      let behind : drop (place + 1) image ≡ rest = drop-Tears place 1 (place + 1) (front ++ byte ∷ rest) image tears (omega arith) ∙ drop-front in
      sym (take-append-drop place image)
      ∙ (ap (λ (x : List ℕ). x ++ drop place image) same
      ∙ (ap (λ (x : List ℕ). front ++ x) (drop_more image place 0 longer)
      ∙ ap (λ (x : List ℕ). front ++ get_or image place 0 ∷ x) behind))

  -- and the whole write puts its byte there
  pub written_byte : (other : ℕ) → written (front ++ byte ∷ rest) place (other ∷ []) ≡ front ++ other ∷ rest
  written_byte other =
      let low : place ≤ length (front ++ byte ∷ rest) = omega (arith, long) in
      written-within (front ++ byte ∷ rest) place (other ∷ []) low
      ∙ (ap (λ (x : List ℕ). x ++ ((other ∷ []) ++ drop (place + 1) (front ++ byte ∷ rest))) take-before
      ∙ ap (λ (x : List ℕ). front ++ other ∷ x) drop-front)
