-- Bodies that come piece by piece.
use Rattle.std.proofs.Common.{◌≡◌, ℕ, ◌+◌, ◌-◌, ◌<◌, ◌≤◌, List, [], ◌++◌, length, take, drop, Ok, Err, sym, ap, ◌∙◌, append_assoc, append-nil, arith, length-append, length-drop, take-append-drop}
use Rattle.std.proofs.lemmas.List.{take-take, length-take-le, drop-drop, drop-take}
use Rattle.std.proofs.Math.Seq.{take-add}
use Rattle.std.specs.Io.KnownBytes.{IsAtEnd}
use Rattle.soc_edge.specs.Told.{Told, Reads}
use Rattle.soc_edge.proofs.Told.{Reads-append}
use Rattle.soc_http.specs.declared.body.BodyError.{BodyError}
use Rattle.soc_http.specs.declared.body.BodyError.TheVariants as B
use Rattle.soc_http.specs.Body.{IfCut, PassesOver, Passes}
use Rattle.soc_http.specs.inner.Bodies.{IsPiece, IsPieceReady, Past, IsFilledTo}

-- ---- passing over

-- the front so far, and what the window and the source give behind it
joined : (u v g h front : List ℕ) → u ++ g ≡ front ++ v → u ++ (g ++ h) ≡ front ++ (v ++ h)
joined u v g h front e = sym (append_assoc u g h) ∙ ap (λ l. l ++ h) e ∙ append_assoc front v h

pub Past-more : (a b c : Told) (u v w x : List ℕ) (n left k m : ℕ) → Past a b u v n → IsPieceReady b c v left (Ok k) w
    → x ≡ drop k w → m ≡ n + k → Past a c u x m
Past-more a b c u v w x n left k m past ready is counted =
    let front = past.skips.front in
    let size : length (take k w) ≡ k = length-take-le k w ready.reads.3 in
    let before : length front ≡ n = past.skips.counted in
    record {
      given = past.given ++ ready.given;
      gives = Reads-append a b c past.given ready.given past.gives ready.gives;
      skips = record {
        front = front ++ take k w;
        whole = joined u v past.given ready.given front past.skips.whole
            ∙ ap (λ l. front ++ l) (sym ready.reads.0 ∙ sym (take-append-drop k w) ∙ ap (λ l. take k w ++ l) (sym is))
            ∙ sym (append_assoc front (take k w) x);
        counted = omega (arith, length-append front (take k w));
      };
    }

pub Passes-failed : (a b c : Told) (u v w : List ℕ) (n left count : ℕ) (error : BodyError) → Past a b u v n
    → IsPieceReady b c v left (Err error) w → n < count → Passes a c u count (Err error) w
Passes-failed a b c u v w n left count error past ready less = record {
  given = past.given ++ ready.given;
  gives = Reads-append a b c past.given ready.given past.gives ready.gives;
  reads = failed error ready.reads;
  ended = ended error ready.ended;
}
  where
    text : List ℕ
    text = u ++ (past.given ++ ready.given)

    whole : text ≡ past.skips.front ++ (v ++ ready.given)
    whole = joined u v past.given ready.given past.skips.front past.skips.whole

    few : (v ++ ready.given ≡ []) × (w ≡ []) → (length text < count) × (w ≡ [])
    few p =
        let all : text ≡ past.skips.front = whole ∙ ap (λ l. past.skips.front ++ l) p.0 ∙ append-nil past.skips.front in
        let len : length text ≡ length past.skips.front = ap length all in
        (omega (arith, past.skips.counted), p.1)

    failed : (e : BodyError) → IsPiece (v ++ ready.given) left (Err e) w → PassesOver text count (Err e) w
    failed B.CutShort p = few p
    failed B.ReadFault p = few p
    failed B.NoMemory p = absurd p

    ended : (e : BodyError) → IfCut {A = ℕ} (Err e) (IsAtEnd c.left) → IfCut {A = Unit {0}} (Err e) (IsAtEnd c.left)
    ended B.CutShort p = p
    ended B.ReadFault p = tt
    ended B.NoMemory p = tt

-- ---- reading into place

pub IsFilledTo-more : (a b c : Told) (u body grown new : List ℕ) (at n : ℕ) → IsFilledTo a b u body new at
    → at < length body → length grown ≡ length body → take at grown ≡ take at body → at + n ≤ length grown
    → Reads b c (take n (drop at grown)) → IsFilledTo a c u grown new (at + n)
IsFilledTo-more a b c u body grown new at n filled less size front within gives =
    let more = take n (drop at grown) in
    let empty : new ≡ [] = filled.emptied less in
    record {
      given = filled.given ++ more;
      gives = Reads-append a b c filled.given more filled.gives gives;
      whole = sym (append_assoc u filled.given more)
          ∙ ap (λ l. l ++ more) (filled.whole ∙ ap (λ l. take at body ++ l) empty ∙ append-nil (take at body) ∙ sym front)
          ∙ sym (take-add at n grown)
          ∙ sym (append-nil (take (at + n) grown))
          ∙ ap (λ l. take (at + n) grown ++ l) (sym empty);
      within = within;
      emptied = λ _. empty;
    }

-- ---- a piece that is lent

pub piece-length : (items : List ℕ) (s e k : ℕ) → s ≤ e → e ≤ length items → k ≤ length (drop s (take e items))
    → length (take (s + k - s) (drop s items)) ≡ k
piece-length items s e k ordered within fits =
    let size : length (drop s (take e items)) ≡ e - s = length-drop s (take e items) ∙ ap (λ n. n - s) (length-take-le e items within) in
    let rest : length (drop s items) ≡ length items - s = length-drop s items in
    let same : s + k - s ≡ k = omega arith in
    ap (λ n. length (take n (drop s items))) same ∙ length-take-le k (drop s items) (omega arith)

pub piece-split : (items window text : List ℕ) (s e k : ℕ) → drop s (take e items) ≡ window → window ≡ text → s ≤ e → e ≤ length items
    → k ≤ length window → text ≡ take (s + k - s) (drop s items) ++ drop (s + k) (take e items)
piece-split items window text s e k view same ordered within fits =
    let size : length window ≡ e - s =
    sym (ap length view) ∙ length-drop s (take e items) ∙ ap (λ n. n - s) (length-take-le e items within) in
    let parts : e ≡ s + (e - s) = omega arith in
    let back : s + k - s ≡ k = omega arith in
    let front : take k window ≡ take (s + k - s) (drop s items) =
    ap (take k) (sym view ∙ ap (λ n. drop s (take n items)) parts ∙ drop-take s (e - s) items)
    ∙ take-take k (e - s) (drop s items) (omega arith)
    ∙ ap (λ n. take n (drop s items)) (sym back) in
    let rest : drop k window ≡ drop (s + k) (take e items) = ap (drop k) (sym view) ∙ drop-drop k s (take e items) in
    sym same ∙ sym (take-append-drop k window) ∙ ap (λ l. l ++ drop k window) front
    ∙ ap (λ l. take (s + k - s) (drop s items) ++ l) rest
