-- What a sink took of a text in pieces.
use Rattle.std.proofs.Common.{◌≡◌, ℕ, ◌+◌, ◌<◌, ◌≤◌, List, [], ◌∷◌, ◌++◌, length, take, sym, ap, subst, ◌∙◌, append-nil, drop, get_or, take-append-drop}
use Rattle.std.proofs.lemmas.List.{take_more, take_all}
use Rattle.std.proofs.lemmas.Grind.{flat_map-append}
use Rattle.std.specs.Borrow.{Bor}
use Rattle.soc_edge.specs.Told.{Told, Writes, WritesFront}
use Rattle.soc_edge.proofs.Told.{Writes-append, WritesFront-longer, WritesFront-behind}
use Rattle.soc_http.specs.inner.Pieces.{IsSent, pieces_text}

-- the pending bytes were written
pub IsSent-flushed : (s a b : Told) (p d : List ℕ) → IsSent s a p d → Writes a b p → Writes s b d
IsSent-flushed s a b p d sent t =
    subst (Writes s b) (sym sent.whole) (Writes-append s a b sent.taken p sent.writes t)

-- they and then a piece were written
pub IsSent-written : (s a b c : Told) (p q r d x : List ℕ) → IsSent s a p d → Writes a b p → q ≡ [] → r ≡ q → Writes b c x → IsSent s c r (d ++ x)
IsSent-written s a b c p q r d x sent t none same u = record {
  taken = d ++ x;
  whole = sym (ap (λ l. (d ++ x) ++ l) (same ∙ none) ∙ append-nil (d ++ x));
  writes = Writes-append s b c d x (IsSent-flushed s a b p d sent t) u;
}

-- a fault at the pending bytes
pub WritesFront-pending : (s a b : Told) (p d : List ℕ) → IsSent s a p d → WritesFront a b p → WritesFront s b d
WritesFront-pending s a b p d sent t =
    subst (WritesFront s b) (sym sent.whole) (WritesFront-behind s a b sent.taken p sent.writes t)

-- a fault at a piece behind them
pub WritesFront-piece : (s a b c : Told) (p d x : List ℕ) → IsSent s a p d → Writes a b p → WritesFront b c x → WritesFront s c (d ++ x)
WritesFront-piece s a b c p d x sent t u = WritesFront-behind s b c d x (IsSent-flushed s a b p d sent t) u

-- the pieces up to one, that one, and those behind it
pub pieces_text-at : (pieces : List (Bor (List ℕ))) (i : ℕ) (d : Bor (List ℕ)) → i < length pieces
    → (pieces_text (take i pieces) ++ (get_or pieces i d).now) ++ pieces_text (drop (i + 1) pieces) ≡ pieces_text pieces
pieces_text-at pieces i d less =
    let now = λ (piece : Bor (List ℕ)). piece.now in
    let more : pieces_text (take i pieces) ++ (get_or pieces i d).now ≡ pieces_text (take (i + 1) pieces) =
    ap (λ l. pieces_text (take i pieces) ++ l) (sym (append-nil (get_or pieces i d).now))
    ∙ sym (ap pieces_text (take_more pieces i d less) ∙ flat_map-append now (take i pieces) (get_or pieces i d ∷ [])) in
    ap (λ l. l ++ pieces_text (drop (i + 1) pieces)) more
    ∙ sym (flat_map-append now (take (i + 1) pieces) (drop (i + 1) pieces))
    ∙ ap pieces_text (take-append-drop (i + 1) pieces)

-- a fault at one of the pieces
pub WritesFront-at : (a b : Told) (pieces : List (Bor (List ℕ))) (i : ℕ) (d : Bor (List ℕ)) → i < length pieces
    → WritesFront a b (pieces_text (take i pieces) ++ (get_or pieces i d).now) → WritesFront a b (pieces_text pieces)
WritesFront-at a b pieces i d less p =
    subst (WritesFront a b) (pieces_text-at pieces i d less) (WritesFront-longer a b _ (pieces_text (drop (i + 1) pieces)) p)

-- a fault at the bytes that are left behind the last piece
pub WritesFront-end : (s a b : Told) (p : List ℕ) (pieces : List (Bor (List ℕ))) (i : ℕ) → length pieces ≤ i
    → IsSent s a p (pieces_text (take i pieces)) → WritesFront a b p → WritesFront s b (pieces_text pieces)
WritesFront-end s a b p pieces i ended sent t =
    subst (λ l. WritesFront s b (pieces_text l)) (take_all i pieces ended) (WritesFront-pending s a b p _ sent t)
