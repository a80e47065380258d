use Rattle.std.proofs.Common.{◌≡◌, ℕ, ◌+◌, List, ◌∷◌, [], ◌++◌, length, length-append, ap, ◌∙◌, arith}
use Rattle.std.specs.Prelude.{Some, All}
use Rattle.std.proofs.lemmas.List.Elements.{All-pop, All-push, All-same}
use Rattle.soc_hall.specs.Seats.{seats_in, IsSeatOf}
use Rattle.soc_serve_tests.proofs.hall.ask_by_two.Goals as goal

one_more : {A : Type 0} → (l l' : List A) (x : A) → l ≡ l' ++ x ∷ [] → length l ≡ length l' + 1
one_more l l' x is = ap length is ∙ length-append l' (x ∷ [])

-- what holds of each of a list, of which two are taken
two_of : {A : Type 0} → (Q : A → Type 0) (l l' l'' : List A) (x y : A) → l ≡ l' ++ x ∷ [] → l' ≡ l'' ++ y ∷ [] → All Q l → All Q l'' × Q x × Q y
two_of Q l l' l'' x y is is' all =
    let first = All-pop Q l l' (Some x) is all in
    let second = All-pop Q l' l'' (Some y) is' first.0 in
    (second.0, first.1, second.1)

two_more : {A : Type 0} → (Q : A → Type 0) (l l' l'' : List A) (x y : A) → l' ≡ l ++ x ∷ [] → l'' ≡ l' ++ y ∷ [] → All Q l → Q x → Q y → All Q l''
two_more Q l l' l'' x y is is' all at_x at_y = All-same Q l'' _ is' (All-push Q l' y (All-same Q l' _ is (All-push Q l x all at_x)) at_y)

pub ask-b-requires-clause-seat : goal.ask-b-requires-clause-seat
ask-b-requires-clause-seat g c =
    (two_of (λ seat. IsSeatOf c.in_ok-closing.closing seat) _ _ _ _ _ c.in-Some.ensures.popped c.in-Some-pop.ensures.popped c.in_ok-closing.ensures.each).2

pub push-requires : goal.push-requires
push-requires g c =
    let a = one_more _ _ _ c.in-Some.ensures.popped in
    let b = one_more _ _ _ c.in-Some-pop.ensures.popped in
    let r = c.in-Some.ensures.room in
    let s = c.in-Some-pop.ensures.room in
    let n = c.in_ok-closing.ensures.count in
    omega (arith, n.1, n.2)

pub push-requires-2 : goal.push-requires-2
push-requires-2 g c =
    let a = one_more _ _ _ c.in-Some.ensures.popped in
    let b = one_more _ _ _ c.in-Some-pop.ensures.popped in
    let d = one_more _ _ _ c.push.ensures.pushed in
    let r = c.in-Some.ensures.room in
    let s = c.in-Some-pop.ensures.room in
    let t = c.push.ensures.room in
    let n = c.in_ok-closing.ensures.count in
    omega (arith, n.1, n.2)

pub close-book-requires-clause-seats : goal.close-book-requires-clause-seats
close-book-requires-clause-seats g c =
    let made = two_of (λ seat. IsSeatOf c.in_ok-closing.closing seat) _ _ _ _ _ c.in-Some.ensures.popped c.in-Some-pop.ensures.popped c.in_ok-closing.ensures.each in
    two_more (λ seat. IsSeatOf c.in_ok-closing.closing seat) _ _ _ _ _ c.push.ensures.pushed c.push-2.ensures.pushed made.0 c.meet-a.ensures.b.0 c.meet-a.ensures.a.0

pub close-book-requires-clause-all : goal.close-book-requires-clause-all
close-book-requires-clause-all g c =
    let a = one_more _ _ _ c.in-Some.ensures.popped in
    let b = one_more _ _ _ c.in-Some-pop.ensures.popped in
    let d = one_more _ _ _ c.push.ensures.pushed in
    let e = one_more _ _ _ c.push-2.ensures.pushed in
    let n = c.in_ok-closing.ensures.count in
    omega (arith, n.0, n.1)
