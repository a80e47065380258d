use Rattle.std.proofs.Common.{◌≡◌, ℕ, ◌<◌, List, ◌∷◌, [], ◌++◌, ap, ◌∙◌, arith}
use Rattle.std.specs.Prelude.{Some, All}
use Rattle.std.specs.Prelude as maybe
use Rattle.std.proofs.lemmas.List.Elements.{All-pop, All-push, All-same, All-weaker}
use Rattle.soc_hall.specs.Seats.{known_of, IsSeatOf, IsNew}
use Rattle.soc_hall.proofs.tests.meet_and_close.Goals as goal

below : (known : maybe.Option ℕ) (k n basis : ℕ) → known ≡ Some n → known ≡ Some basis → k < n → k < basis
below known k n basis is same less = let e : n ≡ basis = cc in omega arith

-- what holds of each of a list, of which two are taken
two_of : {A : Type 0} → (Q : A → Type 0) (l l' l'' : List A) (x y : A) → l ≡ l' ++ x ∷ [] → l' ≡ l'' ++ y ∷ [] → All Q l → All Q l'' × Q x × Q y
two_of Q l l' l'' x y is is' all =
    let first = All-pop Q l l' (Some x) is all in
    let second = All-pop Q l' l'' (Some y) is' first.0 in
    (second.0, first.1, second.1)

two_more : {A : Type 0} → (Q : A → Type 0) (l l' l'' : List A) (x y : A) → l' ≡ l ++ x ∷ [] → l'' ≡ l' ++ y ∷ [] → All Q l → Q x → Q y → All Q l''
two_more Q l l' l'' x y is is' all at_x at_y = All-same Q l'' _ is' (All-push Q l' y (All-same Q l' _ is (All-push Q l x all at_x)) at_y)

pub ask-b-requires-clause-seat : goal.ask-b-requires-clause-seat
ask-b-requires-clause-seat g c =
    let made = two_of (λ seat. IsSeatOf c.in_ok-closing.closing seat × IsNew c.args.numbers.bound c.args.numbers.list.items (known_of seat)) _ _ _ _ _ c.in-Some.ensures.popped c.in-Some-pop.ensures.popped c.in_ok-closing.ensures.each in
    made.2.0

pub ask-b-requires-clause-may : goal.ask-b-requires-clause-may
ask-b-requires-clause-may g c basis is =
    let made = two_of (λ seat. IsSeatOf c.in_ok-closing.closing seat × IsNew c.args.numbers.bound c.args.numbers.list.items (known_of seat)) _ _ _ _ _ c.in-Some.ensures.popped c.in-Some-pop.ensures.popped c.in_ok-closing.ensures.each in
    below c.in-Some-pop.b.chair.me.0.basis 8 1000000 basis (made.2.1.0 ∙ ap (λ n. Some n) c.requires) is (omega arith)

pub ask-a-requires-2-clause-may : goal.ask-a-requires-2-clause-may
ask-a-requires-2-clause-may g c basis is =
    let made = two_of (λ seat. IsSeatOf c.in_ok-closing.closing seat × IsNew c.args.numbers.bound c.args.numbers.list.items (known_of seat)) _ _ _ _ _ c.in-Some.ensures.popped c.in-Some-pop.ensures.popped c.in_ok-closing.ensures.each in
    below c.meet-a.result.0.chair.me.0.basis 9 1000000 basis
    (ap (λ v. v.basis) c.meet-a.ensures.longer.1 ∙ (ap (λ v. v.basis) c.ask-a.ensures.turn.knows ∙ (made.1.1.0 ∙ ap (λ n. Some n) c.requires))) is (omega arith)

pub close-requires-clause-seats : goal.close-requires-clause-seats
close-requires-clause-seats g c =
    let made = two_of (λ seat. IsSeatOf c.in_ok-closing.closing seat × IsNew c.args.numbers.bound c.args.numbers.list.items (known_of seat)) _ _ _ _ _ c.in-Some.ensures.popped c.in-Some-pop.ensures.popped c.in_ok-closing.ensures.each in
    two_more (λ seat. IsSeatOf c.in_ok-closing.closing seat) _ _ _ _ _ c.push.ensures.pushed c.push-2.ensures.pushed
    (All-weaker (λ seat. IsSeatOf c.in_ok-closing.closing seat × IsNew c.args.numbers.bound c.args.numbers.list.items (known_of seat)) (λ seat. IsSeatOf c.in_ok-closing.closing seat) (λ seat h. h.0) _ made.0)
    c.meet-a.ensures.b.0 c.ask-a-2.ensures.seat
