-- What the search for a block and the reading of a head say of the text so far, and of all that is ahead.
use Rattle.std.proofs.Common.{◌≡◌, ℕ, ◌+◌, ◌<◌, ◌≤◌, inl, inr, List, [], ◌++◌, length, take, drop, Option, None, Some, Result, Ok, Err, refl, sym, ap, subst, ◌∙◌, append_assoc, append-nil, arith, length-append, take-append-drop, min}
use Rattle.std.proofs.lemmas.List.{take_all, take-take, take-append-le, length-take-le, take_min}
use Rattle.std.specs.Io.KnownBytes.{IsAtEnd, prepend_known}
use Rattle.soc_edge.proofs.Told.{Reads-none, Reads-append}
use Rattle.soc_edge.specs.Told.{Told, Gives}
use Rattle.soc_http.specs.declared.head.Head.{Head}
use Rattle.soc_http.specs.declared.head.HeadError.{HeadError}
use Rattle.soc_http.specs.declared.head.HeadError.TheVariants as H
use Rattle.soc_http.specs.Block.{EndsInEmptyLine, IsBlock, HasNoBlock, HasFewLines, block_limit}
use Rattle.soc_http.specs.Message.{HeadOf, RefusesBlock, TakesBlock, TakesHead, BeginsRefused, EndsInHead, HasNoBlockInLimit, RefusesHead, ByText, OrNoMemory, ReadsHead}
use Rattle.soc_http.specs.Reading.{ahead, IfEnded, IfFault, IsWithinHead, ReadsHeadFrom, ReadsHeadAhead}
use Rattle.soc_http.specs.inner.Windows.{Fills, IsSearched}

-- ---- the search

pub Fills-none : (a : Told) (w : List ℕ) → Fills a a w w
Fills-none a w = record { given = []; gives = Reads-none a; grown = sym (append-nil w) }

pub Fills-more : (a b c : Told) (u v w : List ℕ) → Fills a b u v → Fills b c v w → Fills a c u w
Fills-more a b c u v w p q = record {
  given = p.given ++ q.given;
  gives = Reads-append a b c p.given q.given p.gives q.gives;
  grown = q.grown ∙ ap (λ l. l ++ q.given) p.grown ∙ append_assoc u p.given q.given;
}

-- nothing was searched yet
pub HasNoBlock-empty : (text : List ℕ) → HasNoBlock (take 0 text)
HasNoBlock-empty text = λ n ends.
    let none : take n (take 0 text) ≡ [] = take_all n [] (omega arith) in
    let len : 0 ≡ length (ends.0 ++ _) = ap length (sym none ∙ ends.1) in
    absurd (omega (arith, length-append ends.0))

-- what was searched stays searched where the window grows
pub HasNoBlock-grown : (old new given : List ℕ) → new ≡ old ++ given → HasNoBlock old → HasNoBlock (take (length old) new)
HasNoBlock-grown old new given grown none =
    let same : take (length old) new ≡ old =
    ap (take (length old)) grown ∙ take-append-le (length old) old given (omega arith) ∙ take_all (length old) old (omega arith) in
    subst HasNoBlock (sym same) none

-- a front of a front
front-of : (text : List ℕ) (n m : ℕ) → m ≤ length text → take n (take m text) ≡ take (min n m) text
front-of text n m within =
    sym (take_min n (take m text))
    ∙ ap (λ k. take (min n k) (take m text)) (length-take-le m text within)
    ∙ take-take (min n m) m text (omega arith)

-- the first block ends behind the limit
pub HasNoBlockInLimit-late : (text : List ℕ) (end : ℕ) → block_limit < end → end ≤ length text → IsBlock (take end text) → HasNoBlockInLimit text
HasNoBlockInLimit-late text end late within block = record {
  longer = omega arith;
  unfinished = λ n ends.
      let size : length (take end text) ≡ end = length-take-le end text within in
      let same : take n (take block_limit text) ≡ take (min n block_limit) (take end text) =
      front-of text n block_limit (omega arith) ∙ sym (take-take (min n block_limit) end text (omega arith)) in
      block.shortest (min n block_limit) (omega arith) (subst EndsInEmptyLine same ends);
}

-- no block ends at all
pub HasNoBlockInLimit-none : (text : List ℕ) → block_limit < length text → HasNoBlock text → HasNoBlockInLimit text
HasNoBlockInLimit-none text longer none = record {
  longer = longer;
  unfinished = λ n ends. none (min n block_limit) (subst EndsInEmptyLine (front-of text n block_limit (omega arith)) ends);
}

-- nothing was given
Fills-same : (a b : Told) (old new : List ℕ) (n : ℕ) → Fills a b old new → length new ≡ length old + n → n ≡ 0 → new ≡ old
Fills-same a b old new n fills count none =
    let len : length new ≡ length old + length fills.given = ap length fills.grown ∙ length-append old fills.given in
    let empty : fills.given ≡ [] = sym (take_all 0 fills.given (omega arith)) in
    fills.grown ∙ ap (λ l. old ++ l) empty ∙ append-nil old

-- the input ends within a head
pub EndsInHead-at : (a b : Told) (old new : List ℕ) (n : ℕ) → Fills a b old new → length new ≡ length old + n → n ≡ 0
    → (length old ≡ 0 → ⊥) → length old ≤ block_limit → HasNoBlock old → EndsInHead new
EndsInHead-at a b old new n fills count none begun within unfinished =
    let same = Fills-same a b old new n fills count none in
    subst EndsInHead (sym same) (record { begun = omega arith; within = within; unfinished = unfinished })

-- ---- the head

TakesBlock-at : (text window block : List ℕ) (end : ℕ) → text ≡ window → block ≡ take end window → end ≤ length window
    → end ≤ block_limit → IsBlock (take end window) → TakesBlock text block (drop end window)
TakesBlock-at text window block end same is within few shortest =
    let size : length block ≡ end = ap length is ∙ length-take-le end window within in
    record {
      whole = same ∙ sym (take-append-drop end window) ∙ ap (λ l. l ++ drop end window) (sym is);
      shortest = subst IsBlock (sym is) shortest;
      within = omega arith;
    }

-- a head that was found
pub ReadsHeadFrom-found : (a b : Told) (old new block rest : List ℕ) (end : ℕ) (head : Head) → Fills a b old new
    → IsSearched new b (Ok (Some end)) → block ≡ take end new → HasFewLines block → HeadOf block head → rest ≡ drop end new
    → ReadsHeadFrom a b old (Ok (Some head)) rest
ReadsHeadFrom-found a b old new block rest end head fills found is few says behind = record {
  given = fills.given;
  gives = fills.gives;
  reads = subst (TakesHead (old ++ fills.given) head) (sym behind) (record {
    block = block;
    taken = TakesBlock-at _ new block end (sym fills.grown) is found.0 found.1 found.2;
    few = few;
    says = says;
  });
  ended = tt;
  unfinished = tt;
}

begins-refused : (text window block : List ℕ) (end : ℕ) (error : HeadError) → text ≡ window → block ≡ take end window → end ≤ length window
    → end ≤ block_limit → IsBlock (take end window) → RefusesBlock block error → BeginsRefused text error
begins-refused text window block end error same is within few shortest refused = record {
  block = block;
  rest = drop end window;
  taken = TakesBlock-at text window block end same is within few shortest;
  refused = refused;
}

by_text : (text block : List ℕ) (error : HeadError) → ((e : HeadError) → RefusesBlock block e → BeginsRefused text e)
    → OrNoMemory error (RefusesBlock block error) → ByText error (RefusesHead text error)
by_text text block H.BadHead begins refused = begins H.BadHead refused
by_text text block H.HeadTooLarge begins refused = inr (begins H.HeadTooLarge refused)
by_text text block H.NoLength begins refused = begins H.NoLength refused
by_text text block H.BodyTooLarge begins refused = begins H.BodyTooLarge refused
by_text text block H.CutShort begins refused = absurd refused
by_text text block H.ReadFault begins refused = tt
by_text text block H.NoMemory begins refused = tt

not_ended : (block : List ℕ) (error : HeadError) (P : Type 0) → OrNoMemory error (RefusesBlock block error) → IfEnded (Err error) P
not_ended block H.BadHead P refused = tt
not_ended block H.HeadTooLarge P refused = tt
not_ended block H.NoLength P refused = tt
not_ended block H.BodyTooLarge P refused = tt
not_ended block H.CutShort P refused = absurd refused
not_ended block H.ReadFault P refused = tt
not_ended block H.NoMemory P refused = tt

not_faulty : (block : List ℕ) (error : HeadError) (P : Type 0) → OrNoMemory error (RefusesBlock block error) → IfFault (Err error) P
not_faulty block H.BadHead P refused = tt
not_faulty block H.HeadTooLarge P refused = tt
not_faulty block H.NoLength P refused = tt
not_faulty block H.BodyTooLarge P refused = tt
not_faulty block H.CutShort P refused = tt
not_faulty block H.ReadFault P refused = absurd refused
not_faulty block H.NoMemory P refused = tt

-- a block that is refused
pub ReadsHeadFrom-refused : (a b : Told) (old new block : List ℕ) (end : ℕ) (error : HeadError) → Fills a b old new
    → IsSearched new b (Ok (Some end)) → block ≡ take end new → OrNoMemory error (RefusesBlock block error)
    → ReadsHeadFrom a b old (Err error) new
ReadsHeadFrom-refused a b old new block end error fills found is refused = record {
  given = fills.given;
  gives = fills.gives;
  reads = (
    fills.grown,
    by_text (old ++ fills.given) block error
        (λ e r. begins-refused _ new block end e (sym fills.grown) is found.0 found.1 found.2 r) refused,
  );
  ended = not_ended block error (IsAtEnd b.left) refused;
  unfinished = not_faulty block error (IsWithinHead new) refused;
}

-- ---- all that is ahead

TakesBlock-more : (text block rest more : List ℕ) → TakesBlock text block rest → TakesBlock (text ++ more) block (rest ++ more)
TakesBlock-more text block rest more p = record {
  whole = ap (λ l. l ++ more) p.whole ∙ append_assoc block rest more;
  shortest = p.shortest;
  within = p.within;
}

BeginsRefused-more : (text more : List ℕ) (error : HeadError) → BeginsRefused text error → BeginsRefused (text ++ more) error
BeginsRefused-more text more error p = record {
  block = p.block;
  rest = p.rest ++ more;
  taken = TakesBlock-more text p.block p.rest more p.taken;
  refused = p.refused;
}

RefusesHead-more : (text more : List ℕ) (error : HeadError) → IfEnded (Err error) (more ≡ []) → ByText error (RefusesHead text error)
    → ByText error (RefusesHead (text ++ more) error)
RefusesHead-more text more H.BadHead ended p = BeginsRefused-more text more H.BadHead p
RefusesHead-more text more H.HeadTooLarge ended (inl p) =
    let longer : block_limit < length text = p.longer in
    inl (record {
      longer = omega (arith, length-append text more);
      unfinished = subst HasNoBlock (sym (take-append-le block_limit text more (omega arith))) p.unfinished;
    })
RefusesHead-more text more H.HeadTooLarge ended (inr p) = inr (BeginsRefused-more text more H.HeadTooLarge p)
RefusesHead-more text more H.NoLength ended p = BeginsRefused-more text more H.NoLength p
RefusesHead-more text more H.BodyTooLarge ended p = BeginsRefused-more text more H.BodyTooLarge p
RefusesHead-more text more H.CutShort ended p =
    subst EndsInHead (sym (ap (λ l. text ++ l) ended ∙ append-nil text)) p
RefusesHead-more text more H.ReadFault ended p = tt
RefusesHead-more text more H.NoMemory ended p = tt

pub ReadsHead-more : (text rest more : List ℕ) (result : Result (Option Head) HeadError) → IfEnded result (more ≡ [])
    → ReadsHead text result rest → ReadsHead (text ++ more) result (rest ++ more)
ReadsHead-more text rest more (Ok None) ended p =
    (ap (λ l. l ++ more) p.0 ∙ ended, ap (λ l. l ++ more) p.1 ∙ ended)
ReadsHead-more text rest more (Ok (Some head)) ended p = record {
  block = p.block;
  taken = TakesBlock-more text p.block rest more p.taken;
  few = p.few;
  says = p.says;
}
ReadsHead-more text rest more (Err error) ended p =
    (ap (λ l. l ++ more) p.0, RefusesHead-more text more error ended p.1)

none_is_some : (x : List ℕ) → None ≡ Some x → ⊥
none_is_some x e = cc

ahead_from : (x y : Option (List ℕ)) (given old new : List ℕ) (result : Result (Option Head) HeadError) → Gives x y given
    → ReadsHead (old ++ given) result new → IfEnded result (IsAtEnd y) → ReadsHeadAhead (prepend_known old x) result (prepend_known new y)
ahead_from None None given old new result gives reads ended = refl
ahead_from None (Some m) given old new result gives reads ended = absurd (none_is_some _ gives)
ahead_from (Some l) None given old new result gives reads ended = absurd (none_is_some _ (sym gives))
ahead_from (Some l) (Some m) given old new result gives reads ended =
    let left : l ≡ given ++ m = some_is _ _ gives in
    subst (λ text. ReadsHead text result (new ++ m))
    (append_assoc old given m ∙ ap (λ x. old ++ x) (sym left))
    (ReadsHead-more (old ++ given) new m result ended reads)
  where
    some_is : (x y : List ℕ) → Some x ≡ Some y → x ≡ y
    some_is x y e = cc

-- where the source tells what it has left, the answer is that of all that is ahead
pub ReadsHeadAhead-from : (a b : Told) (old new : List ℕ) (result : Result (Option Head) HeadError)
    → ReadsHeadFrom a b old result new → ReadsHeadAhead (ahead old a) result (ahead new b)
ReadsHeadAhead-from a b old new result p = ahead_from a.left b.left p.given old new result p.gives.gives p.reads p.ended
