-- Bodies that are taken in: passed over, collected, and fed to a form piece by piece.
use Rattle.std.proofs.Common.{◌≡◌, ℕ, ◌+◌, ◌<◌, ◌≤◌, List, [], ◌++◌, length, Result, Ok, Err, refl, sym, ap, subst, ◌∙◌, append_assoc, append-nil, length-append, arith}
use Rattle.std.specs.Prelude.{IfErr, IfOk, OnOk}
use Rattle.std.specs.Borrow.{Bor}
use Rattle.soc_edge.specs.Told.{Told}
use Rattle.soc_base.specs.declared.no_memory.NoMemory.{NoMemory}
use Rattle.soc_edge.proofs.Told.{Reads-append, Reads-none}
use Rattle.soc_multipart.specs.Readers.{ReaderText, WasFed}
use Rattle.soc_forms.specs.declared.form_error.FormError.{FormError}
use Rattle.soc_forms.specs.declared.submissions.Submission.{Submission}
use Rattle.soc_forms.specs.Fits.{FitsCrash}
use Rattle.soc_forms.specs.Forms.{BodySays, FormRefusesFor}
use Rattle.soc_forms.specs.SubmissionViews.{submission_text}
use Rattle.soc_forms.specs.Submissions.{BodyRefusal}
use Rattle.soc_http.specs.declared.body.BodyError.{BodyError}
use Rattle.soc_http.specs.declared.body.BodyError.TheVariants as B
use Rattle.soc_http.specs.Body.{BodyFrom, Passes, PieceFrom, ReadsBodyFrom}
use Rattle.soc_session.specs.declared.intake.Content.{Content}
use Rattle.soc_session.specs.declared.intake.Intake.{Intake}
use Rattle.soc_session.specs.declared.intake.Intake.TheVariants.{Feeds}
use Rattle.soc_session.specs.inner.Intakes.{Begins, FeedsPiece, IsFed, IsFedSo, IsOfBody, IsOfForm, IsSaid, IsWanting, TakesBody}

-- ---- what is had of a body that was read

-- a body that wasn't read whole gives nothing
pub TakesBody-failed : {A C : Type 0} (P : List ℕ → A → Type 0) (Q : List ℕ → C → Type 0) (a b : Told) (old : List ℕ) (count : ℕ) (error : BodyError) (new : List ℕ)
    → TakesBody P a b old count (Err error) new → TakesBody Q a b old count (Err error) new
TakesBody-failed P Q a b old count error new p = record { body = p.body; from = p.from; says = tt }

dropped : (a b : Told) (old : List ℕ) (count : ℕ) (body new : List ℕ) → BodyFrom a b old count (Ok body) new → BodyFrom a b old count (Err B.NoMemory) new
dropped a b old count body new p = record {
  given = p.given;
  gives = p.gives;
  reads = record { front = body; whole = p.reads.0; counted = p.reads.1 };
  ended = tt;
}

-- something is made of what was had, or memory wants for it
pub TakesBody-then : {A C : Type 0} (P : List ℕ → A → Type 0) (Q : List ℕ → C → Type 0) (a b : Told) (old : List ℕ) (count : ℕ) (found : A) (result : Result C BodyError) (new : List ℕ)
    → TakesBody P a b old count (Ok found) new → IfErr result IsWanting → ((body : List ℕ) → P body found → IfOk result (Q body)) → TakesBody Q a b old count result new
TakesBody-then P Q a b old count found (Ok made) new p wanting makes = record { body = p.body; from = p.from; says = makes p.body p.says }
TakesBody-then P Q a b old count found (Err error) new p wanting makes = record {
  body = p.body;
  from = subst (λ e. BodyFrom a b old count (Err e) new) (sym wanting) (dropped a b old count p.body new p.from);
  says = tt;
}

-- a body that was collected
pub TakesBody-read : (a b : Told) (old : List ℕ) (count : ℕ) (body new : List ℕ) → BodyFrom a b old count (Ok body) new → TakesBody (λ whole (found : List ℕ). found ≡ whole) a b old count (Ok body) new
TakesBody-read a b old count body new p = record { body = body; from = p; says = refl }

pub TakesBody-unread : {C : Type 0} (Q : List ℕ → C → Type 0) (a b : Told) (old : List ℕ) (count : ℕ) (error : BodyError) (new : List ℕ)
    → BodyFrom a b old count (Err error) new → TakesBody Q a b old count (Err error) new
TakesBody-unread Q a b old count error new p = record { body = []; from = p; says = tt }

-- a body that was passed over
pub Passes-failed : (a b : Told) (old : List ℕ) (count : ℕ) (error : BodyError) (new : List ℕ) → Passes a b old count (Err error) new → BodyFrom a b old count (Err error) new
Passes-failed a b old count B.CutShort new p = record { given = p.given; gives = p.gives; reads = p.reads; ended = p.ended }
Passes-failed a b old count B.ReadFault new p = record { given = p.given; gives = p.gives; reads = p.reads; ended = tt }
Passes-failed a b old count B.NoMemory new p = absurd p.reads

pub TakesBody-passed : {C : Type 0} (Q : List ℕ → C → Type 0) (a b : Told) (old : List ℕ) (count : ℕ) (done : Unit {0}) (result : Result C BodyError) (new : List ℕ)
    → Passes a b old count (Ok done) new → IfErr result IsWanting → ((body : List ℕ) → IfOk result (Q body)) → TakesBody Q a b old count result new
TakesBody-passed Q a b old count done result new p wanting makes =
    TakesBody-then {A = Unit {0}} (λ body found. Unit {0}) Q a b old count done result new
    (record {
      body = p.reads.front;
      from = record { given = p.given; gives = p.gives; reads = (p.reads.whole, p.reads.counted); ended = tt };
      says = tt;
    })
    wanting (λ body says. makes body)

-- ---- bytes one behind the other

joined : (u v g h front : List ℕ) → u ++ g ≡ front ++ v → u ++ (g ++ h) ≡ front ++ (v ++ h)
joined u v g h front e = sym (append_assoc u g h) ∙ ap (λ l. l ++ h) e ∙ append_assoc front v h

begins-append : (a b c : Told) (u v w front more : List ℕ) → Begins a b u front v → Begins b c v more w → Begins a c u (front ++ more) w
begins-append a b c u v w front more p q = record {
  given = p.given ++ q.given;
  gives = Reads-append a b c p.given q.given p.gives q.gives;
  whole = joined u v p.given q.given front p.whole ∙ ap (λ l. front ++ l) q.whole ∙ sym (append_assoc front more w);
}

-- a body whose first bytes came, and whose others didn't
begins-failed : (a b c : Told) (u v w front : List ℕ) (count left : ℕ) (error : BodyError) → Begins a b u front v → length front + left ≡ count → BodyFrom b c v left (Err error) w
    → BodyFrom a c u count (Err error) w
begins-failed a b c u v w front count left error p is q = record {
  given = p.given ++ q.given;
  gives = Reads-append a b c p.given q.given p.gives q.gives;
  reads = reads error q.reads;
  ended = q.ended;
}
  where
    text : List ℕ
    text = u ++ (p.given ++ q.given)

    whole : text ≡ front ++ (v ++ q.given)
    whole = joined u v p.given q.given front p.whole

    few : (length (v ++ q.given) < left) × (w ≡ []) → (length text < count) × (w ≡ [])
    few r =
        let size : length text ≡ length front + length (v ++ q.given) = ap length whole ∙ length-append front (v ++ q.given) in
        let less : length (v ++ q.given) < left = r.0 in
        (omega arith, r.1)

    reads : (e : BodyError) → ReadsBodyFrom (v ++ q.given) left (Err e) w → ReadsBodyFrom text count (Err e) w
    reads B.CutShort r = few r
    reads B.ReadFault r = few r
    reads B.NoMemory r = record {
      front = front ++ r.front;
      whole = whole ∙ ap (λ l. front ++ l) r.whole ∙ sym (append_assoc front r.front w);
      counted = length-append front r.front ∙ (let size : length r.front ≡ left = r.counted in omega arith);
    }

-- ---- a body that is fed to a form

pub IsFedSo-start : (a : Told) (old : List ℕ) (form : ReaderText) (count : ℕ) → count ≡ 0 → WasFed form [] → IsFedSo a a old form.boundary form count old
IsFedSo-start a old form count is fed = record {
  front = [];
  begins = record { given = []; gives = Reads-none a; whole = append-nil old };
  counted = sym is;
  fed = fed;
  keeps = refl;
}

pub IsFedSo-more : (a b c : Told) (u v w boundary : List ℕ) (form form' : ReaderText) (count left left' count' : ℕ) (done : Unit {0}) → IsFedSo a b u boundary form count v
    → FeedsPiece b c v form form' left left' (Ok (Ok done)) w → form'.boundary ≡ form.boundary → count' + left' ≡ count + left → IsFedSo a c u boundary form' count' w
IsFedSo-more a b c u v w boundary form form' count left left' count' done p q keeps total = record {
  front = p.front ++ q.piece;
  begins = begins-append a b c u v w p.front q.piece p.begins q.begins;
  counted =
      let size = length-append p.front q.piece in
      let so_far : length p.front ≡ count = p.counted in
      let more : left' + length q.piece ≡ left = q.counted in
      omega arith;
  fed = q.fed p.front p.fed;
  keeps = keeps ∙ p.keeps;
}

-- the input fails or ends before the next piece
pub feed-failed : {C : Type 0} (Q : List ℕ → C → Type 0) (a b c : Told) (u v w boundary : List ℕ) (form form' : ReaderText) (count left left' total : ℕ) (error : BodyError) → IsFedSo a b u boundary form count v
    → FeedsPiece b c v form form' left left' (Err error) w → count + left ≡ total → TakesBody Q a c u total (Err error) w
feed-failed Q a b c u v w boundary form form' count left left' total error p q is =
    TakesBody-unread Q a c u total error w (begins-failed a b c u v w p.front total left error p.begins (ap (λ n. n + left) p.counted ∙ is) q)

-- the form refuses, and the rest is passed over, as far as it comes
pub feed-refused : (a b c d : Told) (u v w x boundary : List ℕ) (form form' : ReaderText) (count left left' total : ℕ) (error : FormError) (done : Unit {0}) → IsFedSo a b u boundary form count v
    → FeedsPiece b c v form form' left left' (Ok (Err error)) w → count + left ≡ total → Passes c d w left' (Ok done) x → TakesBody (IsSaid boundary) a d u total (Ok (Err error)) x
feed-refused a b c d u v w x boundary form form' count left left' total error done p q is r =
    let both = begins-append a b c u v w p.front q.piece p.begins q.begins in
    let rest : Begins c d w r.reads.front x = record { given = r.given; gives = r.gives; whole = r.reads.whole } in
    let all = begins-append a c d u w x (p.front ++ q.piece) r.reads.front both rest in
    record {
      body = (p.front ++ q.piece) ++ r.reads.front;
      from = record {
        given = all.given;
        gives = all.gives;
        reads = (all.whole, size);
        ended = tt;
      };
      says = subst (λ b. BodyRefusal b ((p.front ++ q.piece) ++ r.reads.front) error) p.keeps (q.fed p.front p.fed r.reads.front);
    }
  where
    size : length ((p.front ++ q.piece) ++ r.reads.front) ≡ total
    size =
        let outer = length-append (p.front ++ q.piece) r.reads.front in
        let inner = length-append p.front q.piece in
        let first : length p.front ≡ count = p.counted in
        let second : left' + length q.piece ≡ left = q.counted in
        let third : length r.reads.front ≡ left' = r.reads.counted in
        omega arith

pub feed-cut : {C : Type 0} (Q : List ℕ → C → Type 0) (a b c d : Told) (u v w x boundary : List ℕ) (form form' : ReaderText) (count left left' total : ℕ) (refusal : FormError) (error : BodyError)
    → IsFedSo a b u boundary form count v → FeedsPiece b c v form form' left left' (Ok (Err refusal)) w → count + left ≡ total → Passes c d w left' (Err error) x → TakesBody Q a d u total (Err error) x
feed-cut Q a b c d u v w x boundary form form' count left left' total refusal error p q is r =
    TakesBody-unread Q a d u total error x
    (begins-failed a c d u w x (p.front ++ q.piece) total left' error (begins-append a b c u v w p.front q.piece p.begins q.begins)
    (let size = length-append p.front q.piece in
    let first : length p.front ≡ count = p.counted in
    let second : left' + length q.piece ≡ left = q.counted in
    omega arith)
    (Passes-failed c d w left' error x r))

-- the body ends
pub feed-finished : (a b : Told) (u v boundary : List ℕ) (form : ReaderText) (count : ℕ) (said : Result Submission FormError) → IsFedSo a b u boundary form count v
    → ((fed : List ℕ) → WasFed form fed → length fed ≡ count → IsSaid form.boundary fed said) → TakesBody (IsSaid boundary) a b u count (Ok said) v
feed-finished a b u v boundary form count said p says = record {
  body = p.front;
  from = record { given = p.begins.given; gives = p.begins.gives; reads = (p.begins.whole, p.counted); ended = tt };
  says = subst (λ b. IsSaid b p.front said) p.keeps (says p.front p.fed p.counted);
}

-- ---- a piece

pub feeds-piece : (a b : Told) (old : List ℕ) (form form' : ReaderText) (left left' : ℕ) (piece : Bor (List ℕ)) (found : Result (Unit {0}) FormError) (new : List ℕ) → PieceFrom a b old (Ok piece) new
    → 0 < length piece.now → left' + length piece.now ≡ left → ((fed : List ℕ) → WasFed form fed → IsFed form.boundary (fed ++ piece.now) form' found)
    → FeedsPiece a b old form form' left left' (Ok found) new
feeds-piece a b old form form' left left' piece found new p some counted fed = record {
  piece = piece.now;
  begins = record { given = p.given; gives = p.gives; whole = p.reads };
  some = some;
  counted = counted;
  fed = fed;
}

pub feeds-none : (a b : Told) (old : List ℕ) (form form' : ReaderText) (left left' : ℕ) (error : BodyError) (new : List ℕ) → PieceFrom a b old (Err error) new → 0 < left
    → FeedsPiece a b old form form' left left' (Err error) new
feeds-none a b old form form' left left' B.CutShort new p some = record { given = p.given; gives = p.gives; reads = (let none = ap length p.reads.0 in (omega arith, p.reads.1)); ended = p.ended }
feeds-none a b old form form' left left' B.ReadFault new p some = record { given = p.given; gives = p.gives; reads = (let none = ap length p.reads.0 in (omega arith, p.reads.1)); ended = tt }
feeds-none a b old form form' left left' B.NoMemory new p some = absurd p.reads

pub IsFed-of : (boundary fed : List ℕ) (form' : ReaderText) (found : Result (Unit {0}) FormError) → OnOk found (WasFed form' fed) → IfErr found (FormRefusesFor boundary fed) → IsFed boundary fed form' found
IsFed-of boundary fed form' (Ok done) goes_on refused = goes_on
IsFed-of boundary fed form' (Err error) goes_on refused = refused

-- what a form says at its body's end
pub IsSaid-of : (boundary body : List ℕ) (found : Result Submission FormError) → length body ≤ 16777216 → IfOk found (λ said. BodySays boundary body (submission_text said))
    → IfOk found (λ said. length body ≤ 16777216 → FitsCrash (submission_text said)) → IfErr found (BodyRefusal boundary body) → IsSaid boundary body found
IsSaid-of boundary body (Ok said) short says fits refused = (says, fits short)
IsSaid-of boundary body (Err error) short says fits refused = refused

-- a piece that the form didn't refuse
pub IsFedSo-unrefused : (a b c : Told) (u v w boundary : List ℕ) (form form' : ReaderText) (count left left' count' : ℕ) (found : Result (Unit {0}) FormError) → IsFedSo a b u boundary form count v
    → FeedsPiece b c v form form' left left' (Ok found) w → ((error : FormError) → ¬ (found ≡ Err error)) → form'.boundary ≡ form.boundary → count' + left' ≡ count + left → IsFedSo a c u boundary form' count' w
IsFedSo-unrefused a b c u v w boundary form form' count left left' count' (Ok done) p q other keeps total = IsFedSo-more a b c u v w boundary form form' count left left' count' done p q keeps total
IsFedSo-unrefused a b c u v w boundary form form' count left left' count' (Err error) p q other keeps total = absurd (other error refl)

-- what was had of the body of a submission
pub TakesBody-of : (intake : Result Intake NoMemory) (fresh : ReaderText) (a b : Told) (old : List ℕ) (count : ℕ) (result : Result Content BodyError) (new : List ℕ) → intake ≡ Ok (Feeds fresh)
    → TakesBody (IsOfForm fresh.boundary) a b old count result new → TakesBody (IsOfBody intake) a b old count result new
TakesBody-of intake fresh a b old count result new is p =
    let P : Result Intake NoMemory → Type 0 = λ i. TakesBody (IsOfBody i) a b old count result new in subst P (sym is) p
