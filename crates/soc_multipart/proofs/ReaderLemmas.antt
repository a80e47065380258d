-- What a reader gives, by its state.
use Rattle.std.proofs.Common.{◌≡◌, ℕ, List, [], ◌∷◌, ◌++◌, length, sym, refl, ap, ◌∙◌, subst, ◌⊎◌, inl, inr, Option, None, Some}
use Rattle.soc_multipart.specs.declared.parts.PartsError.{PartsError}
use Rattle.soc_multipart.specs.declared.readers.Reader.TheInside.{Inside}
use Rattle.soc_multipart.specs.declared.sections.State.{State}
use Rattle.soc_multipart.specs.ReaderViews.{reader_text}
use Rattle.soc_multipart.specs.declared.sections.Section.{Section}
use Rattle.soc_multipart.specs.declared.sections.Section.TheVariants.{Preamble, InHead, InContent, Closed}
use Rattle.soc_multipart.specs.Delimiters.{mark_of, Opens, Closes}
use Rattle.soc_multipart.specs.Parts.{PartText, HoldsParts, Cut}
use Rattle.soc_multipart.specs.Readers.{ReaderText, RefusesFor, WasFed, PartsStay}
use Rattle.soc_multipart.specs.inner.Sections.{OpensFor, ClosesFor, Stands, StandsIn}
use Rattle.soc_multipart.specs.inner.Tails.{Watches}
use Rattle.soc_text.specs.Lines.{crlf}
use Rattle.soc_multipart.proofs.CutLemmas.{closed_stuck, held_goes_on}

held_stay : (b body : List ℕ) (parts ps : List PartText) (last : List ℕ) → HoldsParts b body parts last → Cut b body ps → (later : List PartText) × (ps ≡ parts ++ later)
held_stay b body parts ps last h c =
    let g : (later : List PartText) × (ps ≡ parts ++ later) × _ = held_goes_on b body parts ps last c.last h c.holds (closed_stuck (mark_of b) c.last c.closes) in
    (g.0, g.1)

stay_in : (b fed more : List ℕ) (parts ps : List PartText) (section : Section) (bytes : List ℕ) (line : Option ℕ) → StandsIn Watches b fed parts section bytes line → Cut b (fed ++ more) ps
    → (later : List PartText) × (ps ≡ parts ++ later)
stay_in b fed more parts ps Preamble bytes line (none, rest) c = (ps, ap (λ (x : List PartText). x ++ ps) (sym none))
stay_in b fed more parts ps InHead bytes line (o, few, w) c =
    let at : (last : List ℕ) × HoldsParts b (fed ++ more) parts last × Opens (mark_of b) last (bytes ++ more) = o more in held_stay b (fed ++ more) parts ps at.0 at.1 c
stay_in b fed more parts ps (InContent head) bytes line (text, good, o, few, w) c =
    let at : (last : List ℕ) × HoldsParts b (fed ++ more) parts last × Opens (mark_of b) last (((text ++ crlf) ++ bytes) ++ more) = o more in held_stay b (fed ++ more) parts ps at.0 at.1 c
stay_in b fed more parts ps Closed bytes line (closes, few) c =
    let at : (last : List ℕ) × HoldsParts b (fed ++ more) parts last × Closes (mark_of b) last = closes more in held_stay b (fed ++ more) parts ps at.0 at.1 c

pub stay : PartsStay
stay reader fed more ps w c = stay_in reader.boundary fed more reader.parts ps reader.section reader.bytes reader.line w.stands c

-- a refusal of the state is one of the reader
pub refusal_of : (reader : ReaderText) (inside : Inside) (state : State) (slice piece fed : List ℕ) (fault : PartsError) → reader_text inside ≡ reader → slice ≡ inside.boundary.items → state ≡ inside.state
    → ((fed : List ℕ) → Stands Watches slice fed state → RefusesFor slice (fed ++ piece) fault) → WasFed reader fed → RefusesFor reader.boundary (fed ++ piece) fault
refusal_of reader inside state slice piece fed fault e f g refused w =
    let v : WasFed (reader_text inside) fed = subst (λ (r : ReaderText). WasFed r fed) (sym e) w in
    let here : Stands Watches inside.boundary.items fed inside.state = record { good = v.good; stands = v.stands } in
    let at : Stands Watches slice fed state =
    subst (λ (x : List ℕ). Stands Watches x fed state) (sym f) (subst (Stands Watches inside.boundary.items fed) (sym g) here) in
    subst (λ (r : ReaderText). RefusesFor r.boundary (fed ++ piece) fault) e
    (subst (λ (x : List ℕ). RefusesFor x (fed ++ piece) fault) f (refused fed at))
