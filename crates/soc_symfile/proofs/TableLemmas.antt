-- What the tables hold.
use Rattle.std.proofs.Common.{◌≡◌, ℕ, ◌+◌, ◌-◌, ◌<◌, ◌≤◌, List, [], ◌∷◌, ◌++◌, length, map, get_or, refl, sym, ◌∙◌, ap, arith, zero, suc}
use Rattle.std.specs.Prelude.{slice_set, slice_get, slice_range, option_map, Some, drop, Result, Ok, Err, OnOk, OnErr}
use Rattle.std.proofs.lemmas.List.{drop-append-le, take-append-le, take_all, map-append, map-id}
use Rattle.std.proofs.lemmas.Option.{slice_get-map}
use Rattle.std.proofs.Common.{length-append, length-drop}
use Rattle.soc_symfile.specs.declared.entries.Extent.{Extent}
use Rattle.soc_symfile.specs.declared.entries.Owned.{Owned}
use Rattle.soc_symfile.specs.declared.entries.Owner.{Owner}
use Rattle.soc_symfile.specs.declared.entries.Label.{Label}
use Rattle.soc_symfile.specs.declared.entries.File.{File}
use Rattle.soc_symfile.specs.declared.entries.SourceLine.{SourceLine}
use Rattle.soc_symfile.specs.Records.{Records, records_in, owners_in}
use Rattle.soc_symfile.specs.inner.Tables.{owner_entry, same_line, with_end, AreLaidOut, onto_last, Owns}
use Rattle.soc_symfile.specs.Views.{extent_entry, label_entry, file_entry}

abbrev held : List Owner → List SourceLine → List Label → List File → List Owner → List Label → Records
held functions sources publics files inits deltas = record {
  functions = map (owner_entry same_line sources) functions;
  publics = map label_entry publics;
  files = map file_entry files;
  inits = map (owner_entry label_entry deltas) inits;
}

pub none_held : (functions : List Owner) (sources : List SourceLine) (publics : List Label) (files : List File) (inits : List Owner) (deltas : List Label)
    → functions ≡ [] → sources ≡ [] → publics ≡ [] → files ≡ [] → inits ≡ [] → deltas ≡ [] → held functions sources publics files inits deltas ≡ records_in []
unfolding owners_in
none_held functions sources publics files inits deltas a b c d e f = rw (a, c, d, e) refl

-- a write to the last owner
pub last_written : (owners : List Owner) (d : Owner) (end : ℕ) → 0 < length owners
    → slice_set owners (length owners - 1) (record { extent = (get_or owners (length owners - 1) d).extent; first = (get_or owners (length owners - 1) d).first; end = end }) ≡ with_end end owners
last_written [] d end some = absurd (omega arith)
last_written (owner ∷ []) d end some = refl
last_written (owner ∷ next ∷ owners) d end some =
    let step : suc (suc (length owners)) - 1 ≡ suc (suc (length owners) - 1) = omega arith in
    rw step (ap (λ (os : List Owner). owner ∷ os) (last_written (next ∷ owners) d end (omega arith)))

-- an owner before others that lie in their table
laid-before : (owner : Owner) (owners : List Owner) (n : ℕ) → owner.first ≤ owner.end → owner.end ≤ n → 0 < length owners → AreLaidOut owners n → AreLaidOut (owner ∷ owners) n
laid-before owner [] n first end some laid = absurd (omega arith)
laid-before owner (next ∷ owners) n first end some laid = (first, end, laid)

pub laid-push : (owners : List Owner) (n : ℕ) (owner : Owner) → AreLaidOut owners n → owner.first ≡ n → owner.end ≡ n → AreLaidOut (owners ++ owner ∷ []) n
laid-push [] n owner laid first end = (omega arith, end)
laid-push (o ∷ []) n owner laid first end = (laid.0, omega (arith, laid.1), (omega arith, end))
laid-push (o ∷ next ∷ owners) n owner laid first end = (laid.0, laid.1, laid-push (next ∷ owners) n owner laid.2 first end)

length-with_end : (end : ℕ) (owners : List Owner) → length (with_end end owners) ≡ length owners
length-with_end end [] = refl
length-with_end end (owner ∷ []) = refl
length-with_end end (owner ∷ next ∷ owners) = ap suc (length-with_end end (next ∷ owners))

pub laid-extend : (owners : List Owner) (n m : ℕ) → m ≡ n + 1 → AreLaidOut owners n → AreLaidOut (with_end m owners) m
laid-extend [] n m more laid = tt
laid-extend (owner ∷ []) n m more laid = (omega arith, refl)
laid-extend (owner ∷ next ∷ owners) n m more laid =
    let some : 0 < length (with_end m (next ∷ owners)) = omega (arith, length-with_end m (next ∷ owners)) in
    laid-before owner (with_end m (next ∷ owners)) m laid.0 (omega (arith, laid.1)) some (laid-extend (next ∷ owners) n m more laid.2)

-- pushed, or as before where memory ran out
pub laid-pushed : {E : Type 0} (owners new : List Owner) (n count : ℕ) (owner : Owner) (r : Result (Unit {0}) E) → OnOk r (new ≡ owners ++ owner ∷ []) → OnErr r (new ≡ owners)
    → count ≡ n → owner.first ≡ count → owner.end ≡ count → AreLaidOut owners n → AreLaidOut new n
laid-pushed owners new n count owner (Ok done) ok err is first end laid = rw ok (laid-push owners n owner laid (first ∙ is) (end ∙ is))
laid-pushed owners new n count owner (Err error) ok err is first end laid = rw err laid

-- a part more of the last owner
range-before : {P : Type 0} (parts : List P) (x : P) (first end : ℕ) → first ≤ end → end ≤ length parts → slice_range (parts ++ x ∷ []) first end ≡ slice_range parts first end
range-before parts x first end low high =
    let short : end - first ≤ length (drop first parts) = omega (arith, length-drop first parts) in
    rw (drop-append-le first parts (x ∷ []) (omega arith), take-append-le (end - first) (drop first parts) (x ∷ []) short) refl

range-more : {P : Type 0} (parts : List P) (x : P) (first end m : ℕ) → first ≤ end → end ≡ length parts → m ≡ length parts + 1
    → slice_range (parts ++ x ∷ []) first m ≡ slice_range parts first end ++ x ∷ []
range-more parts x first end m low high more =
    let all : length (drop first parts ++ x ∷ []) ≤ m - first = omega (arith, length-append (drop first parts) (x ∷ []), length-drop first parts) in
    let old : length (drop first parts) ≤ end - first = omega (arith, length-drop first parts) in
    rw (drop-append-le first parts (x ∷ []) (omega arith), take_all (m - first) (drop first parts ++ x ∷ []) all, take_all (end - first) (drop first parts) old) refl

pub view-extend : {P Q : Type 0} (part : P → Q) (parts : List P) (x : P) (m : ℕ) (owners : List Owner) → m ≡ length parts + 1 → AreLaidOut owners (length parts)
    → map (owner_entry part (parts ++ x ∷ [])) (with_end m owners) ≡ onto_last (part x) (map (owner_entry part parts) owners)
view-extend part parts x m [] more laid = refl
view-extend {P} {Q} part parts x m (owner ∷ []) more laid =
    let parts_are : map part (slice_range (parts ++ x ∷ []) owner.first m) ≡ map part (slice_range parts owner.first owner.end) ++ part x ∷ [] =
    ap (map part) (range-more parts x owner.first owner.end m laid.0 laid.1 more) ∙ map-append part (slice_range parts owner.first owner.end) (x ∷ []) in
    ap (λ (ps : List Q). (extent_entry owner.extent, ps) ∷ []) parts_are
view-extend {P} {Q} part parts x m (owner ∷ next ∷ owners) more laid =
    let head : map part (slice_range (parts ++ x ∷ []) owner.first owner.end) ≡ map part (slice_range parts owner.first owner.end) =
    ap (map part) (range-before parts x owner.first owner.end laid.0 laid.1) in
    let tail = view-extend part parts x m (next ∷ owners) more laid.2 in
    rw (head, tail) refl

pub last_changed : (owners : List Owner) (last : Owner) (count end : ℕ) → count ≡ length owners → 0 < count → last ≡ get_or owners (count - 1) last
    → slice_set owners (count - 1) (record { extent = last.extent; first = last.first; end = end }) ≡ with_end end owners
last_changed owners last count end is some same =
    let some_owner : 0 < length owners = omega arith in
    let same_place = rw is at same in
    rw is (ap (λ (o : Owner). slice_set owners (length owners - 1) (record { extent = o.extent; first = o.first; end = end })) same_place ∙ last_written owners last end some_owner)

pub part_laid : {P : Type 0} (owners new : List Owner) (parts more : List P) (x : P) (end : ℕ) → more ≡ parts ++ x ∷ [] → end ≡ length more → new ≡ with_end end owners
    → AreLaidOut owners (length parts) → AreLaidOut new (length more)
part_laid owners new parts more x end pushed is_end is laid =
    let count : end ≡ length parts + 1 = omega (arith, ap length pushed, length-append parts (x ∷ [])) in
    rw (is, ← is_end) (laid-extend owners (length parts) end count laid)

pub part_held : {P Q : Type 0} (part : P → Q) (owners new : List Owner) (parts more : List P) (x : P) (end : ℕ) → more ≡ parts ++ x ∷ [] → end ≡ length more → new ≡ with_end end owners
    → AreLaidOut owners (length parts) → map (owner_entry part more) new ≡ onto_last (part x) (map (owner_entry part parts) owners)
part_held part owners new parts more x end pushed is_end is laid =
    let count : end ≡ length parts + 1 = omega (arith, ap length pushed, length-append parts (x ∷ [])) in
    rw (is, pushed) (view-extend part parts x end owners count laid)

-- each owner's part lies in its table
pub laid-at : (owners : List Owner) (n at : ℕ) (d : Owner) → AreLaidOut owners n → at < length owners
    → ((get_or owners at d).first ≤ (get_or owners at d).end) × ((get_or owners at d).end ≤ n)
laid-at [] n at d laid inside = absurd (omega arith)
laid-at (owner ∷ []) n zero d laid inside = (laid.0, omega (arith, laid.1))
laid-at (owner ∷ []) n (suc at) d laid inside = absurd (omega arith)
laid-at (owner ∷ next ∷ owners) n zero d laid inside = (laid.0, laid.1)
laid-at (owner ∷ next ∷ owners) n (suc at) d laid inside = laid-at (next ∷ owners) n at d laid.2 (omega arith)

pub function_there : (owners : List Owner) (sources : List SourceLine) (at : ℕ) (owned : Owned SourceLine) → Owns owners sources at owned
    → slice_get (map (owner_entry same_line sources) owners) at ≡ Some (extent_entry owned.extent, owned.parts.now)
function_there owners sources at owned owns =
    slice_get-map (owner_entry same_line sources) owners at ∙ ap (option_map (owner_entry same_line sources)) owns.there
    ∙ ap (λ (ps : List SourceLine). Some (extent_entry owns.owner.extent, ps)) (map-id (slice_range sources owns.owner.first owns.owner.end) ∙ sym owns.parts_are)
    ∙ ap (λ (e : Extent). Some (extent_entry e, owned.parts.now)) (sym owns.extent)
