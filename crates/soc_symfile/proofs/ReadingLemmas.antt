-- A text, line by line.
use Rattle.std.proofs.Common.{◌≡◌, ℕ, ◌+◌, ◌<◌, Bool, true, false, List, [], ◌∷◌, ◌++◌, length, map, Option, Some, None, Result, Ok, Err, refl, sym, ◌∙◌, ap, arith, append-nil, append_assoc, length-append, ◌⊎◌, inl, inr}
use Rattle.std.proofs.lemmas.List.{map-append, length-map}
use Rattle.std.specs.Prelude.{filter_map, is_some, if◌then◌else◌}
use Rattle.std.specs.Str.Lines.{lines}
use Rattle.soc_base.specs.Options.{◌>>=◌}
use Rattle.soc_symfile.specs.declared.error.SymError.{SymError}
use Rattle.soc_symfile.specs.declared.error.SymError.TheVariants.{BadLine, NoMemory}
use Rattle.soc_symfile.specs.Line.{LineEntry, Other, line_of, module_line}
use Rattle.soc_symfile.specs.Records.{Records, records_in, records_of, owners_in, is_bad}
use Rattle.soc_symfile.specs.Reading.{IsRefusal}
use Rattle.soc_symfile.specs.inner.Tables.{IsBadLine, outcome_after}

-- where a reader of a text stands: this was said, and what the whole text gives is what this and the lines that are left give
pub record ReadsOn (whole : Result Records ℕ) (tables : Records) (number : ℕ) (left : List ℕ) (said : List LineEntry) : Type 0 where
  pub held : tables ≡ records_in said
  pub count : number ≡ length said
  pub same : whole ≡ outcome_after said (map line_of (lines left))

outcome-end : (said : List LineEntry) → outcome_after said [] ≡ Ok (records_in said)
unfolding outcome_after
outcome-end said = rw (append-nil said) refl

outcome-none : (said : List LineEntry) (others : List (Option LineEntry)) → outcome_after said (None ∷ others) ≡ Err (length said + 1)
unfolding outcome_after
outcome-none said others = ap (λ n. Err (n + 1)) (length-map said (λ (line : LineEntry). Some line))

outcome-bad : (said : List LineEntry) (line : LineEntry) (others : List (Option LineEntry)) → is_bad (map (λ (other : LineEntry). Some other) said) (Some line) ≡ true
    → outcome_after said (Some line ∷ others) ≡ Err (length said + 1)
unfolding outcome_after
outcome-bad said line others bad = rw bad (ap (λ n. Err (n + 1)) (length-map said (λ (other : LineEntry). Some other)))

outcome-good : (said : List LineEntry) (line : LineEntry) (others : List (Option LineEntry)) → is_bad (map (λ (other : LineEntry). Some other) said) (Some line) ≡ false
    → outcome_after said (Some line ∷ others) ≡ outcome_after (said ++ line ∷ []) others
unfolding outcome_after
outcome-good said line others good =
    rw (good, map-append (λ (other : LineEntry). Some other) said (line ∷ []), append_assoc said (line ∷ []) (filter_map (λ other. other) others)) refl

none_said : records_in [] ≡ records_in (Other ∷ [])
unfolding owners_in
none_said = refl

pub read-start : (tables : Records) (text : List ℕ) → tables ≡ records_in [] → (said : List LineEntry) × ReadsOn (outcome_after (Other ∷ []) (map line_of (lines text))) tables 1 text said
read-start tables text is = (Other ∷ [], record { held = is ∙ none_said; count = refl; same = refl })

pub read-end : (whole : Result Records ℕ) (tables : Records) (number : ℕ) (left : List ℕ) → (said : List LineEntry) × ReadsOn whole tables number left said → lines left ≡ [] → whole ≡ Ok tables
read-end whole tables number left so_far none =
    so_far.1.same ∙ ap (λ (ls : List (List ℕ)). outcome_after so_far.0 (map line_of ls)) none ∙ outcome-end so_far.0 ∙ ap Ok (sym so_far.1.held)

behind : (whole : Result Records ℕ) (said : List LineEntry) (left line others : List ℕ) (read : Option LineEntry) → whole ≡ outcome_after said (map line_of (lines left))
    → lines left ≡ line ∷ lines others → read ≡ line_of line → whole ≡ outcome_after said (read ∷ map line_of (lines others))
behind whole said left line others read same first is = rw is (same ∙ ap (λ (ls : List (List ℕ)). outcome_after said (map line_of ls)) first)

pub read-bad : (whole : Result Records ℕ) (tables : Records) (number : ℕ) (left line others : List ℕ) → (said : List LineEntry) × ReadsOn whole tables number left said
    → (lines left ≡ line ∷ lines others) × (length others < length left) → None ≡ line_of line → whole ≡ Err (number + 1)
read-bad whole tables number left line others so_far split is =
    behind whole so_far.0 left line others None so_far.1.same split.0 is ∙ outcome-none so_far.0 (map line_of (lines others)) ∙ ap (λ n. Err (n + 1)) (sym so_far.1.count)

refused : (whole : Result Records ℕ) (error : SymError) (said : List LineEntry) (line : LineEntry) (number : ℕ) (others : List (Option LineEntry)) → number ≡ length said
    → whole ≡ outcome_after said (Some line ∷ others) → IsBadLine error said line (number + 1) → IsRefusal error whole
refused whole (BadLine at) said line number others count same bad = same ∙ outcome-bad said line others bad.1 ∙ ap Err (ap (λ n. n + 1) (sym count) ∙ sym bad.0)
refused whole NoMemory said line number others count same bad = tt

pub read-refused : (whole : Result Records ℕ) (tables : Records) (number : ℕ) (left line others : List ℕ) (read : LineEntry) (error : SymError) → (said : List LineEntry) × ReadsOn whole tables number left said
    → (lines left ≡ line ∷ lines others) × (length others < length left) → Some read ≡ line_of line
    → ((said : List LineEntry) → tables ≡ records_in said → IsBadLine error said read (number + 1)) → IsRefusal error whole
read-refused whole tables number left line others read error so_far split is bad =
    refused whole error so_far.0 read number (map line_of (lines others)) so_far.1.count (behind whole so_far.0 left line others (Some read) so_far.1.same split.0 is) (bad so_far.0 so_far.1.held)

pub read-more : (whole : Result Records ℕ) (tables new : Records) (number : ℕ) (left line others : List ℕ) (read : LineEntry) → (said : List LineEntry) × ReadsOn whole tables number left said
    → (lines left ≡ line ∷ lines others) × (length others < length left) → Some read ≡ line_of line
    → ((said : List LineEntry) → tables ≡ records_in said → (is_bad (map (λ (other : LineEntry). Some other) said) (Some read) ≡ false) × (new ≡ records_in (said ++ read ∷ [])))
    → (said : List LineEntry) × ReadsOn whole new (number + 1) others said
read-more whole tables new number left line others read so_far split is adds =
    let added = adds so_far.0 so_far.1.held in (
      so_far.0 ++ read ∷ [],
      record {
        held = added.1;
        count = omega (arith, so_far.1.count, length-append so_far.0 (read ∷ []));
        same = behind whole so_far.0 left line others (Some read) so_far.1.same split.0 is ∙ outcome-good so_far.0 read (map line_of (lines others)) added.0;
      },
    )

-- the first line
says : (form : Bool) (name : Option (List ℕ)) → let said = if form then (name >>= λ _. Some Other) else None in (said ≡ None) ⊎ (said ≡ Some Other)
says true None = inl refl
says true (Some name) = inr refl
says false name = inl refl

module_says : (line : List ℕ) → (module_line line ≡ None) ⊎ (module_line line ≡ Some Other)
unfolding module_line
module_says line = says _ _

module_good : (said : Option LineEntry) → (said ≡ None) ⊎ (said ≡ Some Other) → true ≡ is_some said → said ≡ Some Other
module_good None either good = cc
module_good (Some line) (inl none) good = cc
module_good (Some line) (inr other) good = other

module_bad : (said : Option LineEntry) → false ≡ is_some said → said ≡ None
module_bad None bad = refl
module_bad (Some line) bad = cc

pub no_lines : (text : List ℕ) → lines text ≡ [] → records_of text ≡ Err 1
unfolding records_of
no_lines text none = rw none refl

pub first_is_bad : (text first others : List ℕ) → (lines text ≡ first ∷ lines others) × (length others < length text) → false ≡ is_some (module_line first) → records_of text ≡ Err 1
unfolding records_of
first_is_bad text first others split bad = rw (split.0, module_bad (module_line first) bad) refl

pub behind_first : (text first others : List ℕ) → (lines text ≡ first ∷ lines others) × (length others < length text) → true ≡ is_some (module_line first)
    → records_of text ≡ outcome_after (Other ∷ []) (map line_of (lines others))
unfolding records_of outcome_after
behind_first text first others split good = rw (split.0, module_good (module_line first) (module_says first) good) refl
