-- A compiled pattern matches as the grammar reads its text.
use Rattle.std.proofs.Common.{◌≡◌, ℕ, zero, suc, ◌+◌, ◌-◌, ◌<◌, ◌≤◌, ◌==◌, Bool, true, false, ◌&&◌, Box, Global, Vec, List, [], ◌∷◌, map, drop, drop-cons, drop_of_length-le, get_or, Option, None, Some, IsSome, IsSomeAnd, option_map, length, refl, sym, ap, ◌∙◌, subst, arith, true≢false, inl, inr}
use Rattle.std.specs.Prelude.{nat_le}
use Rattle.std.specs.Option.{option_map_or}
use Rattle.std.specs.Str.{chars, is_utf8, IsUtf8}
use Rattle.std.proofs.lemmas.Str.{is_utf8-from_IsUtf8, IsUtf8-from_is_utf8}
use Rattle.std.proofs.lemmas.Bool.{eqb-true, false_from_ne_true, true_from_ne_false}
use Rattle.std.proofs.lemmas.Str.{IsCharBoundary-start}
use Rattle.std.proofs.lemmas.Bool.Decides.{nat_tests}
use Rattle.regex_syntax.specs.Grammar.{Names, read}
use Rattle.regex_syntax.specs.Brackets.{Nested}
use Rattle.regex_hir.specs.declared.hir.Hir.{Hir}
use Rattle.regex_hir.specs.declared.hir.Hir.TheVariants.{Concat, Literal, Repetition}
use Rattle.regex_hir.specs.Meaning.{meaning, cat_all, up_to}
use Rattle.regex_hir.proofs.MeaningLemmas.{meaning-Concat, meaning-Literal, meaning-Repetition}
use Rattle.regex.specs.Patterns.{Re, Match, Matches, SameCaptures, cat, default_config, find_str, has_bytes_at, literal, repeat, span, Reads}
use Rattle.regex.specs.Strings.{regex_source}
use Rattle.regex.specs.declared.string.regex.Regex.{Regex}
use Rattle.regex.proofs.ForCallers.{find_str_sound, find_str_complete, span_alike}
use Rattle.soc_siglists.specs.Patterns.{is_pattern, matches_start}
use Rattle.soc_siglists.specs.Makers.{IsMade}
use Rattle.soc_siglists.specs.inner.Compiled.{IsOwn, MatchesAs}
use Rattle.soc_siglists.specs.inner.Leads.{BeginsBy, IsFront, IsLead, IsLedBy, IsOptional, Leads, MatchesBy}
use Rattle.soc_siglists.specs.inner.Literals.{IsFrame, begins_with}
use Rattle.soc_siglists.specs.declared.lead.Front.{Front}
use Rattle.soc_siglists.specs.declared.lead.Lead.{Lead}

abbrev pub Found : Type 0
Found = Nested Re × Names

weaker : (o : Option Found) (P Q : Found → Type 0) → ((x : Found) → P x → Q x) → IsSomeAnd o P → IsSomeAnd o Q
weaker None P Q f h = absurd h
weaker (Some x) P Q f h = f x h

within : (o : Option Found) (most : ℕ) → IsSomeAnd o (λ found. found.0.depth ≤ most) → option_map_or (λ (found : Found). nat_le found.0.depth most) o false ≡ true
within None most h = absurd h
within (Some x) most h = grind (arith, nat_tests)

-- what the grammar reads is a pattern
pub read_is_pattern : (text : List ℕ) (hir : Hir) (names : Names) → IsUtf8 text → Reads default_config text hir names → is_pattern text ≡ true
unfolding is_pattern Reads
read_is_pattern text hir names utf8 reads =
    let test = is_utf8-from_IsUtf8 text utf8 in
    let o = read default_config (chars text) in
    let limited : IsSomeAnd o (λ found. found.0.depth ≤ default_config.nest_limit) = weaker o _ _ (λ x h. h.0) reads in
    rw test (within o default_config.nest_limit limited)

-- the text of a compiled pattern is one
pub own_is_pattern : (made : Regex) → IsOwn made → IsUtf8 (regex_source made) → is_pattern (regex_source made) ≡ true
own_is_pattern made own utf8 = read_is_pattern (regex_source made) _ _ utf8 (rw own.config at own.read)

-- where a match begins
abbrev begins : Option Match → Bool
begins o = option_map_or (λ m. m.start == 0) o false

begins_by : Option (ℕ × ℕ) → Bool
begins_by o = option_map_or (λ s. s.0 == 0) o false

by_span : (o : Option Match) → begins o ≡ begins_by (option_map span o)
unfolding begins_by
by_span None = refl
by_span (Some m) = refl

asked : (o : Option Found) (frame : List ℕ) (compiled : Re) → ((k : ℕ) → get_or frame k 0 < 256) → IsSomeAnd o (λ found. SameCaptures compiled found.0.value)
    → begins (find_str compiled frame 0) ≡ option_map_or (λ (found : Found). begins (find_str found.0.value frame 0)) o false
asked None frame compiled bytes same = absurd same
asked (Some found) frame compiled bytes same =
    by_span (find_str compiled frame 0) ∙ ap begins_by (span_alike same frame bytes true 0) ∙ sym (by_span (find_str found.0.value frame 0))

-- what the compiled pattern's search says of a frame
pub starts : (text frame : List ℕ) (compiled : Re) → ((k : ℕ) → get_or frame k 0 < 256) → MatchesAs text compiled
    → begins (find_str compiled frame 0) ≡ matches_start frame text
unfolding matches_start
starts text frame compiled bytes same = asked (read default_config (chars text)) frame compiled bytes same

false_and : (a b : Bool) → a ≡ false → (a && b) ≡ false
false_and true b e = absurd cc
false_and false b e = refl

-- what is no text is no pattern
pub no_text : (text : List ℕ) → ¬ (IsUtf8 text) → is_pattern text ≡ false
unfolding is_pattern
no_text text bad =
    false_and (is_utf8 text) _ (elim (is_utf8 text) as (λ b. is_utf8 text ≡ b → is_utf8 text ≡ false)
    [ true ↦ λ e. absurd (bad (IsUtf8-from_is_utf8 text e)) | false ↦ λ e. e ] refl)

-- what a maker makes an expression of is a pattern
pub made_pattern : (made : Regex) (text : List ℕ) → IsMade text made → IsUtf8 text → is_pattern text ≡ true
made_pattern made text is utf8 =
    let own : IsOwn made = record { config = is.config; read = is.read } in
    let own_utf8 : IsUtf8 (regex_source made) = subst IsUtf8 (sym is.source) utf8 in
    rw is.source at (own_is_pattern made own own_utf8)

has_here : (text frame : List ℕ) → has_bytes_at frame 0 text ≡ begins_with frame text
unfolding has_bytes_at
has_here text frame = refl

positive : (n : ℕ) → (n == 0) ≡ false → 0 < n
positive zero e = absurd (true≢false e)
positive (suc n) e = omega arith

-- a search whose match begins at the start gives one
pub begun_matches : (re : Re) (frame : List ℕ) (o : Option Match) → find_str re frame 0 ≡ o → begins o ≡ true → (j : ℕ) × Matches frame re 0 j
begun_matches re frame None e h = absurd (true≢false (sym h))
begun_matches re frame (Some m) e h =
    let sound = find_str_sound re frame 0 m e in
    (m.trace.end, subst (λ n. Matches frame re n m.trace.end) (eqb-true m.start 0 h) sound.1)

-- a match at the start is the leftmost one
some_begins : (re : Re) (frame : List ℕ) (j : ℕ) → IsFrame frame → Matches frame re 0 j → (o : Option Match) → find_str re frame 0 ≡ o
    → IsSome (find_str re frame 0) → begins o ≡ true
some_begins re frame j is matches None e some = absurd (true≢false (sym (subst IsSome e some)))
some_begins re frame j is matches (Some m) e some =
    let sound = find_str_sound re frame 0 m e in
    true_from_ne_false _ (λ past. sound.2 0 j (omega arith) (positive m.start past) (IsCharBoundary-start frame is.utf8) matches)

pub matches_begin : (re : Re) (frame : List ℕ) (j : ℕ) → IsFrame frame → Matches frame re 0 j → begins (find_str re frame 0) ≡ true
matches_begin re frame j is matches =
    some_begins re frame j is matches (find_str re frame 0) refl (find_str_complete re frame 0 0 j (omega arith) (IsCharBoundary-start frame is.utf8) matches)

-- ---- what matches begin with

pub front_unknown : (re : Re) (front : Front) → front.bytes.now ≡ [] → front.is_all ≡ false → IsFront re front
unfolding has_bytes_at
front_unknown re front empty unsure = record {
  begins = λ hay j m. rw empty refl;
  all = λ h. absurd (true≢false (sym h ∙ unsure));
}

up_to_optional : (most : ℕ) (greedy : Bool) (re : Re) → IsOptional (up_to greedy most re)
up_to_optional zero greedy re hay i = refl
up_to_optional (suc n) true re hay i = inr refl
up_to_optional (suc n) false re hay i = inl refl

pub optional_repetition : (most : Option ℕ) (greedy : Bool) (re : Re) → IsOptional (repeat 0 most greedy re)
unfolding repeat
optional_repetition None true re hay i = inr refl
optional_repetition None false re hay i = inl refl
optional_repetition (Some most) greedy re hay i = up_to_optional (most - 0) greedy re hay i

pub repetition_optional : (hir : Hir) (least : ℕ) (most : Option ℕ) (greedy : Bool) (sub : Box Hir Global) → hir ≡ Repetition least most greedy sub
    → (least == 0) ≡ true → IsOptional (meaning hir)
repetition_optional hir least most greedy sub is none =
    subst IsOptional (sym (ap meaning is ∙ meaning-Repetition least most greedy sub ∙ ap (λ n. repeat n most greedy (meaning sub.value)) (eqb-true least 0 none)))
    (optional_repetition most greedy (meaning sub.value))

pub optional_both : (a b : Re) → IsOptional a → IsOptional b → IsOptional (cat a b)
optional_both a b p q hay i = (i, p hay i, q hay i)

-- what is left after one more tree
pub optional_on : (subs : List Hir) (i : ℕ) (sub : Hir) → i < length subs → sub ≡ get_or subs i sub → IsOptional (meaning sub)
    → IsOptional (cat_all (map meaning (drop (i + 1) subs))) → IsOptional (cat_all (map meaning (drop i subs)))
optional_on subs i sub inside is here rest =
    let split : map meaning (drop i subs) ≡ meaning sub ∷ map meaning (drop (suc i) subs) =
    ap (map meaning) (drop-cons subs i sub inside ∙ ap (λ x. x ∷ drop (suc i) subs) (sym is)) in
    let next : suc i ≡ i + 1 = omega arith in
    subst IsOptional (sym (ap cat_all split)) (optional_both (meaning sub) (cat_all (map meaning (drop (suc i) subs))) here (subst (λ n. IsOptional (cat_all (map meaning (drop n subs)))) (sym next) rest))

pub optional_end : (subs : List Hir) (i : ℕ) → length subs ≤ i → IsOptional (cat_all (map meaning (drop i subs)))
optional_end subs i past = subst (λ ts. IsOptional (cat_all (map meaning ts))) (sym (drop_of_length-le subs past)) (λ hay i. refl)

pub front_literal : (bytes : List ℕ) (front : Front) → front.bytes.now ≡ bytes → IsFront (literal bytes) front
front_literal bytes front same = record {
  begins = λ hay j m. rw same m.0;
  all = λ _ hay h. (0 + length bytes, (rw same at h, refl));
}

pub front_first : (bytes : List ℕ) (rest : Re) (front : Front) → front.bytes.now ≡ bytes → (front.is_all ≡ true → IsOptional rest) → IsFront (cat (literal bytes) rest) front
front_first bytes rest front same optional = record {
  begins = λ hay j m. rw same m.1.0;
  all = λ is hay h. (0 + length bytes, (0 + length bytes, (rw same at h, refl), optional is hay (0 + length bytes)));
}

pub hir_literal : (hir : Hir) (bytes : Vec ℕ Global) (front : Front) → hir ≡ Literal bytes → front.bytes.now ≡ bytes.items → IsFront (meaning hir) front
hir_literal hir bytes front is same = subst (λ re. IsFront re front) (sym (ap meaning is ∙ meaning-Literal bytes)) (front_literal bytes.items front same)

pub hir_first : (hir : Hir) (bytes : Vec ℕ Global) (rest : List Hir) (front : Front) → hir ≡ Literal bytes → front.bytes.now ≡ bytes.items
    → (front.is_all ≡ true → IsOptional (cat_all (map meaning rest))) → IsFront (cat_all (map meaning (hir ∷ rest))) front
hir_first hir bytes rest front is same optional =
    subst (λ re. IsFront (cat re (cat_all (map meaning rest))) front) (sym (ap meaning is ∙ meaning-Literal bytes)) (front_first bytes.items (cat_all (map meaning rest)) front same optional)

pub hir_concat : (hir : Hir) (subs : Vec Hir Global) (front : Front) → hir ≡ Concat subs → IsFront (cat_all (map meaning subs.items)) front → IsFront (meaning hir) front
hir_concat hir subs front is h = subst (λ re. IsFront re front) (sym (ap meaning is ∙ meaning-Concat subs)) h

pub front_leads : (re : Re) (front : Front) (lead : Lead) → IsFront re front → lead.text ≡ front.bytes.now → lead.is_all ≡ front.is_all → Leads re lead
front_leads re front lead is text all = record {
  begins = subst (BeginsBy re) (sym text) is.begins;
  all = λ h. subst (MatchesBy re) (sym text) (is.all (sym all ∙ h));
}

pub no_lead : (re : Re) (lead : Lead) → lead.text ≡ [] → lead.is_all ≡ false → Leads re lead
unfolding has_bytes_at
no_lead re lead empty unsure = record {
  begins = λ hay j m. rw empty refl;
  all = λ h. absurd (true≢false (sym h ∙ unsure));
}

-- the grammar's own tree matches as the text
pub read_matches : (text : List ℕ) (hir : Hir) (names : Names) → Reads default_config text hir names → MatchesAs text (meaning hir)
unfolding Reads
read_matches text hir names reads = weaker (read default_config (chars text)) _ _ (λ x h. h.1) reads

-- what it says of matches holds for the text
pub led_by : (text : List ℕ) (hir : Hir) (names : Names) (lead : Lead) → Reads default_config text hir names → Leads (meaning hir) lead → IsLedBy text lead
led_by text hir names lead reads leads =
    let re = meaning hir in
    let same = read_matches text hir names reads in
    record {
      begins = λ frame is h.
          let found = begun_matches re frame (find_str re frame 0) refl (starts text frame re is.bytes same ∙ h) in
          sym (has_here lead.text frame) ∙ leads.begins frame found.0 found.1;
      all = λ sure frame is h.
          let found = leads.all sure frame (has_here lead.text frame ∙ h) in
          sym (starts text frame re is.bytes same) ∙ matches_begin re frame found.0 is found.1;
    }

-- a frame that doesn't begin with the lead isn't matched
pub not_led : (pattern lead frame : List ℕ) → IsLead pattern lead → IsFrame frame → begins_with frame lead ≡ false → matches_start frame pattern ≡ false
not_led pattern lead frame led is fails = false_from_ne_true _ (λ h. true≢false (sym (led frame is h) ∙ fails))
