-- One list file, line by line.
use Rattle.std.proofs.Common.{◌≡◌, ℕ, ◌+◌, true, false, cond, List, [], ◌∷◌, ◌++◌, map, Some, option_map, Err, refl, sym, ◌∙◌, ap, append-nil, append_assoc}
use Rattle.std.specs.Prelude.{find, not}
use Rattle.std.specs.List.{before_first, after_first}
use Rattle.soc_siglists.specs.declared.error.ListName.{ListName}
use Rattle.soc_siglists.specs.declared.maker.MakeError.{MakeError}
use Rattle.soc_siglists.specs.declared.maker.MakeError.TheVariants.{Syntax, Failed, NoMemory}
use Rattle.soc_siglists.specs.Patterns.{is_pattern}
use Rattle.soc_siglists.specs.Entries.{is_line_feed, text_of, is_entry, entries_from}
use Rattle.soc_siglists.specs.Reading.{bad_entry, patterns_in}
use Rattle.soc_siglists.specs.inner.OneFile.{MakesPattern, refusal, HasPatterns, RefusesFile, ReadsOn}
use Rattle.soc_siglists.proofs.LineLemmas.{entries_of_line, entries_from-line}

abbrev Entry : Type 0
Entry = ℕ × List ℕ

pub reads-start : (bytes : List ℕ) → ReadsOn bytes [] 1 bytes
reads-start bytes = record { same_bad = refl; same_patterns = refl }

-- the entries from a line on are its own, and those behind it
split : (number : ℕ) (bytes line others : List ℕ) → line ≡ before_first is_line_feed bytes → others ≡ after_first is_line_feed bytes
    → entries_from number bytes ≡ entries_of_line number line ++ entries_from (number + 1) others
split number bytes line others is_line is_others = rw (is_line, is_others) (entries_from-line number bytes)

own_none : (number : ℕ) (line text : List ℕ) → text ≡ text_of line → false ≡ is_entry text → entries_of_line number line ≡ []
own_none number line text is no_entry =
    let test : is_entry (text_of line) ≡ false = ap is_entry (sym is) ∙ sym no_entry in
    ap (λ b. cond b ((number, text_of line) ∷ []) []) test

own_one : (number : ℕ) (line text : List ℕ) → text ≡ text_of line → true ≡ is_entry text → entries_of_line number line ≡ (number, text) ∷ []
own_one number line text is entry =
    let test : is_entry (text_of line) ≡ true = ap is_entry (sym is) ∙ sym entry in
    ap (λ b. cond b ((number, text_of line) ∷ []) []) test ∙ ap (λ (t : List ℕ). (number, t) ∷ []) (sym is)

pub reads-pass : (bytes rest line others text : List ℕ) (patterns : List (List ℕ)) (number : ℕ) → ReadsOn bytes patterns number rest
    → line ≡ before_first is_line_feed rest → others ≡ after_first is_line_feed rest → text ≡ text_of line → false ≡ is_entry text
    → ReadsOn bytes patterns (number + 1) others
reads-pass bytes rest line others text patterns number so_far is_line is_others is no_entry =
    let same : entries_from number rest ≡ entries_from (number + 1) others =
    split number rest line others is_line is_others ∙ ap (λ (es : List Entry). es ++ entries_from (number + 1) others) (own_none number line text is no_entry) in
    record {
      same_bad = so_far.same_bad ∙ ap bad_entry same;
      same_patterns = so_far.same_patterns ∙ ap (λ (es : List Entry). patterns ++ map (λ (e : Entry). e.1) es) same;
    }

both : (number : ℕ) (rest line others text : List ℕ) → line ≡ before_first is_line_feed rest → others ≡ after_first is_line_feed rest → text ≡ text_of line
    → true ≡ is_entry text → entries_from number rest ≡ (number, text) ∷ entries_from (number + 1) others
both number rest line others text is_line is_others is entry =
    split number rest line others is_line is_others ∙ ap (λ (es : List Entry). es ++ entries_from (number + 1) others) (own_one number line text is entry)

good_first : (entry : Entry) (more : List Entry) → is_pattern entry.1 ≡ true → bad_entry (entry ∷ more) ≡ bad_entry more
good_first entry more good = ap (λ b. option_map (λ (e : Entry). e.0) (cond (not b) (Some entry) (find (λ (e : Entry). not (is_pattern e.1)) more))) good

bad_first : (entry : Entry) (more : List Entry) → is_pattern entry.1 ≡ false → bad_entry (entry ∷ more) ≡ Some entry.0
bad_first entry more bad = ap (λ b. option_map (λ (e : Entry). e.0) (cond (not b) (Some entry) (find (λ (e : Entry). not (is_pattern e.1)) more))) bad

pub reads-entry : (bytes rest line others text : List ℕ) (patterns : List (List ℕ)) (number : ℕ) → ReadsOn bytes patterns number rest
    → line ≡ before_first is_line_feed rest → others ≡ after_first is_line_feed rest → text ≡ text_of line → true ≡ is_entry text → (made : List ℕ)
    → (made ≡ text) × (is_pattern text ≡ true) → ReadsOn bytes (patterns ++ made ∷ []) (number + 1) others
reads-entry bytes rest line others text patterns number so_far is_line is_others is entry made makes =
    let same = both number rest line others text is_line is_others is entry in
    let more = entries_from (number + 1) others in
    record {
      same_bad = so_far.same_bad ∙ ap bad_entry same ∙ good_first (number, text) more makes.1;
      same_patterns =
          so_far.same_patterns ∙ ap (λ (es : List Entry). patterns ++ map (λ (e : Entry). e.1) es) same
          ∙ sym (append_assoc patterns (text ∷ []) (map (λ (e : Entry). e.1) more)) ∙ ap (λ t. (patterns ++ t ∷ []) ++ map (λ (e : Entry). e.1) more) (sym makes.0);
    }

pub reads-refused : (bytes rest line others text : List ℕ) (patterns : List (List ℕ)) (number : ℕ) (name : ListName) → ReadsOn bytes patterns number rest
    → line ≡ before_first is_line_feed rest → others ≡ after_first is_line_feed rest → text ≡ text_of line → true ≡ is_entry text → (error : MakeError)
    → MakesPattern (Err error) text → RefusesFile (refusal error name number) name bytes
reads-refused bytes rest line others text patterns number name so_far is_line is_others is entry Syntax makes =
    let same = both number rest line others text is_line is_others is entry in
    ap (option_map (λ (n : ℕ). (name, n))) (so_far.same_bad ∙ ap bad_entry same ∙ bad_first (number, text) (entries_from (number + 1) others) makes)
reads-refused bytes rest line others text patterns number name so_far is_line is_others is entry Failed makes = tt
reads-refused bytes rest line others text patterns number name so_far is_line is_others is entry NoMemory makes = tt

pub reads-end : (bytes : List ℕ) (patterns : List (List ℕ)) (number : ℕ) (name : ListName) → ReadsOn bytes patterns number [] → HasPatterns patterns name bytes
reads-end bytes patterns number name so_far =
    (ap (option_map (λ (n : ℕ). (name, n))) so_far.same_bad, sym (so_far.same_patterns ∙ append-nil patterns))

-- ---- the texts alone

-- where a reader of the texts stands: these came, and this is left
pub record TextsSoFar (bytes : List ℕ) (texts : List (List ℕ)) (rest : List ℕ) : Type 0 where
  pub number : ℕ
  pub same : patterns_in bytes ≡ texts ++ map (λ entry. entry.1) (entries_from number rest)

pub texts-start : (bytes : List ℕ) → TextsSoFar bytes [] bytes
texts-start bytes = record { number = 1; same = refl }

pub texts-pass : (bytes rest line others text : List ℕ) (texts : List (List ℕ)) → TextsSoFar bytes texts rest
    → line ≡ before_first is_line_feed rest → others ≡ after_first is_line_feed rest → text ≡ text_of line → false ≡ is_entry text
    → TextsSoFar bytes texts others
texts-pass bytes rest line others text texts so_far is_line is_others is no_entry =
    let same : entries_from so_far.number rest ≡ entries_from (so_far.number + 1) others =
    split so_far.number rest line others is_line is_others ∙ ap (λ (es : List Entry). es ++ entries_from (so_far.number + 1) others) (own_none so_far.number line text is no_entry) in
    record { number = so_far.number + 1; same = so_far.same ∙ ap (λ (es : List Entry). texts ++ map (λ (e : Entry). e.1) es) same }

pub texts-entry : (bytes rest line others text : List ℕ) (texts more : List (List ℕ)) → TextsSoFar bytes texts rest
    → line ≡ before_first is_line_feed rest → others ≡ after_first is_line_feed rest → text ≡ text_of line → true ≡ is_entry text
    → more ≡ texts ++ text ∷ [] → TextsSoFar bytes more others
texts-entry bytes rest line others text texts more so_far is_line is_others is entry added =
    let same = both so_far.number rest line others text is_line is_others is entry in
    let left = map (λ (e : Entry). e.1) (entries_from (so_far.number + 1) others) in
    record {
      number = so_far.number + 1;
      same =
          so_far.same ∙ ap (λ (es : List Entry). texts ++ map (λ (e : Entry). e.1) es) same
          ∙ sym (append_assoc texts (text ∷ []) left) ∙ ap (λ (ts : List (List ℕ)). ts ++ left) (sym added);
    }

pub texts-end : (bytes : List ℕ) (texts : List (List ℕ)) → TextsSoFar bytes texts [] → texts ≡ patterns_in bytes
texts-end bytes texts so_far = sym (so_far.same ∙ append-nil texts)
