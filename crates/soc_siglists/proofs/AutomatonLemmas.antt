-- Automata accept a front of just the frames that their patterns match.
use Rattle.std.proofs.Common.{◌≡◌, ℕ, Bool, true, false, List, Option, None, Some, IsSome, is_some, option_map, length, refl, sym, ap, ◌∙◌, subst, true≢false, arith}
use Rattle.std.specs.Prelude.{IfSome}
use Rattle.std.proofs.lemmas.Bool.{false_from_ne_true}
use Rattle.regex_syntax.specs.Grammar.{Names}
use Rattle.regex_hir.specs.declared.hir.Hir.{Hir}
use Rattle.regex_hir.specs.Find.{Match, first_between}
use Rattle.regex_hir.specs.Meaning.{meaning}
use Rattle.regex_hir.specs.Re.{Re, Rest, Trace, accept, attempt}
use Rattle.regex_hir.proofs.AttemptLemmas.{attempt_sound, attempt_complete}
use Rattle.regex_hir.proofs.FindLemmas.{first_between_here, first_between_none}
use Rattle.regex_compile.specs.Implements.{Implements}
use Rattle.regex_dfa.specs.Search.{end_from}
use Rattle.regex_nfa.specs.Run.{run}
use Rattle.regex_nfa.specs.declared.nfa.Nfa.{Nfa}
use Rattle.regex_vm.specs.Found.{first_match, span}
use Rattle.regex.specs.Patterns.{Reads, default_config, find_str}
use Rattle.soc_siglists.specs.Patterns.{matches_start}
use Rattle.soc_siglists.specs.inner.Automata.{RunsAs, accepts}
use Rattle.soc_siglists.specs.inner.Compiled.{MatchesAs}
use Rattle.soc_siglists.specs.inner.Literals.{IsFrame}
use Rattle.soc_siglists.proofs.PatternLemmas.{begun_matches, matches_begin, read_matches, starts}

span_is : (m : Option Match) → is_some m ≡ is_some (option_map span m)
span_is None = refl
span_is (Some m) = refl

some_end : (o : Option Trace) → IsSome (option_map (λ t. t.end) o) → true ≡ is_some o
some_end None found = absurd (true≢false (sym found))
some_end (Some t) found = refl

no_end : (o : Option Trace) → option_map (λ t. t.end) o ≡ None → false ≡ is_some o
no_end None none = refl
no_end (Some t) none = absurd cc

-- a search that may start at the first place alone finds what there is
from_start : (at : Rest) (o : Option Trace) → at 0 ≡ o → is_some (option_map span (first_between at 0 0)) ≡ is_some o
from_start at None e =
    ap (λ m. is_some (option_map span m)) (first_between_none at 0 0 (λ i p q. let same : 0 ≡ i = omega arith in subst (λ n. at n ≡ None) same e))
from_start at (Some t) e = ap (λ m. is_some (option_map span m)) (first_between_here at 0 0 t (omega arith) e)

pub found_accepts : (nfa : Nfa) (text : List ℕ) (found : Option (ℕ × ℕ)) → found ≡ option_map span (first_match nfa text (length text) 0 0) → is_some found ≡ accepts nfa text
found_accepts nfa text found is = ap is_some is ∙ from_start _ _ refl

-- the same of a search that only tells whether it finds something
pub is_match_accepts : (nfa : Nfa) (text : List ℕ) → is_some (first_match nfa text (length text) 0 0) ≡ accepts nfa text
is_match_accepts nfa text = span_is _ ∙ from_start _ _ refl

-- the end of a match, and that there is none
pub ends_accepts : (nfa : Nfa) (text : List ℕ) → IsSome (end_from nfa text (length text) nfa.start 0) → true ≡ accepts nfa text
ends_accepts nfa text found = some_end (run nfa text (length text) nfa.start 0) found

pub none_accepts : (nfa : Nfa) (text : List ℕ) → end_from nfa text (length text) nfa.start 0 ≡ None → false ≡ accepts nfa text
none_accepts nfa text none = no_end (run nfa text (length text) nfa.start 0) none

-- an attempt at the start tells whether a match begins there
attempted : (text frame : List ℕ) (re : Re) (o : Option Trace) → IsFrame frame → MatchesAs text re → attempt frame re accept 0 ≡ o → is_some o ≡ matches_start frame text
attempted text frame re None is same e =
    sym (false_from_ne_true _ (λ h.
    let found = begun_matches re frame (find_str re frame 0) refl (starts text frame re is.bytes same ∙ h) in
    true≢false (sym (subst IsSome e (attempt_complete frame re accept 0 found.0 found.1 refl)))))
attempted text frame re (Some t) is same e =
    let found = attempt_sound frame re accept 0 t e in
    sym (matches_begin re frame found.at is found.leads) ∙ starts text frame re is.bytes same

-- the automaton of the grammar's own tree
pub runs_as : (text : List ℕ) (hir : Hir) (names : Names) (nfa : Nfa) → Reads default_config text hir names → Implements nfa (meaning hir) → RunsAs text nfa
runs_as text hir names nfa reads implements frame is =
    ap is_some (implements frame 0) ∙ attempted text frame (meaning hir) _ is (read_matches text hir names reads) refl

-- what an automaton answers is what its pattern does
pub asked_of : (found : Option Bool) (nfa : Nfa) (pattern frame : List ℕ) → RunsAs pattern nfa → IsFrame frame → IfSome found (λ is. is ≡ accepts nfa frame)
    → IfSome found (λ is. is ≡ matches_start frame pattern)
asked_of None nfa pattern frame runs whole same = tt
asked_of (Some is) nfa pattern frame runs whole same = same ∙ runs frame whole
