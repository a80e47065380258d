-- The summary of frames, one frame more.
use Rattle.std.proofs.Common.{◌≡◌, ℕ, Bool, true, false, cond, List, [], ◌∷◌, ◌++◌, length, None, refl, sym, ap, ◌∙◌, arith, append_assoc}
use Rattle.std.specs.Prelude.{◌||◌, nat_lt}
use Rattle.std.specs.List.{last_or}
use Rattle.std.specs.Str.{bytes_eq}
use Rattle.std.proofs.lemmas.Bool.Decides.{nat_tests}
use Rattle.std.proofs.lemmas.List.{length_push}
use Rattle.soc_base.proofs.Folk.{or_true, or_false}
use Rattle.soc_siglists.specs.Lists.{ListTexts, is_irrelevant, is_prefix, is_sentinel}
use Rattle.soc_sigrules.specs.Chars.{first_chars, joined}
use Rattle.soc_sigrules.specs.Stacks.{kept_of, separator, proto_of, stack_texts}
use Rattle.soc_sigrules.specs.Rules.{watchdog}
use Rattle.soc_sigrules.specs.Signatures.{StackState, stack_state, Summary, summary_of}
use Rattle.soc_sigrules.specs.inner.Fronts.{no_texts, with_text}
use Rattle.soc_sigrules.specs.inner.Steps.{all_with, begins_here, ends, is_repeated, proto_with, texts_before, texts_with, with_frame}
use Rattle.soc_sigrules.proofs.CharLemmas.{first_chars-again}
use Rattle.soc_sigrules.proofs.FrontLemmas.{state-push}
use Rattle.soc_sigrules.proofs.JoinLemmas.{push_first, push_later}
use Rattle.soc_sigrules.proofs.StackLemmas.{stack-push, any-push}

proto-push : (frames : List (List ℕ)) (frame : List ℕ) → proto_of (frames ++ frame ∷ []) ≡ proto_with (nat_lt 0 (length frames)) (proto_of frames) frame
proto-push [] frame = ap (first_chars 2000) (push_first separator [] frame refl)
proto-push (first ∷ frames) frame =
    let all = first ∷ frames in
    let some : nat_lt 0 (length all) ≡ true = grind (arith, nat_tests) in
    ap (first_chars 2000) (push_later separator all frame (omega arith) ∙ append_assoc (joined separator all) separator frame)
    ∙ sym (first_chars-again 2000 (joined separator all) (separator ++ frame) refl)
    ∙ ap (λ t. first_chars 2000 (proto_of all ++ cond t (separator ++ frame) frame)) (sym some)

same_summary : (lists : ListTexts) (has has' watched watched' sentinel sentinel' : Bool) (proto proto' : List ℕ) (texts texts' : StackState) → has ≡ has' → proto ≡ proto' → watched ≡ watched'
    → sentinel ≡ sentinel' → texts ≡ texts'
    → ◌≡◌ {A = Summary} (record { lists = lists; has_frames = has; proto = proto; watched = watched; has_sentinel = sentinel; texts = texts })
    (record { lists = lists; has_frames = has'; proto = proto'; watched = watched'; has_sentinel = sentinel'; texts = texts' })
same_summary lists has has' watched watched' sentinel sentinel' proto proto' texts texts' e f g h i = cc

-- what is held of the texts, with one frame more
state-cond : (b : Bool) (lists : ListTexts) (texts : List (List ℕ)) (text : List ℕ)
    → stack_state lists (cond b texts (texts ++ text ∷ [])) ≡ cond b (stack_state lists texts) (with_text (stack_state lists texts) text (is_prefix lists text))
state-cond true lists texts text = refl
state-cond false lists texts text = state-push lists texts text

state-with : (lists : ListTexts) (texts : List (List ℕ)) (frame : List ℕ) → stack_state lists (all_with lists texts frame) ≡ texts_with lists (stack_state lists texts) frame
state-with lists texts frame =
    state-cond (ends lists texts || (is_irrelevant lists frame || is_repeated (last_or None texts) frame)) lists texts (kept_of frame).text

state-before : (b : Bool) (lists : ListTexts) (texts : List (List ℕ)) → stack_state lists (cond b [] texts) ≡ cond b no_texts (stack_state lists texts)
state-before true lists texts = refl
state-before false lists texts = refl

texts-push : (lists : ListTexts) (frames : List (List ℕ)) (frame : List ℕ)
    → stack_state lists (stack_texts lists (frames ++ frame ∷ [])) ≡ texts_with lists (texts_before (summary_of lists frames) frame) frame
texts-push lists frames frame =
    let restarts = begins_here (summary_of lists frames) frame in
    let texts = stack_texts lists frames in
    ap (stack_state lists) (stack-push lists frames frame)
    ∙ state-with lists (cond restarts [] texts) frame
    ∙ ap (λ (s : StackState). texts_with lists s frame) (state-before restarts lists texts)

pub summary-push : (lists : ListTexts) (frames : List (List ℕ)) (frame : List ℕ) → summary_of lists (frames ++ frame ∷ []) ≡ with_frame (summary_of lists frames) frame
summary-push lists frames frame =
    let some : nat_lt 0 (length (frames ++ frame ∷ [])) ≡ true = grind (arith, nat_tests, length_push {X = List ℕ}) in
    same_summary lists _ _ _ _ _ _ _ _ _ _ some (proto-push frames frame) (any-push (λ f. bytes_eq f watchdog) frames frame) (any-push (is_sentinel lists) frames frame)
    (texts-push lists frames frame)

-- for any frames that gave the summary
pub frames-push : (old new : Summary) (frame : List ℕ) → new ≡ with_frame old frame → (lists : ListTexts) (frames : List (List ℕ)) → old ≡ summary_of lists frames
    → new ≡ summary_of lists (frames ++ frame ∷ [])
frames-push old new frame step lists frames is = step ∙ ap (λ (s : Summary). with_frame s frame) is ∙ sym (summary-push lists frames frame)

-- a frame that isn't the watchdog's
pub unwatched : (summary : Summary) (is_watchdog : Bool) → false ≡ is_watchdog → summary ≡ record summary { watched = summary.watched || is_watchdog }
unwatched summary is_watchdog is =
    ap (λ w. record summary { watched = w }) (sym (or_false summary.watched)) ∙ ap (λ t. record summary { watched = summary.watched || t }) is

-- the watchdog's frame
pub watched : (summary : Summary) (is_watchdog : Bool) → true ≡ is_watchdog → record summary { watched = true } ≡ record summary { watched = summary.watched || is_watchdog }
watched summary is_watchdog is =
    ap (λ w. record summary { watched = w }) (sym (or_true summary.watched)) ∙ ap (λ t. record summary { watched = summary.watched || t }) is
