-- One rule after another.
use Rattle.std.proofs.Common.{◌≡◌, ℕ, ◌+◌, ◌<◌, ◌≤◌, Bool, List, [], ◌∷◌, ◌++◌, length, drop, get_or, Option, refl, sym, ap, ◌∙◌}
use Rattle.std.specs.Option.{option_map_or}
use Rattle.std.proofs.lemmas.List.{drop_more, drop_all}
use Rattle.soc_siglists.specs.Lists.{ListTexts}
use Rattle.soc_sigrules.specs.declared.crash.Marked.{Marked}
use Rattle.soc_sigrules.specs.declared.input.SigInput.{SigInput}
use Rattle.soc_sigrules.specs.declared.input.Signature.{Signature}
use Rattle.soc_sigrules.specs.declared.rule.Rule.{Rule}
use Rattle.soc_sigrules.specs.declared.rule.Rule.TheVariants.{OutOfMemory, Abort, Shutdown, ShutdownHang, Ipc, StackOverflow, Hang, BadHardware, Spaces, Cut}
use Rattle.soc_sigrules.specs.Stacks.{proto_of, stack_texts, text_of}
use Rattle.soc_sigrules.specs.Rules.{apply, has_watchdog, noted, note_of, after_rule, after_all, after_rules, rules}
use Rattle.soc_sigrules.specs.Signatures.{StackState, stack_state, signature_of}
use Rattle.soc_sigrules.specs.inner.Fronts.{front_text}
use Rattle.soc_sigrules.proofs.ShowLemmas.{front-same}

all-step : (watched : Bool) (input : SigInput) (so_far : Marked) (rule : Rule) (more : List Rule) → after_all watched input so_far (rule ∷ more) ≡ after_all watched input (after_rule watched input so_far rule) more
unfolding after_all
all-step watched input so_far rule more = refl

all-end : (watched : Bool) (input : SigInput) (so_far : Marked) → after_all watched input so_far [] ≡ so_far
unfolding after_all
all-end watched input so_far = refl

pub rules-more : (watched : Bool) (input : SigInput) (so_far new total : Marked) (items : List Rule) (place : ℕ) (other : Rule) → after_all watched input so_far (drop place items) ≡ total → place < length items
    → new ≡ after_rule watched input so_far (get_or items place other) → after_all watched input new (drop (place + 1) items) ≡ total
rules-more watched input so_far new total items place other same inside is =
    ap (λ (m : Marked). after_all watched input m (drop (place + 1) items)) is
    ∙ sym (all-step watched input so_far (get_or items place other) (drop (place + 1) items))
    ∙ ap (after_all watched input so_far) (sym (drop_more items place other inside))
    ∙ same

pub rules-end : (watched : Bool) (input : SigInput) (so_far total : Marked) (items : List Rule) (place : ℕ) → after_all watched input so_far (drop place items) ≡ total → length items ≤ place
    → so_far ≡ total
rules-end watched input so_far total items place same past =
    sym (all-end watched input so_far) ∙ ap (after_all watched input so_far) (sym (drop_all place items past)) ∙ same

-- no rule looks at the frames
apply-same : (watched : Bool) (input : SigInput) (frames : List (List ℕ)) (rule : Rule) (text : List ℕ) → apply watched input rule text ≡ apply watched (record input { frames = frames }) rule text
apply-same watched input frames OutOfMemory text = refl
apply-same watched input frames Abort text = refl
apply-same watched input frames Shutdown text = refl
apply-same watched input frames ShutdownHang text = refl
apply-same watched input frames Ipc text = refl
apply-same watched input frames StackOverflow text = refl
apply-same watched input frames Hang text = refl
apply-same watched input frames BadHardware text = refl
apply-same watched input frames Spaces text = refl
apply-same watched input frames Cut text = refl

rule-same : (watched : Bool) (input : SigInput) (frames : List (List ℕ)) (so_far : Marked) (rule : Rule) → after_rule watched input so_far rule ≡ after_rule watched (record input { frames = frames }) so_far rule
rule-same watched input frames so_far rule =
    ap (λ (o : Option (List ℕ)). option_map_or (λ text. record { text = text; notes = so_far.notes ++ noted (note_of rule) }) o so_far) (apply-same watched input frames rule so_far.text)

all-same : (watched : Bool) (input : SigInput) (frames : List (List ℕ)) (so_far : Marked) (items : List Rule) → after_all watched input so_far items ≡ after_all watched (record input { frames = frames }) so_far items
unfolding after_all
all-same watched input frames so_far [] = refl
all-same watched input frames so_far (rule ∷ more) =
    ap (λ (m : Marked). after_all watched input m more) (rule-same watched input frames so_far rule)
    ∙ all-same watched input frames (after_rule watched (record input { frames = frames }) so_far rule) more

made : Marked → List ℕ → Signature
made marked proto = record { text = marked.text; proto = proto; notes = marked.notes }

-- the signature by what is held of the texts
pub signed : (lists : ListTexts) (frames : List (List ℕ)) (texts : StackState) (input : SigInput) (watched : Bool) (proto text : List ℕ) (marked : Marked) → watched ≡ has_watchdog frames
    → texts ≡ stack_state lists (stack_texts lists frames) → proto ≡ proto_of frames → text ≡ front_text input.thread_found texts → marked ≡ after_rules watched input text
    → ◌≡◌ {A = Signature} (record { text = marked.text; proto = proto; notes = marked.notes }) (signature_of lists (record input { frames = frames }))
unfolding made
signed lists frames texts input watched proto text marked is_watched is_texts is_proto is_text is_marked =
    let all = text_of input.thread_found (stack_texts lists frames) in
    let reached : marked ≡ after_rules (has_watchdog frames) (record input { frames = frames }) all =
    is_marked ∙ ap (after_rules watched input) (is_text ∙ ap (front_text input.thread_found) is_texts)
    ∙ front-same watched input input.thread_found lists (stack_texts lists frames)
    ∙ ap (λ w. after_rules w input all) is_watched
    ∙ all-same (has_watchdog frames) input frames (record { text = all; notes = [] }) rules in
    ap (λ (m : Marked). made m proto) reached ∙ ap (made (after_rules (has_watchdog frames) (record input { frames = frames }) all)) is_proto
