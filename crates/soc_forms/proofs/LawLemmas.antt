-- That a message is one submission, or none for one reason.
use Rattle.std.proofs.Common.{◌≡◌, ◌⊎◌, true, ℕ, List, [], ◌∷◌, length, filter, sym, refl, ap, ◌∙◌, subst, arith, inl, inr, Option, None, Some, codes}
use Rattle.serde_json.specs.Data.{Members, object}
use Rattle.soc_multipart.specs.declared.parts.PartsError.{PartsError}
use Rattle.soc_multipart.specs.declared.parts.PartsError.TheVariants as fault
use Rattle.soc_forms.specs.declared.reasons.Reason.{Reason}
use Rattle.soc_forms.specs.declared.reasons.Reason.TheVariants.{ContentEncoding, NoContentType, WrongContentType, NoBoundary, NoFirst, BadPartHead, NoClose, TooManyParts, BadExtra, ExtraAndPlain, TooManyAnnotations, NoAnnotations, LongProduct}
use Rattle.soc_multipart.specs.Params.{lower, value_of}
use Rattle.soc_forms.specs.FormLines.{HasOneType, HasBoundary, AreFormLines, LinesFault, params_of, media_of}
use Rattle.soc_forms.specs.Extras.{IsExtra, with_members}
use Rattle.soc_forms.specs.Fields.{FieldTexts, no_fields, is_extra, is_plain}
use Rattle.soc_multipart.specs.Parts.{PartText, Cut, CutFault}
use Rattle.soc_forms.specs.Submissions.{SubmissionText, SaysFields, HasBadExtra, HasFieldsFault, fields_fault, IsSentId, SaysSubmission, SaysFault, BodyFault, SubmissionFault, SubmissionOf, IsOneSubmission}
use Rattle.soc_multipart.proofs.CutLemmas.{cut_once, fault_not_cut, fault_once}
use Rattle.soc_multipart.proofs.DispositionLemmas.{params_once}

some_same : (v w : List ℕ) → Some v ≡ Some w → v ≡ w
some_same v w e = cc

one_pair : (p q : List ℕ × List ℕ) → ◌≡◌ {A = List (List ℕ × List ℕ)} (p ∷ []) (q ∷ []) → p ≡ q
one_pair p q e = cc

pub type_once : (encoding : Option (List ℕ)) (kinds : List (List ℕ × List ℕ)) (v w : List ℕ) → HasOneType encoding kinds v → HasOneType encoding kinds w → v ≡ w
type_once encoding kinds v w a b = ap (λ (p : List ℕ × List ℕ). p.1) (one_pair (a.name, v) (b.name, w) (sym a.one ∙ b.one))

boundary_once : (value b c : List ℕ) → HasBoundary value b → HasBoundary value c → b ≡ c
boundary_once value b c h k =
    some_same b c (sym h.named ∙ (ap (value_of (codes "boundary")) (params_once true (params_of value) h.params k.params h.in_order k.in_order) ∙ k.named))

pub lines_once : (encoding : Option (List ℕ)) (kinds : List (List ℕ × List ℕ)) (b c : List ℕ) → AreFormLines encoding kinds b → AreFormLines encoding kinds c → b ≡ c
lines_once encoding kinds b c h k =
    boundary_once k.value b c (subst (λ (x : List ℕ). HasBoundary x b) (type_once encoding kinds h.value k.value h.lines k.lines) h.has) k.has

object_same : (ms ns : Members) → Some (object ms) ≡ Some (object ns) → ms ≡ ns
object_same ms ns e = cc

extra_once : (content : List ℕ) (ms ns : Members) → IsExtra content ms → IsExtra content ns → ms ≡ ns
extra_once content ms ns a b = object_same ms ns (sym a.reads ∙ b.reads)

one_part : (p q : PartText) → ◌≡◌ {A = List PartText} (p ∷ []) (q ∷ []) → p ≡ q
one_part p q e = cc

nil_not_one : (p : PartText) → ¬ (◌≡◌ {A = List PartText} [] (p ∷ []))
nil_not_one p e = cc

pub fields_once : (parts : List PartText) (f g : FieldTexts) → SaysFields parts f → SaysFields parts g → f ≡ g
fields_once parts f g (inl (a, e)) (inl (b, h)) = e ∙ sym h
fields_once parts f g (inl (a, e)) (inr (q, ns, b, k, l, h)) = absurd (nil_not_one q (sym a ∙ b))
fields_once parts f g (inr (p, ms, a, i, j, e)) (inl (b, h)) = absurd (nil_not_one p (sym b ∙ a))
fields_once parts f g (inr (p, ms, a, i, j, e)) (inr (q, ns, b, k, l, h)) =
    let same : p ≡ q = one_part p q (sym a ∙ b) in
    let members : ms ≡ ns = extra_once q.content ms ns (subst (λ (x : PartText). IsExtra x.content ms) same i) k in
    e ∙ (ap (with_members no_fields) members ∙ sym h)

sent_once : (sent a b : Option (List ℕ)) → IsSentId sent a → IsSentId sent b → a ≡ b
sent_once None a b h k = h ∙ sym k
sent_once (Some t) None None h k = refl
sent_once (Some t) None (Some v) h k = absurd (h k.0)
sent_once (Some t) (Some v) None h k = absurd (k h.0)
sent_once (Some t) (Some v) (Some w) h k = ap Some (h.1 ∙ sym k.1)

said_same : (s t : SubmissionText) → s.sent_id ≡ t.sent_id → s.annotations ≡ t.annotations → s.dumps ≡ t.dumps → s ≡ t
said_same s t e f g =
    ap (λ (x : Option (List ℕ)). let r : SubmissionText = record { sent_id = x; annotations = s.annotations; dumps = s.dumps } in r) e
    ∙ (ap (λ (x : List (List ℕ × List ℕ)). let r : SubmissionText = record { sent_id = t.sent_id; annotations = x; dumps = s.dumps } in r) f
    ∙ ap (λ (x : List (List ℕ × List ℕ)). let r : SubmissionText = record { sent_id = t.sent_id; annotations = t.annotations; dumps = x } in r) g)

pub says_once : (parts : List PartText) (s t : SubmissionText) → SaysSubmission parts s → SaysSubmission parts t → s ≡ t
says_once parts s t a b =
    let fields : a.fields ≡ b.fields = fields_once parts a.fields b.fields a.says b.says in
    said_same s t
    (sent_once b.fields.sent s.sent_id t.sent_id (subst (λ (x : FieldTexts). IsSentId x.sent s.sent_id) fields a.sent) b.sent)
    (a.annotations_are ∙ (ap (λ (x : FieldTexts). x.annotations) fields ∙ sym b.annotations_are))
    (a.dumps_are ∙ sym b.dumps_are)

pub submission_once : (encoding : Option (List ℕ)) (kinds : List (List ℕ × List ℕ)) (body : List ℕ) (s t : SubmissionText) → SubmissionOf encoding kinds body s → SubmissionOf encoding kinds body t → s ≡ t
submission_once encoding kinds body s t a b =
    let boundaries : a.boundary ≡ b.boundary = lines_once encoding kinds a.boundary b.boundary a.lines b.lines in
    let parts : a.parts ≡ b.parts = cut_once b.boundary body a.parts b.parts (subst (λ (x : List ℕ). Cut x body a.parts) boundaries a.cut) b.cut in
    says_once b.parts s t (subst (λ (x : List PartText). SaysSubmission x s) parts a.says) b.says

-- a message that is a submission has no reason to be refused
pub lines_not_refused : (encoding : Option (List ℕ)) (kinds : List (List ℕ × List ℕ)) (b : List ℕ) (reason : Reason) → AreFormLines encoding kinds b → ¬ (LinesFault encoding kinds reason)
lines_not_refused encoding kinds b ContentEncoding l f = f l.lines.plain
lines_not_refused encoding kinds b NoContentType l f = f.1 (ap length l.lines.one)
lines_not_refused encoding kinds b WrongContentType l (v, t, bad) =
    bad (ap (λ (x : List ℕ). lower (media_of x)) (type_once encoding kinds v l.value t l.lines) ∙ l.media)
lines_not_refused encoding kinds b NoBoundary l (v, t, m, none) =
    none b (subst (λ (x : List ℕ). HasBoundary x b) (type_once encoding kinds l.value v l.lines t) l.has)
lines_not_refused encoding kinds b _ l f = f

nil_not_two : (p q : PartText) (more : List PartText) → ¬ (◌≡◌ {A = List PartText} [] (p ∷ q ∷ more))
nil_not_two p q more e = cc

one_not_two : (x p q : PartText) (more : List PartText) → ¬ (◌≡◌ {A = List PartText} (x ∷ []) (p ∷ q ∷ more))
one_not_two x p q more e = cc

good_extra : (parts : List PartText) (fields : FieldTexts) → SaysFields parts fields → ¬ (HasBadExtra parts)
good_extra parts fields (inl (a, e)) (inl (p, q, more, b)) = nil_not_two p q more (sym a ∙ b)
good_extra parts fields (inl (a, e)) (inr (p, b, none)) = nil_not_one p (sym a ∙ b)
good_extra parts fields (inr (x, ms, a, i, j, e)) (inl (p, q, more, b)) = one_not_two x p q more (sym a ∙ b)
good_extra parts fields (inr (x, ms, a, i, j, e)) (inr (p, b, none)) =
    none ms (subst (λ (y : PartText). IsExtra y.content ms) (one_part x p (sym a ∙ b)) i)

not_both : (parts : List PartText) (fields : FieldTexts) (p : PartText) → SaysFields parts fields → filter is_extra parts ≡ p ∷ [] → filter is_plain parts ≡ []
not_both parts fields p (inl (a, e)) b = absurd (nil_not_one p (sym a ∙ b))
not_both parts fields p (inr (x, ms, a, i, j, e)) b = j

none_not_some : (reason : Reason) → ¬ (◌≡◌ {A = Option Reason} None (Some reason))
none_not_some reason e = cc

faultless : (parts : List PartText) (s : SubmissionText) (reason : Reason) → SaysSubmission parts s → ¬ (HasFieldsFault parts reason)
faultless parts s reason h (fields, says, is) =
    none_not_some reason (sym h.good ∙ (ap fields_fault (fields_once parts h.fields fields h.says says) ∙ is))

pub says_not_refused : (parts : List PartText) (s : SubmissionText) (reason : Reason) → SaysSubmission parts s → ¬ (SaysFault parts reason)
says_not_refused parts s BadExtra h f = good_extra parts h.fields h.says f
says_not_refused parts s ExtraAndPlain h (p, ms, a, i, some) = some (not_both parts h.fields p h.says a)
says_not_refused parts s TooManyAnnotations h f = faultless parts s TooManyAnnotations h f
says_not_refused parts s NoAnnotations h f = faultless parts s NoAnnotations h f
says_not_refused parts s LongProduct h f = faultless parts s LongProduct h f
says_not_refused parts s _ h f = f

said_apart : (b body : List ℕ) (parts : List PartText) (s : SubmissionText) (reason : Reason) → Cut b body parts → SaysSubmission parts s
    → ¬ ((ps : List PartText) × Cut b body ps × SaysFault ps reason)
said_apart b body parts s reason c h (ps, d, f) =
    says_not_refused parts s reason h (subst (λ (x : List PartText). SaysFault x reason) (cut_once b body ps parts d c) f)

pub body_not_refused : (b body : List ℕ) (parts : List PartText) (s : SubmissionText) (reason : Reason) → Cut b body parts → SaysSubmission parts s → ¬ (BodyFault b body reason)
body_not_refused b body parts s NoFirst c h f = fault_not_cut b body parts fault.NoFirst c f
body_not_refused b body parts s BadPartHead c h (n, f) = fault_not_cut b body parts (fault.BadPartHead n) c f
body_not_refused b body parts s NoClose c h f = fault_not_cut b body parts fault.NoClose c f
body_not_refused b body parts s TooManyParts c h f = fault_not_cut b body parts fault.TooManyParts c f
body_not_refused b body parts s reason c h f = said_apart b body parts s reason c h f

pub not_refused : (encoding : Option (List ℕ)) (kinds : List (List ℕ × List ℕ)) (body : List ℕ) (s : SubmissionText) (reason : Reason) → SubmissionOf encoding kinds body s → ¬ (SubmissionFault encoding kinds body reason)
not_refused encoding kinds body s reason a (inl f) = lines_not_refused encoding kinds a.boundary reason a.lines f
not_refused encoding kinds body s reason a (inr (b, lines, f)) =
    body_not_refused a.boundary body a.parts s reason a.cut a.says
    (subst (λ (x : List ℕ). BodyFault x body reason) (lines_once encoding kinds b a.boundary lines a.lines) f)

-- ---- one reason

-- what a fault of the lines is
abbrev LinesCase : Option (List ℕ) → List (List ℕ × List ℕ) → Reason → Type 0
LinesCase encoding kinds reason =
    ((reason ≡ ContentEncoding) × LinesFault encoding kinds ContentEncoding)
    ⊎ (((reason ≡ NoContentType) × LinesFault encoding kinds NoContentType)
    ⊎ (((reason ≡ WrongContentType) × LinesFault encoding kinds WrongContentType)
    ⊎ ((reason ≡ NoBoundary) × LinesFault encoding kinds NoBoundary)))

lines_case : (encoding : Option (List ℕ)) (kinds : List (List ℕ × List ℕ)) (reason : Reason) → LinesFault encoding kinds reason → LinesCase encoding kinds reason
lines_case encoding kinds ContentEncoding f = inl (refl, f)
lines_case encoding kinds NoContentType f = inr (inl (refl, f))
lines_case encoding kinds WrongContentType f = inr (inr (inl (refl, f)))
lines_case encoding kinds NoBoundary f = inr (inr (inr (refl, f)))
lines_case encoding kinds _ f = absurd f

media_apart : (encoding : Option (List ℕ)) (kinds : List (List ℕ × List ℕ)) → LinesFault encoding kinds WrongContentType → ¬ (LinesFault encoding kinds NoBoundary)
media_apart encoding kinds (v, t, bad) (w, u, good, none) =
    bad (ap (λ (x : List ℕ). lower (media_of x)) (type_once encoding kinds v w t u) ∙ good)

lines_reason_once : (encoding : Option (List ℕ)) (kinds : List (List ℕ × List ℕ)) (r s : Reason) → LinesCase encoding kinds r → LinesCase encoding kinds s → r ≡ s
lines_reason_once encoding kinds r s (inl (e, f)) (inl (h, g)) = e ∙ sym h
lines_reason_once encoding kinds r s (inl (e, f)) (inr (inl (h, g))) = absurd (f g.0)
lines_reason_once encoding kinds r s (inl (e, f)) (inr (inr (inl (h, g)))) = absurd (f g.1.plain)
lines_reason_once encoding kinds r s (inl (e, f)) (inr (inr (inr (h, g)))) = absurd (f g.1.plain)
lines_reason_once encoding kinds r s (inr (inl (e, f))) (inl (h, g)) = absurd (g f.0)
lines_reason_once encoding kinds r s (inr (inl (e, f))) (inr (inl (h, g))) = e ∙ sym h
lines_reason_once encoding kinds r s (inr (inl (e, f))) (inr (inr (inl (h, g)))) = absurd (f.1 (ap length g.1.one))
lines_reason_once encoding kinds r s (inr (inl (e, f))) (inr (inr (inr (h, g)))) = absurd (f.1 (ap length g.1.one))
lines_reason_once encoding kinds r s (inr (inr (inl (e, f)))) (inl (h, g)) = absurd (g f.1.plain)
lines_reason_once encoding kinds r s (inr (inr (inl (e, f)))) (inr (inl (h, g))) = absurd (g.1 (ap length f.1.one))
lines_reason_once encoding kinds r s (inr (inr (inl (e, f)))) (inr (inr (inl (h, g)))) = e ∙ sym h
lines_reason_once encoding kinds r s (inr (inr (inl (e, f)))) (inr (inr (inr (h, g)))) = absurd (media_apart encoding kinds f g)
lines_reason_once encoding kinds r s (inr (inr (inr (e, f)))) (inl (h, g)) = absurd (g f.1.plain)
lines_reason_once encoding kinds r s (inr (inr (inr (e, f)))) (inr (inl (h, g))) = absurd (g.1 (ap length f.1.one))
lines_reason_once encoding kinds r s (inr (inr (inr (e, f)))) (inr (inr (inl (h, g)))) = absurd (media_apart encoding kinds g f)
lines_reason_once encoding kinds r s (inr (inr (inr (e, f)))) (inr (inr (inr (h, g)))) = e ∙ sym h

-- what a fault of the parts is
abbrev SaysCase : List PartText → Reason → Type 0
SaysCase parts reason =
    ((reason ≡ BadExtra) × HasBadExtra parts) ⊎ (((reason ≡ ExtraAndPlain) × SaysFault parts ExtraAndPlain) ⊎ HasFieldsFault parts reason)

says_case : (parts : List PartText) (reason : Reason) → SaysFault parts reason → SaysCase parts reason
says_case parts BadExtra f = inl (refl, f)
says_case parts ExtraAndPlain f = inr (inl (refl, f))
says_case parts TooManyAnnotations f = inr (inr f)
says_case parts NoAnnotations f = inr (inr f)
says_case parts LongProduct f = inr (inr f)
says_case parts _ f = absurd f

bad_or_mixed : (parts : List PartText) → HasBadExtra parts → ¬ (SaysFault parts ExtraAndPlain)
bad_or_mixed parts (inl (p, q, more, b)) (x, ms, a, i, some) = one_not_two x p q more (sym a ∙ b)
bad_or_mixed parts (inr (p, b, none)) (x, ms, a, i, some) = none ms (subst (λ (y : PartText). IsExtra y.content ms) (one_part x p (sym a ∙ b)) i)

mixed_or_said : (parts : List PartText) (fields : FieldTexts) → SaysFault parts ExtraAndPlain → ¬ (SaysFields parts fields)
mixed_or_said parts fields (x, ms, a, i, some) says = some (not_both parts fields x says a)

same_reason : (r s : Reason) → Some r ≡ Some s → r ≡ s
same_reason r s e = cc

says_reason_once : (parts : List PartText) (r s : Reason) → SaysCase parts r → SaysCase parts s → r ≡ s
says_reason_once parts r s (inl (e, f)) (inl (h, g)) = e ∙ sym h
says_reason_once parts r s (inl (e, f)) (inr (inl (h, g))) = absurd (bad_or_mixed parts f g)
says_reason_once parts r s (inl (e, f)) (inr (inr g)) = absurd (good_extra parts g.0 g.1 f)
says_reason_once parts r s (inr (inl (e, f))) (inl (h, g)) = absurd (bad_or_mixed parts g f)
says_reason_once parts r s (inr (inl (e, f))) (inr (inl (h, g))) = e ∙ sym h
says_reason_once parts r s (inr (inl (e, f))) (inr (inr g)) = absurd (mixed_or_said parts g.0 f g.1)
says_reason_once parts r s (inr (inr f)) (inl (h, g)) = absurd (good_extra parts f.0 f.1 g)
says_reason_once parts r s (inr (inr f)) (inr (inl (h, g))) = absurd (mixed_or_said parts f.0 g f.1)
says_reason_once parts r s (inr (inr f)) (inr (inr g)) =
    same_reason r s (sym f.2 ∙ (ap fields_fault (fields_once parts f.0 g.0 f.1 g.1) ∙ g.2))

-- the reason that a fault of the cut is; one that is none stands for a boundary that isn't good
reason_of : PartsError → Reason
reason_of fault.NoFirst = NoFirst
reason_of (fault.BadPartHead part) = BadPartHead
reason_of fault.NoClose = NoClose
reason_of fault.TooManyParts = TooManyParts
reason_of fault.BadBoundary = NoBoundary
reason_of fault.NoMemory = NoBoundary

-- what a fault of the body is: of its cut, or of what its parts say
abbrev BodyCase : List ℕ → List ℕ → Reason → Type 0
BodyCase b body reason =
    ((f : PartsError) × CutFault b body f × (reason ≡ reason_of f)) ⊎ ((parts : List PartText) × Cut b body parts × SaysFault parts reason)

body_case : (b body : List ℕ) (reason : Reason) → BodyFault b body reason → BodyCase b body reason
unfolding reason_of
body_case b body NoFirst f = inl (fault.NoFirst, f, refl)
body_case b body BadPartHead (n, f) = inl (fault.BadPartHead n, f, refl)
body_case b body NoClose f = inl (fault.NoClose, f, refl)
body_case b body TooManyParts f = inl (fault.TooManyParts, f, refl)
body_case b body reason f = inr f

body_reason_once : (b body : List ℕ) (r s : Reason) → BodyCase b body r → BodyCase b body s → r ≡ s
body_reason_once b body r s (inl (f, is, e)) (inl (g, is', h)) = e ∙ (ap reason_of (fault_once b body f g is is') ∙ sym h)
body_reason_once b body r s (inl (f, is, e)) (inr (parts, cut, says)) = absurd (fault_not_cut b body parts f cut is)
body_reason_once b body r s (inr (parts, cut, says)) (inl (f, is, e)) = absurd (fault_not_cut b body parts f cut is)
body_reason_once b body r s (inr (parts, cut, says)) (inr (parts', cut', says')) =
    says_reason_once parts' r s (says_case parts' r (subst (λ (x : List PartText). SaysFault x r) (cut_once b body parts parts' cut cut') says)) (says_case parts' s says')

pub reason_once : (encoding : Option (List ℕ)) (kinds : List (List ℕ × List ℕ)) (body : List ℕ) (r s : Reason) → SubmissionFault encoding kinds body r → SubmissionFault encoding kinds body s → r ≡ s
reason_once encoding kinds body r s (inl f) (inl g) = lines_reason_once encoding kinds r s (lines_case encoding kinds r f) (lines_case encoding kinds s g)
reason_once encoding kinds body r s (inl f) (inr (b, lines, g)) = absurd (lines_not_refused encoding kinds b r lines f)
reason_once encoding kinds body r s (inr (b, lines, f)) (inl g) = absurd (lines_not_refused encoding kinds b s lines g)
reason_once encoding kinds body r s (inr (b, lines, f)) (inr (c, lines', g)) =
    body_reason_once c body r s (body_case c body r (subst (λ (x : List ℕ). BodyFault x body r) (lines_once encoding kinds b c lines lines') f)) (body_case c body s g)

pub one_submission : IsOneSubmission
one_submission = record { once = submission_once; not_refused = not_refused; one_reason = reason_once }
