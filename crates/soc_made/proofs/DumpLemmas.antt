-- Fields at their places.
use Rattle.std.proofs.Common.{◌≡◌, ℕ, ◌-◌, ◌≤◌, List, [], ◌++◌, length, take, replicate, ap, ap₂, ◌∙◌, arith}
use Rattle.std.proofs.lemmas.List.{take_all}
use Rattle.soc_made.specs.Dump.{padded, laid, dump, dump_size, header_fields, directory_fields, system_fields, module_fields, exception_fields, thread_fields, name_fields, context_fields}

-- a list that was made longer by zeros
pub padded-resized : (front now : List ℕ) (place len size : ℕ) → len ≡ length front → len ≤ size → size - len ≡ place - len
    → now ≡ take size front ++ replicate (size - len) 0 → now ≡ padded front place
unfolding padded
padded-resized front now place len size is enough more made =
    let all : length front ≤ size = omega arith in
    let zeros : size - len ≡ place - length front = more ∙ ap (λ (n : ℕ). place - n) is in
    made ∙ ap₂ (λ (a b : List ℕ). a ++ b) (take_all size front all) (ap (λ (n : ℕ). replicate n 0) zeros)

-- the parts, one behind the other
pub dump-parts : (digit : ℕ) (empty header directory system modules exception threads name context whole : List ℕ) → empty ≡ [] → header ≡ laid empty header_fields
    → directory ≡ laid header directory_fields → system ≡ laid directory system_fields → modules ≡ laid system module_fields → exception ≡ laid modules exception_fields
    → threads ≡ laid exception thread_fields → name ≡ laid threads (name_fields digit) → context ≡ laid name context_fields → whole ≡ padded context dump_size → whole ≡ dump digit
unfolding dump
dump-parts digit empty header directory system modules exception threads name context whole e h d s m x t n c w =
    w ∙ ap (λ (l : List ℕ). padded l dump_size) (c ∙ ap (λ (l : List ℕ). laid l context_fields) (n ∙ ap (λ (l : List ℕ). laid l (name_fields digit))
    (t ∙ ap (λ (l : List ℕ). laid l thread_fields) (x ∙ ap (λ (l : List ℕ). laid l exception_fields) (m ∙ ap (λ (l : List ℕ). laid l module_fields)
    (s ∙ ap (λ (l : List ℕ). laid l system_fields) (d ∙ ap (λ (l : List ℕ). laid l directory_fields) (h ∙ ap (λ (l : List ℕ). laid l header_fields) e))))))))
