-- Going through lines and pairs from the front on.
use Rattle.std.proofs.Common.{◌≡◌, ℕ, List, ◌∷◌, ◌++◌, find, Option, Some, Bool, true, false, ◌&&◌, if◌then◌else◌, bytes_eq, refl, sym, ap, subst, ◌∙◌, codes, slice_get}
use Rattle.soc_http.specs.Lines.{encodes, is_encoded, lines_named}
use Rattle.soc_http.specs.Query.{first_value}
use Rattle.soc_http.specs.Request.{Line, is_named, values_of}

-- ---- the lines of one name

-- a line of another name is passed over
pub named-miss : (name : List ℕ) (line : Line) (left rest : List Line) (all : List (List ℕ)) → left ≡ line ∷ rest → is_named name line ≡ false
    → values_of name left ≡ all → values_of name rest ≡ all
named-miss name line left rest all next miss so_far =
    sym (let skip : values_of name (line ∷ rest) ≡ values_of name rest = rw miss refl in skip) ∙ (ap (values_of name) (sym next) ∙ so_far)

-- a line of the name has the first value of what is left
pub named-hit : (name : List ℕ) (line : Line) (left rest : List Line) (all : List (List ℕ)) → left ≡ line ∷ rest → is_named name line ≡ true
    → values_of name left ≡ all → all ≡ line.1 ∷ values_of name rest
named-hit name line left rest all next hit so_far =
    sym (ap (values_of name) (sym next) ∙ so_far) ∙ (let take : values_of name (line ∷ rest) ≡ line.1 ∷ values_of name rest = rw hit refl in take)

pub first_of : (all rest : List (List ℕ)) (value : List ℕ) → all ≡ value ∷ rest → Some value ≡ slice_get all 0
first_of all rest value is = ap (λ l. slice_get l 0) (sym is)

-- ---- the first value that encodes a body

encoded_cons : (line : Line) (rest : List Line) (named encoded : Bool) → is_named (codes "content-encoding") line ≡ named → is_encoded line.1 ≡ encoded
    → find is_encoded (values_of (codes "content-encoding") (line ∷ rest)) ≡ (if named && encoded then Some line.1 else find is_encoded (values_of (codes "content-encoding") rest))
encoded_cons line rest true true n e = rw (n, e) refl
encoded_cons line rest true false n e = rw (n, e) refl
encoded_cons line rest false true n e = rw n refl
encoded_cons line rest false false n e = rw n refl

encoded_step : (line : Line) (left rest : List Line) (all : Option (List ℕ)) (encoded : Bool) → left ≡ line ∷ rest → encodes line ≡ encoded
    → find is_encoded (values_of (codes "content-encoding") left) ≡ all
    → (if encoded then Some line.1 else find is_encoded (values_of (codes "content-encoding") rest)) ≡ all
encoded_step line left rest all encoded next is so_far =
    let Q : Bool → Type 0 = λ b. (if b then Some line.1 else find is_encoded (values_of (codes "content-encoding") rest)) ≡ all in
    subst Q is (sym (encoded_cons line rest _ _ refl refl) ∙ (ap (λ l. find is_encoded (values_of (codes "content-encoding") l)) (sym next) ∙ so_far))

pub encoded-hit : (line : Line) (left rest : List Line) (all : Option (List ℕ)) → left ≡ line ∷ rest → encodes line ≡ true
    → find is_encoded (values_of (codes "content-encoding") left) ≡ all → Some line.1 ≡ all
encoded-hit line left rest all next is so_far = encoded_step line left rest all true next is so_far

pub encoded-miss : (line : Line) (left rest : List Line) (all : Option (List ℕ)) → left ≡ line ∷ rest → encodes line ≡ false
    → find is_encoded (values_of (codes "content-encoding") left) ≡ all → find is_encoded (values_of (codes "content-encoding") rest) ≡ all
encoded-miss line left rest all next is so_far = encoded_step line left rest all false next is so_far

-- ---- the first pair of a name

value_step : (name : List ℕ) (pair : Line) (left rest : List Line) (all : Option (List ℕ)) (same : Bool) → left ≡ pair ∷ rest → bytes_eq pair.0 name ≡ same
    → first_value name left ≡ all → (if same then Some pair.1 else first_value name rest) ≡ all
value_step name pair left rest all same next is so_far =
    sym (value_cons same is) ∙ (ap (first_value name) (sym next) ∙ so_far)
  where
    value_cons : (same : Bool) → bytes_eq pair.0 name ≡ same → first_value name (pair ∷ rest) ≡ (if same then Some pair.1 else first_value name rest)
    value_cons true is = rw is refl
    value_cons false is = rw is refl

pub value-hit : (name : List ℕ) (pair : Line) (left rest : List Line) (all : Option (List ℕ)) → left ≡ pair ∷ rest → bytes_eq pair.0 name ≡ true
    → first_value name left ≡ all → Some pair.1 ≡ all
value-hit name pair left rest all next is so_far = value_step name pair left rest all true next is so_far

pub value-miss : (name : List ℕ) (pair : Line) (left rest : List Line) (all : Option (List ℕ)) → left ≡ pair ∷ rest → bytes_eq pair.0 name ≡ false
    → first_value name left ≡ all → first_value name rest ≡ all
value-miss name pair left rest all next is so_far = value_step name pair left rest all false next is so_far

-- ---- those of one name that were taken: a line of another name is passed over

pub taken-miss : (name : List ℕ) (line : Line) (taken left rest all : List Line) → left ≡ line ∷ rest → is_named name line ≡ false
    → taken ++ lines_named name left ≡ all → taken ++ lines_named name rest ≡ all
taken-miss name line taken left rest all next miss so_far =
    ap (λ l. taken ++ l) (sym (let skip : lines_named name (line ∷ rest) ≡ lines_named name rest = rw miss refl in skip))
    ∙ (ap (λ l. taken ++ lines_named name l) (sym next) ∙ so_far)
