-- The body of an entry, from what a disk gives behind its head.
use Rattle.std.proofs.Common.{◌≡◌, ◌≢◌, ℕ, ◌+◌, ◌-◌, ◌≤◌, Option, IfSome, Result, Ok, Err, IfOk, OnOk, MatchResult, List, ◌∷◌, ◌++◌, length, take, drop, refl, sym, ◌∙◌, ap, subst, arith, length-append, take-append-drop}
use Rattle.std.proofs.Math.Seq.{drop-append-add}
use Rattle.std.proofs.lemmas.List.{take_at, drop_at, length-take, length-drop}
use Rattle.std.proofs.lemmas.Option.{IfSome_then}
use Rattle.soc_journal.specs.Bodies.{StandsBefore, GivesBody}
use Rattle.soc_journal.specs.Entries.{Entry, second_version, max_body, open_gate, entry_text}
use Rattle.soc_journal.specs.inner.Gates.{entry_head, IsFront, IsHead, IsAtGate}
use Rattle.soc_journal.specs.Text.{StandsAt}
use Rattle.soc_journal.specs.declared.error.ReadError.{ReadError}
use Rattle.soc_journal.specs.declared.error.ReadError.TheVariants.{StoreFault, Altered, NoMemory}
use Rattle.soc_journal.specs.declared.gate.Front.TheVariants.{Shut}
use Rattle.soc_journal.specs.declared.gate.AtGate.{AtGate}
use Rattle.soc_journal.specs.declared.gate.AtGate.TheVariants.{Open, Closed}
use Rattle.soc_journal.proofs.Gates.{heads_same}
use Rattle.soc_journal.proofs.Nexts.{entry_whole}
use Rattle.soc_journal.proofs.Options.{IfSome_both}
use Rattle.soc_journal.proofs.Texts.{length-entry_text, text_behind, entry_text-behind}

module _ (bytes : List ℕ) (place : ℕ) (entry : Entry) (stands : StandsAt bytes place entry) where
  -- what stands at the place
  pub stands_rest : drop place bytes ≡ entry_text entry ++ stands.rest
  stands_rest = ap (λ (x : List ℕ). drop place x) stands.whole ∙ drop_at stands.front (entry_text entry ++ stands.rest) place stands.before

  -- and behind the entry's head
  behind_head : drop (place + 6) bytes ≡ entry.body ++ stands.rest
  unfolding entry_text
  behind_head =
      ap (λ (x : List ℕ). drop (place + 6) x) stands.whole
      ∙ (ap (λ (n : ℕ). drop (n + 6) (stands.front ++ (entry_text entry ++ stands.rest))) (sym stands.before)
      ∙ drop-append-add stands.front (entry_text entry ++ stands.rest) 6)

  pub body_there : take (length entry.body) (drop (place + 6) bytes) ≡ entry.body
  body_there = ap (λ (x : List ℕ). take (length entry.body) x) behind_head ∙ take_at entry.body stands.rest (length entry.body) refl

  pub body_long : length entry.body ≤ length bytes - (place + 6)
  body_long =
      omega (arith, length-drop (place + 6) bytes, ap (λ (x : List ℕ). length x) behind_head, length-append entry.body stands.rest)

  -- of the right length, the body is the entry's
  pub gives_same : (count : ℕ) (answer : Result (List ℕ) ReadError) → count ≡ length entry.body → GivesBody bytes (place + 6) count answer → IfOk answer (λ body. body ≡ entry.body)
  gives_same count (Ok body) is gives = gives.1 ∙ (ap (λ (n : ℕ). take n (drop (place + 6) bytes)) is ∙ body_there)
  gives_same count (Err error) is gives = tt

  -- and it is given
  pub gives_all : (count : ℕ) (answer : Result (List ℕ) ReadError) → count ≡ length entry.body → GivesBody bytes (place + 6) count answer
      → MatchResult answer (λ body. body ≡ entry.body) (λ error. error ≢ Altered)
  gives_all count (Ok body) is gives = gives.1 ∙ (ap (λ (n : ℕ). take n (drop (place + 6) bytes)) is ∙ body_there)
  gives_all count (Err StoreFault) is gives = λ same. cc
  gives_all count (Err Altered) is gives = absurd (omega (arith, gives, is, body_long))
  gives_all count (Err NoMemory) is gives = λ same. cc

pub body_told : (told : Option (List ℕ)) (place count : ℕ) (answer : Result (List ℕ) ReadError) → IfSome told (λ bytes. GivesBody bytes (place + 6) count answer)
    → IfSome told (λ bytes. (entry : Entry) → StandsAt bytes place entry → count ≡ length entry.body → IfOk answer (λ body. body ≡ entry.body))
body_told told place count answer gives = IfSome_then told gives (λ bytes given entry stands is. gives_same bytes place entry stands count answer is given)

-- an entry at the place, from its head and its body
found_entry : (bytes : List ℕ) (place gate kind count : ℕ) → IsHead second_version place gate kind count (drop place bytes) → count ≤ length bytes - (place + 6)
    → (entry : Entry) × StandsBefore bytes place gate entry
found_entry bytes place gate kind count head long =
    let entry : Entry = record { kind = kind; body = take count head.more } in
    let size : length bytes - place ≡ 6 + length head.more =
    omega (arith, length-drop place bytes, ap (λ (x : List ℕ). length x) head.whole, length-append (entry_head kind count) head.more) in
    let low : count ≤ length head.more = omega arith in
    let all : length entry.body ≡ count = length-take count head.more ∙ omega (arith, low) in
    let short = head.counts.short in
    let fits = head.counts.fits in (
      entry,
      record {
        legal = record { known = head.counts.known; short = omega (arith, all, short) };
        stands = record {
          front = take place bytes;
          rest = drop count head.more;
          whole = sym (take-append-drop place bytes) ∙ ap (λ (x : List ℕ). take place bytes ++ x) (head.whole ∙ entry_whole kind count head.more low);
          before = length-take place bytes ∙ omega (arith, size);
        };
        ends = omega (arith, length-entry_text entry, all, fits);
      },
    )

shut_out : (bytes : List ℕ) (place : ℕ) (entry : Entry) → StandsAt bytes place entry → IsFront (drop place bytes) Shut → ⊥
shut_out bytes place entry stands (gate, more, is, closed) =
    let opened : gate ∷ more ≡ open_gate ∷ text_behind entry stands.rest = sym is ∙ (stands_rest bytes place entry stands ∙ entry_text-behind entry stands.rest) in
    let same : gate ≡ open_gate = cc in
    closed same

module _ (told : Option (List ℕ)) (place gate end : ℕ) (at : end ≡ gate) (found : AtGate) (finds : IfSome told (λ bytes. IsAtGate second_version place end (drop place bytes) found)) where
  at_found : (other : AtGate) → found ≡ other → IfSome told (λ bytes. IsAtGate second_version place gate (drop place bytes) other)
  at_found other is =
      let P : AtGate → Type 0 = λ f. IfSome told (λ bytes. IsAtGate second_version place gate (drop place bytes) f) in
      let Q : ℕ → Type 0 = λ n. IfSome told (λ bytes. IsAtGate second_version place n (drop place bytes) found) in
      subst P is (subst Q at finds)

  pub read_body : (kind count : ℕ) (answer : Result (List ℕ) ReadError) (then_told : Option (List ℕ)) → found ≡ Open kind count → then_told ≡ told → IfSome then_told (λ bytes. GivesBody bytes (place + 6) count answer)
      → IfSome told (λ bytes. (entry : Entry) → StandsBefore bytes place gate entry → MatchResult answer (λ body. body ≡ entry.body) (λ error. error ≢ Altered))
  read_body kind count answer then_told is same_told gives = IfSome_both told (at_found (Open kind count) is) (subst (λ (o : Option (List ℕ)). IfSome o (λ bytes. GivesBody bytes (place + 6) count answer)) same_told gives) (λ bytes head given entry before.
      let short : length entry.body ≤ max_body = before.legal.short in
      let low : count ≤ max_body = head.counts.short in
      let same = heads_same kind count entry head.more before.stands.rest (omega arith) (omega arith) (sym head.whole ∙ stands_rest bytes place entry before.stands) in
      gives_all bytes place entry before.stands count answer same.1 given)

  pub read_found : (kind count : ℕ) (answer : Result (List ℕ) ReadError) (then_told : Option (List ℕ)) → found ≡ Open kind count → then_told ≡ told → IfSome then_told (λ bytes. GivesBody bytes (place + 6) count answer)
      → OnOk answer (IfSome told (λ bytes. (entry : Entry) × StandsBefore bytes place gate entry))
  read_found kind count (Ok body) then_told is same_told gives = IfSome_both told (at_found (Open kind count) is) (subst (λ (o : Option (List ℕ)). IfSome o (λ bytes. GivesBody bytes (place + 6) count (Ok body))) same_told gives) (λ bytes head given. found_entry bytes place gate kind count head given.0)
  read_found kind count (Err error) then_told is same_told gives = tt

  -- where a closed gate or nothing good stands, no entry does
  pub read_closed : found ≡ Closed → IfSome told (λ bytes. (entry : Entry) → StandsBefore bytes place gate entry → Altered ≢ Altered)
  read_closed is = IfSome_then told (at_found Closed is) (λ bytes shut entry before same.
      shut_out bytes place entry before.stands shut)
