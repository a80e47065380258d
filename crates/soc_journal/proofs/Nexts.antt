-- What stands behind the entries that were read.
use Rattle.std.proofs.Common.{◌≡◌, ℕ, ◌+◌, ◌≤◌, Option, IfSome, List, [], ◌∷◌, ◌++◌, length, take, drop, refl, sym, ◌∙◌, ap, subst, arith, length-append, take-append-drop, append_assoc}
use Rattle.std.specs.Int.{to_le_bytes, w32}
use Rattle.std.proofs.lemmas.List.{drop_at, length-take}
use Rattle.std.proofs.lemmas.Option.{IfSome_then}
use Rattle.soc_base.proofs.Folk.{all_push}
use Rattle.soc_edge.specs.Disk.{NoMore}
use Rattle.soc_journal.specs.Entries.{Entry, IsEntryOf, open_gate, entry_text}
use Rattle.soc_journal.specs.inner.Gates.{entry_head, IsFront, IsHead, IsBad, IsAtGate}
use Rattle.soc_journal.specs.Openings.{OpeningState, HasRead, HasReadAll, HasReadMore}
use Rattle.soc_journal.specs.Text.{version_of, FirstBad}
use Rattle.soc_journal.specs.declared.gate.Front.TheVariants.{Shut}
use Rattle.soc_journal.specs.declared.gate.AtGate.{AtGate}
use Rattle.soc_journal.specs.declared.gate.AtGate.TheVariants.{Open, Closed, Bad}
use Rattle.soc_journal.specs.declared.mark.Mark.{Mark}
use Rattle.soc_journal.proofs.Texts.{front_of, length-front_of, front_of-push, begins_front, front_begins, place_behind-push, length-entry_text}

-- an entry of this body, from its head and what follows it
pub entry_whole : (kind count : ℕ) (more : List ℕ) → count ≤ length more → entry_head kind count ++ more ≡ entry_text (record { kind = kind; body = take count more }) ++ drop count more
unfolding entry_text
entry_whole kind count more low =
    let size : count ≡ length (take count more) = sym (length-take count more ∙ omega (arith, low)) in
    ap (λ (x : List ℕ). (open_gate ∷ kind ∷ to_le_bytes w32 count) ++ x) (sym (take-append-drop count more))
    ∙ (ap (λ (n : ℕ). (open_gate ∷ kind ∷ to_le_bytes w32 n) ++ (take count more ++ drop count more)) size
    ∙ sym (append_assoc (open_gate ∷ kind ∷ to_le_bytes w32 (length (take count more))) (take count more) (drop count more)))

module _ (opening : OpeningState) (entries : List Entry) (bytes : List ℕ) (images now_images : List ℕ → Type 0) (no_more : NoMore images now_images) (has : HasRead opening entries bytes images) where
  whole : bytes ≡ front_of (version_of bytes) entries ++ has.rest
  whole = begins_front entries has.rest bytes has.begins

  pub behind_rest : drop opening.place bytes ≡ has.rest
  behind_rest =
      ap (λ (x : List ℕ). drop opening.place x) whole
      ∙ drop_at (front_of (version_of bytes) entries) has.rest opening.place (length-front_of (version_of bytes) entries ∙ sym has.behind)

  size_rest : length bytes ≡ opening.place + length has.rest
  size_rest =
      omega (arith, ap (λ (x : List ℕ). length x) whole, length-append (front_of (version_of bytes) entries) has.rest, length-front_of (version_of bytes) entries, has.behind)

  -- a closed gate: these are all
  finds_gate : (after : OpeningState) → after.place ≡ opening.place → after.length ≡ opening.length → after.version ≡ opening.version → IsFront has.rest Shut → HasReadAll after entries bytes now_images
  finds_gate after same_place same_length same_version (gate, more, is, closed) = record {
    text = record {
      gate = gate;
      rest = more;
      begins = front_begins (version_of bytes) entries (gate ∷ more) bytes (whole ∙ ap (λ (x : List ℕ). front_of (version_of bytes) entries ++ x) is) has.begins.legal;
      closed = closed;
    };
    reads = record {
      rest = has.rest;
      begins = has.begins;
      behind = same_place ∙ has.behind;
      size = same_length ∙ has.size;
      same_version = same_version ∙ has.same_version;
      only = λ image left. has.only image (no_more image left);
    };
  }

  -- neither an entry nor a closed gate
  finds_bad : IsBad opening.version opening.place opening.length has.rest → FirstBad bytes opening.place
  finds_bad bad = record {
    entries = entries;
    rest = has.rest;
    begins = has.begins;
    behind = has.behind;
    no_entry = λ entry more legal is.
        let P : ℕ → Type 0 = λ v. IsEntryOf v entry in
        bad.no_entry entry more (subst P (sym has.same_version) legal)
        (omega (arith, has.size, size_rest, ap (λ (x : List ℕ). length x) is, length-append (entry_text entry) more)) is;
    no_gate = bad.no_gate;
  }

  -- one more entry
  finds_entry : (after : OpeningState) (mark : Mark) → IsHead opening.version opening.place opening.length mark.kind mark.length has.rest → mark.place ≡ opening.place
      → after.length ≡ opening.length → after.version ≡ opening.version → after.place ≡ opening.place + 6 + mark.length → HasReadMore after entries mark bytes now_images
  finds_entry after mark head at same_length same_version moved =
      let entry : Entry = record { kind = mark.kind; body = take mark.length head.more } in
      let low : mark.length ≤ length head.more =
      omega (arith, head.counts.fits, has.size, size_rest, ap (λ (x : List ℕ). length x) head.whole, length-append (entry_head mark.kind mark.length) head.more) in
      let count : length entry.body ≡ mark.length = length-take mark.length head.more ∙ omega (arith, low) in
      let rest : has.rest ≡ entry_text entry ++ drop mark.length head.more = head.whole ∙ entry_whole mark.kind mark.length head.more low in
      let stands : bytes ≡ front_of (version_of bytes) entries ++ (entry_text entry ++ drop mark.length head.more) =
      whole ∙ ap (λ (x : List ℕ). front_of (version_of bytes) entries ++ x) rest in
      let Known : ℕ → Type 0 = λ v. IsEntryOf v entry in
      let short = head.counts.short in
      let legal : IsEntryOf (version_of bytes) entry =
      subst Known has.same_version (record { known = head.counts.known; short = omega (arith, count, short) }) in
      record {
        entry = entry;
        marks = record { at = at ∙ has.behind; kind = refl; count = sym count };
        stands = record {
          front = front_of (version_of bytes) entries;
          rest = drop mark.length head.more;
          whole = stands;
          before = length-front_of (version_of bytes) entries;
        };
        reads = record {
          rest = drop mark.length head.more;
          begins = front_begins (version_of bytes) (entries ++ entry ∷ []) (drop mark.length head.more) bytes
              (stands ∙ front_of-push (version_of bytes) entries entry (drop mark.length head.more))
              (all_push (IsEntryOf (version_of bytes)) entries entry has.begins.legal legal);
          behind = omega (arith, moved, has.behind, place_behind-push entries entry, length-entry_text entry, count);
          size = same_length ∙ has.size;
          same_version = same_version ∙ has.same_version;
          only = λ image left. has.only image (no_more image left);
        };
      }

module _ (told : Option (List ℕ)) (images now_images : List ℕ → Type 0) (no_more : NoMore images now_images) (opening seen after : OpeningState) (view : opening ≡ seen) (same_length : after.length ≡ opening.length) (same_version : after.version ≡ opening.version)
    (found : AtGate) (finds : IfSome told (λ bytes. IsAtGate opening.version opening.place opening.length (drop opening.place bytes) found)) where
  at_found : (other : AtGate) → found ≡ other → IfSome told (λ bytes. IsAtGate opening.version opening.place opening.length (drop opening.place bytes) other)
  at_found other is =
      let P : AtGate → Type 0 = λ f. IfSome told (λ bytes. IsAtGate opening.version opening.place opening.length (drop opening.place bytes) f) in
      subst P is finds

  pub entry_told : (mark : Mark) → mark.place ≡ opening.place → after.place ≡ opening.place + 6 + mark.length → found ≡ Open mark.kind mark.length
      → IfSome told (λ bytes. (entries : List Entry) → HasRead seen entries bytes images → HasReadMore after entries mark bytes now_images)
  entry_told mark at moved is = IfSome_then told (at_found (Open mark.kind mark.length) is) (λ bytes head entries has_seen.
      let Seen : OpeningState → Type 0 = λ o. HasRead o entries bytes images in
      let has = subst Seen (sym view) has_seen in
      let P : List ℕ → Type 0 = λ x. IsHead opening.version opening.place opening.length mark.kind mark.length x in
      finds_entry opening entries bytes images now_images no_more has after mark (subst P (behind_rest opening entries bytes images now_images no_more has) head) at same_length same_version moved)

  pub gate_told : after.place ≡ opening.place → found ≡ Closed
      → IfSome told (λ bytes. (entries : List Entry) → HasRead seen entries bytes images → HasReadAll after entries bytes now_images)
  gate_told same_place is = IfSome_then told (at_found Closed is) (λ bytes shut entries has_seen.
      let Seen : OpeningState → Type 0 = λ o. HasRead o entries bytes images in
      let has = subst Seen (sym view) has_seen in
      let P : List ℕ → Type 0 = λ x. IsFront x Shut in
      finds_gate opening entries bytes images now_images no_more has after same_place same_length same_version (subst P (behind_rest opening entries bytes images now_images no_more has) shut))

  pub bad_told : found ≡ Bad → IfSome told (λ bytes. (entries : List Entry) → HasRead seen entries bytes images → FirstBad bytes opening.place)
  bad_told is = IfSome_then told (at_found Bad is) (λ bytes bad entries has_seen.
      let Seen : OpeningState → Type 0 = λ o. HasRead o entries bytes images in
      let has = subst Seen (sym view) has_seen in
      let P : List ℕ → Type 0 = λ x. IsBad opening.version opening.place opening.length x in
      finds_bad opening entries bytes images now_images no_more has (subst P (behind_rest opening entries bytes images now_images no_more has) bad))
