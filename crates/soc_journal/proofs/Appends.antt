-- What an append leaves of a disk, step by step.
use Rattle.std.proofs.Common.{◌≡◌, ◌≢◌, inl, inr, ℕ, ◌+◌, ◌-◌, ◌<◌, ◌≤◌, true, false, IsTrue, Option, Some, None, IfSome, IsSomeAnd, Result, Ok, Err, IsErrAnd, IsErrOf, List, [], ◌∷◌, ◌++◌, length, take, drop, get_or, refl, sym, ◌∙◌, ap, subst, arith, append_assoc}
use Rattle.std.specs.Option.{option_map}
use Rattle.std.specs.List.{AllByRecursion}
use Rattle.std.proofs.lemmas.Bool.{cases_eq}
use Rattle.std.proofs.lemmas.Bool.Decides.{nat_tests}
use Rattle.std.proofs.lemmas.List.{take_all, length-drop}
use Rattle.soc_base.proofs.Folk.{all_push}
use Rattle.soc_edge.proofs.Disks.{LeavesOnly-append, LeavesOnly-weaker}
use Rattle.soc_edge.specs.Disk.{written, Tears, WhereTold, Follows, Only, DiskTold, IsDisk, LeavesOnly, IsTorn, MayTear}
use Rattle.soc_journal.specs.Entries.{Entry, IsEntryOf, has_kind, open_gate, closed_gate, first_version, second_version, entries_text, place_behind, sealed_all}
use Rattle.soc_journal.specs.declared.error.AppendError.{AppendError}
use Rattle.soc_journal.specs.declared.error.AppendError.TheVariants.{StoreFault, JournalFull}
use Rattle.soc_journal.specs.States.{JournalState, AtRest, InDoubt}
use Rattle.soc_journal.specs.Text.{version_of, JournalText, EitherText}
use Rattle.soc_journal.specs.inner.Staging.{behind_all, HasLength}
use Rattle.soc_journal.proofs.Options.{IfSome-always}
use Rattle.soc_journal.proofs.Texts.{sealed_behind, length-sealed_all, front_of, length-front_of, front_of-append, version_of-front, begins_front, front_begins, AllByRecursion-append, place_behind-append}
use Rattle.soc_journal.proofs.Ranges.{Tears-wider, Tears-append, WhereTold-map, WhereTold-append, MayTear-wider, MayTear-append, opened_told}
use Rattle.soc_journal.proofs.Torn.{torn_behind, written_behind, torn_byte, written_byte}

-- each version but the first has the kinds of the second
has_kind_current : (version kind : ℕ) → version ≢ first_version → IsTrue (has_kind second_version kind) → IsTrue (has_kind version kind)
has_kind_current version kind current known = grind (arith, nat_tests)

IsEntryOf-current : (version : ℕ) (entry : Entry) → version ≢ first_version → IsEntryOf second_version entry → IsEntryOf version entry
IsEntryOf-current version entry current legal = record { known = has_kind_current version entry.kind current legal.known; short = legal.short }

All-current : (version : ℕ) (entries : List Entry) → version ≢ first_version → AllByRecursion (IsEntryOf second_version) entries → AllByRecursion (IsEntryOf version) entries
All-current version [] current legal = tt
All-current version (entry ∷ entries) current legal = (IsEntryOf-current version entry current legal.0, All-current version entries current legal.1)

-- a closed gate behind the entries ends them
pub stands_before : (version : ℕ) (entries : List Entry) (gate : ℕ) (rest image : List ℕ) → image ≡ front_of version entries ++ gate ∷ rest → gate ≢ open_gate
    → AllByRecursion (IsEntryOf version) entries → JournalText entries image
stands_before version entries gate rest image whole closed legal = record {
  gate = gate;
  rest = rest;
  begins = front_begins version entries (gate ∷ rest) image whole legal;
  closed = closed;
}

-- an open one lets some more count
pub stands_after : (version : ℕ) (entries more : List Entry) (rest image : List ℕ) → image ≡ front_of version entries ++ open_gate ∷ (behind_all more ++ rest) → 0 < length more
    → AllByRecursion (IsEntryOf version) entries → AllByRecursion (IsEntryOf version) more → JournalText (entries ++ more) image
stands_after version entries more rest image whole some legal each =
    let closed : closed_gate ≢ open_gate = omega arith in
    let moved : image ≡ front_of version (entries ++ more) ++ closed_gate ∷ rest =
    whole
    ∙ (ap (λ (x : List ℕ). front_of version entries ++ (x ++ rest)) (sym (sealed_behind more some))
    ∙ (ap (λ (x : List ℕ). front_of version entries ++ x) (append_assoc (entries_text more) (closed_gate ∷ []) rest)
    ∙ front_of-append version entries more (closed_gate ∷ rest))) in
    stands_before version (entries ++ more) closed_gate rest image moved closed (AllByRecursion-append (IsEntryOf version) entries more legal each)

-- and any byte there does the one or the other
stands_either : (version : ℕ) (entries more : List Entry) (gate : ℕ) (rest image : List ℕ) → image ≡ front_of version entries ++ gate ∷ (behind_all more ++ rest) → 0 < length more
    → AllByRecursion (IsEntryOf version) entries → AllByRecursion (IsEntryOf version) more → EitherText entries more image
stands_either version entries more gate rest image whole some legal each = elim (cases_eq gate open_gate) [
  | inl is ↦ inr (stands_after version entries more rest image (whole ∙ ap (λ (x : ℕ). front_of version entries ++ x ∷ (behind_all more ++ rest)) is) some legal each)
  | inr closed ↦ inl (stands_before version entries gate (behind_all more ++ rest) image whole closed legal)
]

-- the entries stand behind the closed gate on each image, but for the gate of the first
pub record Staged (journal : JournalState) (entries more : List Entry) (bytes : List ℕ) (images : List ℕ → Type 0) : Type 0 where
  pub version : ℕ
  pub gate : ℕ
  pub rest : List ℕ
  pub whole : bytes ≡ front_of version entries ++ gate ∷ (behind_all more ++ rest)
  pub closed : gate ≢ open_gate
  pub legal : AllByRecursion (IsEntryOf version) entries
  pub some : 0 < length more
  pub each : AllByRecursion (IsEntryOf version) more
  pub current : version ≢ first_version
  pub gate_stands : journal.gate ≡ place_behind entries
  pub only : Only bytes images

module _ (journal : JournalState) (place : ℕ) (at : journal.gate ≡ place) (entries : List Entry) (bytes : List ℕ) (images : List ℕ → Type 0) (rests : AtRest journal entries bytes images) where
  whole_at : bytes ≡ front_of (version_of bytes) entries ++ rests.text.gate ∷ rests.text.rest
  whole_at = begins_front entries (rests.text.gate ∷ rests.text.rest) bytes rests.text.begins

  stands_at : length (front_of (version_of bytes) entries) ≡ place
  stands_at = length-front_of (version_of bytes) entries ∙ (sym rests.gate_stands ∙ at)

  -- the first writes, cut short anywhere
  torn_first : (count : ℕ) (image : List ℕ) → Tears (place + 1) count bytes image → image ≡ front_of (version_of bytes) entries ++ rests.text.gate ∷ drop (place + 1) image
  torn_first count image tears =
      let P : List ℕ → Type 0 = λ x. Tears (place + 1) count x image in
      torn_behind (front_of (version_of bytes) entries) rests.text.gate rests.text.rest place stands_at count image (subst P whole_at tears)

  pub stands_first : (count : ℕ) (image : List ℕ) → Tears (place + 1) count bytes image → JournalText entries image
  stands_first count image tears =
      stands_before (version_of bytes) entries rests.text.gate (drop (place + 1) image) image (torn_first count image tears) rests.text.closed rests.text.begins.legal

  pub version_first : (count : ℕ) (image : List ℕ) → Tears (place + 1) count bytes image → version_of image ≢ first_version
  version_first count image tears is =
      rests.current (sym (version_of-front (version_of bytes) entries (rests.text.gate ∷ drop (place + 1) image) image (torn_first count image tears)) ∙ is)

  -- the first writes and their sync
  pub staged : (more : List Entry) (piece now : List ℕ) (now_images : List ℕ → Type 0) → 0 < length more → AllByRecursion (IsEntryOf second_version) more → piece ≡ behind_all more → now ≡ written bytes (place + 1) piece → Only now now_images
      → Staged journal entries more now now_images
  staged more piece now now_images some legal is_piece is only =
      record {
        version = version_of bytes;
        gate = rests.text.gate;
        rest = drop (place + 1 + length piece) (front_of (version_of bytes) entries ++ rests.text.gate ∷ rests.text.rest);
        whole = is
            ∙ (ap (λ (x : List ℕ). written x (place + 1) piece) whole_at
            ∙ (written_behind (front_of (version_of bytes) entries) rests.text.gate rests.text.rest place stands_at piece
            ∙ ap (λ (x : List ℕ). front_of (version_of bytes) entries ++ rests.text.gate ∷ (x ++ drop (place + 1 + length piece) (front_of (version_of bytes) entries ++ rests.text.gate ∷ rests.text.rest))) is_piece));
        closed = rests.text.closed;
        legal = rests.text.begins.legal;
        some = some;
        each = All-current (version_of bytes) more rests.current legal;
        current = rests.current;
        gate_stands = rests.gate_stands;
        only = only;
      }

module _ (journal : JournalState) (place : ℕ) (at : journal.gate ≡ place) (entries more : List Entry) (bytes : List ℕ) (images : List ℕ → Type 0) (staged_so : Staged journal entries more bytes images) where
  stands_staged : length (front_of staged_so.version entries) ≡ place
  stands_staged = length-front_of staged_so.version entries ∙ (sym staged_so.gate_stands ∙ at)

  -- the gate's write, cut short
  torn_second : (image : List ℕ) → Tears place 1 bytes image → image ≡ front_of staged_so.version entries ++ get_or image place 0 ∷ (behind_all more ++ staged_so.rest)
  torn_second image tears =
      let P : List ℕ → Type 0 = λ x. Tears place 1 x image in
      torn_byte (front_of staged_so.version entries) staged_so.gate (behind_all more ++ staged_so.rest) place stands_staged image (subst P staged_so.whole tears)

  pub stands_second : (image : List ℕ) → Tears place 1 bytes image → EitherText entries more image
  stands_second image tears =
      stands_either staged_so.version entries more (get_or image place 0) staged_so.rest image (torn_second image tears) staged_so.some staged_so.legal staged_so.each

  pub version_second : (image : List ℕ) → Tears place 1 bytes image → version_of image ≢ first_version
  version_second image tears is =
      staged_so.current (sym (version_of-front staged_so.version entries (get_or image place 0 ∷ (behind_all more ++ staged_so.rest)) image (torn_second image tears)) ∙ is)

  -- the gate's write and its sync
  pub appended : (after : JournalState) (now : List ℕ) (now_images : List ℕ → Type 0) → after.gate ≡ journal.gate + length (entries_text more) → after.doubt ≡ None
      → now ≡ written bytes place (open_gate ∷ []) → Only now now_images → AtRest after (entries ++ more) now now_images
  appended after now now_images moved no_doubt is only =
      let whole : now ≡ front_of staged_so.version entries ++ open_gate ∷ (behind_all more ++ staged_so.rest) =
      is
      ∙ (ap (λ (x : List ℕ). written x place (open_gate ∷ [])) staged_so.whole
      ∙ written_byte (front_of staged_so.version entries) staged_so.gate (behind_all more ++ staged_so.rest) place stands_staged open_gate) in
      record {
        text = stands_after staged_so.version entries more staged_so.rest now whole staged_so.some staged_so.legal staged_so.each;
        current = λ old. staged_so.current (sym (version_of-front staged_so.version entries (open_gate ∷ (behind_all more ++ staged_so.rest)) now whole) ∙ old);
        gate_stands = omega (arith, moved, staged_so.gate_stands, place_behind-append entries more);
        no_doubt = no_doubt;
        only = only;
      }

module _ (journal after : JournalState) (place : ℕ) (at : journal.gate ≡ place) (more : List Entry) (some : 0 < length more) (legal : AllByRecursion (IsEntryOf second_version) more) (same : after.gate ≡ journal.gate) (doubt : after.doubt ≡ Some (length (entries_text more))) where
  -- one of the first writes or their sync has failed
  pub doubt_first : (told now_told : Option (List ℕ)) (images now_images : List ℕ → Type 0) (count : ℕ)
      → WhereTold (Tears (place + 1) count) told now_told → Follows (Tears (place + 1) count) images now_images
      → IfSome told (λ bytes. (entries : List Entry) → AtRest journal entries bytes images → IsSomeAnd now_told (λ now. InDoubt after entries more now now_images))
  doubt_first None now_told images now_images count torn follows = tt
  doubt_first (Some bytes) None images now_images count torn follows = absurd torn
  doubt_first (Some bytes) (Some now) images now_images count torn follows = λ entries rests.
      record {
        text = inl (stands_first journal place at entries bytes images rests count now torn);
        current = version_first journal place at entries bytes images rests count now torn;
        gate_stands = same ∙ rests.gate_stands;
        in_doubt = doubt;
        each = λ image left.
            let from = follows image left in
            let P : List ℕ → Type 0 = λ x. Tears (place + 1) count x image in
            inl (stands_first journal place at entries bytes images rests count image (subst P (rests.only from.0 from.1) from.2));
      }

  -- the gate's write or its sync has failed
  pub doubt_second : (piece : List ℕ) → piece ≡ behind_all more → (told staged_told now_told : Option (List ℕ)) (images staged_images now_images : List ℕ → Type 0)
      → staged_told ≡ option_map (λ old. written old (place + 1) piece) told → IfSome staged_told (λ now. Only now staged_images)
      → WhereTold (Tears place 1) staged_told now_told → Follows (Tears place 1) staged_images now_images
      → IfSome told (λ bytes. (entries : List Entry) → AtRest journal entries bytes images → IsSomeAnd now_told (λ now. InDoubt after entries more now now_images))
  doubt_second piece is_piece None staged_told now_told images staged_images now_images is only torn follows = tt
  doubt_second piece is_piece (Some bytes) None now_told images staged_images now_images is only torn follows = cc
  doubt_second piece is_piece (Some bytes) (Some middle) None images staged_images now_images is only torn follows = absurd torn
  doubt_second piece is_piece (Some bytes) (Some middle) (Some now) images staged_images now_images is only torn follows = λ entries rests.
      let is_written : middle ≡ written bytes (place + 1) piece = cc in
      let so = staged journal place at entries bytes images rests more piece middle staged_images some legal is_piece is_written only in
      record {
        text = stands_second journal place at entries more middle staged_images so now torn;
        current = version_second journal place at entries more middle staged_images so now torn;
        gate_stands = same ∙ rests.gate_stands;
        in_doubt = doubt;
        each = λ image left.
            let from = follows image left in
            let P : List ℕ → Type 0 = λ x. Tears place 1 x image in
            stands_second journal place at entries more middle staged_images so image (subst P (only from.0 from.1) from.2);
      }

-- the append has succeeded
pub acknowledged : (journal after : JournalState) (place : ℕ) → journal.gate ≡ place → (more : List Entry) → 0 < length more → AllByRecursion (IsEntryOf second_version) more → (piece : List ℕ) → piece ≡ behind_all more → after.gate ≡ journal.gate + length (entries_text more) → after.doubt ≡ None
    → (told staged_told now_told : Option (List ℕ)) (images staged_images now_images : List ℕ → Type 0)
    → staged_told ≡ option_map (λ old. written old (place + 1) piece) told → IfSome staged_told (λ now. Only now staged_images)
    → now_told ≡ option_map (λ old. written old place (open_gate ∷ [])) staged_told → IfSome now_told (λ now. Only now now_images)
    → IfSome told (λ bytes. (entries : List Entry) → AtRest journal entries bytes images → IsSomeAnd now_told (λ now. AtRest after (entries ++ more) now now_images))
acknowledged journal after place at more some legal piece is_piece moved no_doubt None staged_told now_told images staged_images now_images is only opens settles = tt
acknowledged journal after place at more some legal piece is_piece moved no_doubt (Some bytes) None now_told images staged_images now_images is only opens settles = cc
acknowledged journal after place at more some legal piece is_piece moved no_doubt (Some bytes) (Some middle) None images staged_images now_images is only opens settles = cc
acknowledged journal after place at more some legal piece is_piece moved no_doubt (Some bytes) (Some middle) (Some now) images staged_images now_images is only opens settles = λ entries rests.
    let is_written : middle ≡ written bytes (place + 1) piece = cc in
    let is_open : now ≡ written middle place (open_gate ∷ []) = cc in
    let so = staged journal place at entries bytes images rests more piece middle staged_images some legal is_piece is_written only in
    appended journal place at entries more middle staged_images so after now now_images moved no_doubt is_open settles

module _ (journal : JournalState) (place : ℕ) (at : journal.gate ≡ place) (more : List Entry) (some : 0 < length more) where
  -- a stop during the first writes and their sync
  pub any_first : (before middle : DiskTold) (count : ℕ) (told : Option (List ℕ)) → MayTear (place + 1) count before middle
      → IfSome told (λ bytes. (entries : List Entry) → AtRest journal entries bytes before.images → LeavesOnly before middle (EitherText entries more))
  any_first before middle count None tears = tt
  any_first before middle count (Some bytes) tears = λ entries rests.
      let P : List ℕ → Type 0 = IsTorn before.images (place + 1) count in
      let stands : (image : List ℕ) → P image → EitherText entries more image = λ image torn.
      let T : List ℕ → Type 0 = λ x. Tears (place + 1) count x image in
      inl (stands_first journal place at entries bytes before.images rests count image (subst T (rests.only torn.earlier torn.was) torn.tears)) in
      LeavesOnly-weaker before middle P (EitherText entries more) stands tears.any_moment

  -- and during the gate's write and its sync
  pub any_second : (piece : List ℕ) → piece ≡ behind_all more → (before middle after : DiskTold) (count : ℕ) (told staged_told : Option (List ℕ)) → AllByRecursion (IsEntryOf second_version) more
      → MayTear (place + 1) count before middle
      → staged_told ≡ option_map (λ old. written old (place + 1) piece) told → IfSome staged_told (λ now. Only now middle.images)
      → MayTear place 1 middle after
      → IfSome told (λ bytes. (entries : List Entry) → AtRest journal entries bytes before.images → LeavesOnly before after (EitherText entries more))
  any_second piece is_piece before middle after count None staged_told legal tears is only then = tt
  any_second piece is_piece before middle after count (Some bytes) None legal tears is only then = cc
  any_second piece is_piece before middle after count (Some bytes) (Some content) legal tears is only then = λ entries rests.
      let is_written : content ≡ written bytes (place + 1) piece = cc in
      let so = staged journal place at entries bytes before.images rests more piece content middle.images some legal is_piece is_written only in
      let P : List ℕ → Type 0 = IsTorn middle.images place 1 in
      let stands : (image : List ℕ) → P image → EitherText entries more image = λ image torn.
      let T : List ℕ → Type 0 = λ x. Tears place 1 x image in
      stands_second journal place at entries more content middle.images so image (subst T (only torn.earlier torn.was) torn.tears) in
      LeavesOnly-append before middle after (EitherText entries more) tears.goes_on then.goes_on
      (any_first before middle count (Some bytes) tears entries rests)
      (LeavesOnly-weaker middle after P (EitherText entries more) stands then.any_moment)

-- ---- what is written at all

module _ (gate place : ℕ) (at : gate ≡ place) (more : List Entry) (some : 0 < length more) (piece : List ℕ) (is_piece : piece ≡ behind_all more) where
  size : length (sealed_all more) ≡ length piece + 1
  size = omega (arith, ap (λ (x : List ℕ). length x) (sealed_behind more some), ap (λ (x : List ℕ). length x) is_piece)

  -- the first writes lie within the entries, and so does the gate's
  first_within : gate ≤ place + 1
  first_within = omega (arith, at)

  first_ends : place + 1 + length piece ≤ gate + length (sealed_all more)
  first_ends = omega (arith, at, size)

  second_within : gate ≤ place
  second_within = omega (arith, at)

  second_ends : place + 1 ≤ gate + length (sealed_all more)
  second_ends = omega (arith, at, size)

  pub tears_first : (before middle : DiskTold) → MayTear (place + 1) (length piece) before middle → MayTear gate (length (sealed_all more)) before middle
  tears_first before middle tears = MayTear-wider gate (length (sealed_all more)) (place + 1) (length piece) before middle tears first_within first_ends

  pub tears_second : (before middle after : DiskTold) → MayTear (place + 1) (length piece) before middle → MayTear place 1 middle after → MayTear gate (length (sealed_all more)) before after
  tears_second before middle after first then =
      MayTear-append gate (length (sealed_all more)) before middle after (tears_first before middle first)
      (MayTear-wider gate (length (sealed_all more)) place 1 middle after then second_within second_ends)

  pub torn_first_told : (told now_told : Option (List ℕ)) → WhereTold (Tears (place + 1) (length piece)) told now_told → WhereTold (Tears gate (length (sealed_all more))) told now_told
  torn_first_told told now_told torn =
      WhereTold-map (Tears (place + 1) (length piece)) (Tears gate (length (sealed_all more)))
      (λ a b tears. Tears-wider gate (length (sealed_all more)) (place + 1) (length piece) a b tears first_within first_ends) told now_told torn

  pub torn_second_told : (told middle_told now_told : Option (List ℕ)) → WhereTold (Tears (place + 1) (length piece)) told middle_told → WhereTold (Tears place 1) middle_told now_told
      → WhereTold (Tears gate (length (sealed_all more))) told now_told
  torn_second_told told middle_told now_told first then =
      WhereTold-append (Tears gate (length (sealed_all more))) (λ a b c. Tears-append gate (length (sealed_all more)) a b c) told middle_told now_told (torn_first_told told middle_told first)
      (WhereTold-map (Tears place 1) (Tears gate (length (sealed_all more)))
      (λ a b tears. Tears-wider gate (length (sealed_all more)) place 1 a b tears second_within second_ends) middle_told now_told then)

  -- all writes together write the entries where the closed gate stood
  pub content_told : (told staged_told now_told : Option (List ℕ)) → staged_told ≡ option_map (λ old. written old (place + 1) piece) told
      → now_told ≡ option_map (λ old. written old place (open_gate ∷ [])) staged_told → now_told ≡ option_map (λ old. written old gate (sealed_all more)) told
  content_told told staged_told now_told staged opened =
      let whole : open_gate ∷ piece ≡ sealed_all more = ap (λ (x : List ℕ). open_gate ∷ x) is_piece ∙ sym (sealed_behind more some) in
      opened_told place open_gate piece told staged_told now_told staged opened
      ∙ (ap (λ (x : List ℕ). option_map (λ old. written old place x) told) whole
      ∙ ap (λ (n : ℕ). option_map (λ old. written old n (sealed_all more)) told) (sym at))

-- what has room is not over the limit
pub within_limit : (limit gate count : ℕ) (more : List Entry) → HasLength more (limit - gate) count → limit < gate + length (sealed_all more) → ⊥
within_limit limit gate count more has over =
    let fits = has.fits in
    omega (arith, has.count_is, length-sealed_all more, over)

pub over_limit : (limit gate : ℕ) (more : List Entry) → limit - gate < length (entries_text more) + 1 → limit < gate + length (sealed_all more)
over_limit limit gate more over = omega (arith, length-sealed_all more, over)

-- a fault isn't want of room
pub not_full : (answer : Result ℕ AppendError) → IsErrAnd answer (λ error. error ≡ StoreFault) → IsErrOf answer JournalFull → ⊥
not_full (Ok place) fault full = cc
not_full (Err error) fault full = cc

-- a disk that wasn't touched
pub any_none : (disk : DiskTold) → IsDisk disk → (journal : JournalState) (more : List Entry)
    → IfSome disk.content (λ bytes. (entries : List Entry) → AtRest journal entries bytes disk.images → LeavesOnly disk disk (EitherText entries more))
any_none disk sound journal more = IfSome-always disk.content _ (λ bytes entries rest. record {
  each = λ image left. inl (subst (λ (b : List ℕ). JournalText entries b) (sym (rest.only image (sound.only_now image left))) rest.text);
})
