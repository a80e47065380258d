-- A journal once its opening is finished: one of the first version gets another version byte, and the same entries.
use Rattle.std.proofs.Common.{◌≡◌, ◌≢◌, ℕ, IsTrue, Option, Some, None, IfSome, IsSomeAnd, List, [], ◌∷◌, ◌++◌, get_or, refl, sym, ◌∙◌, ap, subst, arith, append_assoc}
use Rattle.std.specs.Prelude.{codes}
use Rattle.std.specs.Option.{option_map}
use Rattle.std.specs.List.{AllByRecursion}
use Rattle.std.proofs.lemmas.Bool.Decides.{nat_tests}
use Rattle.soc_edge.proofs.Disks.{LeavesOnly-weaker}
use Rattle.soc_edge.specs.Disk.{written, Tears, WhereTold, Only, DiskTold, LeavesOnly, IsTorn, MayTear}
use Rattle.soc_journal.specs.Entries.{Entry, IsEntryOf, has_kind, first_version, second_version, header, entries_text}
use Rattle.soc_journal.specs.Openings.{OpeningState, HasReadAll}
use Rattle.soc_journal.specs.States.{JournalState, AtRest}
use Rattle.soc_journal.specs.Text.{version_of, JournalText}
use Rattle.soc_journal.proofs.Appends.{stands_before}
use Rattle.soc_journal.proofs.Options.{IfSome-always}
use Rattle.soc_journal.proofs.Texts.{front_of, version_of-front}
use Rattle.soc_journal.proofs.Torn.{torn_byte, written_byte}

-- each version has the kinds of the first
has_kind_first : (version kind : ℕ) → IsTrue (has_kind first_version kind) → IsTrue (has_kind version kind)
has_kind_first version kind known = grind (arith, nat_tests)

all_first : (version : ℕ) (entries : List Entry) → AllByRecursion (IsEntryOf first_version) entries → AllByRecursion (IsEntryOf version) entries
all_first version [] all = tt
all_first version (entry ∷ entries) all = (record { known = has_kind_first version entry.kind all.0.known; short = all.0.short }, all_first version entries all.1)

module _ (opening : OpeningState) (entries : List Entry) (bytes : List ℕ) (images : List ℕ → Type 0) (has : HasReadAll opening entries bytes images) where
  module _ (first : opening.version ≡ first_version) where
    legal_first : AllByRecursion (IsEntryOf first_version) entries
    legal_first =
        let P : ℕ → Type 0 = λ v. AllByRecursion (IsEntryOf v) entries in
        subst P (sym has.reads.same_version ∙ first) has.text.begins.legal

    -- another version byte in its place
    other_byte : (version : ℕ) (image : List ℕ) → image ≡ codes "SOCJ000" ++ version ∷ (entries_text entries ++ has.text.gate ∷ has.text.rest) → JournalText entries image × (version_of image ≡ version)
    other_byte version image whole =
        let regrouped : image ≡ front_of version entries ++ has.text.gate ∷ has.text.rest =
        whole ∙ sym (append_assoc (header version) (entries_text entries) (has.text.gate ∷ has.text.rest)) in (
          stands_before version entries has.text.gate has.text.rest image regrouped has.text.closed (all_first version entries legal_first),
          version_of-front version entries (has.text.gate ∷ has.text.rest) image regrouped,
        )

    torn_version : (image : List ℕ) → Tears 7 1 bytes image → JournalText entries image
    torn_version image tears =
        let P : List ℕ → Type 0 = λ x. Tears 7 1 x image in
        (other_byte (get_or image 7 0) image
        (torn_byte (codes "SOCJ000") (version_of bytes) (entries_text entries ++ has.text.gate ∷ has.text.rest) 7 refl image (subst P has.text.begins.whole tears))).0

    pub torn_each : (image : List ℕ) → IsTorn images 7 1 image → JournalText entries image
    torn_each image torn =
        let P : List ℕ → Type 0 = λ x. Tears 7 1 x image in
        torn_version image (subst P (has.reads.only torn.earlier torn.was) torn.tears)

    pub torn_content : (now : List ℕ) → Tears 7 1 bytes now → JournalText entries now
    torn_content now tears = torn_version now tears

    pub rests_migrated : (journal : JournalState) (now : List ℕ) (now_images : List ℕ → Type 0) → journal.gate ≡ opening.place → journal.doubt ≡ None
        → now ≡ written bytes 7 (second_version ∷ []) → Only now now_images → AtRest journal entries now now_images
    rests_migrated journal now now_images same no_doubt is only =
        let so = other_byte second_version now
        (is
        ∙ (ap (λ (x : List ℕ). written x 7 (second_version ∷ [])) has.text.begins.whole
        ∙ written_byte (codes "SOCJ000") (version_of bytes) (entries_text entries ++ has.text.gate ∷ has.text.rest) 7 refl second_version)) in
        let other : second_version ≢ first_version = omega arith in
        record {
          text = so.0;
          current = λ first_still. other (sym so.1 ∙ first_still);
          gate_stands = same ∙ has.reads.behind;
          no_doubt = no_doubt;
          only = only;
        }

-- ---- where the disk tells its content

module _ (opening : OpeningState) (told : Option (List ℕ)) (before after : DiskTold) where
  pub any_migrated : opening.version ≡ first_version → MayTear 7 1 before after
      → IfSome told (λ bytes. (entries : List Entry) → HasReadAll opening entries bytes before.images → LeavesOnly before after (JournalText entries))
  any_migrated first tears = IfSome-always told _ (λ bytes entries has.
      LeavesOnly-weaker before after (IsTorn before.images 7 1) (JournalText entries) (torn_each opening entries bytes before.images has first) tears.any_moment)

module _ (opening : OpeningState) (images now_images : List ℕ → Type 0) where
  pub stands_torn : (told now_told : Option (List ℕ)) → opening.version ≡ first_version → WhereTold (Tears 7 1) told now_told
      → IfSome told (λ bytes. (entries : List Entry) → HasReadAll opening entries bytes images → IsSomeAnd now_told (JournalText entries))
  stands_torn None now_told first torn = tt
  stands_torn (Some bytes) None first torn = absurd torn
  stands_torn (Some bytes) (Some now) first torn = λ entries has. torn_content opening entries bytes images has first now torn

  pub rests_told : (told now_told : Option (List ℕ)) (journal : JournalState) → opening.version ≡ first_version → journal.gate ≡ opening.place → journal.doubt ≡ None
      → now_told ≡ option_map (λ old. written old 7 (second_version ∷ [])) told → IfSome now_told (λ now. Only now now_images)
      → IfSome told (λ bytes. (entries : List Entry) → HasReadAll opening entries bytes images → IsSomeAnd now_told (λ now. AtRest journal entries now now_images))
  rests_told None now_told journal first same no_doubt is only = tt
  rests_told (Some bytes) None journal first same no_doubt is only = cc
  rests_told (Some bytes) (Some now) journal first same no_doubt is only = λ entries has.
      let is_written : now ≡ written bytes 7 (second_version ∷ []) = cc in
      rests_migrated opening entries bytes images has first journal now now_images same no_doubt is_written only

  pub stands_told : (told now_told : Option (List ℕ)) (journal : JournalState) → opening.version ≡ first_version → journal.gate ≡ opening.place → journal.doubt ≡ None
      → now_told ≡ option_map (λ old. written old 7 (second_version ∷ [])) told → IfSome now_told (λ now. Only now now_images)
      → IfSome told (λ bytes. (entries : List Entry) → HasReadAll opening entries bytes images → IsSomeAnd now_told (JournalText entries))
  stands_told None now_told journal first same no_doubt is only = tt
  stands_told (Some bytes) None journal first same no_doubt is only = cc
  stands_told (Some bytes) (Some now) journal first same no_doubt is only = λ entries has.
      let is_written : now ≡ written bytes 7 (second_version ∷ []) = cc in
      (rests_migrated opening entries bytes images has first journal now now_images same no_doubt is_written only).text
