-- What an opening leaves, from what its calls leave one after another.
use Rattle.std.proofs.Common.{◌≡◌, ◌≢◌, ◌⊎◌, inl, inr, ℕ, Option, Some, None, IfSome, IsSomeAnd, List, [], ◌∷◌, ◌++◌, length, refl, sym, ◌∙◌, ap, subst, arith, length-append}
use Rattle.soc_edge.proofs.Disks.{GoesOn-append, LeavesOnly-append, LeavesOnly-weaker}
use Rattle.soc_edge.specs.Disk.{DiskTold, IsDisk, GoesOn, LeavesOnly, Looks, MayTear}
use Rattle.soc_journal.specs.Entries.{Entry, entries_text}
use Rattle.soc_journal.specs.Openings.{OpeningState, HasRead, HasReadAll}
use Rattle.soc_journal.specs.States.{JournalState, AtRest}
use Rattle.soc_journal.specs.Text.{JournalText, IsOneText, IsOneFault, empty_journal}
use Rattle.soc_vault.specs.Openings.{AreEntriesOf, FirstLeaves, OpeningLeaves, place_from, StandsSince, StopsAt, Opens}
use Rattle.soc_vault.specs.inner.Readings.{HasGivenAll}
use Rattle.soc_vault.proofs.Findings.{length-entry_text, length-entries_text-push}

IfSome-from : {X : Type 0} (told : Option X) {P : X → Type 0} → ((x : X) → told ≡ Some x → P x) → IfSome told P
IfSome-from None from = tt
IfSome-from (Some x) from = from x refl

IfSome_at : {X : Type 0} (told : Option X) (P : X → Type 0) (x : X) → told ≡ Some x → IfSome told P → P x
IfSome_at {X = X} told P x is some =
    let Q : Option X → Type 0 = λ o. IfSome o P in
    subst Q is some

abbrev settled_state : ℕ → ℕ → JournalState
settled_state gate limit = record { gate = gate; limit = limit; doubt = None }

empty_text : JournalText [] empty_journal
empty_text = record { gate = 0; rest = []; begins = record { whole = refl; legal = tt }; closed = λ same. omega (arith, same) }

-- what a stop may leave while nothing is written is among what it might have left before
moment_looks : (first now next : DiskTold) (P : List ℕ → Type 0) → IsDisk now → GoesOn first now → Looks now next → LeavesOnly first now P → LeavesOnly first next P
moment_looks first now next P sound begins looks leaves =
    LeavesOnly-append first now next P begins looks.goes_on leaves
    (LeavesOnly-weaker now next now.images P (λ image left. leaves.each image (sound.counts_now first.moment image begins.later left)) looks.any_moment)

-- the first call of an opening: it syncs, and makes an empty journal on a disk without bytes
module _ (before begun : DiskTold) (stays : IfSome before.content (λ bytes. bytes ≢ [] → Looks before begun)) (tears : MayTear 0 (length empty_journal) before begun) where
  looks_at : (bytes : List ℕ) → before.content ≡ Some bytes → bytes ≢ [] → Looks before begun
  looks_at bytes told some = IfSome_at before.content (λ x. x ≢ [] → Looks before begun) bytes told stays some

  leaves_begun : (bytes : List ℕ) → before.content ≡ Some bytes → LeavesOnly before begun (FirstLeaves before.images bytes)
  leaves_begun [] told = LeavesOnly-weaker before begun _ (FirstLeaves before.images []) (λ image torn. inr (refl, torn)) tears.any_moment
  leaves_begun (x ∷ xs) told =
      let some : x ∷ xs ≢ [] = λ same. cc in
      LeavesOnly-weaker before begun before.images (FirstLeaves before.images (x ∷ xs)) (λ image was. inl was) (looks_at (x ∷ xs) told some).any_moment

  leaves_first : (bytes : List ℕ) → before.content ≡ Some bytes → LeavesOnly before begun (OpeningLeaves before.images bytes)
  leaves_first bytes told =
      LeavesOnly-weaker before begun (FirstLeaves before.images bytes) (OpeningLeaves before.images bytes) (λ image first. inl first) (leaves_begun bytes told)

  pub first_moment : IfSome before.content (λ bytes. LeavesOnly before begun (OpeningLeaves before.images bytes))
  first_moment = IfSome-from before.content leaves_first

  -- the entries are read
  module _ (read : DiskTold) (sound : IsDisk begun) (looks : Looks begun read) where
    leaves_read : (bytes : List ℕ) → before.content ≡ Some bytes → LeavesOnly before read (OpeningLeaves before.images bytes)
    leaves_read bytes told = moment_looks before begun read (OpeningLeaves before.images bytes) sound tears.goes_on looks (leaves_first bytes told)

    pub read_moment : IfSome before.content (λ bytes. LeavesOnly before read (OpeningLeaves before.images bytes))
    read_moment = IfSome-from before.content leaves_read

    module _ (created : before.content ≡ Some [] → begun.content ≡ Some empty_journal) (one : IsOneText) where
      -- what the disk reads as once it is begun
      begun_as : (bytes : List ℕ) → before.content ≡ Some bytes → (begun.content ≡ Some bytes) ⊎ ((bytes ≡ []) × (begun.content ≡ Some empty_journal))
      begun_as [] told = inr (refl, created told)
      begun_as (x ∷ xs) told =
          let some : x ∷ xs ≢ [] = λ same. cc in
          inl ((looks_at (x ∷ xs) told some).same ∙ told)

      entries_found : (entries : List Entry) (bytes : List ℕ) → before.content ≡ Some bytes → IfSome begun.content (λ b. JournalText entries b) → AreEntriesOf bytes entries
      entries_found entries bytes told text = elim (begun_as bytes told) [
        | inl same ↦ inr (IfSome_at begun.content (λ b. JournalText entries b) bytes same text)
        | inr none ↦ inl (none.0, one empty_journal entries [] (IfSome_at begun.content (λ b. JournalText entries b) empty_journal none.1 text) empty_text)
      ]

      -- an empty journal has no place that an opening stops at
      stops_nowhere : {Into : Type 0} → IsOneFault → (was_given : Into → ℕ → List Entry → Type 0) (refuses : List Entry → Entry → Type 0) (now : Into) (place : ℕ) → StopsAt was_given refuses now empty_journal place → ⊥
      stops_nowhere fault was_given refuses now place (inl breaks) = fault.no_text empty_journal place [] breaks.bad empty_text
      stops_nowhere fault was_given refuses now place (inr refused) =
          let all = ap (λ (x : List ℕ). length x) refused.begins.whole in
          let text = length-entries_text-push refused.entries refused.entry in
          let long = length-entry_text refused.entry in
          let parts = length-append (entries_text (refused.entries ++ refused.entry ∷ [])) refused.rest in
          omega (arith, all, text, long, parts)

      pub stops_before : {Into : Type 0} → IsOneFault → (was_given : Into → ℕ → List Entry → Type 0) (refuses : List Entry → Entry → Type 0) (now : Into) (place : ℕ)
          → IfSome begun.content (λ b. StopsAt was_given refuses now b place) → IfSome before.content (λ bytes. StopsAt was_given refuses now bytes place)
      stops_before fault was_given refuses now place stops = IfSome-from before.content (λ bytes told. elim (begun_as bytes told) [
        | inl same ↦ IfSome_at begun.content (λ b. StopsAt was_given refuses now b place) bytes same stops
        | inr none ↦ absurd (stops_nowhere fault was_given refuses now place (IfSome_at begun.content (λ b. StopsAt was_given refuses now b place) empty_journal none.1 stops))
      ])

      content_begun : (bytes : List ℕ) → before.content ≡ Some bytes → (now : List ℕ) × (begun.content ≡ Some now)
      content_begun bytes told = elim (begun_as bytes told) [ inl same ↦ (bytes, same) | inr none ↦ (empty_journal, none.1) ]

      module _ (was_given : ℕ → List Entry → Type 0) (all : OpeningState) (given : HasGivenAll was_given all begun.content read.images) (after : DiskTold) (goes_on : GoesOn read after)
          (moment : IfSome read.content (λ bytes. (entries : List Entry) → HasReadAll all entries bytes read.images → LeavesOnly read after (JournalText entries))) where
        text_begun : IfSome begun.content (λ b. JournalText given.entries b)
        text_begun = IfSome-from begun.content (λ b is. (IfSome_at begun.content (λ x. HasReadAll all given.entries x read.images) b is given.reads).text)

        leaves_entries : (bytes : List ℕ) → before.content ≡ Some bytes → LeavesOnly read after (JournalText given.entries)
        leaves_entries bytes told =
            let now = content_begun bytes told in
            let is : read.content ≡ Some now.0 = looks.same ∙ now.1 in
            IfSome_at read.content (λ x. (entries : List Entry) → HasReadAll all entries x read.images → LeavesOnly read after (JournalText entries)) now.0 is moment given.entries
            (IfSome_at begun.content (λ x. HasReadAll all given.entries x read.images) now.0 now.1 given.reads)

        leaves_all : (bytes : List ℕ) → before.content ≡ Some bytes → LeavesOnly before after (OpeningLeaves before.images bytes)
        leaves_all bytes told =
            let begins = GoesOn-append before begun read tears.goes_on looks.goes_on in
            let found = entries_found given.entries bytes told text_begun in
            LeavesOnly-append before read after (OpeningLeaves before.images bytes) begins goes_on (leaves_read bytes told)
            (LeavesOnly-weaker read after (JournalText given.entries) (OpeningLeaves before.images bytes) (λ image text. inr (given.entries, found, text)) (leaves_entries bytes told))

        pub whole_moment : IfSome before.content (λ bytes. LeavesOnly before after (OpeningLeaves before.images bytes))
        whole_moment = IfSome-from before.content leaves_all

        module _ (opening : OpeningState) (opened : IfSome begun.content (λ bytes. HasRead opening [] bytes begun.images)) where
          -- since the first sync each stop leaves the entries
          stands_since : (bytes : List ℕ) → before.content ≡ Some bytes → StandsSince before after bytes given.entries
          stands_since bytes told =
              let now = content_begun bytes told in
              let text = IfSome_at begun.content (λ b. JournalText given.entries b) now.0 now.1 text_begun in
              let reads = IfSome_at begun.content (λ b. HasRead opening [] b begun.images) now.0 now.1 opened in
              let first_later = looks.goes_on.later in
              let then_later = goes_on.later in
              record {
                moment = begun.moment;
                begins = tears.goes_on.later;
                ends = omega arith;
                until = λ image left. elim ((GoesOn-append begun read after looks.goes_on goes_on).nothing_else before.moment image tears.goes_on.later left) [
                  | inl past ↦ inr ((leaves_begun bytes told).each image past)
                  | inr later ↦ inl later
                ];
                each = λ image left. elim (goes_on.nothing_else begun.moment image first_later left) [
                  | inl past ↦
                      let P : List ℕ → Type 0 = λ x. JournalText given.entries x in
                      subst P (sym (reads.only image (looks.any_moment.each image past))) text
                  | inr later ↦ (leaves_entries bytes told).each image later
                ];
              }

          pub opens : (limit : ℕ) (journal : JournalState) → journal ≡ record { gate = all.place; limit = all.limit; doubt = None } → all.limit ≡ opening.limit → opening.limit ≡ limit
              → IfSome read.content (λ bytes. (entries : List Entry) → HasReadAll all entries bytes read.images → IsSomeAnd after.content (λ b. AtRest journal entries b after.images))
              → Opens was_given limit before after journal
          opens limit journal is same_limit its_limit at_rest = record {
            start = given.start;
            entries = given.entries;
            given = given.given;
            journal_is = is ∙ (ap (λ (n : ℕ). settled_state n all.limit) given.behind ∙ ap (λ (n : ℕ). settled_state (place_from given.start given.entries) n) (same_limit ∙ its_limit));
            found = IfSome-from before.content (λ bytes told. entries_found given.entries bytes told text_begun);
            means = IfSome-from before.content (λ bytes told.
                let now = content_begun bytes told in
                let here : read.content ≡ Some now.0 = looks.same ∙ now.1 in
                IfSome_at read.content (λ x. (entries : List Entry) → HasReadAll all entries x read.images → IsSomeAnd after.content (λ b. AtRest journal entries b after.images)) now.0 here at_rest given.entries
                (IfSome_at begun.content (λ x. HasReadAll all given.entries x read.images) now.0 now.1 given.reads));
            stands = IfSome-from before.content stands_since;
          }
