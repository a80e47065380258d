-- What a disk holds of a journal or an opening, after calls that changed nothing: for those who build on this crate.
use Rattle.std.proofs.Common.{List, ℕ, subst, sym}
use Rattle.soc_edge.specs.Disk.{NoMore}
use Rattle.soc_journal.specs.Entries.{Entry}
use Rattle.soc_journal.specs.Openings.{OpeningState, HasRead, HasReadAll}
use Rattle.soc_journal.specs.States.{JournalState, AtRest, InDoubt}
use Rattle.soc_journal.specs.Text.{JournalText}

module _ (entries : List Entry) (bytes : List ℕ) (images now_images : List ℕ → Type 0) (no_more : NoMore images now_images) where
  pub AtRest-stays : (journal : JournalState) → AtRest journal entries bytes images → AtRest journal entries bytes now_images
  AtRest-stays journal rests = record {
    text = rests.text;
    current = rests.current;
    gate_stands = rests.gate_stands;
    no_doubt = rests.no_doubt;
    only = λ image left. rests.only image (no_more image left);
  }

  pub InDoubt-stays : (journal : JournalState) (more : List Entry) → InDoubt journal entries more bytes images → InDoubt journal entries more bytes now_images
  InDoubt-stays journal more doubts = record {
    text = doubts.text;
    current = doubts.current;
    gate_stands = doubts.gate_stands;
    in_doubt = doubts.in_doubt;
    each = λ image left. doubts.each image (no_more image left);
  }

  pub HasRead-stays : (opening : OpeningState) → HasRead opening entries bytes images → HasRead opening entries bytes now_images
  HasRead-stays opening has = record {
    rest = has.rest;
    begins = has.begins;
    behind = has.behind;
    size = has.size;
    same_version = has.same_version;
    only = λ image left. has.only image (no_more image left);
  }

  pub HasReadAll-stays : (opening : OpeningState) → HasReadAll opening entries bytes images → HasReadAll opening entries bytes now_images
  HasReadAll-stays opening has = record { text = has.text; reads = HasRead-stays opening has.reads }

-- at rest, each image stands for the entries
pub JournalText-each : (journal : JournalState) (entries : List Entry) (bytes : List ℕ) (images : List ℕ → Type 0) → AtRest journal entries bytes images → (image : List ℕ) → images image → JournalText entries image
JournalText-each journal entries bytes images rests image left =
    let P : List ℕ → Type 0 = λ x. JournalText entries x in
    subst P (sym (rests.only image left)) rests.text
