-- What a submission says keeps within the limits of a raw crash (this project's profile).
use Rattle.std.specs.Prelude.{◌≡◌, ◌≤◌, length}
use Rattle.soc_raw.specs.Record.{Crash, record_of, MAX_RECORD, MAX_ANNOTATIONS, MAX_DUMPS}
use Rattle.soc_forms.specs.Submissions.{SubmissionText}

-- a raw crash with what the submission says keeps within the limits of one, whatever its id, moment and
-- draw, under a rule's name of at most 40 bytes
pub record FitsCrash (said : SubmissionText) : Type 0 where
  pub few_annotations : length said.annotations ≤ MAX_ANNOTATIONS
  pub few_dumps : length said.dumps ≤ MAX_DUMPS
  pub fits : (crash : Crash) → crash.annotations ≡ said.annotations → crash.dumps ≡ said.dumps
      → length crash.id ≡ 36 → length crash.rule ≤ 40 → length (record_of crash) ≤ MAX_RECORD
