-- What a book keeps in memory of its log.
use Rattle.std.specs.Prelude.{◌≡◌, ℕ, ◌+◌, List, length, Option, Some, Result, Ok, Err}
use Rattle.std.specs.Option.{option_map}
use Rattle.sha2.specs.Sha256.{sha256}
use Rattle.soc_raw.specs.Record.{Crash, IsCrash, head_text, content_text, record_of}
use Rattle.soc_schema.specs.Reports.{product_of}
use Rattle.soc_schema.specs.declared.value.Cell.{Cell}
use Rattle.soc_schema.specs.declared.value.Value.TheVariants.{Text}
use Rattle.soc_schema.specs.Fields.{uuid_field, product_field}
use Rattle.soc_schema.specs.Rows.{value_of}
use Rattle.soc_schema.specs.RowText.{HasText, row_text}
use Rattle.soc_raw.specs.CrashId.{IsId}
use Rattle.soc_journal.specs.Entries.{accept_kind, head_size}
use Rattle.soc_desk.specs.declared.desk.Reply.{Reply}
use Rattle.soc_desk.specs.declared.desk.Reply.TheVariants as R
use Rattle.soc_desk.specs.declared.desk.Refusal.{Refusal}
use Rattle.soc_desk.specs.Log.{KeptReport, report}
use Rattle.soc_desk.specs.State.{body_of}
use Rattle.soc_book.specs.declared.report.Report.{Report}
use Rattle.soc_book.specs.declared.submission.NewCrash.{NewCrash}
use Rattle.soc_book.specs.declared.submission.Submission.{Submission}

abbrev pub reply_of : Result Reply Refusal → Reply
reply_of (Ok reply) = reply
reply_of (Err refusal) = R.Refused refusal

-- it is kept of this raw crash
pub record Tells (new : NewCrash) (raw : Crash) : Type 0 where
  pub id : new.id ≡ raw.id
  pub content : new.content ≡ length (head_text raw)
  pub product : new.product ≡ product_of raw
  pub digest : new.digest ≡ sha256 (content_text raw)
  pub size : new.size ≡ head_size + length (record_of raw)

-- it was made of this raw crash
pub record IsSubmissionOf (submission : Submission) (raw : Crash) : Type 0 where
  pub is : IsCrash raw
  pub tells : Tells submission.new raw
  pub entry : submission.entry ≡ record { kind = accept_kind; body = record_of raw }

-- the body of the entry of a report that may be kept
pub record IsReport (made : KeptReport) (body : List ℕ) : Type 0 where
  pub is_id : IsId made.id
  pub long : length made.digest ≡ 32
  pub has_text : HasText made.row (row_text made.row)
  pub whole : body ≡ body_of (report made)

-- a report as it was read of a body
abbrev pub made_of : Report → KeptReport
made_of read = record { id = read.id; digest = read.digest.now; row = read.row }

-- the row has this id, and this product or none
pub record IsRowFor (named : List ℕ) (made_by : Option (List ℕ)) (row : List Cell) : Type 0 where
  pub id : value_of row uuid_field ≡ Some (Text named)
  pub product : value_of row product_field ≡ option_map Text made_by
