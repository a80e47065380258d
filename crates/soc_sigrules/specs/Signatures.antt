-- The signature of a crash: what engineers group crashes by (this project's profile, after Socorro's signatures).
use Rattle.std.specs.Prelude.{ℕ, nat_lt, not, Bool, List, length, Option, None}
use Rattle.std.specs.List.{list_any, list_all, last_or}
use Rattle.soc_siglists.specs.Lists.{ListTexts, is_prefix, is_sentinel}
use Rattle.soc_sigrules.specs.declared.input.SigInput.{SigInput}
use Rattle.soc_sigrules.specs.declared.input.Signature.{Signature}
use Rattle.soc_sigrules.specs.Chars.{first_chars, joined}
use Rattle.soc_sigrules.specs.Spaces.{spaced}
use Rattle.soc_sigrules.specs.Stacks.{separator, proto_of, stack_texts, text_of}
use Rattle.soc_sigrules.specs.Rules.{has_watchdog, after_rules}

abbrev pub signature_of : ListTexts → SigInput → Signature
signature_of lists input =
    let marked = after_rules (has_watchdog input.frames) input (text_of input.thread_found (stack_texts lists input.frames)) in
    record { text = marked.text; proto = proto_of input.frames; notes = marked.notes }

-- what a signature needs of the texts of its stack: as much as it can show, with its blanks (257 characters, since a space
-- at the end goes away), the last text, and whether nothing follows it
pub record StackState : Type 0 where
  pub front : List ℕ
  pub last : Option (List ℕ)
  pub is_ended : Bool

abbrev pub stack_state : ListTexts → List (List ℕ) → StackState
stack_state lists texts = record {
  front = first_chars 257 (spaced (joined separator texts));
  last = last_or None texts;
  is_ended = not (list_all (is_prefix lists) texts);
}

-- what a signature needs of the frames so far
pub record Summary : Type 0 where
  pub lists : ListTexts
  pub has_frames : Bool
  pub proto : List ℕ
  pub watched : Bool
  pub has_sentinel : Bool
  pub texts : StackState

abbrev pub summary_of : ListTexts → List (List ℕ) → Summary
summary_of lists frames = record {
  lists = lists;
  has_frames = nat_lt 0 (length frames);
  proto = proto_of frames;
  watched = has_watchdog frames;
  has_sentinel = list_any (is_sentinel lists) frames;
  texts = stack_state lists (stack_texts lists frames);
}
