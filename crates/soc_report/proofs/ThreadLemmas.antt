-- The crashing thread.
use Rattle.std.proofs.Common.{◌≡◌, ℕ, ◌+◌, List, [], ◌∷◌, map, Option, Some, cond, refl, sym, ap, ◌∙◌, eqb}
use Rattle.std.specs.Prelude.{◌==◌}
use Rattle.std.specs.List.{position, position_from}
use Rattle.std.specs.Option.{option_and_then}
use Rattle.std.proofs.lemmas.Iterator.Adapters.{position_from-zero}
use Rattle.soc_dump.specs.declared.exception.Exception.{Exception}
use Rattle.soc_dump.specs.declared.thread.Thread.{Thread}
use Rattle.soc_dump.specs.Dump.{Contents}
use Rattle.soc_dump.specs.Entries.{ExceptionEntry, ThreadEntry}
use Rattle.soc_dump.specs.Views.{exception_entry, thread_entry}
use Rattle.soc_report.specs.Dumps.{crashing_thread}

from_entries : (threads : List Thread) (id start : ℕ) → position_from (λ t. t.id == id) start threads ≡ position_from (λ t. t.id == id) start (map thread_entry threads)
from_entries [] id start = refl
from_entries (t ∷ ts) id start = ap (λ (o : Option ℕ). cond (eqb t.id id) (Some start) o) (from_entries ts id (start + 1))

pub thread_is : (dump : Contents) (threads : List Thread) (exception : Exception) (place : Option ℕ) → map thread_entry threads ≡ dump.threads
    → Some (exception_entry exception) ≡ dump.exception → place ≡ position (λ t. t.id == exception.thread) threads → place ≡ crashing_thread dump
thread_is dump threads exception place is_threads is_exception is =
    is ∙ position_from-zero (λ (t : Thread). t.id == exception.thread) threads ∙ from_entries threads exception.thread 0
    ∙ sym (position_from-zero (λ (t : ThreadEntry). t.id == exception.thread) (map thread_entry threads))
    ∙ ap (position (λ (t : ThreadEntry). t.id == exception.thread)) is_threads
    ∙ ap (λ (o : Option ExceptionEntry). option_and_then (λ e. position (λ t. t.id == e.thread) dump.threads) o) is_exception
