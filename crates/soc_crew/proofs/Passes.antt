-- What passes put and take, one call after another.
use Rattle.std.proofs.Common.{◌≡◌, inl, inr, ℕ, ◌+◌, ◌<◌, ◌≤◌, List, [], ◌∷◌, ◌++◌, length, drop, map, take, Option, None, Some, IsSomeAnd, All, refl, sym, ◌∙◌, ap, subst, ⊎_elim, arith, append_assoc}
use Rattle.std.specs.Prelude.{MatchOption}
use Rattle.std.specs.List.{slice_get}
use mathlib.Core.List.{append-nil}
use Rattle.std.proofs.lemmas.Bool.{cases_lt}
use Rattle.std.proofs.lemmas.List.{drop-append-le, length-map, length-take-le, map-append, take_all, take_more}
use Rattle.std.proofs.lemmas.List.Elements.{All-map}
use Rattle.std.proofs.lemmas.Option.{get_or_from_slice_get, slice_get-get_or, slice_get_within}
use Rattle.soc_base.proofs.Folk.{none_is_not_some}
use Rattle.soc_pool.specs.declared.jobs.Job.{Job}
use Rattle.soc_pool.specs.declared.jobs.Job.TheVariants as J
use Rattle.soc_pool.specs.declared.jobs.TheConstants.{PLACES}
use Rattle.soc_pool.specs.declared.pass.Pass.{Pass}
use Rattle.soc_pool.specs.declared.rule.Seen.{Seen}
use Rattle.soc_pool.specs.Passes.{IsNew, seen_of}
use Rattle.soc_pool.specs.Ring.{Puts, PutsOver}
use Rattle.soc_desk.specs.declared.desk.Command.{Command}
use Rattle.soc_desk.specs.declared.desk.Receipt.{Receipt}
use Rattle.soc_collect.specs.Asked.{AsksAll, Step}
use Rattle.soc_service.specs.Desks.{PutsJob}
use Rattle.soc_service.specs.Works.{PutsCrashes, crash_jobs}
use Rattle.soc_crew.proofs.Lists.{at_some}
use Rattle.soc_crew.specs.Jobs.{EndsBy, OnlyPuts, PutsEnds, Shares, Starts, TakesToEnd, left_after}

-- ---- the jobs of crashes that are due

crashes_both : (ids more : List (List ℕ)) → crash_jobs (ids ++ more) ≡ crash_jobs ids ++ crash_jobs more
crashes_both [] more = refl
crashes_both (id ∷ ids) more = ap (λ l. J.Crash id ∷ l) (crashes_both ids more)

due_more : (due : List (List ℕ)) (n : ℕ) (id : List ℕ) → slice_get due n ≡ Some id → crash_jobs (take (n + 1) due) ≡ crash_jobs (take n due) ++ J.Crash id ∷ []
due_more due n id is =
    ap crash_jobs (take_more due n id (slice_get_within due n id is) ∙ ap (λ x. take n due ++ x ∷ []) (get_or_from_slice_get due n id id is)) ∙ crashes_both (take n due) (id ∷ [])

past : (due : List (List ℕ)) (n : ℕ) → slice_get due n ≡ None → length due ≤ n
past due n none = ⊎_elim (λ (within : n < length due). absurd (none_is_not_some (sym none ∙ slice_get-get_or due n [] within))) (λ (over : length due ≤ n). over) (cases_lt n (length due))

-- the first of them were put so far
pub record HasPut (due : List (List ℕ)) (n : ℕ) (v w : Seen) : Type 0 where
  pub within : n ≤ length due
  pub puts : w.puts ≡ v.puts ++ crash_jobs (take n due)
  pub takes : w.takes ≡ v.takes

pub put_none : (due : List (List ℕ)) (v w : Seen) → w ≡ v → HasPut due 0 v w
put_none due v w is = record { within = omega arith; puts = ap (λ s. s.puts) is ∙ sym (append-nil v.puts); takes = ap (λ s. s.takes) is }

pub put_more : (due : List (List ℕ)) (n : ℕ) (id : List ℕ) (v u w : Seen) → slice_get due n ≡ Some id → HasPut due n v u → Puts u (J.Crash id) w → HasPut due (n + 1) v w
put_more due n id v u w is has puts = record {
  within = let below = slice_get_within due n id is in omega arith;
  puts = ap (λ s. s.puts) puts.is_now ∙ (ap (λ l. l ++ J.Crash id ∷ []) has.puts ∙ (append_assoc v.puts (crash_jobs (take n due)) (J.Crash id ∷ []) ∙ ap (λ l. v.puts ++ l) (sym (due_more due n id is))));
  takes = ap (λ s. s.takes) puts.is_now ∙ has.takes;
}

-- no further one is due
pub put_all : (due : List (List ℕ)) (n : ℕ) (v w : Seen) → n ≤ PLACES → slice_get due n ≡ None → HasPut due n v w → w.puts ≡ v.puts ++ crash_jobs (take PLACES due)
put_all due n v w few none has =
    let over = past due n none in
    has.puts ∙ ap (λ l. v.puts ++ crash_jobs l) (take_all n due over ∙ sym (take_all PLACES due (omega arith)))

-- those from a place on, with one more
pub wait_more : (due waiting : List (List ℕ)) (from n : ℕ) (id : List ℕ) → slice_get due n ≡ Some id → from ≤ n → waiting ≡ drop from (take n due)
    → waiting ++ id ∷ [] ≡ drop from (take (n + 1) due)
wait_more due waiting from n id is behind are =
    let within = slice_get_within due n id is in
    let long = length-take-le n due (omega arith) in
    ap (λ l. l ++ id ∷ []) are ∙ (sym (drop-append-le from (take n due) (id ∷ []) (omega (arith, long)))
    ∙ ap (drop from) (sym (take_more due n id within ∙ ap (λ x. take n due ++ x ∷ []) (get_or_from_slice_get due n id id is))))

-- and where no further one is due
pub wait_all : (due waiting : List (List ℕ)) (from n most : ℕ) → slice_get due n ≡ None → n ≤ most → waiting ≡ drop from (take n due)
    → waiting ≡ drop from (take most due)
wait_all due waiting from n most none few are =
    let over = past due n none in
    are ∙ ap (drop from) (take_all n due over ∙ sym (take_all most due (omega arith)))

-- ---- the ends

pub ends_none : (ends : ℕ) (v : Seen) → PutsEnds ends ends v v
ends_none ends v = ([], (refl, refl))

-- an `End` was put
pub end_put : (left left' : ℕ) (v w : Seen) (out : Option Job) → 0 < left → left' ≡ left_after left out → MatchOption out (Puts v J.End w) (λ job. PutsOver v job J.End w) → PutsEnds left left' v w
end_put left left' v w out some is put = (out ∷ [], (some, w, put, (is, refl)))

steps_more : (steps more : List (Option Job)) (ends left left' : ℕ) (v u w : Seen) → EndsBy steps ends left v u → EndsBy more left left' u w → EndsBy (steps ++ more) ends left' v w
steps_more [] more ends left left' v u w first next = subst (λ n. EndsBy more n left' v w) first.0 (subst (λ s. EndsBy more left left' s w) first.1 next)
steps_more (out ∷ steps) more ends left left' v u w (some, t, puts, rest) next = (some, t, puts, steps_more steps more (left_after ends out) left left' t u w rest next)

pub ends_more : (ends left left' : ℕ) (v u w : Seen) → PutsEnds ends left v u → PutsEnds left left' u w → PutsEnds ends left' v w
ends_more ends left left' v u w first next = (first.0 ++ next.0, steps_more first.0 next.0 ends left left' v u w first.1 next.1)

-- ---- collectors

-- a desk's pass puts jobs of crashes and takes none
pub record PutsAlone (v w : Seen) : Type 0 where
  pub ids : List (List ℕ)
  pub puts : w.puts ≡ v.puts ++ crash_jobs ids
  pub takes : w.takes ≡ v.takes

crashes_none : (v w : Seen) → w ≡ v → PutsAlone v w
crashes_none v w is = record { ids = []; puts = ap (λ s. s.puts) is ∙ sym (append-nil v.puts); takes = ap (λ s. s.takes) is }

crashes_then : (v u w : Seen) → PutsAlone v u → PutsAlone u w → PutsAlone v w
crashes_then v u w first next = record {
  ids = first.ids ++ next.ids;
  puts = next.puts ∙ (ap (λ l. l ++ crash_jobs next.ids) first.puts ∙ (append_assoc v.puts (crash_jobs first.ids) (crash_jobs next.ids) ∙ ap (λ l. v.puts ++ l) (sym (crashes_both first.ids next.ids))));
  takes = next.takes ∙ first.takes;
}

by_job : (due : Option (List ℕ)) (before after : Pass) → PutsJob due before after → PutsAlone (seen_of before) (seen_of after)
by_job None before after is = crashes_none _ _ (ap (λ p. seen_of p) is)
by_job (Some id) before after (inl put, same) = record { ids = id ∷ []; puts = ap (λ s. s.puts) put.0.is_now; takes = ap (λ s. s.takes) put.0.is_now }
by_job (Some id) before after (inr full, same) = crashes_none _ _ full.0

module _ {K : Type 0} (asks : K → Command → Receipt → K → Type 0) (pass_of : K → Option Pass) (due_of : Command → Receipt → Option (List ℕ))
    (each : (k : K) (command : Command) (receipt : Receipt) (l : K) → asks k command receipt l → IsSomeAnd (pass_of k) (λ p. IsSomeAnd (pass_of l) (λ q. PutsJob (due_of command receipt) p q))) where
  one_pass : (o : Option Pass) (Q : Pass → Type 0) → IsSomeAnd o Q → (q : Pass) × (o ≡ Some q) × Q q
  one_pass None Q never = absurd never
  one_pass (Some q) Q known = (q, refl, known)

  -- what each command does to a pass, all commands do
  pub asks_put : (steps : List Step) (before after : K) (p : Pass) → pass_of before ≡ Some p → AsksAll asks before steps after → IsSomeAnd (pass_of after) (λ q. PutsAlone (seen_of p) (seen_of q))
  asks_put [] before after p at is = subst (λ o. IsSomeAnd o (λ q. PutsAlone (seen_of p) (seen_of q))) (sym (ap pass_of is ∙ at)) (crashes_none _ _ refl)
  asks_put (step ∷ steps) before after p at (between, asked, rest) =
      let now = at_some (λ x. IsSomeAnd (pass_of between) (λ q. PutsJob (due_of step.command step.receipt) x q)) (pass_of before) p at (each before step.command step.receipt between asked) in
      let next = one_pass (pass_of between) (λ q. PutsJob (due_of step.command step.receipt) p q) now in
      let last = one_pass (pass_of after) (λ q. PutsAlone (seen_of next.0) (seen_of q)) (asks_put steps between after next.0 next.1 rest) in
      subst (λ o. IsSomeAnd o (λ q. PutsAlone (seen_of p) (seen_of q))) (sym last.1) (crashes_then _ _ _ (by_job _ p next.0 next.2) last.2)

  -- so a pass that was new has only put
  pub asks_only_put : (steps : List Step) (before after : K) → IsSomeAnd (pass_of before) (λ p. IsNew p) → AsksAll asks before steps after → IsSomeAnd (pass_of after) (λ q. OnlyPuts (seen_of q))
  asks_only_put steps before after new asked =
      let first = one_pass (pass_of before) (λ p. IsNew p) new in
      let last = one_pass (pass_of after) (λ q. PutsAlone (seen_of first.0) (seen_of q)) (asks_put steps before after first.0 first.1 asked) in
      subst (λ o. IsSomeAnd o (λ q. OnlyPuts (seen_of q))) (sym last.1) (
        last.2.ids,
        last.2.puts ∙ ap (λ l. l ++ crash_jobs last.2.ids) (ap (λ s. s.puts) first.2.seen),
        last.2.takes ∙ ap (λ s. s.takes) first.2.seen,
      )

-- ---- processors

-- a processor took jobs of crashes so far, and put some
pub record TakesCrashes (v w : Seen) : Type 0 where
  pub ids : List (List ℕ)
  pub takes : w.takes ≡ v.takes ++ crash_jobs ids
  pub puts : PutsCrashes v w

pub took_nothing : (v w : Seen) → w ≡ v → TakesCrashes v w
took_nothing v w is = record {
  ids = [];
  takes = ap (λ s. s.takes) is ∙ sym (append-nil v.takes);
  puts = record { crashes = []; number = ap (λ s. s.number) is; puts = ap (λ s. s.puts) is ∙ sym (append-nil v.puts) };
}

puts_then : (v u w : Seen) → PutsCrashes v u → PutsCrashes u w → PutsCrashes v w
puts_then v u w first next = record {
  crashes = first.crashes ++ next.crashes;
  number = next.number ∙ first.number;
  puts = next.puts ∙ (ap (λ l. l ++ crash_jobs next.crashes) first.puts ∙ (append_assoc v.puts (crash_jobs first.crashes) (crash_jobs next.crashes) ∙ ap (λ l. v.puts ++ l) (sym (crashes_both first.crashes next.crashes))));
}

pub took_more : (v u w : Seen) (ids : List (List ℕ)) (last : List Job) → last ≡ [] → TakesCrashes v u → w.takes ≡ u.takes ++ (crash_jobs ids ++ last) → PutsCrashes u w → TakesCrashes v w
took_more v u w ids last none so_far takes puts = record {
  ids = so_far.ids ++ ids;
  takes = takes ∙ (ap (λ l. u.takes ++ (crash_jobs ids ++ l)) none ∙ (ap (λ l. u.takes ++ l) (append-nil (crash_jobs ids)) ∙ (ap (λ l. l ++ crash_jobs ids) so_far.takes ∙ (append_assoc v.takes (crash_jobs so_far.ids) (crash_jobs ids) ∙ ap (λ l. v.takes ++ l) (sym (crashes_both so_far.ids ids))))));
  puts = puts_then v u w so_far.puts puts;
}

pub took_end : (p : Pass) (u w : Seen) (ids : List (List ℕ)) (last : List Job) → last ≡ J.End ∷ [] → IsNew p → TakesCrashes (seen_of p) u → w.takes ≡ u.takes ++ (crash_jobs ids ++ last) → PutsCrashes u w → TakesToEnd w
took_end p u w ids last is new so_far takes puts =
    let all = puts_then (seen_of p) u w so_far.puts puts in (
      so_far.ids ++ ids,
      all.crashes,
      takes ∙ (ap (λ l. u.takes ++ (crash_jobs ids ++ l)) is ∙ (sym (append_assoc u.takes (crash_jobs ids) (J.End ∷ []))
          ∙ ap (λ l. l ++ J.End ∷ []) (ap (λ l. l ++ crash_jobs ids) (so_far.takes ∙ ap (λ l. l ++ crash_jobs so_far.ids) (ap (λ s. s.takes) new.seen)) ∙ sym (crashes_both so_far.ids ids)))),
      all.puts ∙ ap (λ l. l ++ crash_jobs all.crashes) (ap (λ s. s.puts) new.seen),
    )

-- ---- all of them

pub shared : (Own : Seen → Type 0) (passes collecting processing : List Pass) (own : Pass) (collectors processors : ℕ)
    → passes ≡ (collecting ++ processing) ++ own ∷ [] → length collecting ≡ collectors → length processing ≡ processors
    → All (λ q. OnlyPuts (seen_of q)) collecting → All (λ q. TakesToEnd (seen_of q)) processing → Own (seen_of own)
    → Shares Own collectors processors (map (λ pass. seen_of pass) passes)
shared Own passes collecting processing own collectors processors is c p put took started = record {
  collecting = map (λ pass. seen_of pass) collecting;
  processing = map (λ pass. seen_of pass) processing;
  own = seen_of own;
  passes_are =
      ap (map (λ pass. seen_of pass)) is
      ∙ (map-append (λ pass. seen_of pass) (collecting ++ processing) (own ∷ []) ∙ ap (λ l. l ++ seen_of own ∷ []) (map-append (λ pass. seen_of pass) collecting processing));
  collectors_are = length-map collecting (λ pass. seen_of pass) ∙ c;
  processors_are = length-map processing (λ pass. seen_of pass) ∙ p;
  put = All-map OnlyPuts (λ pass. seen_of pass) collecting put;
  took = All-map TakesToEnd (λ pass. seen_of pass) processing took;
  started = started;
}

-- the same with what was put at the start, of a ring that has ended with all passes, one for each buffer
pub started_with : (due : List (List ℕ)) (p : Pass) (u : Seen) (collectors processors buffers : ℕ) (seen passes : List Seen)
    → IsNew p → u.puts ≡ (seen_of p).puts ++ crash_jobs (take PLACES due) → u.takes ≡ (seen_of p).takes → buffers ≡ collectors → seen ≡ passes
    → Shares (PutsEnds processors 0 u) buffers processors passes → Shares (Starts due processors) collectors processors seen
started_with due p u collectors processors buffers seen passes new puts takes few same shares = record {
  collecting = shares.collecting;
  processing = shares.processing;
  own = shares.own;
  passes_are = same ∙ shares.passes_are;
  collectors_are = shares.collectors_are ∙ few;
  processors_are = shares.processors_are;
  put = shares.put;
  took = shares.took;
  started = (u, puts ∙ ap (λ s. s.puts ++ crash_jobs (take PLACES due)) new.seen, takes ∙ ap (λ s. s.takes) new.seen, shares.started);
}
