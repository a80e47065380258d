use denote.Param.Send.{sendable}
use Rattle.std.proofs.Common.{◌≡◌, ◌⊎◌, ◌<◌, ◌^◌, true, [], ◌∷◌, ◌++◌, length, Some, IfSome, IsSomeAnd, sym, ◌∙◌, ap, subst, arith, length-append}
use Rattle.std.specs.Prelude.{vec_len}
use Rattle.std.proofs.Crossing.{crosses}
use Rattle.std.proofs.lemmas.List.Elements.{All-append, All-push, All-same, All-weaker}
use Rattle.std.proofs.lemmas.Slice.Zip.{AllZip-long}
use Rattle.soc_base.proofs.Folk.{none_long}
use Rattle.soc_hall.specs.Seats.{IsNew, IsSeatOf, known_of, seats_in}
use Rattle.soc_pool.specs.Passes.{IsNew as IsNewPass, IsPassOf, passes_in, seen_of}
use Rattle.soc_collect.specs.Tallies.{nothing_served}
use Rattle.soc_service.specs.Desks.{HasTurned}
use Rattle.soc_service.specs.Due.{asked_id, due_after}
use Rattle.soc_crew.specs.Jobs.{OnlyPuts, TakesToEnd, PutsEnds}
use Rattle.soc_hall.proofs.Crossing.{place_send, room_sync, seat_send}
use Rattle.soc_pool.proofs.Crossing.{jobs_sync, pass_send}
use Rattle.soc_crew.proofs.Desks.{asks_keep}
use Rattle.soc_crew.proofs.Passes.{asks_only_put, shared}
use Rattle.soc_crew.proofs.Lists.{all_through, one_more}
use Rattle.soc_crew.proofs.crew.serve_in.Goals as goal

pub work-collecting-requires-send-K : goal.work-collecting-requires-send-K
work-collecting-requires-send-K g c κs within =
    let desk = c.type_bounds.send-T in
    let reporter = c.type_bounds.sync-P in
    let gate = c.type_bounds.sync-G in
    let runtime = c.type_bounds.sync-R in
    search (sendable, crosses, jobs_sync, pass_send, place_send, room_sync, seat_send) depth 60 fits 100000

pub work-collecting-requires-send-T : goal.work-collecting-requires-send-T
work-collecting-requires-send-T g c κs within =
    let desk = c.type_bounds.send-T in
    let reporter = c.type_bounds.sync-P in
    let gate = c.type_bounds.sync-G in
    let runtime = c.type_bounds.sync-R in
    search (sendable, crosses, jobs_sync, pass_send, place_send, room_sync, seat_send) depth 60 fits 100000

pub leave_collectors-served-requires-clause-each : goal.leave_collectors-served-requires-clause-each
leave_collectors-served-requires-clause-each g c κs within =
    let opened = c.args.opened.now.value in
    let basis = g.T.Logged.basis_of opened in
    let opening = g.T.Logged.log_of opened in
    let hall = c.args.site.now.hall.now in
    let jobs = c.args.site.now.jobs.now in
    all_through c.collectors-collecting.result.items c.work-collecting.result.0.items c.work-collecting.ensures.collectors
    (λ k. (k.desk.hall.now ≡ hall) × IsNew basis opening (known_of k.desk.began.value) × (k.served ≡ nothing_served) × (k.desk.kept ≡ 0)
    × (k.ticket.handed.parts ≡ 1) × (k.ticket.refused.parts ≡ 1) × (k.ticket.handed.amount ≡ 0) × (k.ticket.refused.amount ≡ 0)
    × (k.desk.jobs.now ≡ jobs) × IsSomeAnd k.desk.pass (λ q. IsNewPass q)) c.collectors-collecting.ensures.each
    (λ k. (k.desk.hall.now ≡ hall) × IsNew basis opening (known_of k.desk.began.value)
    × (k.served.connections ≡ k.ticket.handed.amount) × (k.served.kept ≡ k.desk.kept) × (k.served.kept < 2 ^ 60)
    × (k.ticket.handed.parts ≡ 1) × (k.ticket.refused.parts ≡ 1) × ((k.served.stopped ≡ true) ⊎ (0 < k.ticket.refused.amount))
    × (k.desk.jobs.now ≡ jobs) × IsSomeAnd k.desk.pass (λ q. OnlyPuts (seen_of q)))
    (λ x y p r.
    let same_hall = asks_keep r.0.0 x.desk y.desk r.0.1 (λ d. d.hall) (λ k command receipt l asked. asked.0) in
    let same_jobs = asks_keep r.0.0 x.desk y.desk r.0.1 (λ d. d.jobs) (λ k command receipt l asked. asked.1) in
    let same_seat = asks_keep r.0.0 x.desk y.desk r.0.1 (λ d. d.began) (λ k command receipt l asked. asked.5) in (
      ap (λ h. h.now) same_hall ∙ p.0,
      subst (λ b. IsNew basis opening (known_of b.value)) (sym same_seat) p.1,
      r.1,
      r.2,
      r.3,
      r.4,
      r.5,
      r.6,
      ap (λ j. j.now) same_jobs ∙ p.8,
      asks_only_put _ (λ d. d.pass) (λ command receipt. due_after (asked_id command) receipt.reply) (λ k command receipt l asked. asked.3) r.0.0 x.desk y.desk p.9 r.0.1,
    ))

pub leave_collectors-served-requires-clause-few : goal.leave_collectors-served-requires-clause-few
leave_collectors-served-requires-clause-few g c κs within =
    let zip = c.work-collecting.ensures.collectors in
    let long = AllZip-long _ _ _ zip in
    let long_processors = AllZip-long _ _ _ c.work-collecting.ensures.processors in
    let ok = c.collectors-collecting.result.ok in
    let ok_after = c.work-collecting.result.0.ok in
    let ok_processing = c.processors-processing.result.ok in
    let ok_processed = c.work-collecting.result.1.ok in
    let collecting = c.collectors-collecting.ensures.count in
    let processing = c.processors-processing.ensures.count in
    let some = c.requires.crew.0 in
    let few = c.requires.crew.1 in
    let seats = c.requires.count.0 in
    let room = c.requires.count.1 in
    let passes = c.requires.count.2 in
    let pass_room = c.requires.count.3 in
    let left = c.collectors-collecting.ensures.left in
    let gone = c.processors-processing.ensures.left in
    let left_roll = c.collectors-collecting.ensures.roll.1 in
    let gone_roll = c.processors-processing.ensures.roll.1 in
    (omega arith, omega arith, omega arith, omega arith)

pub leave_collectors-served-requires-clause-none : goal.leave_collectors-served-requires-clause-none
leave_collectors-served-requires-clause-none g c κs within =
    let zip = c.work-collecting.ensures.collectors in
    let long = AllZip-long _ _ _ zip in
    let long_processors = AllZip-long _ _ _ c.work-collecting.ensures.processors in
    let ok = c.collectors-collecting.result.ok in
    let ok_after = c.work-collecting.result.0.ok in
    let ok_processing = c.processors-processing.result.ok in
    let ok_processed = c.work-collecting.result.1.ok in
    let collecting = c.collectors-collecting.ensures.count in
    let processing = c.processors-processing.ensures.count in
    let some = c.requires.crew.0 in
    let few = c.requires.crew.1 in
    let seats = c.requires.count.0 in
    let room = c.requires.count.1 in
    let passes = c.requires.count.2 in
    let pass_room = c.requires.count.3 in
    let left = c.collectors-collecting.ensures.left in
    let gone = c.processors-processing.ensures.left in
    let left_roll = c.collectors-collecting.ensures.roll.1 in
    let gone_roll = c.processors-processing.ensures.roll.1 in
    let no_seats : length (seats_in c.processors-processing.new.seats) ≡ 0 = omega arith in
    let no_passes : length (passes_in c.processors-processing.new.passes) ≡ 0 = omega arith in
    let parts = c.collectors-collecting.ensures.parts.0 in
    let whole = c.requires.ticket.2 in
    (none_long _ no_seats, none_long _ no_passes, c.collectors-collecting.ensures.unused.0, c.collectors-collecting.ensures.unused.1, omega arith)

pub leave_processors-requires-clause-each : goal.leave_processors-requires-clause-each
leave_processors-requires-clause-each g c =
    let opened = c.args.opened.now.value in
    let basis = g.T.Logged.basis_of opened in
    let opening = g.T.Logged.log_of opened in
    let hall = c.args.site.now.hall.now in
    let jobs = c.args.site.now.jobs.now in
    all_through c.processors-processing.result.items c.work-collecting.result.1.items c.work-collecting.ensures.processors
    (λ p. ((p.seat ≡ Some p.began.value) × IsSeatOf p.site.now.hall.now p.began.value × IsSomeAnd p.pass (λ q. IsPassOf p.site.now.jobs.now q × IsNewPass q)
    × IfSome (known_of p.began.value).basis (λ b. (g.T.SharedDesk.desk_of b).row_of ≡ g.P.Reporter.row_of p.reporter.now)) × (p.site.now.hall.now ≡ hall) × IsNew basis opening (known_of p.began.value)
    × (p.site.now.jobs.now ≡ jobs)) c.processors-processing.ensures.each
    (λ p. IsSomeAnd p.seat (λ s. IsSeatOf hall s × HasTurned (known_of p.began.value) (known_of s) 0) × IsNew basis opening (known_of p.began.value)
    × IsSomeAnd p.pass (λ q. IsPassOf jobs q × TakesToEnd (seen_of q)))
    (λ x y p r. (
      subst (λ h. IsSomeAnd y.seat (λ s. IsSeatOf h s × HasTurned (known_of y.began.value) (known_of s) 0)) p.1
          (subst (λ b. IsSomeAnd y.seat (λ s. IsSeatOf x.site.now.hall.now s × HasTurned (known_of b.value) (known_of s) 0)) (sym r.0) r.2),
      subst (λ b. IsNew basis opening (known_of b.value)) (sym r.0) p.2,
      subst (λ j. IsSomeAnd y.pass (λ q. IsPassOf j q × TakesToEnd (seen_of q))) p.3 r.3,
    ))

pub leave_processors-requires-clause-room : goal.leave_processors-requires-clause-room
leave_processors-requires-clause-room g c =
    let zip = c.work-collecting.ensures.collectors in
    let long = AllZip-long _ _ _ zip in
    let long_processors = AllZip-long _ _ _ c.work-collecting.ensures.processors in
    let ok = c.collectors-collecting.result.ok in
    let ok_after = c.work-collecting.result.0.ok in
    let ok_processing = c.processors-processing.result.ok in
    let ok_processed = c.work-collecting.result.1.ok in
    let collecting = c.collectors-collecting.ensures.count in
    let processing = c.processors-processing.ensures.count in
    let some = c.requires.crew.0 in
    let few = c.requires.crew.1 in
    let seats = c.requires.count.0 in
    let room = c.requires.count.1 in
    let passes = c.requires.count.2 in
    let pass_room = c.requires.count.3 in
    let left = c.collectors-collecting.ensures.left in
    let gone = c.processors-processing.ensures.left in
    let left_roll = c.collectors-collecting.ensures.roll.1 in
    let gone_roll = c.processors-processing.ensures.roll.1 in
    let now = c.leave_collectors-served.ensures.count in
    let now_passes = c.leave_collectors-served.ensures.passes.1 in
    let now_roll = c.leave_collectors-served.ensures.roll.1 in
    (omega arith, omega arith)

pub push-requires : goal.push-requires
push-requires g c =
    let zip = c.work-collecting.ensures.collectors in
    let long = AllZip-long _ _ _ zip in
    let long_processors = AllZip-long _ _ _ c.work-collecting.ensures.processors in
    let ok = c.collectors-collecting.result.ok in
    let ok_after = c.work-collecting.result.0.ok in
    let ok_processing = c.processors-processing.result.ok in
    let ok_processed = c.work-collecting.result.1.ok in
    let collecting = c.collectors-collecting.ensures.count in
    let processing = c.processors-processing.ensures.count in
    let some = c.requires.crew.0 in
    let few = c.requires.crew.1 in
    let seats = c.requires.count.0 in
    let room = c.requires.count.1 in
    let passes = c.requires.count.2 in
    let pass_room = c.requires.count.3 in
    let left = c.collectors-collecting.ensures.left in
    let gone = c.processors-processing.ensures.left in
    let left_roll = c.collectors-collecting.ensures.roll.1 in
    let gone_roll = c.processors-processing.ensures.roll.1 in
    let now = c.leave_collectors-served.ensures.count in
    let now_passes = c.leave_collectors-served.ensures.passes.1 in
    let now_roll = c.leave_collectors-served.ensures.roll.1 in
    let all = c.leave_processors.ensures.count in
    let more = c.leave_processors.ensures.passes in
    let all_roll = c.leave_processors.ensures.roll.1 in
    let longer = ap length more.1 ∙ length-append _ more.0 in
    let rest = more.2 in
    omega arith

pub returns-clause-seats : goal.returns-clause-seats
returns-clause-seats g c =
    let zip = c.work-collecting.ensures.collectors in
    let long = AllZip-long _ _ _ zip in
    let long_processors = AllZip-long _ _ _ c.work-collecting.ensures.processors in
    let ok = c.collectors-collecting.result.ok in
    let ok_after = c.work-collecting.result.0.ok in
    let ok_processing = c.processors-processing.result.ok in
    let ok_processed = c.work-collecting.result.1.ok in
    let collecting = c.collectors-collecting.ensures.count in
    let processing = c.processors-processing.ensures.count in
    let some = c.requires.crew.0 in
    let few = c.requires.crew.1 in
    let seats = c.requires.count.0 in
    let room = c.requires.count.1 in
    let passes = c.requires.count.2 in
    let pass_room = c.requires.count.3 in
    let left = c.collectors-collecting.ensures.left in
    let gone = c.processors-processing.ensures.left in
    let left_roll = c.collectors-collecting.ensures.roll.1 in
    let gone_roll = c.processors-processing.ensures.roll.1 in
    let now = c.leave_collectors-served.ensures.count in
    let now_passes = c.leave_collectors-served.ensures.passes.1 in
    let now_roll = c.leave_collectors-served.ensures.roll.1 in
    let all = c.leave_processors.ensures.count in
    let more = c.leave_processors.ensures.passes in
    let all_roll = c.leave_processors.ensures.roll.1 in
    (c.leave_processors.ensures.seats, omega arith)

pub returns-clause-seated : goal.returns-clause-seated
returns-clause-seated g c = c.leave_processors.ensures.seated c.leave_collectors-served.result.kept c.leave_collectors-served.ensures.seated

pub returns-clause-passes : goal.returns-clause-passes
returns-clause-passes g c =
    let jobs = c.args.site.now.jobs.now in
    let zip = c.work-collecting.ensures.collectors in
    let long = AllZip-long _ _ _ zip in
    let long_processors = AllZip-long _ _ _ c.work-collecting.ensures.processors in
    let ok = c.collectors-collecting.result.ok in
    let ok_after = c.work-collecting.result.0.ok in
    let ok_processing = c.processors-processing.result.ok in
    let ok_processed = c.work-collecting.result.1.ok in
    let collecting = c.collectors-collecting.ensures.count in
    let processing = c.processors-processing.ensures.count in
    let some = c.requires.crew.0 in
    let few = c.requires.crew.1 in
    let seats = c.requires.count.0 in
    let room = c.requires.count.1 in
    let passes = c.requires.count.2 in
    let pass_room = c.requires.count.3 in
    let left = c.collectors-collecting.ensures.left in
    let gone = c.processors-processing.ensures.left in
    let left_roll = c.collectors-collecting.ensures.roll.1 in
    let gone_roll = c.processors-processing.ensures.roll.1 in
    let now = c.leave_collectors-served.ensures.count in
    let now_passes = c.leave_collectors-served.ensures.passes.1 in
    let now_roll = c.leave_collectors-served.ensures.roll.1 in
    let all = c.leave_processors.ensures.count in
    let more = c.leave_processors.ensures.passes in
    let all_roll = c.leave_processors.ensures.roll.1 in
    let pushed = c.push.ensures.pushed in
    let longer = ap length more.1 ∙ length-append _ more.0 in
    let rest = more.2 in
    let one = one_more _ _ _ pushed in
    let first = All-weaker (λ q. IsPassOf jobs q × OnlyPuts (seen_of q)) (λ q. IsPassOf jobs q) (λ q both. both.0) _ c.leave_collectors-served.ensures.passes.0 in
    let second = All-weaker (λ q. IsPassOf jobs q × TakesToEnd (seen_of q)) (λ q. IsPassOf jobs q) (λ q both. both.0) _ more.3 in
    let both = All-same (λ q. IsPassOf jobs q) _ _ more.1 (All-append (λ q. IsPassOf jobs q) _ _ first second) in (
      All-same (λ q. IsPassOf jobs q) _ _ pushed (All-push (λ q. IsPassOf jobs q) _ _ both c.work-collecting.ensures.own.0),
      omega arith,
      c.push.ensures.same.0 ∙ (c.leave_processors.ensures.roll.0 ∙ (c.leave_collectors-served.ensures.roll.0 ∙ (c.processors-processing.ensures.roll.0 ∙ c.collectors-collecting.ensures.roll.0))),
    )

pub returns-clause-jobs : goal.returns-clause-jobs
returns-clause-jobs g c =
    let jobs = c.args.site.now.jobs.now in
    let zip = c.work-collecting.ensures.collectors in
    let long = AllZip-long _ _ _ zip in
    let long_processors = AllZip-long _ _ _ c.work-collecting.ensures.processors in
    let ok = c.collectors-collecting.result.ok in
    let ok_after = c.work-collecting.result.0.ok in
    let ok_processing = c.processors-processing.result.ok in
    let ok_processed = c.work-collecting.result.1.ok in
    let collecting = c.collectors-collecting.ensures.count in
    let processing = c.processors-processing.ensures.count in
    let some = c.requires.crew.0 in
    let few = c.requires.crew.1 in
    let seats = c.requires.count.0 in
    let room = c.requires.count.1 in
    let passes = c.requires.count.2 in
    let pass_room = c.requires.count.3 in
    let left = c.collectors-collecting.ensures.left in
    let gone = c.processors-processing.ensures.left in
    let left_roll = c.collectors-collecting.ensures.roll.1 in
    let gone_roll = c.processors-processing.ensures.roll.1 in
    let now = c.leave_collectors-served.ensures.count in
    let now_passes = c.leave_collectors-served.ensures.passes.1 in
    let now_roll = c.leave_collectors-served.ensures.roll.1 in
    let all = c.leave_processors.ensures.count in
    let more = c.leave_processors.ensures.passes in
    let all_roll = c.leave_processors.ensures.roll.1 in
    let collected : length (passes_in c.leave_collectors-served.new.passes) ≡ vec_len c.args.buffers = omega arith in
    let rest = more.2 in
    let processed : length more.0 ≡ c.args.setting.crew.processors = omega arith in
    let many : vec_len c.processors-processing.result ≡ c.args.setting.crew.processors = omega arith in
    shared _ _ (passes_in c.leave_collectors-served.new.passes) more.0 _ _ _ (c.push.ensures.pushed ∙ ap (λ l. l ++ c.work-collecting.result.2 ∷ []) more.1) collected processed
    (All-weaker (λ q. IsPassOf jobs q × OnlyPuts (seen_of q)) (λ q. OnlyPuts (seen_of q)) (λ q both. both.1) _ c.leave_collectors-served.ensures.passes.0)
    (All-weaker (λ q. IsPassOf jobs q × TakesToEnd (seen_of q)) (λ q. TakesToEnd (seen_of q)) (λ q both. both.1) _ more.3)
    (subst (λ n. PutsEnds n 0 (seen_of c.args.own) (seen_of c.work-collecting.result.2)) many c.work-collecting.ensures.own.1)

pub returns-clause-ticket : goal.returns-clause-ticket
returns-clause-ticket g c =
    let zip = c.work-collecting.ensures.collectors in
    let long = AllZip-long _ _ _ zip in
    let long_processors = AllZip-long _ _ _ c.work-collecting.ensures.processors in
    let ok = c.collectors-collecting.result.ok in
    let ok_after = c.work-collecting.result.0.ok in
    let ok_processing = c.processors-processing.result.ok in
    let ok_processed = c.work-collecting.result.1.ok in
    let collecting = c.collectors-collecting.ensures.count in
    let processing = c.processors-processing.ensures.count in
    let some = c.requires.crew.0 in
    let few = c.requires.crew.1 in
    let seats = c.requires.count.0 in
    let room = c.requires.count.1 in
    let passes = c.requires.count.2 in
    let pass_room = c.requires.count.3 in
    let left = c.collectors-collecting.ensures.left in
    let gone = c.processors-processing.ensures.left in
    let left_roll = c.collectors-collecting.ensures.roll.1 in
    let gone_roll = c.processors-processing.ensures.roll.1 in
    let parts = c.collectors-collecting.ensures.parts in
    let back = c.leave_collectors-served.ensures.parts in
    (c.leave_collectors-served.ensures.connections, omega arith, omega arith)
