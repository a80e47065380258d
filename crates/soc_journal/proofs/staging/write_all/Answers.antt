use Rattle.std.proofs.Common.{◌≡◌, ◌+◌, ℕ, [], ◌∷◌, List, length, refl, ap, arith}
use Rattle.soc_journal.specs.Entries.{Entry}
use Rattle.soc_journal.proofs.Behinds.{within_first, staged_first, torn_first, tears_first, staged_more, torn_more, tears_more, torn_all}
use Rattle.soc_journal.proofs.staging.write_all.Goals as goal

pub overflow_add-place : goal.overflow_add-place
overflow_add-place g c =
    let within = within_first c.args.place c.args.entries.now c.in-Some.first.now c.in-Some.others.now c.in-Some.ensures.cases.0 c.requires.within in
    let low = within.0 in
    omega (arith, low)

pub returns-in_err-write_at-clause-torn : goal.returns-in_err-write_at-clause-torn
returns-in_err-write_at-clause-torn g c =
    torn_first c.args.place c.args.entries.now c.in-Some.first.now c.in-Some.others.now c.in-Some.ensures.cases.0 c.behind_gate.result.now c.behind_gate.ensures _ _ c.in_err-write_at.ensures.torn

pub returns-in_err-write_at-clause-tears : goal.returns-in_err-write_at-clause-tears
returns-in_err-write_at-clause-tears g c =
    tears_first c.args.place c.args.entries.now c.in-Some.first.now c.in-Some.others.now c.in-Some.ensures.cases.0 c.behind_gate.result.now c.behind_gate.ensures _ _ c.write_at.ensures.tears

pub loop-entry-init : goal.loop-entry-init
loop-entry-init g c =
    staged_first c.args.place c.args.entries.now c.in-Some.first.now c.in-Some.others.now c.in-Some.ensures.cases.0 c.behind_gate.result.now c.behind_gate.ensures
    (g.D.Disk.state c.args.disk.now) (g.D.Disk.state c.write_at.new.self) _ (ap (λ (n : ℕ). c.args.place + n) c.count.ensures.count) c.in_ok-write_at.ensures.written c.write_at.ensures.tears c.write_at.ensures.counted

pub returns-in_err-write_at-2-clause-torn : goal.returns-in_err-write_at-2-clause-torn
returns-in_err-write_at-2-clause-torn g c =
    torn_more c.args.place c.args.entries.now (g.D.Disk.state c.args.disk.now) c.loop-entry.next c.loop-entry.rest.now (g.D.Disk.state c.loop-entry.disk) c.loop-entry.invariant
    c.in-Some-split_first.entry.now c.in-Some-split_first.behind.now c.in-Some-split_first.ensures.cases.0 c.as_slice.result.now c.as_slice.ensures.text _ c.in_err-write_at-2.ensures.torn

pub returns-in_err-write_at-2-clause-tears : goal.returns-in_err-write_at-2-clause-tears
returns-in_err-write_at-2-clause-tears g c =
    tears_more c.args.place c.args.entries.now (g.D.Disk.state c.args.disk.now) c.loop-entry.next c.loop-entry.rest.now (g.D.Disk.state c.loop-entry.disk) c.loop-entry.invariant
    c.in-Some-split_first.entry.now c.in-Some-split_first.behind.now c.in-Some-split_first.ensures.cases.0 c.as_slice.result.now c.as_slice.ensures.text _ c.write_at-in-Some-split_first.ensures.tears

pub loop-entry-preserved : goal.loop-entry-preserved
loop-entry-preserved g c =
    staged_more c.args.place c.args.entries.now (g.D.Disk.state c.args.disk.now) c.loop-entry.next c.loop-entry.rest.now (g.D.Disk.state c.loop-entry.disk) c.loop-entry.invariant
    c.in-Some-split_first.entry.now c.in-Some-split_first.behind.now c.in-Some-split_first.ensures.cases.0 c.as_slice.result.now c.as_slice.ensures.text
    (g.D.Disk.state c.write_at-in-Some-split_first.new.self) _ (ap (λ (n : ℕ). c.loop-entry.next + n) c.count-next.ensures.count) c.in_ok-write_at-2.ensures.written c.write_at-in-Some-split_first.ensures.tears c.write_at-in-Some-split_first.ensures.counted

none_left : (rest : List Entry) → length rest ≡ 0 → rest ≡ []
none_left [] none = refl
none_left (entry ∷ rest) none = absurd (omega (arith, none))

pub returns-clause-torn : goal.returns-clause-torn
returns-clause-torn g c =
    torn_all c.args.place c.args.entries.now (g.D.Disk.state c.args.disk.now) c.loop-entry.next c.loop-entry.rest.now (g.D.Disk.state c.loop-entry.disk) c.loop-entry.invariant
    (none_left c.loop-entry.rest.now c.in_default-split_first.ensures.cases)
