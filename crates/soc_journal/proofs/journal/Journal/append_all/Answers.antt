use Rattle.std.proofs.Common.{◌≡◌, ◌+◌, ◌-◌, ◌<◌, ap, refl, sym, subst, ℕ, Some, length, arith}
use Rattle.soc_journal.specs.Entries.{entries_text}
use Rattle.soc_journal.specs.States.{JournalState}
use Rattle.soc_journal.specs.inner.Staging.{HasLength, behind_all}
use Rattle.soc_journal.proofs.Appends.{over_limit, within_limit, not_full, doubt_first, doubt_second, acknowledged, any_none, any_first, any_second, tears_first, tears_second, torn_first_told, torn_second_told, content_told}
use Rattle.soc_edge.proofs.Disks.{Looks-none, MayTear-looks}
use Rattle.soc_journal.proofs.Ranges.{WhereTold-same}
use Rattle.soc_journal.proofs.journal.Journal.append_all.Goals as goal

pub returns-in_default-clause-full : goal.returns-in_default-clause-full
returns-in_default-clause-full g c =
    let over = subst (λ (n : ℕ). n < length (entries_text c.args.entries.now) + 1) c.room.ensures c.in_default.ensures in
    (λ _. over_limit c.args.self.now.limit c.args.self.now.gate c.args.entries.now over, λ _. refl)

pub returns-in_default-clause-torn : goal.returns-in_default-clause-torn
returns-in_default-clause-torn g c = WhereTold-same _ _ _ _ refl

pub returns-in_default-clause-tears : goal.returns-in_default-clause-tears
returns-in_default-clause-tears g c = MayTear-looks _ _ _ _ (Looks-none _ (g.met.D.Disk.sound c.args.disk.now))

pub returns-in_default-clause-any_moment : goal.returns-in_default-clause-any_moment
returns-in_default-clause-any_moment g c = any_none (g.D.Disk.state c.args.disk.now) (g.met.D.Disk.sound c.args.disk.now) _ _

pub returns-in_err-stage-clause-full : goal.returns-in_err-stage-clause-full
returns-in_err-stage-clause-full g c =
    let has = subst (λ (n : ℕ). HasLength c.args.entries.now n c.in-Some.count) c.room.ensures c.in-Some.ensures in
    (λ is. absurd (not_full c.from_residual.result c.from_residual.ensures.1 is), λ over. absurd (within_limit c.args.self.now.limit c.args.self.now.gate c.in-Some.count c.args.entries.now has over))

pub returns-in_err-stage-clause-in_doubt : goal.returns-in_err-stage-clause-in_doubt
returns-in_err-stage-clause-in_doubt g c = λ _.
    let at = sym (ap (λ (x : JournalState). x.gate) c.self.view_is) in
    let has = c.in-Some.ensures in
    doubt_first c.args.self.now _ c.self.inside.gate at c.args.entries.now c.requires.some has.legal (sym at) (ap (λ (x : ℕ). Some x) has.count_is) _ _ _ _ _
    c.stage.ensures.torn c.stage.ensures.tears.images

pub returns-in_err-stage-clause-any_moment : goal.returns-in_err-stage-clause-any_moment
returns-in_err-stage-clause-any_moment g c =
    let at = sym (ap (λ (x : JournalState). x.gate) c.self.view_is) in
    any_first c.args.self.now c.self.inside.gate at c.args.entries.now c.requires.some _ _ _ _ c.stage.ensures.tears

pub returns-in_err-stage-clause-torn : goal.returns-in_err-stage-clause-torn
returns-in_err-stage-clause-torn g c =
    let at = sym (ap (λ (x : JournalState). x.gate) c.self.view_is) in
    torn_first_told _ _ at c.args.entries.now c.requires.some _ refl _ _ c.stage.ensures.torn

pub returns-in_err-stage-clause-tears : goal.returns-in_err-stage-clause-tears
returns-in_err-stage-clause-tears g c =
    let at = sym (ap (λ (x : JournalState). x.gate) c.self.view_is) in
    tears_first _ _ at c.args.entries.now c.requires.some _ refl _ _ c.stage.ensures.tears

pub returns-in_err-write_and_sync-clause-full : goal.returns-in_err-write_and_sync-clause-full
returns-in_err-write_and_sync-clause-full g c =
    let has = subst (λ (n : ℕ). HasLength c.args.entries.now n c.in-Some.count) c.room.ensures c.in-Some.ensures in
    (λ is. absurd (not_full c.from_residual-in_err-write_and_sync.result c.from_residual-in_err-write_and_sync.ensures.1 is), λ over. absurd (within_limit c.args.self.now.limit c.args.self.now.gate c.in-Some.count c.args.entries.now has over))

pub returns-in_err-write_and_sync-clause-in_doubt : goal.returns-in_err-write_and_sync-clause-in_doubt
returns-in_err-write_and_sync-clause-in_doubt g c = λ _.
    let at = sym (ap (λ (x : JournalState). x.gate) c.self.view_is) in
    let has = c.in-Some.ensures in
    doubt_second c.args.self.now _ c.self.inside.gate at c.args.entries.now c.requires.some has.legal (sym at) (ap (λ (x : ℕ). Some x) has.count_is) _ refl _ _ _ _ _ _
    c.in_ok-stage.ensures.written c.in_ok-stage.ensures.durable c.write_and_sync.ensures.torn c.write_and_sync.ensures.tears.images

pub returns-in_err-write_and_sync-clause-any_moment : goal.returns-in_err-write_and_sync-clause-any_moment
returns-in_err-write_and_sync-clause-any_moment g c =
    let at = sym (ap (λ (x : JournalState). x.gate) c.self.view_is) in
    any_second c.args.self.now c.self.inside.gate at c.args.entries.now c.requires.some _ refl _ _ _ _ _ _ c.in-Some.ensures.legal
    c.stage.ensures.tears c.in_ok-stage.ensures.written c.in_ok-stage.ensures.durable c.write_and_sync.ensures.tears

pub returns-in_err-write_and_sync-clause-torn : goal.returns-in_err-write_and_sync-clause-torn
returns-in_err-write_and_sync-clause-torn g c =
    let at = sym (ap (λ (x : JournalState). x.gate) c.self.view_is) in
    torn_second_told _ _ at c.args.entries.now c.requires.some _ refl _ _ _ c.stage.ensures.torn c.write_and_sync.ensures.torn

pub returns-in_err-write_and_sync-clause-tears : goal.returns-in_err-write_and_sync-clause-tears
returns-in_err-write_and_sync-clause-tears g c =
    let at = sym (ap (λ (x : JournalState). x.gate) c.self.view_is) in
    tears_second _ _ at c.args.entries.now c.requires.some _ refl _ _ _ c.stage.ensures.tears c.write_and_sync.ensures.tears

pub returns-clause-full : goal.returns-clause-full
returns-clause-full g c =
    let has = subst (λ (n : ℕ). HasLength c.args.entries.now n c.in-Some.count) c.room.ensures c.in-Some.ensures in
    (λ is. cc, λ over. absurd (within_limit c.args.self.now.limit c.args.self.now.gate c.in-Some.count c.args.entries.now has over))

pub returns-clause-acknowledged : goal.returns-clause-acknowledged
returns-clause-acknowledged g c =
    let at = sym (ap (λ (x : JournalState). x.gate) c.self.view_is) in
    let has = c.in-Some.ensures in
    let moved : c.self.inside.gate + c.in-Some.count ≡ c.args.self.now.gate + length (entries_text c.args.entries.now) =
    omega (arith, at, has.count_is) in
    acknowledged c.args.self.now _ c.self.inside.gate at c.args.entries.now c.requires.some has.legal _ refl moved refl _ _ _ _ _ _
    c.in_ok-stage.ensures.written c.in_ok-stage.ensures.durable c.in_ok-write_and_sync.ensures.written c.in_ok-write_and_sync.ensures.durable

pub returns-clause-any_moment : goal.returns-clause-any_moment
returns-clause-any_moment g c =
    let at = sym (ap (λ (x : JournalState). x.gate) c.self.view_is) in
    any_second c.args.self.now c.self.inside.gate at c.args.entries.now c.requires.some _ refl _ _ _ _ _ _ c.in-Some.ensures.legal
    c.stage.ensures.tears c.in_ok-stage.ensures.written c.in_ok-stage.ensures.durable c.write_and_sync.ensures.tears

pub returns-clause-content : goal.returns-clause-content
returns-clause-content g c =
    let at = sym (ap (λ (x : JournalState). x.gate) c.self.view_is) in
    content_told _ _ at c.args.entries.now c.requires.some _ refl _ _ _ c.in_ok-stage.ensures.written c.in_ok-write_and_sync.ensures.written

pub returns-clause-torn : goal.returns-clause-torn
returns-clause-torn g c =
    let at = sym (ap (λ (x : JournalState). x.gate) c.self.view_is) in
    torn_second_told _ _ at c.args.entries.now c.requires.some _ refl _ _ _ c.stage.ensures.torn c.write_and_sync.ensures.torn

pub returns-clause-tears : goal.returns-clause-tears
returns-clause-tears g c =
    let at = sym (ap (λ (x : JournalState). x.gate) c.self.view_is) in
    tears_second _ _ at c.args.entries.now c.requires.some _ refl _ _ _ c.stage.ensures.tears c.write_and_sync.ensures.tears
