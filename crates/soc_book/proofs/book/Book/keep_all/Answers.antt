use Rattle.std.proofs.Common.{[], ◌++◌, List, refl, sym, ◌∙◌, ap, subst, length, arith}
use Rattle.soc_book.proofs.Words.{Change, StandsFor, append-nil, err_from_is_err_and, settled, with_all}
use Rattle.soc_book.proofs.Settings.{same_setting}
use Rattle.soc_book.proofs.Keepings.{all_kept, batch_refused, begins_keeping, count_here, memory_wanted, next_kept}
use Rattle.soc_book.proofs.book.Book.keep_all.Goals as goal

pub loop-number-init : goal.loop-number-init
loop-number-init g c =
    let s = c.args.self.now in
    record {
      setting = record { same_disk = refl; limits = refl; reporter = refl };
      no_doubt = c.requires;
      crashes = refl;
      within = omega arith;
      count = omega arith;
      keeps = λ basis log digest tell stands.
          ([], subst (λ (l : List Change). StandsFor basis s (settled l)) (sym (append-nil log)) stands, begins_keeping stands (g.met.D.Disk.sound s.vault.disk.now));
    }

pub loop-number-preserved : goal.loop-number-preserved
loop-number-preserved g c =
    let i = c.loop-number.invariant in
    let n = c.keep_batch.new.self in
    let next = c.in_ok-batch.ensures.next in
    let same = i.crashes in
    let few = i.count in
    let counted = c.in_ok-kept.ensures.count in
    record {
      setting = same_setting i.setting c.keep_batch.ensures.setting;
      no_doubt = c.in_ok-kept.ensures.settled;
      crashes = ap (λ x. length x) c.keep_batch.ensures.crashes ∙ i.crashes;
      within = omega (arith, next.1, same);
      count = omega (arith, few, counted, c.in_ok-batch.ensures.few);
      keeps = λ basis log digest tell stands.
          let before = i.keeps basis log digest tell stands in
          let gathered = c.in_ok-batch.ensures.gathered basis (with_all log before.0) digest tell before.1 in
          let did = c.in_ok-kept.ensures.keeps basis (with_all log before.0) gathered.0 before.1 gathered.1.are gathered.1.legal gathered.1.entries_are in
          let more = next_kept digest before.2 gathered.1 c.in_ok-kept.field-0 counted (g.D.Disk.state n.vault.disk.now) did.0 (StandsFor basis n) did.1 did.2 in
          (before.0 ++ gathered.0, more.0, more.1);
    }

pub returns-in_err-batch-clause-keeps : goal.returns-in_err-batch-clause-keeps
returns-in_err-batch-clause-keeps g c basis log digest tell stands =
    let before = c.loop-number.invariant.keeps basis log digest tell stands in
    let p = err_from_is_err_and c.from_residual.result c.from_residual.ensures.1 in
    rw (p.1, p.2) (settled (with_all log before.0), before.1, memory_wanted digest before.2 (c.in_err-batch.ensures.gathered basis (with_all log before.0) digest tell before.1))

pub returns-in_err-kept-clause-keeps : goal.returns-in_err-kept-clause-keeps
returns-in_err-kept-clause-keeps g c basis log digest tell stands =
    let before = c.loop-number.invariant.keeps basis log digest tell stands in
    let gathered = c.in_ok-batch.ensures.gathered basis (with_all log before.0) digest tell before.1 in
    let did = c.in_err-kept.ensures.keeps basis (with_all log before.0) gathered.0 before.1 gathered.1.are gathered.1.legal gathered.1.entries_are in
    let p = err_from_is_err_and c.from_residual-in_err-kept.result c.from_residual-in_err-kept.ensures.1 in
    rw (p.1, p.2) (did.0, did.1, batch_refused digest before.2 gathered.1 c.in_err-kept.field-0.0 (g.D.Disk.state c.keep_batch.new.self.vault.disk.now) did.0 did.2)

pub returns-clause-keeps : goal.returns-clause-keeps
returns-clause-keeps g c basis log digest tell stands =
    let s = c.loop-number.self in
    let before = c.loop-number.invariant.keeps basis log digest tell stands in
    let count = count_here basis s.ledger s.store (with_all log before.0) before.1.legal.log before.1.holds in
    (settled (with_all log before.0), before.1, all_kept digest before.2 (omega (arith, count, c.accepted.ensures.count, c.loop-number-test.false)))
