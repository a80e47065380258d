use Rattle.std.proofs.Common.{ap, refl, subst, ◌∙◌, arith}
use Rattle.std.specs.Prelude.{filter_map}
use Rattle.soc_edge.proofs.Disks.{Looks-append, Looks-none}
use Rattle.soc_desk.specs.View.{view_of}
use Rattle.soc_export.specs.Lines.{lines_of}
use Rattle.soc_export.specs.inner.Telling.{TellsPiece, line_in}
use Rattle.soc_export.proofs.RowLines.{lines_are, lines_cut, lines_more, lines_none, lines_some, lines_whole, writes_none}
use Rattle.soc_export.proofs.rows.tell_rows.Goals as goal

pub returns-in_default-clause-tells : goal.returns-in_default-clause-tells
returns-in_default-clause-tells g c = λ basis state told stands. writes_none _ (lines_of (view_of basis state.log c.args.caller.now))

pub loop-id-init : goal.loop-id-init
loop-id-init g c = record {
  same_disk = refl;
  looks = Looks-none _ (g.met.D.Disk.sound c.args.book.now.vault.disk.now);
  only = record { left_stays = refl; read_faults_stay = refl; writes_never_fall = omega arith };
  tells = λ basis state told stands. (stands, lines_none (line_in (view_of basis state.log c.args.caller.now)) _ c.as_slice-id-items.result.now);
}

pub loop-id-preserved : goal.loop-id-preserved
loop-id-preserved g c = record {
  same_disk = c.tell_row.ensures.same_disk ∙ c.loop-id.invariant.same_disk;
  looks = Looks-append _ _ _ c.loop-id.invariant.looks c.tell_row.ensures.looks;
  only = record {
    left_stays = c.tell_row.ensures.only.left_stays ∙ c.loop-id.invariant.only.left_stays;
    read_faults_stay = c.tell_row.ensures.only.read_faults_stay ∙ c.loop-id.invariant.only.read_faults_stay;
    writes_never_fall = omega arith;
  };
  tells = λ basis state told stands.
      let so_far = c.loop-id.invariant.tells basis state told stands in
      let row = c.tell_row.ensures.tells basis state told so_far.0 in (
        row.0,
        lines_more (line_in (view_of basis state.log c.args.caller.now)) _ _ _ _ _ _ c.loop-id-test.true c.id-item.is so_far.1
            (subst (TellsPiece _ _ _) c.in-Written.is row.1),
      );
}

pub returns-in-Cut-clause-tells : goal.returns-in-Cut-clause-tells
returns-in-Cut-clause-tells g c = λ basis state told stands.
    let line = line_in (view_of basis state.log c.args.caller.now) in
    let so_far = c.loop-id.invariant.tells basis state told stands in
    let row = c.tell_row.ensures.tells basis state told so_far.0 in
    lines_cut line _ _ _
    (ap (filter_map line) (c.as_slice-id-items.ensures.value ∙ c.in-Ok.ensures.of_log basis state stands) ∙ lines_are basis state.log c.args.caller.now stands.legal.log.events_legal)
    _ _ _ _ c.loop-id-test.true c.id-item.is so_far.1 (subst (TellsPiece _ _ _) c.in-Cut.is row.1)

pub returns-in-NoMemory-clause-tells : goal.returns-in-NoMemory-clause-tells
returns-in-NoMemory-clause-tells g c = λ basis state told stands.
    let line = line_in (view_of basis state.log c.args.caller.now) in
    let so_far = c.loop-id.invariant.tells basis state told stands in
    let row = c.tell_row.ensures.tells basis state told so_far.0 in
    lines_some line _ _ _
    (ap (filter_map line) (c.as_slice-id-items.ensures.value ∙ c.in-Ok.ensures.of_log basis state stands) ∙ lines_are basis state.log c.args.caller.now stands.legal.log.events_legal)
    _ _ c.loop-id.id-index so_far.1 (subst (TellsPiece _ _ _) c.in-NoMemory.is row.1)

pub returns-clause-tells : goal.returns-clause-tells
returns-clause-tells g c = λ basis state told stands.
    let line = line_in (view_of basis state.log c.args.caller.now) in
    lines_whole line _ _ _
    (ap (filter_map line) (c.as_slice-id-items.ensures.value ∙ c.in-Ok.ensures.of_log basis state stands) ∙ lines_are basis state.log c.args.caller.now stands.legal.log.events_legal)
    _ _ c.loop-id-test.false (c.loop-id.invariant.tells basis state told stands).1
