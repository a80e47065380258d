use Rattle.std.proofs.Common.{◌≡◌, ◌<◌, ◌≤◌, ◌+◌, ◌-◌, ◌++◌, length, take, drop, ap, refl, ◌∙◌, arith}
use Rattle.soc_http.proofs.BodyLemmas.{piece-length, piece-split}
use Rattle.soc_http.proofs.buffer.Buffer.take_piece.Goals as goal

pub returns : goal.returns
returns g c =
    let start = c.self.inside.start in
    let end = c.self.inside.end in
    let count = c.in_ok-count.count in
    let bytes = c.deref.result.now in
    let ready = c.in_ok-count.ensures.ready in
    let ordered : start ≤ end = c.self.invariant.1 in
    let within : end ≤ length bytes = omega (arith, c.deref.ensures.len, c.self.invariant.0, c.self.invariant.2) in
    let view : drop start (take end bytes) ≡ c.piece_len.new.buffer =
    ap (λ l. drop start (take end l)) c.deref.ensures.value ∙ c.self.view_is in
    let fits : count ≤ length c.piece_len.new.buffer = ready.reads.3 in
    let size : length (take (start + count - start) (drop start bytes)) ≡ count =
    piece-length bytes start end count ordered within (omega (arith, ap length view)) in
    let some : 0 < count = ready.reads.1 in
    let most : count ≤ c.args.left.now = ready.reads.2 in
    let piece = take (start + count - start) (drop start bytes) in (
      (
        refl,
        λ _. tt,
        record {
          given = ready.given;
          gives = ready.gives;
          reads = piece-split bytes c.piece_len.new.buffer _ start end count view ready.reads.0 ordered within fits
              ∙ ap (λ l. piece ++ drop (start + count) (take end l)) c.deref.ensures.value;
          ended = tt;
        },
      ),
      record {
        after_borrow = tt;
        only = ready.gives.only;
        some = omega arith;
        counted = omega arith;
        left_stays = tt;
        cause = λ is. cc;
      },
    )
