use Rattle.std.proofs.Common.{◌++◌, ◌+◌, ◌≤◌, ◌≡◌, length, take, drop, ap, ◌∙◌, arith}
use Rattle.std.proofs.lemmas.List.{with_items_is}
use Rattle.std.specs.Vec.{with_items}
use Rattle.soc_http.proofs.WindowLemmas.{unread-grown}
use Rattle.soc_http.proofs.buffer.Buffer.fill.Goals as goal

pub returns-clause-fills : goal.returns-clause-fills
returns-clause-fills g c =
    let bytes = c.self.inside.bytes in
    let moved = c.make_room-unread.new.window in
    let read = c.read_behind.new.window in
    let unread = c.make_room-unread.result in
    let given = take c.in_ok-count.count (drop unread.end read) in
    let within : unread.end ≤ length read = omega (arith, c.in_ok-count.ensures.count) in
    let moved_len : length moved ≡ bytes.len = omega arith in
    let read_len : length read ≡ bytes.len = omega arith in
    let same = c.as_mut_slice-2.ensures.value ∙ with_items_is bytes moved moved_len in
    let last = with_items_is (with_items bytes moved) read read_len in
    record {
      given = given;
      gives = c.in_ok-count.ensures.reads;
      grown = ap (λ l. drop unread.start (take (unread.end + c.in_ok-count.count) l)) last
          ∙ unread-grown _ _ _ _ _ c.make_room-unread.ensures.ordered within c.read_behind.ensures.front
          ∙ ap (λ l. drop unread.start (take unread.end l) ++ given) same
          ∙ ap (λ l. l ++ given)
          (c.make_room-unread.ensures.unread
          ∙ ap (λ l. drop c.self.inside.start (take c.self.inside.end l)) c.as_mut_slice.ensures.value
          ∙ c.self.view_is);
    }
