use Rattle.std.proofs.Common.{ap, sym, ◌∙◌, append_assoc, refl, length, ◌++◌, ◌∷◌, []}
use Rattle.std.specs.Int.{w32, to_le_bytes}
use Rattle.soc_raw.proofs.Lengths.{pair_fits, pairs_more, pairs_front}
use Rattle.soc_raw.proofs.writing.put_blobs.Goals as goal

pub put_pair-requires : goal.put_pair-requires
put_pair-requires c =
    let so_far = c.loop-name.invariant in
    pair_fits c.args.blobs.now so_far.0 c.loop-name.name-iterator _ _ _ c.as_bytes.result.now c.in-Some.value.now so_far.1 c.in-Some.ensures.steps c.as_bytes.ensures.value refl c.requires.fits

pub loop-name-preserved : goal.loop-name-preserved
loop-name-preserved c =
    let so_far = c.loop-name.invariant in (
      so_far.0 ++ (c.in-Some.name.now, c.in-Some.value.now) ∷ [],
      append_assoc so_far.0 ((c.in-Some.name.now, c.in-Some.value.now) ∷ []) c.next.new.self ∙ ap (λ t. so_far.0 ++ t) (sym c.in-Some.ensures.steps) ∙ so_far.1,
      pairs_more so_far.0 _ _ c.as_bytes.result.now c.in-Some.value.now (c.args.out.now.items ++ to_le_bytes w32 (length c.args.blobs.now)) _ _
          c.as_bytes.ensures.value refl so_far.2 c.in_ok-put_pair.ensures.written,
    )

pub returns-in_err-put_pair-clause-front : goal.returns-in_err-put_pair-clause-front
returns-in_err-put_pair-clause-front c =
    let so_far = c.loop-name.invariant in
    pairs_front c.args.out.now.items (to_le_bytes w32 (length c.args.blobs.now)) _ c.put_pair.new.out.items c.loop-name.out.items so_far.2 c.put_pair.ensures.front
