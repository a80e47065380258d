use Rattle.std.proofs.Common.{◌/◌, ◌≤◌, length, map, arith}
use Rattle.std.proofs.lemmas.List.{take-map, drop-map, length-map}
use Rattle.std.proofs.lemmas.Result.{on_ok_weaker}
use Rattle.soc_dump.specs.declared.memory.Region.{Region}
use Rattle.soc_dump.specs.Covering.{covers, owner_in}
use Rattle.soc_dump.specs.Memory.{word_interval}
use Rattle.soc_dump.specs.Views.{memory_entry}
use Rattle.soc_dump.proofs.LayerLemmas.{position_from-halves}
use Rattle.soc_dump.proofs.words.+extend_by_memory.Goals as goal

pub returns-then-regions-gt-LAYER : goal.returns-then-regions-gt-LAYER
returns-then-regions-gt-LAYER t c =
    let regions = c.args.regions.now in
    let middle = length regions / 2 in
    let interval = λ (region : Region). word_interval c.args.width (memory_entry region) in
    let count = length-map regions interval in
    let inside : middle ≤ length (map interval regions) = omega (arith, count) in
    let front = rw (c.split_at.ensures.front, ← take-map interval middle regions) at c.in_ok-extend_by_memory.ensures in
    let back = rw (c.split_at.ensures.back, ← drop-map interval middle regions) at c.extend_by_memory-then-regions-gt-LAYER.ensures in
    on_ok_weaker c.extend_by_memory-then-regions-gt-LAYER.result (λ later x small. position_from-halves (covers x)
    (owner_in c.args.table.now x) (owner_in c.extend_by_memory.new.table x) (owner_in c.extend_by_memory-then-regions-gt-LAYER.new.table x)
    c.args.first middle (map interval regions) inside (front x small) (later x small)) back
