use Rattle.std.proofs.Common.{◌≡◌, ◌++◌, ap, ◌∙◌, map, take, drop, set, replicate, length, arith}
use Rattle.std.proofs.lemmas.List.{length-replicate}
use Rattle.lists.specs.MapTo.{length_mapped}
use Rattle.lists.specs.Row.{map_row}
use Rattle.capi.specs.Crossing.{inside}
use Rattle.capi.proofs.StateFromRefOutState.from.Goals as goal

pub loop-i-preserved : goal.loop-i-preserved
loop-i-preserved c =
    let l = c.loop-i in
    let xs = c.args.s.now.threads in
    let v = c.default-threads.result in
    let n : length xs ≡ 64 = search length_mapped in
    ap (λ r. set r l.i c.into.result) l.invariant
    ∙ ap (λ x. set (map inside (take l.i xs) ++ drop l.i (replicate 64 v)) l.i x) c.into.ensures
    ∙ map_row inside xs (replicate 64 v) l.i _ v (omega arith) (omega (arith, length-replicate 64 v))
