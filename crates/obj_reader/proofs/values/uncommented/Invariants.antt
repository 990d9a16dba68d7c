use Rattle.std.proofs.Common.{◌≡◌, ◌++◌, take, drop, map}
use Rattle.obj_reader.specs.Values.{uncommented}
use Rattle.obj_reader.proofs.values.uncommented.Given as goal

abbrev pub invariant-loop-k : goal.invariant-loop-k
invariant-loop-k l =
    let ws = map (λ w. w.now) l.words in
    take l.k ws ++ uncommented (drop l.k ws) ≡ uncommented ws
