use Rattle.std.proofs.Common.{ap, ◌∙◌, take}
use Rattle.byte_sink.specs.Wrote.{with_after}
use Rattle.worlds.specs.Memory.{MemoryState, memory_told}
use Rattle.worlds.specs.Told.{wrote_of}
use Rattle.worlds.proofs.StoredLemmas.{wrote_of_written}
use Rattle.worlds.proofs.memory_world.MemoryWorldSink.write.Goals as goal

pub returns-clause-wrote : goal.returns-clause-wrote
returns-clause-wrote c =
    let piece = take c.in_ok-n.n c.args.from.now in
    ap (λ (s : MemoryState). wrote_of (memory_told s)) c.count.ensures
    ∙ wrote_of_written c.self.inside.store c.write.new.self c.self.inside.in_faults c.self.inside.out_faults piece
    c.in_ok-n.ensures.ok
    ∙ ap (λ (s : MemoryState). with_after (wrote_of (memory_told s)) piece) c.self.view_is
