use Rattle.std.proofs.Common.{ap, ◌∙◌, take}
use Rattle.byte_sink.specs.Wrote.{with_after}
use Rattle.worlds.specs.Memory.{sure_told}
use Rattle.worlds.specs.Stored.{Stored}
use Rattle.worlds.specs.Told.{wrote_of}
use Rattle.worlds.proofs.StoredLemmas.{wrote_of_written}
use Rattle.worlds.proofs.sure_world.SureWorldSink.write.Goals as goal

pub returns-clause-wrote : goal.returns-clause-wrote
returns-clause-wrote c =
    let piece = take c.in_ok-n.n c.args.from.now in
    wrote_of_written c.self.inside.store c.write.new.self 0 0 piece c.in_ok-n.ensures.ok
    ∙ ap (λ (s : Stored). with_after (wrote_of (sure_told s)) piece) c.self.view_is
