use Rattle.std.proofs.Common.{◌≡◌, ◌-◌, ◌≤◌, length, take}
use Rattle.byte_sink.specs.Wrote.{with_after}
use Rattle.byte_sink.proofs.sink.write_all.Given as goal

abbrev pub invariant-loop-done : goal.invariant-loop-done
invariant-loop-done g l = record {
  within : l.done ≤ length l.bytes;
  wrote : g.K.Sink.wrote l.sink ≡ with_after (g.K.Sink.wrote l.fn.sink) (take l.done l.bytes);
  others : g.K.Sink.others l.sink ≡ g.K.Sink.others l.fn.sink;
  steady : g.K.Sink.faults l.sink ≡ g.K.Sink.faults l.fn.sink;
}

abbrev pub decreases-loop-done : goal.decreases-loop-done
decreases-loop-done g l = length l.bytes - l.done
