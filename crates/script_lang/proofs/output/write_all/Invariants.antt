use Rattle.std.proofs.Common.{◌≡◌, ◌-◌, ◌≤◌, length}
use Rattle.script_lang.specs.Written.{Wrote}
use Rattle.script_lang.proofs.output.write_all.Given as goal

abbrev pub invariant-loop-written : goal.invariant-loop-written
invariant-loop-written g l =
    (l.written ≤ length l.text)
    × Wrote (g.K.Sink.written l.fn.sink) (g.K.Sink.written l.sink) l.text l.written
    × (g.K.Sink.faults l.sink ≡ g.K.Sink.faults l.fn.sink)

abbrev pub decreases-loop-written : goal.decreases-loop-written
decreases-loop-written g l = length l.text - l.written
