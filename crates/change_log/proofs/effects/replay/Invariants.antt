use Rattle.std.proofs.Common.{◌≡◌, drop}
use Rattle.change_log.specs.Acts.{replay}
use Rattle.change_log.proofs.effects.replay.Given as goal

abbrev pub invariant-loop-change : goal.invariant-loop-change
invariant-loop-change l = replay l.map (drop l.change-index l.changes) ≡ replay l.base l.changes
