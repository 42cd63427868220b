use Rattle.std.proofs.Common.{◌≡◌, ◌-◌, ◌≤◌, vec_len}
use Rattle.script_lang.specs.Script.{IsFrontRead}
use Rattle.script_lang.proofs.input.read_script.Given as goal

abbrev pub invariant-loop-piece : goal.invariant-loop-piece
invariant-loop-piece g l =
    IsFrontRead (g.S.Source.left l.fn.source) (g.S.Source.left l.source) l.script.items
    × (g.S.Source.faults l.source ≡ g.S.Source.faults l.fn.source)
    × (vec_len l.script ≤ 67108865)

abbrev pub decreases-loop-piece : goal.decreases-loop-piece
decreases-loop-piece g l = 67108865 - vec_len l.script
