use Rattle.std.proofs.Common.{◌∙◌, ◌<◌, length, arith}
use Rattle.script_lang.proofs.Reading.{cut_input}
use Rattle.script_lang.proofs.input.read_script.Goals as goal

pub returns-clause-long : goal.returns-clause-long
returns-clause-long g c =
    let more : 67108864 < length c.loop-piece.script.items = omega arith in
    cut_input (g.S.Source.left c.args.source.now) (g.S.Source.left c.loop-piece.source) c.loop-piece.script.items c.of_vec.result
    c.loop-piece.invariant.0 more (c.of_vec.ensures ∙ c.truncate.ensures.items)
