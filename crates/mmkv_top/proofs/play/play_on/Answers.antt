use Rattle.mmkv_top.proofs.Opening.{none_answered}
use Rattle.mmkv_top.proofs.play.play_on.Goals as goal

pub returns-in-Ok-clause-loads : goal.returns-in-Ok-clause-loads
returns-in-Ok-clause-loads g c who least most =
    let w = c.args.world.now.core in
    c.answers_count_loads_that_were_made.ensures who w c.play_lines.new.world.core least most c.requires.unopened (none_answered w c.requires.sound c.requires.unopened) c.play_lines.ensures.moved

pub returns-in-Err-clause-loads : goal.returns-in-Err-clause-loads
returns-in-Err-clause-loads g c who least most =
    let w = c.args.world.now.core in
    c.answers_count_loads_that_were_made.ensures who w c.play_lines.new.world.core least most c.requires.unopened (none_answered w c.requires.sound c.requires.unopened) c.play_lines.ensures.moved
