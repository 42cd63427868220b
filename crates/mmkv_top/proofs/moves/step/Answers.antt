use Rattle.std.proofs.Common.{◌≡◌, true, false, sym, ◌∙◌}
use Rattle.mmkv_top.specs.State.{play_state}
use Rattle.mmkv_top.proofs.Beginning.{unliving_halted}
use Rattle.mmkv_top.proofs.Walked.{halts_line, takes_line}
use Rattle.mmkv_top.proofs.moves.step.Goals as goal

pub returns-then-not-lives-clause-taken : goal.returns-then-not-lives-clause-taken
returns-then-not-lives-clause-taken g c = λ stock left start parts at can.
    unliving_halted stock left start parts (play_state c.args.world.now.core c.args.text.now.items) c.args.who c.requires.sound at can.0 (λ o lives. let both : true ≡ false = sym (c.lives.ensures.1 (o, lives)) ∙ c.if-not-lives.true in absurd cc)

pub returns-in-Ok-clause-taken : goal.returns-in-Ok-clause-taken
returns-in-Ok-clause-taken g c = λ stock left start parts at.
    let living = c.lives.ensures.0 c.if-not-lives.false in
    takes_line stock left start parts (play_state c.args.world.now.core c.args.text.now.items) c.args.who c.args.count living.0 c.requires.sound at living.1
    (play_state c.steps.new.world.core c.note.new.text.items) c.in-Ok.last c.note.result c.steps.ensures.sound (c.in-Ok.ensures.walks living.0 living.1) c.note.ensures.ok c.note.ensures.err

pub returns-in-Err-clause-taken : goal.returns-in-Err-clause-taken
returns-in-Err-clause-taken g c = λ stock left start parts at.
    let living = c.lives.ensures.0 c.if-not-lives.false in
    halts_line stock left start parts (play_state c.args.world.now.core c.args.text.now.items) c.args.who c.args.count living.0 c.requires.sound at living.1 c.in-Err.why c.in-Err.ensures.full (c.in-Err.ensures.halted living.0 living.1)
