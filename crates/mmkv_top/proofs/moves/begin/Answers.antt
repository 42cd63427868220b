use Rattle.std.proofs.Common.{refl, sym, subst}
use Rattle.std.specs.Prelude.{Some}
use Rattle.script_lang.specs.declared.line.Line.TheVariants.{Begin}
use Rattle.mmkv_top.specs.State.{play_state}
use Rattle.mmkv_top.specs.Progress.{HasHalted}
use Rattle.mmkv_top.proofs.Beginning.{begin_halted, begin_taken}
use Rattle.world.specs.Moves.{Beginning}
use Rattle.world.proofs.Loaded.{came_on, came_still}
use Rattle.mmkv_top.proofs.moves.begin.Goals as goal

pub returns-in-Ok-clause-taken : goal.returns-in-Ok-clause-taken
returns-in-Ok-clause-taken g c = λ stock left start parts text at.
    let b = c.in-Ok.ensures.ok in
    begin_taken stock left start parts (play_state c.args.world.now.core text) (play_state c.begin.new.self.core text) c.args.who c.args.now c.args.call b.0 b.1
    c.requires.sound c.begin.ensures.sound at b.2 refl

pub returns-in-Err-clause-taken : goal.returns-in-Err-clause-taken
returns-in-Err-clause-taken g c = λ stock left start parts text at.
    subst (HasHalted stock start parts (Some (Begin c.args.who c.args.now c.args.call))) (sym c.from.ensures)
    (begin_halted stock left start parts (play_state c.args.world.now.core text) c.args.who c.args.now c.args.call c.in-Err.why c.requires.sound at c.in-Err.ensures.err)

pub returns-in-Ok-clause-moved : goal.returns-in-Ok-clause-moved
returns-in-Ok-clause-moved g c =
    let w = c.args.world.now.core in came_on w w c.begin.new.self.core (Beginning c.args.who c.args.call c.args.now) (came_still w) c.in-Ok.ensures.ok
