use Rattle.std.proofs.Common.{refl, sym, subst}
use Rattle.mmkv_top.specs.State.{play_state}
use Rattle.mmkv_top.proofs.Beginning.{unliving_halted}
use Rattle.mmkv_top.proofs.Deaths.{death_taken}
use Rattle.world.specs.Moves.{CameFrom, Dies, Dying}
use Rattle.world.proofs.Loaded.{came_on, came_still}
use Rattle.mmkv_top.proofs.moves.die.Goals as goal

pub returns-then-die-clause-taken : goal.returns-then-die-clause-taken
returns-then-die-clause-taken g c = λ stock left start parts text at.
    let d = subst (λ b. Dies c.args.who c.args.torn b c.args.world.now.core c.die.new.self.core) c.if-die.true c.die.ensures.dies in
    death_taken stock left start parts (play_state c.args.world.now.core text) (play_state c.die.new.self.core text) c.args.who c.args.torn d.0 c.requires.sound c.die.ensures.sound at d.1 refl

pub returns-then-die-clause-moved : goal.returns-then-die-clause-moved
returns-then-die-clause-moved g c =
    let w = c.args.world.now.core in
    came_on w w c.die.new.self.core (Dying c.args.who c.args.torn) (came_still w) (subst (λ b. Dies c.args.who c.args.torn b w c.die.new.self.core) c.if-die.true c.die.ensures.dies)

pub returns-else-die-clause-taken : goal.returns-else-die-clause-taken
returns-else-die-clause-taken g c = λ stock left start parts text at can.
    let d = subst (λ b. Dies c.args.who c.args.torn b c.args.world.now.core c.die.new.self.core) c.if-die.false c.die.ensures.dies in
    unliving_halted stock left start parts (play_state c.args.world.now.core text) c.args.who c.requires.sound at can.0 d.1

pub returns-else-die-clause-moved : goal.returns-else-die-clause-moved
returns-else-die-clause-moved g c =
    let w = c.args.world.now.core in
    let d = subst (λ b. Dies c.args.who c.args.torn b w c.die.new.self.core) c.if-die.false c.die.ensures.dies in
    subst (CameFrom w) (sym d.0) (came_still w)
