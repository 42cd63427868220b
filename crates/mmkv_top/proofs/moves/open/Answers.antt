use Rattle.std.proofs.Common.{refl, sym, subst}
use Rattle.std.specs.Prelude.{Some}
use Rattle.script_lang.specs.declared.line.Line.TheVariants.{Open}
use Rattle.mmkv_top.specs.State.{play_state}
use Rattle.script_lang.specs.Played.{stock_of}
use Rattle.mmkv_top.specs.Progress.{HasHalted}
use Rattle.mmkv_top.proofs.Opening.{none_drawn, one_drawn, open_halted, open_taken, undrawn_halted}
use Rattle.world.specs.Moves.{Opening}
use Rattle.world.proofs.Loaded.{came_on, came_still}
use Rattle.mmkv_top.proofs.Stocked.{the_drawn, those_left}
use Rattle.mmkv_top.proofs.moves.open.Goals as goal

pub returns-in_default-clause-taken : goal.returns-in_default-clause-taken
returns-in_default-clause-taken g c = λ stock start parts text at.
    undrawn_halted stock (stock_of c.args.handlers.now) start parts (play_state c.args.world.now.core text) c.args.strategy at
    (none_drawn c.args.handlers.now.discard.items c.draw.new.self.discard.items c.args.handlers.now.recover.items c.draw.new.self.recover.items c.args.handlers.now.leave.items c.draw.new.self.leave.items
    c.draw.result c.args.strategy c.in_default.is c.draw.ensures.discard c.draw.ensures.recover c.draw.ensures.leave)

pub returns-in-Ok-clause-taken : goal.returns-in-Ok-clause-taken
returns-in-Ok-clause-taken g c = λ stock start parts text at.
    open_taken stock (stock_of c.args.handlers.now) (stock_of c.draw.new.self) start parts (play_state c.args.world.now.core text) c.args.strategy c.requires.sound at
    (one_drawn c.args.handlers.now.discard.items c.draw.new.self.discard.items c.args.handlers.now.recover.items c.draw.new.self.recover.items c.args.handlers.now.leave.items c.draw.new.self.leave.items
    c.in-Some.handler c.args.strategy c.in-Some.ensures.discard c.in-Some.ensures.recover c.in-Some.ensures.leave)
    (play_state c.open.new.self.core text) c.in-Ok.field-0 c.open.ensures.sound c.in-Ok.ensures.ok refl

pub returns-in-Err-clause-taken : goal.returns-in-Err-clause-taken
returns-in-Err-clause-taken g c = λ stock start parts text at.
    subst (HasHalted stock start parts (Some (Open c.args.strategy))) (sym c.from.ensures)
    (open_halted stock (stock_of c.args.handlers.now) (stock_of c.draw.new.self) start parts (play_state c.args.world.now.core text) c.args.strategy c.requires.sound at
    (one_drawn c.args.handlers.now.discard.items c.draw.new.self.discard.items c.args.handlers.now.recover.items c.draw.new.self.recover.items c.args.handlers.now.leave.items c.draw.new.self.leave.items
    c.in-Some.handler c.args.strategy c.in-Some.ensures.discard c.in-Some.ensures.recover c.in-Some.ensures.leave) c.in-Err.refused.why c.in-Err.ensures.err)

pub returns-in-Ok-clause-moved : goal.returns-in-Ok-clause-moved
returns-in-Ok-clause-moved g c = let w = c.args.world.now.core in came_on w w c.open.new.self.core (Opening c.in-Ok.field-0) (came_still w) c.in-Ok.ensures.ok

pub open-requires : goal.open-requires
open-requires g c = record { fresh = the_drawn _ c.args.handlers.now c.draw.new.self c.args.strategy (Some c.in-Some.handler) c.requires.fresh c.in-Some.ensures.discard c.in-Some.ensures.recover c.in-Some.ensures.leave }

pub returns-in_default-clause-fresh : goal.returns-in_default-clause-fresh
returns-in_default-clause-fresh g c = those_left _ c.args.handlers.now c.draw.new.self c.args.strategy c.draw.result c.requires.fresh c.draw.ensures.discard c.draw.ensures.recover c.draw.ensures.leave

pub returns-in-Ok-clause-fresh : goal.returns-in-Ok-clause-fresh
returns-in-Ok-clause-fresh g c = those_left _ c.args.handlers.now c.draw.new.self c.args.strategy (Some c.in-Some.handler) c.requires.fresh c.in-Some.ensures.discard c.in-Some.ensures.recover c.in-Some.ensures.leave

pub returns-in-Err-clause-fresh : goal.returns-in-Err-clause-fresh
returns-in-Err-clause-fresh g c = those_left _ c.args.handlers.now c.draw.new.self c.args.strategy (Some c.in-Some.handler) c.requires.fresh c.in-Some.ensures.discard c.in-Some.ensures.recover c.in-Some.ensures.leave
