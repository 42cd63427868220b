use Rattle.std.proofs.Common.{arith}
use Rattle.world.proofs.Dying.{gives_up, has_place, keeps_all}
use Rattle.world.proofs.world.World.die.Goals as goal

pub returns-then-not-die-clause-handlers : goal.returns-then-not-die-clause-handlers
returns-then-not-die-clause-handlers g c =
    let s = c.args.self.now in
    (keeps_all c.args.who c.args.torn s.core c.die.new.self s.handlers.items s.handled c.if-not-die.ensures.dies).1

pub index_mut-requires : goal.index_mut-requires
index_mut-requires g c =
    let s = c.args.self.now in
    omega (arith, has_place c.args.who c.args.torn s.core c.die.new.self s.handlers.items s.handled c.if-not-die.ensures.dies, s.handlers.ok.0)

pub invariant_of-self-2 : goal.invariant_of-self-2
invariant_of-self-2 g c =
    let s = c.args.self.now in
    record { handled = (gives_up c.args.who c.args.torn s.core c.die.new.self s.handlers.items s.handled c.if-not-die.ensures.dies).0 }

pub returns-clause-handlers : goal.returns-clause-handlers
returns-clause-handlers g c =
    let s = c.args.self.now in
    (gives_up c.args.who c.args.torn s.core c.die.new.self s.handlers.items s.handled c.if-not-die.ensures.dies).1
