use Rattle.std.proofs.Common.{arith}
use Rattle.world.specs.World.{IsLiving}
use Rattle.world.proofs.Handed.{dead_step, has_place, living_step, no_step}
use Rattle.world.proofs.world.World.step.Goals as goal

pub returns-in-NoOpener-clause-handlers : goal.returns-in-NoOpener-clause-handlers
returns-in-NoOpener-clause-handlers g c =
    let s = c.args.self.now in
    (no_step c.args.who c.step-moved.result s.core c.step-moved.new.self s.handlers.items c.step-moved.ensures.moves s.handled c.in-NoOpener.is).1

pub index_mut-requires : goal.index_mut-requires
index_mut-requires g c =
    let s = c.args.self.now in
    omega (arith, has_place c.args.who c.step-moved.result s.core c.step-moved.new.self s.handlers.items c.step-moved.ensures.moves s.handled c.in_default.not-NoOpener, s.handlers.ok.0)

pub invariant_of-self-then-not-lives : goal.invariant_of-self-then-not-lives
invariant_of-self-then-not-lives g c =
    let s = c.args.self.now in
    let dead : IsLiving c.step-moved.new.self.openers c.args.who → ⊥ = λ living. let is = c.lives.ensures.1 living in cc in
    record { handled = (dead_step c.args.who c.step-moved.result s.core c.step-moved.new.self s.handlers.items c.step-moved.ensures.moves s.handled c.in_default.not-NoOpener dead).0 }

pub invariant_of-self-else-not-lives : goal.invariant_of-self-else-not-lives
invariant_of-self-else-not-lives g c =
    let s = c.args.self.now in
    record {
      handled = (living_step c.args.who c.step-moved.result s.core c.step-moved.new.self s.handlers.items c.step-moved.ensures.moves s.handled c.in_default.not-NoOpener (c.lives.ensures.0 c.if-not-lives.false)).0;
    }

pub returns-then-not-lives : goal.returns-then-not-lives
returns-then-not-lives g c =
    let s = c.args.self.now in
    let dead : IsLiving c.step-moved.new.self.openers c.args.who → ⊥ = λ living. let is = c.lives.ensures.1 living in cc in
    let e = c.step-moved.ensures in
    record {
      sound = e.sound;
      moves = e.moves;
      held = e.held;
      handlers = (dead_step c.args.who c.step-moved.result s.core c.step-moved.new.self s.handlers.items e.moves s.handled c.in_default.not-NoOpener dead).1;
    }

pub returns-else-not-lives : goal.returns-else-not-lives
returns-else-not-lives g c =
    let s = c.args.self.now in
    let e = c.step-moved.ensures in
    record {
      sound = e.sound;
      moves = e.moves;
      held = e.held;
      handlers = (living_step c.args.who c.step-moved.result s.core c.step-moved.new.self s.handlers.items e.moves s.handled c.in_default.not-NoOpener (c.lives.ensures.0 c.if-not-lives.false)).1;
    }
