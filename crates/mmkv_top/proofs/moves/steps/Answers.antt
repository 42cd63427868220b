use Rattle.std.proofs.Common.{◌∙◌, ◌+◌, ◌≡◌, true, false, arith, length, refl, sym}
use Rattle.world.specs.declared.moves.Moved.TheVariants.{Going}
use Rattle.world.specs.Moves.{Stepping}
use Rattle.world.proofs.Loaded.{came_on, came_still}
use Rattle.mmkv_top.proofs.Walking.{moved_count, placed_of, walks_begin, walks_end, walks_full, walks_on}
use Rattle.mmkv_top.proofs.moves.steps.Goals as goal

pub loop-init : goal.loop-init
loop-init g c = (c.requires.sound, refl, λ o lives start past held before first. walks_begin c.args.who (length c.args.world.now.core.openers) start past held before o c.args.world.now.core lives first, came_still c.args.world.now.core)

pub returns-in_default : goal.returns-in_default
returns-in_default g c = record {
  sound = c.step.ensures.sound;
  moved = came_on c.args.world.now.core c.loop.world.core c.step.new.self.core (Stepping c.args.who c.step.result) c.loop.invariant.3 c.step.ensures.moves;
  placed = placed_of c.args.who c.step.result c.loop.world.core c.step.new.self.core c.step.ensures.moves;
  walks = λ o lives start past held before first.
      walks_on c.args.who (length c.args.world.now.core.openers) start past held before o c.loop.counter c.args.world.now.core c.loop.world.core c.step.new.self.core c.step.result lives c.loop.invariant.0 c.step.ensures.sound
      (sym c.loop.invariant.1) c.step.ensures.moves (c.loop.invariant.2 o lives start past held before first) c.args.count (omega (arith, c.loop-test.true))
      (λ going. absurd (c.in_default.not-Going going)) (λ going. absurd (c.in_default.not-Going going));
  full = tt;
  halted = tt;
}

pub loop-preserved : goal.loop-preserved
loop-preserved g c = (
  c.step.ensures.sound,
  moved_count c.args.who Going c.loop.world.core c.step.new.self.core c.in-Going.ensures.moves ∙ c.loop.invariant.1,
  λ o lives start past held before first.
      walks_on c.args.who (length c.args.world.now.core.openers) start past held before o c.loop.counter c.args.world.now.core c.loop.world.core c.step.new.self.core Going lives c.loop.invariant.0 c.step.ensures.sound
      (sym c.loop.invariant.1) c.in-Going.ensures.moves (c.loop.invariant.2 o lives start past held before first) (c.loop.counter + 1) (omega arith) (λ going. refl)
      (λ going next there found. let both : true ≡ false = sym ((c.lacks_places.ensures next there).1 found) ∙ c.if-lacks_places.false in absurd cc),
  came_on c.args.world.now.core c.loop.world.core c.step.new.self.core (Stepping c.args.who Going) c.loop.invariant.3 c.in-Going.ensures.moves,
)

pub returns-then-lacks_places-clause-halted : goal.returns-then-lacks_places-clause-halted
returns-then-lacks_places-clause-halted g c = λ o lives start past held before first.
    walks_full c.args.who (length c.args.world.now.core.openers) start past held before o c.loop.counter c.args.world.now.core c.loop.world.core c.step.new.self.core Going lives c.loop.invariant.0 c.step.ensures.sound
    (sym c.loop.invariant.1) c.in-Going.ensures.moves (c.loop.invariant.2 o lives start past held before first) c.args.count (omega (arith, c.loop-test.true)) refl
    (λ next there. (c.lacks_places.ensures next there).0 c.if-lacks_places.true)

pub returns-clause-walks : goal.returns-clause-walks
returns-clause-walks g c = λ o lives start past held before first.
    walks_end c.args.who (length c.args.world.now.core.openers) start past held before o c.loop.counter c.args.count c.args.world.now.core c.loop.world.core (omega (arith, c.loop.auto.counter-end, c.loop-test.false))
    (c.loop.invariant.2 o lives start past held before first)

pub returns-then-lacks_places-clause-moved : goal.returns-then-lacks_places-clause-moved
returns-then-lacks_places-clause-moved g c = came_on c.args.world.now.core c.loop.world.core c.step.new.self.core (Stepping c.args.who Going) c.loop.invariant.3 c.in-Going.ensures.moves

pub returns-clause-moved : goal.returns-clause-moved
returns-clause-moved g c = c.loop.invariant.3
