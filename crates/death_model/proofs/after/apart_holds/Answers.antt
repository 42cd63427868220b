use Rattle.std.proofs.Common.{reverse, take, sym, subst, arith}
use Rattle.region_words.specs.Region.{Region, region_of}
use Rattle.region_words.specs.Apart.{Apart}
use Rattle.death_model.specs.InRange.{IsInRange}
use Rattle.death_model.specs.RunInside.{Begins, Follows, IsAfter}
use Rattle.death_model.proofs.Fronts.{answers_false, answers_true, first_all, first_next, keeps_apart, next_apart, next_in_range, start_apart}
use Rattle.death_model.proofs.after.apart_holds.Goals as goal

pub returns-then-not-apart : goal.returns-then-not-apart
returns-then-not-apart c =
    let start = region_of c.args.body.now c.args.meta.now in
    let never = subst (Begins c.in_ok-run.run' start) c.if-not-apart.true (subst (λ (r : Region). Begins c.in_ok-run.run' r c.in_ok-run.apart) c.in_ok-files.ensures c.in_ok-run.ensures.begins) in
    answers_false start (reverse c.args.events.now) (λ a. never (start_apart start c.args.events.now a))

pub step-requires-clause-range : goal.step-requires-clause-range
step-requires-clause-range c =
    subst (λ r. IsInRange r c.event-item.result.what) (sym c.loop-event.invariant.1.region_is)
    (next_in_range (region_of c.args.body.now c.args.meta.now) c.args.events.now c.loop-event.event-index c.event-item.result c.event-item.is c.loop-event-test.true c.requires.range)

pub returns-then-not-branch : goal.returns-then-not-branch
returns-then-not-branch c =
    let start = region_of c.args.body.now c.args.meta.now in
    let never = subst (Follows c.loop-event.run c.step.new.self c.event-item.result) c.if-not-branch.true c.in_ok-step.ensures.follows in
    answers_false start (reverse c.args.events.now)
    (λ a. never start (reverse (take c.loop-event.event-index c.args.events.now)) c.loop-event.invariant.1
    (next_apart start c.args.events.now c.loop-event.event-index c.event-item.result c.event-item.is c.loop-event-test.true a))

pub loop-event-preserved : goal.loop-event-preserved
loop-event-preserved c =
    let start = region_of c.args.body.now c.args.meta.now in
    let follows = subst (Follows c.loop-event.run c.step.new.self c.event-item.result) c.if-not-branch.false c.in_ok-step.ensures.follows in (
      c.in_ok-step.ensures.readable,
      subst (IsAfter c.step.new.self start) (sym (first_next start c.args.events.now c.loop-event.event-index c.event-item.result c.event-item.is c.loop-event-test.true))
          (follows start (reverse (take c.loop-event.event-index c.args.events.now)) c.loop-event.invariant.1),
    )

pub returns : goal.returns
returns c =
    let start = region_of c.args.body.now c.args.meta.now in
    answers_true start (reverse c.args.events.now)
    (subst (Apart start) (first_all start c.args.events.now c.loop-event.event-index (omega (arith, c.loop-event-test.false)))
    (keeps_apart c.loop-event.run start (reverse (take c.loop-event.event-index c.args.events.now)) c.loop-event.invariant.1))
