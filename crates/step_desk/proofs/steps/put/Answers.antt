use Rattle.std.proofs.Common.{rules, ◌<◌, ◌^◌, subst}
use Rattle.step_desk.specs.Mirrors.{checksum_after, sequence_after}
use Rattle.step_desk.proofs.Moves.{shows_checksum, shows_sequence}
use Rattle.step_desk.proofs.Turning.{slotted, mirror_is, still, unchanged, shown_counts}
use Rattle.step_desk.proofs.steps.put.Goals as goal

pub store-requires : goal.store-requires
store-requires c =
    let s = c.shown_of-shown.ensures in
    let h = slotted _ _ _ _ _ c.into_region.ensures c.requires.holds.1 c.exchange.ensures.3 in (
      search rules,
      search rules,
      shows_checksum _ _ _ _ _ _ _ _ h (mirror_is checksum_after _ _ _ _ _ c.mirror.ensures s.checksum_is s.changes_are) (subst (λ k. k < 2 ^ 32) s.checksum_is s.checksum_fits)
          (still _ _ _ _ _ c.into_region.ensures c.requires.holds.1 c.exchange.ensures.3 _ _ _ _ s _ _ c.requires.checksum c.requires.sequence c.if-shown-before.true),
    )

pub count_and_give-requires-clause-holds : goal.count_and_give-requires-clause-holds
count_and_give-requires-clause-holds c =
    let h = slotted _ _ _ _ _ c.into_region.ensures c.requires.holds.1 c.exchange.ensures.3 in
    (_, _, shown_counts _ _ _ _ _ h c.shown_of-shown.ensures.events_are c.store.ensures.2)

pub store-requires-then-shown-before-2 : goal.store-requires-then-shown-before-2
store-requires-then-shown-before-2 c =
    let s = c.shown_of-shown.ensures in
    let h = slotted _ _ _ _ _ c.into_region.ensures c.requires.holds.1 c.exchange.ensures.3 in (
      search rules,
      search rules,
      shows_sequence _ _ _ _ _ _ _ _ h (mirror_is sequence_after _ _ _ _ _ c.mirror-then-shown-before-2.ensures s.sequence_is s.changes_are) (subst (λ k. k < 2 ^ 32) s.sequence_is s.sequence_fits)
          (unchanged _ _ _ _ _ c.into_region.ensures c.requires.holds.1 c.exchange.ensures.3 _ _ _ _ s _ _ c.requires.checksum c.requires.sequence c.if-shown-before.false),
    )

pub count_and_give-requires-then-shown-before-2-clause-holds : goal.count_and_give-requires-then-shown-before-2-clause-holds
count_and_give-requires-then-shown-before-2-clause-holds c =
    let h = slotted _ _ _ _ _ c.into_region.ensures c.requires.holds.1 c.exchange.ensures.3 in
    (_, _, shown_counts _ _ _ _ _ h c.shown_of-shown.ensures.events_are c.store-then-shown-before-2.ensures.2)
