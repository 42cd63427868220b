use Rattle.std.proofs.Common.{subst}
use Rattle.region_words.specs.Local.{Local}
use Rattle.region_words.specs.Region.{IsRegion}
use Rattle.region_words.proofs.MainLaw.{main_law}
use Rattle.opener.proofs.Quiet.{rests_quietly}
use Rattle.world.specs.Moves.{RestsWithItsHistory, RestsWithoutDeath}
use Rattle.world.proofs.world_core.WorldCore.region.Goals as goal

pub returns-clause-shows : goal.returns-clause-shows
returns-clause-shows c =
    let l = c.self.inside.seat.region in
    let region = subst (λ (m : Local). IsRegion m.start) c.region-region.ensures c.journal.ensures.region in
    subst RestsWithItsHistory c.self.view_is (λ apart rest. main_law l.start l.past region c.self.invariant.0.accepted c.self.invariant.0.lawful apart rest)

pub returns-clause-undying : goal.returns-clause-undying
returns-clause-undying c =
    let l = c.self.inside.seat.region in
    let region = subst (λ (m : Local). IsRegion m.start) c.region-region.ensures c.journal.ensures.region in
    subst RestsWithoutDeath c.self.view_is (λ apart live rest. rests_quietly l.start l.past region c.self.invariant.0.accepted c.self.invariant.0.lawful apart live rest)
