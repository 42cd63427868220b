use Rattle.std.proofs.Common.{◌∙◌, ap}
use Rattle.region_words.specs.Local.{Local}
use Rattle.world.specs.World.{WorldState}
use Rattle.world.proofs.Fresh.{nothing_made}
use Rattle.world.proofs.world_core.WorldCore.note_base.Goals as goal

pub start_map-requires-clause-past : goal.start_map-requires-clause-past
start_map-requires-clause-past c =
    let inside = c.self.inside in
    ap (λ (l : Local). l.past) c.region.ensures
    ∙ nothing_made inside.seat.region inside.openers.items inside.answers.items (ap (λ (w : WorldState). w.openers) c.self.view_is ∙ c.requires) c.self.invariant.0
