use Rattle.std.proofs.Common.{◌↔◌, ◌∙◌, ap, sym, subst}
use Rattle.std.specs.Prelude.{IsTrue, is_some}
use Rattle.world.specs.World.{IsLiving, WorldState}
use Rattle.world.proofs.Turns.{lives_some}
use Rattle.world.proofs.world_core.WorldCore.lives.Goals as goal

pub returns : goal.returns
returns c =
    let same = c.deref.ensures.value ∙ ap (λ (w : WorldState). w.openers) c.self.view_is in
    subst (λ b. IsTrue b ↔ IsLiving c.args.self.now.openers c.args.who) (sym c.is_some.ensures)
    (subst (λ openers. IsTrue (is_some c.place_of.result) ↔ IsLiving openers c.args.who) same (lives_some c.deref.result.now c.args.who c.place_of.result c.place_of.ensures.some c.place_of.ensures.none))
