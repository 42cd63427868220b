use Rattle.std.proofs.Common.{IfSome, ◌≡◌, ap, sym, subst, arith, ◌∙◌}
use Rattle.region_words.specs.Region.{base}
use Rattle.world.specs.World.{Lives, WorldState}
use Rattle.world.proofs.Numbered.{few_run, within_is}
use Rattle.world.proofs.Turns.{lives_at}
use Rattle.world.proofs.world_core.WorldCore.begin.Goals as goal

pub returns-in_default-reserve-clause-err : goal.returns-in_default-reserve-clause-err
returns-in_default-reserve-clause-err c =
    let items = c.self.inside.openers.items in
    let place = c.in-Some.place in
    let some = c.in-Some.ensures.some in
    let same : c.deref.result.now ≡ items = c.deref.ensures.value in
    let opener = within_is c.deref.result.now place some.1 in
    let at = opener.1 in
    let lives = lives_at c.deref.result.now place opener.0 at (some.2 opener.0 at) in
    (opener.0, subst (λ openers. Lives openers c.args.who opener.0) (same ∙ ap (λ (w : WorldState). w.openers) c.self.view_is) (subst (λ who. Lives c.deref.result.now who opener.0) some.0 lives))

pub invariant_of-self-2 : goal.invariant_of-self-2
invariant_of-self-2 c =
    let inside = c.self.inside in (
      c.begin_at.ensures.world,
      omega (arith, few_run c.begin_at.new.openers.items, c.begin_at.ensures.world.few, c.reserve.ensures.len, c.in-Ok.ensures.ok),
      subst (λ r. IfSome inside.start_map (λ m. m ≡ base r)) (sym c.begin_at.ensures.start) c.self.invariant.2,
    )
