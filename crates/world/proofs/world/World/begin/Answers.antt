use Rattle.world.proofs.Handed.{begun_have}
use Rattle.world.proofs.world.World.begin.Goals as goal

pub invariant_of-self : goal.invariant_of-self
invariant_of-self g c =
    let e = c.begin.ensures in
    record { handled = begun_have c.begin.result c.args.who c.args.call c.args.now c.args.self.now.core c.begin.new.self c.args.self.now.handlers.items e.ok e.same c.args.self.now.handled }
