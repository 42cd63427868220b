use Rattle.std.proofs.Common.{sym, subst}
use Rattle.expiry_switch.specs.Switches.{CanSwitch}
use Rattle.maker_tests.proofs.SwitchSample.{can_switch}
use Rattle.maker_tests.proofs.switches.off_refused.Goals as goal

pub start_disable-requires : goal.start_disable-requires
start_disable-requires c = subst (CanSwitch c.args.standing.now) (sym c.new.ensures) (can_switch c.args.standing.now c.requires)
