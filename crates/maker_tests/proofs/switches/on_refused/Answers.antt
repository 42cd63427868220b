use Rattle.std.proofs.Common.{sym, subst}
use Rattle.expiry_switch.specs.Switches.{CanSwitch}
use Rattle.maker_tests.proofs.SwitchSample.{can_switch}
use Rattle.maker_tests.proofs.switches.on_refused.Goals as goal

pub start_enable-requires : goal.start_enable-requires
start_enable-requires c = subst (CanSwitch c.args.standing.now) (sym c.new.ensures) (can_switch c.args.standing.now c.requires)
