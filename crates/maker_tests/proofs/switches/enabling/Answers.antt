use Rattle.std.proofs.Common.{sym, subst}
use Rattle.expiry_switch.specs.Switches.{CanSwitch}
use Rattle.maker_tests.proofs.WriteBackSample.{known, page}
use Rattle.maker_tests.proofs.SwitchSample.{can_switch}
use Rattle.maker_tests.proofs.switches.enabling.Goals as goal

pub start_enable-requires : goal.start_enable-requires
start_enable-requires c = subst (λ m. CanSwitch known m) (sym c.new.ensures) (can_switch known page)
