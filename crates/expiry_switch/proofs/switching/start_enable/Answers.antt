use Rattle.std.proofs.Common.{◌≡◌, ◌∙◌, ◌^◌, subst, sym, ap, true}
use Rattle.std.specs.Prelude.{not}
use Rattle.expiring_map.specs.Live.{with_expiry}
use Rattle.kv_pairs.specs.Fits.{FitsIn}
use Rattle.change_log.specs.Acts.{applied}
use Rattle.change_log.specs.declared.change.Act.TheVariants as act
use Rattle.expiry_switch.proofs.AfterSwitch.{enabled_fits}
use Rattle.expiry_switch.proofs.switching.start_enable.Goals as goal

pub switch_to-requires-clause-map : goal.switch_to-requires-clause-map
switch_to-requires-clause-map c =
    let map : c.set_expiry.new.self ≡ applied c.args.map (act.Enable c.args.now c.args.seconds) = c.set_expiry.ensures ∙ ap (λ e. with_expiry e c.args.map) c.in-Some.ensures.some.1 in
    subst (λ flag. FitsIn flag c.set_expiry.new.self (2 ^ 30)) (sym (ap not c.if-standing.false))
    (subst (λ m. FitsIn true m (2 ^ 30)) (sym map) (enabled_fits c.args.standing.now.flag c.args.map c.args.now c.args.seconds c.in-Some.ensures.some.0 c.requires.map))
