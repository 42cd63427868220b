use Rattle.std.proofs.Common.{◌≡◌, ◌∙◌, ◌^◌, subst, sym, ap, false}
use Rattle.std.specs.Prelude.{not}
use Rattle.expiring_map.specs.Live.{with_expiry}
use Rattle.kv_pairs.specs.Fits.{FitsIn}
use Rattle.change_log.specs.Acts.{applied}
use Rattle.change_log.specs.declared.change.Act.TheVariants as act
use Rattle.expiry_switch.proofs.AfterSwitch.{disabled_fits}
use Rattle.expiry_switch.proofs.switching.start_disable.Goals as goal

pub switch_to-requires-clause-map : goal.switch_to-requires-clause-map
switch_to-requires-clause-map c =
    let map : c.set_expiry.new.self ≡ applied c.args.map (act.Disable c.args.now) = c.set_expiry.ensures ∙ ap (with_expiry 0) c.drop_expired.ensures.after in
    subst (λ flag. FitsIn flag c.set_expiry.new.self (2 ^ 30)) (sym (ap not c.if-not-standing.false))
    (subst (λ m. FitsIn false m (2 ^ 30)) (sym map) (disabled_fits c.args.standing.now.flag c.args.map c.args.now c.requires.map))
