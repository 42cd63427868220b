use Rattle.std.proofs.Common.{Some, length, ap, ◌∙◌, subst, arith}
use Rattle.kv_pairs.specs.Found.{items_found, HaveKeys}
use Rattle.kv_pairs.proofs.Stepping.{behind_unit, goes_on, goes_past, all_done, left_within}
use Rattle.kv_pairs.proofs.GoodItems.{Small-of, units_have_keys}
use Rattle.kv_pairs.proofs.decode.read_units.Goals as goal

pub loop-entry-smaller-in_ok-push : goal.loop-entry-smaller-in_ok-push
loop-entry-smaller-in_ok-push c = behind_unit _ _ _ c.in-Some.ensures

pub loop-entry-preserved-in_ok-push : goal.loop-entry-preserved-in_ok-push
loop-entry-preserved-in_ok-push c =
    let unit = c.in-Some.ensures ∙ ap (λ e. Some (items_found e, c.in-Some.behind.now)) c.in-Some-entry.is in
    rw (c.in_ok-push.ensures.items, c.in_ok-to_item.ensures) (goes_on _ _ _ _ _ unit c.loop-entry.invariant)

pub loop-entry-smaller : goal.loop-entry-smaller
loop-entry-smaller c = behind_unit _ _ _ c.in-Some.ensures

pub loop-entry-preserved : goal.loop-entry-preserved
loop-entry-preserved c =
    let unit = c.in-Some.ensures ∙ ap (λ e. Some (items_found e, c.in-Some.behind.now)) c.in_default-entry.is in
    goes_past _ _ _ _ unit c.loop-entry.invariant

pub returns-clause-keys : goal.returns-clause-keys
returns-clause-keys c =
    let read = all_done _ _ _ c.in_default.ensures c.loop-entry.invariant in
    subst HaveKeys (ap (λ p. p.0) read) (units_have_keys c.args.bytes.now (Small-of c.args.bytes.now (λ i. omega (arith, c.type_inv.bytes i))))

pub returns-clause-within : goal.returns-clause-within
returns-clause-within c =
    let read = all_done _ _ _ c.in_default.ensures c.loop-entry.invariant in
    omega (arith, ap (λ p. length p.1) read, left_within (length c.args.bytes.now) c.args.bytes.now)
