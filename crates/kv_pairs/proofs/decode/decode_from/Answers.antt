use Rattle.std.proofs.Common.{◌≡◌, arith, drop, ap, sym, ◌∙◌}
use Rattle.kv_pairs.specs.Reading.{units_at}
use Rattle.kv_pairs.proofs.GrammarRead.{pair_of}
use Rattle.kv_pairs.proofs.GoodItems.{Small-of, Small-drop}
use Rattle.kv_pairs.proofs.ToEnd.{units_to_end, units_end, units_longest}
use Rattle.kv_pairs.proofs.decode.decode_from.Goals as goal

pub returns-clause-grammar : goal.returns-clause-grammar
returns-clause-grammar c =
    let read : units_at (drop c.args.at c.args.payload.now) ≡ pair_of c.in_ok-read_units.field-0.items.items c.in_ok-read_units.field-0.rest.now =
    ap units_at (sym c.split_at.ensures.back) ∙ c.in_ok-read_units.ensures.read in
    units_to_end c.to_end.result _ _ _ _ (Small-drop c.args.at c.args.payload.now (Small-of c.args.payload.now (λ i. omega (arith, c.type_inv.payload i)))) read c.to_end.ensures

pub returns-clause-outside : goal.returns-clause-outside
returns-clause-outside c =
    let read : units_at (drop c.args.at c.args.payload.now) ≡ pair_of c.in_ok-read_units.field-0.items.items c.in_ok-read_units.field-0.rest.now =
    ap units_at (sym c.split_at.ensures.back) ∙ c.in_ok-read_units.ensures.read in
    units_end c.to_end.result _ _ _ _ read c.to_end.ensures

pub returns-clause-longest : goal.returns-clause-longest
returns-clause-longest c =
    units_longest c.to_end.result (drop c.args.at c.args.payload.now) _ _ _ (Small-drop c.args.at c.args.payload.now (Small-of c.args.payload.now (λ i. omega (arith, c.type_inv.payload i))))
    c.to_end.ensures
