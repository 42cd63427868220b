use Rattle.std.proofs.Common.{arith}
use Rattle.kv_pairs.proofs.GoodItems.{Small-of}
use Rattle.kv_pairs.proofs.ToEnd.{payload_to_end, payload_ends, payload_outside, payload_greedy}
use Rattle.kv_pairs.proofs.decode.decode_all.Goals as goal

pub returns-clause-grammar : goal.returns-clause-grammar
returns-clause-grammar c =
    payload_to_end c.to_end.result _ _ _ _ (Small-of c.args.payload.now (λ i. omega (arith, c.type_inv.payload i))) c.in_ok-read_front.ensures.read c.to_end.ensures

pub returns-clause-none : goal.returns-clause-none
returns-clause-none c = payload_ends c.to_end.result _ _ _ _ c.in_ok-read_front.ensures.read c.to_end.ensures

pub returns-clause-outside : goal.returns-clause-outside
returns-clause-outside c = payload_outside c.to_end.result _ _ _ _ c.in_ok-read_front.ensures.read c.to_end.ensures

pub returns-clause-greedy : goal.returns-clause-greedy
returns-clause-greedy c =
    payload_greedy c.to_end.result c.args.payload.now _ _ (Small-of c.args.payload.now (λ i. omega (arith, c.type_inv.payload i))) c.in_ok-read_front.ensures.read c.to_end.ensures
