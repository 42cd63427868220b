use Rattle.std.proofs.Common.{arith}
use Rattle.kv_pairs.proofs.GoodItems.{Small-of}
use Rattle.kv_pairs.proofs.Spelled.{front_spells, length_when}
use Rattle.kv_pairs.proofs.length.read_length.Goals as goal

pub returns-then-number-clause-ok : goal.returns-then-number-clause-ok
returns-then-number-clause-ok c = length_when _ _ _ c.in_ok-number.ensures.ok c.if-number.true

pub returns-then-number-clause-spelled : goal.returns-then-number-clause-spelled
returns-then-number-clause-spelled c =
    front_spells c.args.bytes.now c.in_ok-number.number c.in_ok-number.size (Small-of c.args.bytes.now (λ i. omega (arith, c.type_inv.bytes i))) c.in_ok-number.ensures.size
    (length_when _ _ _ c.in_ok-number.ensures.ok c.if-number.true)
