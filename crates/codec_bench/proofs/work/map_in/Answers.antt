-- The map of a payload of a file is small.
use Rattle.std.proofs.Common.{false, arith}
use Rattle.kv_pairs.proofs.GoodItems.{Small-of}
use Rattle.kv_pairs.proofs.Counts.{read_small}
use Rattle.codec_bench.proofs.work.map_in.Goals as goal

pub returns : goal.returns
returns c =
    read_small false c.args.payload.now c.in_ok-map_of.field-0
    (Small-of c.args.payload.now (λ i. omega (arith, c.type_inv.payload i)))
    (omega (arith, c.requires))
    (rw c.in_ok-items.ensures.ok c.in_ok-map_of.ensures.ok)
