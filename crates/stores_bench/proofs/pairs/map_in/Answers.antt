-- The map of a payload of a file is small, and can be packed.
use Rattle.std.proofs.Common.{◌≡◌, ◌≤◌, length, false, arith}
use Rattle.std.specs.Prelude.{Some}
use Rattle.kv_pairs.specs.Mapped.{map_in}
use Rattle.kv_pairs.specs.Growth.{largest}
use Rattle.kv_pairs.proofs.GoodItems.{Small-of}
use Rattle.kv_pairs.proofs.Counts.{read_small}
use Rattle.kv_pairs.proofs.Packables.{to_packable}
use Rattle.kv_pairs.proofs.Packing.{read_packs}
use Rattle.stores_bench.proofs.pairs.map_in.Goals as goal

pub returns : goal.returns
returns c =
    let bytes = c.args.payload.now in
    let map = c.in_ok-map_of.field-0 in
    let small = Small-of bytes (λ i. omega (arith, c.type_inv.payload i)) in
    let short : length bytes ≤ largest = omega (arith, c.requires) in
    let is : map_in false bytes ≡ Some map = rw c.in_ok-items.ensures.ok c.in_ok-map_of.ensures.ok in
    record { small = read_small false bytes map small short is; packs = to_packable false map (read_packs false bytes map small short is) }
