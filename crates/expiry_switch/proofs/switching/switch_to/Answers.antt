use Rattle.std.proofs.Common.{◌^◌, arith}
use Rattle.std.specs.Prelude.{not}
use Rattle.kv_pairs.proofs.PackedSizes.{fitting_small, pairs_fit}
use Rattle.expiry_switch.proofs.switching.switch_to.Goals as goal

pub packed_size-packed-requires : goal.packed_size-packed-requires
packed_size-packed-requires c = fitting_small (not c.args.standing.now.flag) c.args.map (2 ^ 30) c.requires.map (omega arith)

pub grown_size-requires-clause-pairs : goal.grown_size-requires-clause-pairs
grown_size-requires-clause-pairs c = omega (arith, c.len.ensures.count, pairs_fit (not c.args.standing.now.flag) c.args.map, c.requires.map.size)
