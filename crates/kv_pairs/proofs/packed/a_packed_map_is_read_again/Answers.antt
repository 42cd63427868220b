use Rattle.kv_pairs.proofs.Packing.{read_again}
use Rattle.kv_pairs.proofs.packed.a_packed_map_is_read_again.Goals as goal

pub returns : goal.returns
returns c = read_again
