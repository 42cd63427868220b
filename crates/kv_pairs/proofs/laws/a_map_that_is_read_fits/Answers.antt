use Rattle.kv_pairs.proofs.GoodItems.{Small-from}
use Rattle.kv_pairs.proofs.ReadSizes.{read_fits}
use Rattle.kv_pairs.proofs.laws.a_map_that_is_read_fits.Goals as goal

pub returns : goal.returns
returns c flag bytes m b le e = read_fits flag bytes m (Small-from bytes b) le e
