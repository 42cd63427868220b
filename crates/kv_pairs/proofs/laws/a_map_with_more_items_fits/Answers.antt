use Rattle.kv_pairs.proofs.ReadSizes.{more_fit}
use Rattle.kv_pairs.proofs.laws.a_map_with_more_items_fits.Goals as goal

pub returns : goal.returns
returns c = more_fit
