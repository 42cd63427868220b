use Rattle.kv_pairs.proofs.PackedSizes.{pairs_fit, fitting_small}
use Rattle.kv_pairs.proofs.laws.a_map_that_fits_is_small.Goals as goal

pub returns : goal.returns
returns c = record { pairs = pairs_fit; small = fitting_small }
