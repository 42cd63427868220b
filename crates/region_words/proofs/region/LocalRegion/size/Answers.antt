use Rattle.std.proofs.Common.{length, reverse, ap, arith}
use Rattle.region_words.specs.Inside.{local_of}
use Rattle.region_words.proofs.Regions.{lawful_region}
use Rattle.region_words.proofs.region.LocalRegion.size.Goals as goal

pub overflow_cast-result : goal.overflow_cast-result
overflow_cast-result c =
    let region = lawful_region (local_of c.self.inside).start (reverse c.self.inside.journal.items) c.self.invariant.good.lawful c.self.invariant.good.region in
    omega (arith, c.self.inside.data.ok.0, ap length c.self.invariant.data_is, region.data_file.most)
