use Rattle.meta_record.proofs.FreshStores.{fresh_is_whole}
use Rattle.meta_record.proofs.laws.a_fresh_store_shows_nothing.Goals as goal

pub returns : goal.returns
returns c = fresh_is_whole
