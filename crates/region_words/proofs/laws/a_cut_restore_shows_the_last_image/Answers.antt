use Rattle.region_words.proofs.MainLaw.{cut_restore}
use Rattle.region_words.proofs.laws.a_cut_restore_shows_the_last_image.Goals as goal

pub returns : goal.returns
returns c = cut_restore
