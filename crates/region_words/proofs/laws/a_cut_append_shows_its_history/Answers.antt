use Rattle.region_words.proofs.MainLaw.{cut_append}
use Rattle.region_words.proofs.laws.a_cut_append_shows_its_history.Goals as goal

pub returns : goal.returns
returns c = λ start who torn past a phase run cut. cut_append start who torn past a phase run cut
