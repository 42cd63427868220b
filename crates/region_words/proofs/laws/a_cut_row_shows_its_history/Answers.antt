use Rattle.region_words.proofs.MainLaw.{cut_row, cut_holder}
use Rattle.region_words.proofs.laws.a_cut_row_shows_its_history.Goals as goal

pub returns : goal.returns
returns c = record { history = cut_row; rewrite = cut_holder }
