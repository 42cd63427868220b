use Rattle.region_words.proofs.MainLaw.{row_whole}
use Rattle.region_words.proofs.laws.a_whole_row_shows_a_whole_image.Goals as goal

pub returns : goal.returns
returns c = row_whole
