use Rattle.region_words.proofs.MainLaw.{last_confirmed_law}
use Rattle.region_words.proofs.Confirmed.{last_shows_confirmed}
use Rattle.region_words.proofs.laws.the_last_confirmed_image_is_shown.Goals as goal

pub returns-clause-image : goal.returns-clause-image
returns-clause-image c = λ start past n run has shows. last_shows_confirmed start past n run.region run.accepted run.lawful run.apart has shows

pub returns-clause-map : goal.returns-clause-map
returns-clause-map c = λ start past n run rest shows same. last_confirmed_law start past run.region run.accepted run.lawful run.apart rest n shows same
