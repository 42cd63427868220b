use Rattle.region_words.proofs.ReadLaws.{equal_sequence}
use Rattle.region_words.proofs.PartialLoad.{still_same}
use Rattle.region_words.proofs.Notices.{kept_shows, only_appends}
use Rattle.region_words.proofs.laws.an_equal_sequence_tells_that_the_image_stands.Goals as goal

pub returns : goal.returns
returns c = λ start later past n m run apart kept same. (
  still_same start past n m kept later run.region run.lawful apart same,
  only_appends n later (equal_sequence start past n m kept later run.region run.lawful apart same).1,
  kept_shows start past n m kept later run.region run.lawful apart same,
)
