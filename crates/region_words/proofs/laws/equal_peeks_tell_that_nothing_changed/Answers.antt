use Rattle.region_words.proofs.ReadLaws.{equal_checksum}
use Rattle.region_words.proofs.laws.equal_peeks_tell_that_nothing_changed.Goals as goal

pub returns : goal.returns
returns c = λ start after mid past n m run apart kept sequence checksum. equal_checksum start past n m kept after mid run.region run.lawful apart sequence checksum
