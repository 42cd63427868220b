use Rattle.crc_words.proofs.Continued.{continued_is}
use Rattle.crc_words.proofs.laws.a_checksum_goes_on.Goals as goal

pub returns : goal.returns
returns c = continued_is
