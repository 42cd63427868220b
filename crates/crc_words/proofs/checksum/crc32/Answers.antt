use Rattle.crc_words.specs.Crc.{crc}
use Rattle.crc_words.proofs.checksum.crc32.Goals as goal

pub returns : goal.returns
unfolding crc
returns c = c.crc32_from.ensures
