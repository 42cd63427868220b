use Rattle.crc_words.proofs.WordLemmas.{byte_in_words}
use Rattle.crc_words.proofs.words.byte_of.Goals as goal

pub returns : goal.returns
returns c = rw c.to_le_bytes.ensures (byte_in_words c.args.words.now c.args.at c.requires)
