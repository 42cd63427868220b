use Rattle.std.proofs.Common.{arith}
use Rattle.std.specs.Prelude.{bit_xor}
use Rattle.crc_words.specs.WordBytes.{bytes_of_words}
use Rattle.crc_words.proofs.WordLemmas.{length-bytes_of_words, walks_on}
use Rattle.crc_words.proofs.words.crc32_words.Goals as goal

pub loop-at-preserved : goal.loop-at-preserved
loop-at-preserved c =
    walks_on (bit_xor c.args.prefix 0xffffffff) (bytes_of_words c.args.words.now) c.args.first c.loop-at.at c.byte_of.result c.loop-at.register c.with_byte-register.result c.loop-at.auto.at (omega (arith, length-bytes_of_words c.args.words.now)) c.byte_of.ensures c.loop-at.invariant c.with_byte-register.ensures
