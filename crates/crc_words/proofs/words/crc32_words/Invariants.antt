use Rattle.std.proofs.Common.{◌≡◌, ◌-◌, take, drop}
use Rattle.std.specs.Prelude.{bit_xor}
use Rattle.crc_words.specs.Crc.{register_after}
use Rattle.crc_words.specs.WordBytes.{bytes_of_words}
use Rattle.crc_words.proofs.words.crc32_words.Given as goal

abbrev pub invariant-loop-at : goal.invariant-loop-at
invariant-loop-at l = l.register ≡ register_after (bit_xor l.fn.prefix 0xffffffff) (take (l.at - l.first) (drop l.first (bytes_of_words l.words)))
