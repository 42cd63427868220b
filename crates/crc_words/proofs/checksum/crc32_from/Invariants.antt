use Rattle.std.proofs.Common.{◌≡◌, take}
use Rattle.std.specs.Prelude.{bit_xor}
use Rattle.crc_words.specs.Crc.{register_after}
use Rattle.crc_words.proofs.checksum.crc32_from.Given as goal

abbrev pub invariant-loop-byte : goal.invariant-loop-byte
invariant-loop-byte l = l.register ≡ register_after (bit_xor l.fn.prefix 0xffffffff) (take l.byte-index l.bytes)
