use Rattle.std.proofs.Common.{◌≡◌, ◌-◌}
use Rattle.std.specs.Prelude.{fold}
use Rattle.crc_words.specs.Crc.{after_bit, after_byte}
use Rattle.crc_words.proofs.ByteBits.{lowest_bits}
use Rattle.crc_words.proofs.checksum.with_byte.Given as goal

abbrev pub invariant-loop : goal.invariant-loop
invariant-loop l = fold after_bit l.register (lowest_bits (8 - l.counter) l.rest) ≡ after_byte l.fn.register l.fn.byte
