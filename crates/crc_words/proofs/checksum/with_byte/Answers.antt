use Rattle.std.proofs.Common.{◌-◌, ◌+◌, ◌∙◌, arith}
use Rattle.crc_words.proofs.ByteBits.{begun, one_less}
use Rattle.crc_words.proofs.checksum.with_byte.Goals as goal

pub loop-init : goal.loop-init
loop-init c = begun c.args.register c.args.byte

pub loop-preserved : goal.loop-preserved
loop-preserved c =
    one_less c.loop.register c.with_bit-register.result c.loop.rest (8 - c.loop.counter) (8 - (c.loop.counter + 1)) (omega arith) c.with_bit-register.ensures ∙ c.loop.invariant
