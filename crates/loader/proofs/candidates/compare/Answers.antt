use Rattle.std.proofs.Common.{take, ap, sym, ◌∙◌}
use Rattle.crc_words.specs.Crc.{crc}
use Rattle.loader.proofs.Showing.{no_bytes}
use Rattle.loader.proofs.candidates.compare.Goals as goal

pub returns-else-crc32-checksum-clause-empty : goal.returns-else-crc32-checksum-clause-empty
returns-else-crc32-checksum-clause-empty c size sum file =
    absurd (c.if-crc32-checksum.false (c.crc32.ensures ∙ ap (λ n. crc (take n c.args.payload.now)) size ∙ no_bytes ∙ sym sum))
