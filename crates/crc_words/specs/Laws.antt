-- Laws of the checksum, as their functions in laws.rt ensure them.
use Rattle.std.specs.Prelude.{◌≡◌, ℕ, List, ◌++◌}
use Rattle.crc_words.specs.Crc.{crc, crc_from}

-- a checksum that goes on from that of a front is that of the whole
abbrev pub GoesOn : Type 0
GoesOn = (front rest : List ℕ) → crc_from (crc front) rest ≡ crc (front ++ rest)
