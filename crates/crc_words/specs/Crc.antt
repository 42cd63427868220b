use Rattle.std.specs.Prelude.{ℕ, ◌/◌, ◌%◌, List, fold, bit_xor, ◌==◌, if◌then◌else◌, [], ◌∷◌}
use Rattle.crc_words.specs.declared.checksum.TheConstants.{POLYNOMIAL}

-- The register after one bit comes. Its lowest bit is the highest power: the bit is added to that, and where their sum is 1 the polynomial is taken off.
abbrev pub after_bit : ℕ → ℕ → ℕ
after_bit register bit = if register % 2 == bit then register / 2 else bit_xor (register / 2) POLYNOMIAL

-- the bits of a byte, the lowest first
abbrev pub bits_of : ℕ → List ℕ
bits_of b = b % 2 ∷ b / 2 % 2 ∷ b / 4 % 2 ∷ b / 8 % 2 ∷ b / 16 % 2 ∷ b / 32 % 2 ∷ b / 64 % 2 ∷ b / 128 % 2 ∷ []

abbrev pub after_byte : ℕ → ℕ → ℕ
after_byte register b = fold after_bit register (bits_of b)

-- the register after these bytes
abbrev pub register_after : ℕ → List ℕ → ℕ
register_after register bytes = fold after_byte register bytes

-- the checksum CRC-32: begun at all ones, and complemented at the end
unfoldable pub crc : List ℕ → ℕ
crc bytes = bit_xor (register_after 0xffffffff bytes) 0xffffffff

-- the checksum of a front and these bytes behind it, from that of the front
abbrev pub crc_from : ℕ → List ℕ → ℕ
crc_from checksum bytes = bit_xor (register_after (bit_xor checksum 0xffffffff) bytes) 0xffffffff
