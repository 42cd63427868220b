-- A checksum is a number of 32 bits, and it goes on from that of a front.
use Rattle.std.proofs.Common.{◌≡◌, ℕ, ◌/◌, ◌%◌, ◌^◌, ◌<◌, Bool, true, false, cond, List, [], ◌∷◌, ◌++◌, refl, arith}
use Rattle.std.specs.Prelude.{bit_xor, ◌==◌, fold}
use Rattle.std.proofs.lemmas.Nat.{widths}
use Rattle.crc_words.specs.Crc.{crc, register_after, after_byte, after_bit, bits_of}
use Rattle.crc_words.specs.declared.checksum.TheConstants.{POLYNOMIAL}

xor_below : (x y : ℕ) → x < 2 ^ 32 → y < 2 ^ 32 → bit_xor x y < 2 ^ 32
xor_below x y p q = search (widths, p, q)

one_bit : (register bit : ℕ) → register < 2 ^ 32 → after_bit register bit < 2 ^ 32
one_bit register bit h = go (register % 2 == bit)
  where
    go : (b : Bool) → cond b (register / 2) (bit_xor (register / 2) POLYNOMIAL) < 2 ^ 32
    go true = omega (arith, h)
    go false = xor_below (register / 2) POLYNOMIAL (omega (arith, h)) (omega arith)

bits_taken : (register : ℕ) (bits : List ℕ) → register < 2 ^ 32 → fold after_bit register bits < 2 ^ 32
bits_taken register [] h = h
bits_taken register (b ∷ bits) h = bits_taken (after_bit register b) bits (one_bit register b h)

bytes_taken : (register : ℕ) (bytes : List ℕ) → register < 2 ^ 32 → register_after register bytes < 2 ^ 32
bytes_taken register [] h = h
bytes_taken register (b ∷ bytes) h = bytes_taken (after_byte register b) bytes (bits_taken register (bits_of b) h)

pub crc_below : (bytes : List ℕ) → crc bytes < 2 ^ 32
unfolding crc
crc_below bytes = xor_below (register_after 0xffffffff bytes) 0xffffffff (bytes_taken 0xffffffff bytes (omega arith)) (omega arith)

pub taken_on : (register : ℕ) (a b : List ℕ) → register_after register (a ++ b) ≡ register_after (register_after register a) b
taken_on register [] b = refl
taken_on register (x ∷ a) b = taken_on (after_byte register x) a b
