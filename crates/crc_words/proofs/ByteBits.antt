-- The bits of a byte, taken off one after another.
use Rattle.std.proofs.Common.{◌≡◌, ℕ, zero, suc, ◌/◌, ◌%◌, List, [], ◌∷◌, refl, ap}
use Rattle.std.specs.Prelude.{fold}
use Rattle.std.proofs.Math.Nat.{div-div-eq-div-mul}
use Rattle.crc_words.specs.Crc.{after_bit, after_byte, bits_of}

-- the lowest bits of a number, so many
abbrev pub lowest_bits : ℕ → ℕ → List ℕ
lowest_bits zero n = []
lowest_bits (suc k) n = n % 2 ∷ lowest_bits k (n / 2)

pub whole_byte : (b : ℕ) → lowest_bits 8 b ≡ bits_of b
whole_byte b = simp div-div-eq-div-mul

pub begun : (register b : ℕ) → fold after_bit register (lowest_bits 8 b) ≡ after_byte register b
begun register b = ap (λ bits. fold after_bit register bits) (whole_byte b)

-- one bit is taken
pub one_less : (register next n left less : ℕ) → left ≡ suc less → next ≡ after_bit register (n % 2) → fold after_bit next (lowest_bits less (n / 2)) ≡ fold after_bit register (lowest_bits left n)
one_less register next n left less e f = rw (e, f) refl
