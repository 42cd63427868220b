-- Where events lead that may be stored, whatever the checksums are: the file doesn't shrink, and a version that was written stays one.
use Rattle.std.proofs.Common.{◌≡◌, ◌≢◌, ◌⊎◌, ℕ, ◌+◌, ◌*◌, ◌/◌, ◌%◌, ◌-◌, ◌^◌, ◌<◌, ◌≤◌, Bool, true, false, cond, List, [], ◌∷◌, ◌++◌, length, sym, ◌∙◌, arith, subst, inl, inr, eqb, length-append}
use Rattle.std.specs.Prelude.{nat_lt, max, bit_xor, replicate, fold, ◌==◌}
use Rattle.std.proofs.lemmas.Nat.{widths}
use Rattle.std.proofs.lemmas.List.{length-replicate}
use Rattle.std.proofs.lemmas.Bool.Decides.{eqb_tells, nat_tests}
use Rattle.crc_words.specs.Crc.{crc_from, register_after, after_byte, after_bit, bits_of}
use Rattle.crc_words.specs.declared.checksum.TheConstants.{POLYNOMIAL}
use Rattle.meta_record.specs.Words.{word_at, with_word}
use Rattle.meta_record.proofs.WordLemmas.{length-with_word, other_word, same_word}
use Rattle.region_words.specs.Region.{Region, record_of, file_size}
use Rattle.region_words.specs.Past.{after_all, region_step}
use Rattle.region_words.specs.Rows.{store_meta}
use Rattle.region_words.specs.Lawful.{IsVersionStore}
use Rattle.region_words.specs.Owing.{IsStorable, AreStorable}
use Rattle.region_words.specs.declared.event.Side.TheVariants.{Data, Meta}
use Rattle.region_words.specs.declared.event.What.{What}
use Rattle.region_words.specs.declared.event.What.TheVariants.{Store, Grow, Lock, Unlock, Died}

-- the checksum that goes on from a word is a word
xor_below : (x y : ℕ) → x < 2 ^ 32 → y < 2 ^ 32 → bit_xor x y < 2 ^ 32
xor_below x y p q = search (widths, p, q)

bit_below : (register bit : ℕ) → register < 2 ^ 32 → after_bit register bit < 2 ^ 32
bit_below register bit h = go (register % 2 == bit)
  where
    go : (b : Bool) → cond b (register / 2) (bit_xor (register / 2) POLYNOMIAL) < 2 ^ 32
    go true = omega (arith, h)
    go false = xor_below (register / 2) POLYNOMIAL (omega (arith, h)) (omega arith)

bits_below : (register : ℕ) (bits : List ℕ) → register < 2 ^ 32 → fold after_bit register bits < 2 ^ 32
bits_below register [] h = h
bits_below register (b ∷ bits) h = bits_below (after_bit register b) bits (bit_below register b h)

bytes_below : (register : ℕ) (bytes : List ℕ) → register < 2 ^ 32 → register_after register bytes < 2 ^ 32
bytes_below register [] h = h
bytes_below register (b ∷ bytes) h = bytes_below (after_byte register b) bytes (bits_below register (bits_of b) h)

pub continued_below : (checksum : ℕ) (bytes : List ℕ) → checksum < 2 ^ 32 → crc_from checksum bytes < 2 ^ 32
continued_below checksum bytes h =
    xor_below (register_after (bit_xor checksum 0xffffffff) bytes) 0xffffffff (bytes_below (bit_xor checksum 0xffffffff) bytes (xor_below checksum 0xffffffff h (omega arith))) (omega arith)

-- one event
word_firm : (meta : List ℕ) (word value : ℕ) → 4 * word + 4 ≤ length meta → value < 2 ^ 32 → IsVersionStore Meta word value → word_at (with_word meta word value) 1 ≡ 0 → word_at meta 1 ≡ 0
word_firm meta word value inside small kind e = go (eqb_tells word 1)
  where
    some : (value ≡ 3) ⊎ (value ≡ 4) → value ≢ 0
    some (inl is) z = absurd (omega (arith, is, z))
    some (inr is) z = absurd (omega (arith, is, z))

    go : ((eqb word 1 ≡ true) × (word ≡ 1)) ⊎ ((eqb word 1 ≡ false) × (word ≢ 1)) → word_at meta 1 ≡ 0
    go (inl here) = absurd (some (kind here.1) (sym (same_word meta word value inside small) ∙ subst (λ w. word_at (with_word meta word value) w ≡ 0) (sym here.1) e))
    go (inr other) = sym (other_word meta word value inside 1 (λ is. other.1 (sym is))) ∙ e

step_firm : (r : Region) (who : ℕ) (what : What) → IsStorable r who what → (record_of (region_step r what)).version ≡ 0 → (record_of r).version ≡ 0
step_firm r who (Store Data word value mark) s e = e
step_firm r who (Store Meta word value mark) s e = word_firm r.meta_bytes word value s.0 s.1 s.2 e
step_firm r who (Grow size) s e = e
step_firm r who (Lock kind) s e = absurd s
step_firm r who Unlock s e = absurd s
step_firm r who (Died torn) s e = absurd s

step_grows : (r : Region) (who : ℕ) (what : What) → IsStorable r who what → file_size r ≤ file_size (region_step r what)
step_grows r who (Store Data word value mark) s = omega (arith, length-with_word r.data_bytes word value s.0)
step_grows r who (Store Meta word value mark) s = omega arith
step_grows r who (Grow size) s = omega (arith, length-append r.data_bytes (replicate (size - length r.data_bytes) 0))
step_grows r who (Lock kind) s = absurd s
step_grows r who Unlock s = absurd s
step_grows r who (Died torn) s = absurd s

-- and one after another
pub all_firm : (r : Region) (who : ℕ) (events : List What) → AreStorable r who events → (record_of (after_all r events)).version ≡ 0 → (record_of r).version ≡ 0
all_firm r who [] s e = e
all_firm r who (what ∷ rest) s e = step_firm r who what s.0 (all_firm (region_step r what) who rest s.2 e)

pub all_grows : (r : Region) (who : ℕ) (events : List What) → AreStorable r who events → file_size r ≤ file_size (after_all r events)
all_grows r who [] s = omega arith
all_grows r who (what ∷ rest) s = omega (arith, step_grows r who what s.0, all_grows (region_step r what) who rest s.2)

-- after a growth the file has its size
pub grown_first : (r : Region) (who size : ℕ) (b : Bool) (rest : List What) → nat_lt (file_size r) size ≡ b → AreStorable r who (cond b (Grow size ∷ []) [] ++ rest) →
    max (file_size r) size ≤ file_size (after_all r (cond b (Grow size ∷ []) [] ++ rest))
grown_first r who size true rest e s =
    let less : file_size r < size = grind (arith, nat_tests) in
    omega (arith, less, all_grows (region_step r (Grow size)) who rest s.2, length-append r.data_bytes (replicate (size - length r.data_bytes) 0), length-replicate {A = ℕ} (size - length r.data_bytes) 0)
grown_first r who size false rest e s =
    let more : size ≤ file_size r = grind (arith, nat_tests) in
    omega (arith, more, all_grows r who rest s)

-- after a version is stored there is one
pub versioned_first : (r : Region) (who version : ℕ) (front rest : List What) → 0 < version → AreStorable r who (front ++ store_meta 1 version ∷ rest) →
    (record_of (after_all r (front ++ store_meta 1 version ∷ rest))).version ≢ 0
versioned_first r who version [] rest some s e =
    let before = all_firm (region_step r (store_meta 1 version)) who rest s.2 e in
    let now : word_at (with_word r.meta_bytes 1 version) 1 ≡ version = same_word r.meta_bytes 1 version s.0.0 s.0.1 in
    absurd (omega (arith, before, now, some))
versioned_first r who version (what ∷ front) rest some s e = versioned_first (region_step r what) who version front rest some s.2 e
