-- The bytes of words, and a checksum over a range that grows by one byte.
use Rattle.std.proofs.Common.{◌≡◌, ℕ, zero, suc, ◌+◌, ◌*◌, ◌-◌, ◌/◌, ◌%◌, ◌<◌, ◌≤◌, List, [], ◌∷◌, ◌++◌, length, take, drop, get_or, refl, ap, ◌∙◌, sym, arith, length-append, get_or-drop, length-drop}
use Rattle.std.specs.Prelude.{slice_index}
use Rattle.std.specs.Int.{to_le_bytes, w32}
use Rattle.std.proofs.lemmas.List.{get_or_append_left, get_or-append_right, take_more}
use Rattle.crc_words.specs.Crc.{register_after, after_byte}
use Rattle.crc_words.specs.WordBytes.{bytes_of_words}
use Rattle.crc_words.proofs.Bounds.{taken_on}

pub length-bytes_of_words : (words : List ℕ) → length (bytes_of_words words) ≡ 4 * length words
length-bytes_of_words [] = refl
length-bytes_of_words (w ∷ ws) = omega (arith, length-append (to_le_bytes w32 w) (bytes_of_words ws), length-bytes_of_words ws)

-- byte r of word q
in_word : (words : List ℕ) (q r : ℕ) → r < 4 → q < length words → slice_index (bytes_of_words words) (4 * q + r) ≡ slice_index (to_le_bytes w32 (slice_index words q)) r
in_word [] q r h k = absurd (omega (arith, k))
in_word (w ∷ ws) zero r h k =
    ap (λ i. slice_index (to_le_bytes w32 w ++ bytes_of_words ws) i) (omega arith) ∙ get_or_append_left (to_le_bytes w32 w) (bytes_of_words ws) 0 r (omega (arith, h))
in_word (w ∷ ws) (suc q) r h k =
    get_or-append_right (to_le_bytes w32 w) (bytes_of_words ws) 4 (4 * suc q + r) 0 refl (omega arith)
    ∙ ap (λ i. slice_index (bytes_of_words ws) i) (omega arith)
    ∙ in_word ws q r h (omega (arith, k))

pub byte_in_words : (words : List ℕ) (at : ℕ) → at < 4 * length words → slice_index (to_le_bytes w32 (slice_index words (at / 4))) (at % 4) ≡ slice_index (bytes_of_words words) at
byte_in_words words at h =
    sym (in_word words (at / 4) (at % 4) (omega arith) (omega (arith, h))) ∙ ap (λ i. slice_index (bytes_of_words words) i) (omega arith)

-- the register after one more byte of a range
pub one_more : (register : ℕ) (bytes : List ℕ) (first count : ℕ) → first + count < length bytes → register_after register (take (count + 1) (drop first bytes)) ≡ after_byte (register_after register (take count (drop first bytes))) (slice_index bytes (first + count))
one_more register bytes first count h =
    let whole = take_more (drop first bytes) count 0 (omega (arith, length-drop first bytes, h)) in
    ap (register_after register) whole
    ∙ taken_on register (take count (drop first bytes)) (get_or (drop first bytes) count 0 ∷ [])
    ∙ ap (λ b. after_byte (register_after register (take count (drop first bytes))) b) (get_or-drop first bytes count 0)

-- a walk over the range that has come to byte at
pub walks_on : (start : ℕ) (bytes : List ℕ) (first at byte register next : ℕ) → first ≤ at → at < length bytes → byte ≡ slice_index bytes at → register ≡ register_after start (take (at - first) (drop first bytes)) → next ≡ after_byte register byte → next ≡ register_after start (take (at + 1 - first) (drop first bytes))
walks_on start bytes first at byte register next low inside is here stepped =
    let more = one_more start bytes first (at - first) (omega (arith, low, inside)) in
    let place : slice_index bytes (first + (at - first)) ≡ byte = ap (λ i. slice_index bytes i) (omega (arith, low)) ∙ sym is in
    let grown : at + 1 - first ≡ at - first + 1 = omega (arith, low) in
    stepped ∙ ap (λ r. after_byte r byte) here ∙ ap (λ b. after_byte (register_after start (take (at - first) (drop first bytes))) b) (sym place) ∙ sym more ∙ ap (λ k. register_after start (take k (drop first bytes))) (sym grown)
