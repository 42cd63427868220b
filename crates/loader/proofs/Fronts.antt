-- The payload bytes that are loaded, word after word.
use Rattle.std.proofs.Common.{◌≡◌, ℕ, ◌+◌, ◌*◌, ◌/◌, ◌%◌, ◌<◌, ◌≤◌, List, [], ◌∷◌, ◌++◌, length, take, drop, sym, ap, ◌∙◌, arith, length-take, length-drop, length-append}
use Rattle.std.specs.Prelude.{slice_index, All}
use Rattle.std.specs.Int.{to_le_bytes, w32}
use Rattle.std.proofs.lemmas.List.{drop-drop, take-take, get_or-drop}
use Rattle.std.proofs.Math.Seq.{take-add}
use Rattle.meta_record.specs.Words.{word_at}
use Rattle.region_words.specs.Region.{Region, file_size, payload_of}
use Rattle.region_words.proofs.Bytes.{word_bytes}
use Rattle.loader.specs.Candidates.{IsFront}

-- no more than there is was loaded
pub front_within : (bytes : List ℕ) (r : Region) → IsFront bytes r → 4 ≤ file_size r → 4 + length bytes ≤ file_size r
front_within bytes r f some = omega (arith, ap length f.same, length-take (length bytes) (drop 4 r.data_bytes), length-drop 4 r.data_bytes, some)

-- the payload of a size is the front of what was loaded
pub front-payload : (bytes : List ℕ) (r : Region) (n : ℕ) → IsFront bytes r → n ≤ length bytes → take n bytes ≡ payload_of r n
front-payload bytes r n f le = ap (take n) f.same ∙ take-take n (length bytes) (drop 4 r.data_bytes) le

four_bytes : (ys : List ℕ) → ((i : ℕ) → i < 4 → slice_index ys i < 256) → 4 ≤ length ys →
    take 4 ys ≡ to_le_bytes w32 (slice_index ys 0 + 256 * slice_index ys 1 + 65536 * slice_index ys 2 + 16777216 * slice_index ys 3)
four_bytes [] small le = absurd (omega (arith, le))
four_bytes (a ∷ []) small le = absurd (omega (arith, le))
four_bytes (a ∷ b ∷ []) small le = absurd (omega (arith, le))
four_bytes (a ∷ b ∷ c ∷ []) small le = absurd (omega (arith, le))
four_bytes (a ∷ b ∷ c ∷ d ∷ ys) small le =
    sym (word_bytes a b c d (small 0 (omega arith)) (small 1 (omega arith)) (small 2 (omega arith)) (small 3 (omega arith)))

-- the bytes of a word are those that stand there
pub word-bytes-at : (xs : List ℕ) (w : ℕ) → All (λ b. b < 256) xs → 4 * w + 4 ≤ length xs → take 4 (drop (4 * w) xs) ≡ to_le_bytes w32 (word_at xs w)
word-bytes-at xs w small le =
    let at = λ (i : ℕ). get_or-drop (4 * w) xs i 0 in
    let below : (i : ℕ) → i < 4 → slice_index (drop (4 * w) xs) i < 256 = λ i lt. omega (arith, at i, small (4 * w + i) 0 (omega (arith, lt, le))) in
    four_bytes (drop (4 * w) xs) below (omega (arith, length-drop (4 * w) xs, le))
    ∙ ap (to_le_bytes w32) (omega (arith, at 0, at 1, at 2, at 3, ap (slice_index xs) {x = 4 * w + 0} {y = 4 * w} (omega arith)))

-- with the next word it is the front of the payload still
pub front_more : (bytes : List ℕ) (r : Region) (value : ℕ) → All (λ b. b < 256) r.data_bytes → length bytes % 4 ≡ 0 → 8 + length bytes ≤ file_size r →
    IsFront bytes r → value ≡ word_at r.data_bytes (1 + length bytes / 4) → IsFront (bytes ++ to_le_bytes w32 value) r
front_more bytes r value small words fits f is =
    let n = length bytes in
    let w = 1 + n / 4 in
    let long : length (bytes ++ to_le_bytes w32 value) ≡ n + 4 = length-append bytes (to_le_bytes w32 value) in
    let place : 4 + n ≡ 4 * w = omega (arith, words) in
    let next : take 4 (drop n (drop 4 r.data_bytes)) ≡ to_le_bytes w32 value =
    ap (take 4) (drop-drop n 4 r.data_bytes ∙ ap (λ k. drop k r.data_bytes) (omega (arith, place)))
    ∙ word-bytes-at r.data_bytes w small (omega (arith, place, fits)) ∙ sym (ap (to_le_bytes w32) is) in
    let both : take (n + 4) (drop 4 r.data_bytes) ≡ bytes ++ to_le_bytes w32 value =
    take-add n 4 (drop 4 r.data_bytes) ∙ (λ k. (sym f.same) k ++ next k) in
    record { same = sym (ap (λ k. take k (drop 4 r.data_bytes)) long ∙ both) }
