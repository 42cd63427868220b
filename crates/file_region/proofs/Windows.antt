-- What a store does to the words that a window shows.
use Rattle.std.proofs.Common.{◌≡◌, ◌≢◌, ℕ, ◌+◌, ◌*◌, ◌-◌, ◌≤◌, List, length, refl, ap, ◌∙◌, arith}
use Rattle.std.specs.Prelude.{Bool, true, false, Some, None, min, nat_le, ◌&&◌, if◌then◌else◌}
use Rattle.std.proofs.lemmas.Bool.Decides.{nat_tests}
use Rattle.meta_record.specs.Words.{word_at, with_word}
use Rattle.meta_record.proofs.WordLemmas.{length-with_word, other_word}
use Rattle.file_region.specs.Pages.{word_in, shows_in}

-- a word that is shown lies behind the first one, and within the bytes
begins : (first filled : ℕ) (bytes : List ℕ) (word : ℕ) → shows_in first filled bytes word ≡ true → first ≤ word
begins first filled bytes word shown = grind (arith, nat_tests, shown)

pub lies_inside : (first filled : ℕ) (bytes : List ℕ) (word : ℕ) → shows_in first filled bytes word ≡ true → 4 * (word - first) + 4 ≤ length bytes
lies_inside first filled bytes word shown = grind (arith, nat_tests, shown)

-- two answers of one test agree where they agree when it holds
agree : (b : Bool) (x y : ℕ) → (b ≡ true → x ≡ y) → (if b then Some x else None) ≡ (if b then Some y else None)
agree true x y same = ap Some (same refl)
agree false x y same = refl

-- the other words stand
pub other_words :
    (bytes : List ℕ) (first filled word value other : ℕ)
    → shows_in first filled bytes word ≡ true
    → other ≢ word
    → word_in first filled (with_word bytes (word - first) value) other ≡ word_in first filled bytes other
other_words bytes first filled word value other shown apart =
    let stored = with_word bytes (word - first) value in
    let inside = lies_inside first filled bytes word shown in
    let same_test = ap (λ n. nat_le first other && nat_le (4 * (other - first) + 4) (min filled n)) (length-with_word bytes (word - first) value inside) in
    ap (λ b. if b then Some (word_at stored (other - first)) else None) same_test
    ∙ agree (shows_in first filled bytes other) (word_at stored (other - first)) (word_at bytes (other - first))
    (λ seen.
    other_word bytes (word - first) value inside (other - first)
    (λ same. apart (omega (arith, same, begins first filled bytes other seen, begins first filled bytes word shown))))
