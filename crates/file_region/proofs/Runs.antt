-- What a store more does to the stores that are gathered.
use Rattle.std.proofs.Common.{◌≡◌, ℕ, ◌+◌, List, [], ◌∷◌, ◌++◌, length, refl, ap, ◌∙◌, arith}
use Rattle.file_region.specs.Pages.{placed}

-- the right neighbour comes last
pub placed-append : (first : ℕ) (words : List ℕ) (value : ℕ) → placed first (words ++ value ∷ []) ≡ placed first words ++ (first + length words, value) ∷ []
placed-append first [] value = ap (λ n. (n, value) ∷ []) (omega arith)
placed-append first (word ∷ words) value =
    ap (λ rest. (first, word) ∷ rest) (placed-append (first + 1) words value ∙ ap (λ n. placed (first + 1) words ++ (n, value) ∷ []) (omega arith))

-- where no store is gathered there is no word
pub placed-none : (first : ℕ) (words : List ℕ) → placed first words ≡ [] → words ≡ []
placed-none first [] none = refl
placed-none first (word ∷ words) none = grind (arith, none)
