-- The stores of words within the events of a row.
use Rattle.std.proofs.Common.{◌≡◌, ℕ, ◌+◌, List, [], ◌∷◌, ◌++◌, refl}
use Rattle.region_words.specs.Rows.{stores_from}
use Rattle.region_words.specs.Owing.{AreWithin}
use Rattle.region_words.specs.declared.event.What.{What}
use Rattle.opener.specs.Writes.{commits_of}

pub not_nil : (xs : List What) (y : What) (ys : List What) → xs ++ y ∷ ys ≡ [] → ⊥
not_nil [] y ys e = absurd cc
not_nil (x ∷ xs) y ys e = absurd cc

-- words grow no file and commit nothing
pub within_words : (room place : ℕ) (words : List ℕ) (rest : List What) → AreWithin room rest → AreWithin room (stores_from place words ++ rest)
within_words room place [] rest h = h
within_words room place (word ∷ words) rest h = (tt, within_words room (place + 1) words rest h)

pub words_commit : (place : ℕ) (words : List ℕ) (rest : List What) → commits_of (stores_from place words ++ rest) ≡ commits_of rest
words_commit place [] rest = refl
words_commit place (word ∷ words) rest = words_commit (place + 1) words rest
