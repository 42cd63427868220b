-- Words that are stored in a file one after another: what is read afterwards.
use Rattle.std.proofs.Common.{◌≡◌, ℕ, ◌+◌, ◌*◌, ◌^◌, ◌<◌, ◌≤◌, List, [], ◌∷◌, length, refl, ap, ◌∙◌, arith}
use Rattle.std.specs.Prelude.{◌==◌, if◌then◌else◌}
use Rattle.meta_record.specs.Words.{word_at, with_word}
use Rattle.meta_record.proofs.WordLemmas.{length-with_word}
use Rattle.region_words.proofs.Changes.{word_set}

-- a word and its value
pub record Setting : Type 0 where
  pub word : ℕ
  pub value : ℕ

abbrev pub set_to : ℕ → ℕ → Setting
set_to w v = record { word = w; value = v }

-- the file after these words are stored, the first of them first
abbrev pub set_all : List ℕ → List Setting → List ℕ
set_all file [] = file
set_all file (s ∷ rest) = set_all (with_word file s.word s.value) rest

-- what then stands in a word that held this value
abbrev pub last_set : ℕ → ℕ → List Setting → ℕ
last_set w value [] = value
last_set w value (s ∷ rest) = last_set w (if s.word == w then s.value else value) rest

-- they are words of a file of so many bytes
abbrev pub AreWords : ℕ → List Setting → Type 0
AreWords size [] = Unit {0}
AreWords size (s ∷ rest) = (4 * s.word + 4 ≤ size) × (s.value < 2 ^ 32) × AreWords size rest

pub length-set_all : (size : ℕ) (file : List ℕ) (stores : List Setting) → length file ≡ size → AreWords size stores → length (set_all file stores) ≡ size
length-set_all size file [] e a = e
length-set_all size file (s ∷ rest) e a =
    length-set_all size (with_word file s.word s.value) rest (length-with_word file s.word s.value (omega (arith, e, a.0)) ∙ e) a.2

-- the last value that was stored in a word is read
pub word-set_all : (size : ℕ) (file : List ℕ) (stores : List Setting) → length file ≡ size → AreWords size stores → (w : ℕ) →
    word_at (set_all file stores) w ≡ last_set w (word_at file w) stores
word-set_all size file [] e a w = refl
word-set_all size file (s ∷ rest) e a w =
    word-set_all size (with_word file s.word s.value) rest (length-with_word file s.word s.value (omega (arith, e, a.0)) ∙ e) a.2 w
    ∙ ap (λ v. last_set w v rest) (word_set file s.word s.value w (omega (arith, e, a.0)) a.1)
