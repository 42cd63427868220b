-- What is kept of a file's words.
use Rattle.std.specs.Prelude.{◌≡◌, ℕ, zero, suc, ◌+◌, ◌++◌, ◌⊎◌, ◌*◌, ◌-◌, min, Bool, List, [], ◌∷◌, length, nat_le, ◌&&◌, Option, Some, None, if◌then◌else◌}
use Rattle.meta_record.specs.Words.{word_at}
use Rattle.region_words.specs.declared.event.Side.{Side}
use Rattle.region_words.specs.declared.event.Side.TheVariants.{Data, Meta}
use Rattle.file_region.specs.declared.window.Window.{Window}

-- the first so many of these bytes, which begin at word `first` of their file, have this word
abbrev pub shows_in : ℕ → ℕ → List ℕ → ℕ → Bool
shows_in first filled bytes word = nat_le first word && nat_le (4 * (word - first) + 4) (min filled (length bytes))

-- that word, where they have it
abbrev pub word_in : ℕ → ℕ → List ℕ → ℕ → Option ℕ
word_in first filled bytes word = if shows_in first filled bytes word then Some (word_at bytes (word - first)) else None

-- the word that a window shows
abbrev pub word_seen : Window → ℕ → Option ℕ
word_seen w word = word_in w.first w.filled w.bytes.items word

-- the word that the windows of both files show
abbrev pub seen : Side → Window → Window → ℕ → Option ℕ
seen Data data_pages meta_page word = word_seen data_pages word
seen Meta data_pages meta_page word = word_seen meta_page word

-- words at consecutive places of a file, and the place of the first
pub record Run : Type 0 where
  pub first : ℕ
  pub words : List ℕ

-- the words with their places, which begin here
abbrev pub placed : ℕ → List ℕ → List (ℕ × ℕ)
placed first [] = []
placed first (word ∷ words) = (first, word) ∷ placed (first + 1) words

-- the stores of a run, in their order: each a place and the word that is stored there
abbrev pub stores_of : Run → List (ℕ × ℕ)
stores_of run = placed run.first run.words

-- A payload word that is stored joins those that are gathered, or comes first where these were written. Before any other store all
-- of them were written.
abbrev pub Gathers : Side → ℕ → ℕ → Run → Run → Type 0
Gathers Meta word value old new = stores_of new ≡ []
Gathers Data zero value old new = stores_of new ≡ []
Gathers Data (suc n) value old new =
    (stores_of new ≡ stores_of old ++ (suc n, value) ∷ []) ⊎ (stores_of new ≡ (suc n, value) ∷ [])
