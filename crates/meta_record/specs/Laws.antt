-- Laws of the definitions, as their functions in laws.rt ensure them.
use Rattle.std.specs.Prelude.{◌≡◌, ◌≢◌, ℕ, ◌+◌, ◌*◌, ◌^◌, ◌<◌, ◌≤◌, List, length, true}
use Rattle.meta_record.specs.Words.{word_at, with_word}
use Rattle.meta_record.specs.Records.{is_fresh, shown_size}
use Rattle.meta_record.specs.declared.record.Record.{Record}
use Rattle.meta_record.specs.declared.shown.Shown.TheVariants.{Whole}

-- what a store of a word leaves
pub record StoresOne (bytes : List ℕ) (word value : ℕ) : Type 0 where
  pub long : length (with_word bytes word value) ≡ length bytes
  pub same : word_at (with_word bytes word value) word ≡ value
  pub others : (other : ℕ) → other ≢ word → word_at (with_word bytes word value) other ≡ word_at bytes other

-- a word that was stored is read back, and every other word stands
abbrev pub ReadsBack : Type 0
ReadsBack = (bytes : List ℕ) (word value : ℕ) → 4 * word + 4 ≤ length bytes → value < 2 ^ 32 → StoresOne bytes word value

-- a store in which nothing was ever written shows the empty image
abbrev pub FreshIsWhole : Type 0
FreshIsWhole = (rec : Record) (header : ℕ) (body : List ℕ) → is_fresh rec header ≡ true → 4 ≤ length body → shown_size rec header body ≡ Whole 0
