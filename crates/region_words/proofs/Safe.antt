-- Events to come, at each of which a death leaves what it may leave.
use Rattle.std.proofs.Common.{◌≡◌, ◌⊎◌, ℕ, zero, suc, ◌+◌, ◌*◌, ◌<◌, ◌≤◌, Bool, true, false, List, [], ◌∷◌}
use Rattle.std.specs.Prelude.{Option, Some, Contains, not, ◌==◌, ◌&&◌}
use Rattle.std.specs.Option.{option_map_or}
use Rattle.crc_words.specs.Crc.{crc}
use Rattle.expiring_map.specs.Map.{Map}
use Rattle.change_log.specs.Acts.{replay}
use Rattle.meta_record.specs.Words.{word_at}
use Rattle.region_words.specs.Past.{change_of}
use Rattle.region_words.specs.Apart.{ending_in}
use Rattle.region_words.specs.Rows.{Row}
use Rattle.region_words.proofs.Bytes.{IsMixOf}
use Rattle.region_words.specs.Outcome.{IsRewriting, commits}
use Rattle.region_words.specs.Lawful.{Phase}
use Rattle.region_words.specs.Lawful as lawful
use Rattle.region_words.specs.declared.event.Side.TheVariants.{Data, Meta}
use Rattle.region_words.specs.declared.event.Mark.TheVariants.{Plain, Commit}
use Rattle.region_words.specs.declared.event.What.{What}
use Rattle.region_words.specs.declared.event.What.TheVariants.{Store, Grow, Lock, Unlock, Died}
use Rattle.meta_record.specs.declared.shown.Shown.TheVariants.{Whole}
use Rattle.region_words.proofs.View.{seen, View, has, image, Shows}
use Rattle.region_words.proofs.Kept.{IsApart, Holds, Fit, Kept, Within}
use Rattle.region_words.proofs.Changes.{after, data_set}

-- the data word that was stored last, after an event
abbrev pub word_of : What → Option ℕ → Option ℕ
word_of (Store Data word value mark) w = Some word
word_of (Store Meta word value mark) w = w
word_of (Grow size) w = w
word_of (Lock kind) w = w
word_of Unlock w = w
word_of (Died torn) w = w

-- what a checksum without a mark is meant for is among the strings
abbrev pub Means : List (List ℕ) → Option ℕ → View → What → Type 0
Means S w v (Store Meta zero x Plain) =
    (n : ℕ) → Contains (option_map_or ending_in w []) n → has v n ≡ true → crc (image v n) ≡ x → Contains S (image v n)
Means S w v (Store Meta word x mark) = Unit {0}
Means S w v (Store Data word x mark) = Unit {0}
Means S w v (Grow size) = Unit {0}
Means S w v (Lock kind) = Unit {0}
Means S w v Unlock = Unit {0}
Means S w v (Died torn) = Unit {0}

abbrev pub Inside : View → What → Type 0
Inside v (Store Data word x mark) = 4 * word + 4 ≤ v.file
Inside v (Store Meta word x mark) = Unit {0}
Inside v (Grow size) = v.file < size
Inside v (Lock kind) = Unit {0}
Inside v Unlock = Unit {0}
Inside v (Died torn) = Unit {0}

-- what is known of the view and the strings after an event
pub record Step (S T : List (List ℕ)) (w : Option ℕ) (v : View) (what : What) : Type 0 where
  pub wide : Within S T
  pub holds : Holds T (after v what)
  pub means : Means T w (after v what) what
  pub inside : Inside v what
  pub fit : Fit (after v what)
  pub apart : IsApart T

-- what a death leaves when these events of a row are to come; b says that the region may be broken already
abbrev pub Left : Row → List What → Bool → List (List ℕ) → View → Map → Type 0
Left row rest b S v m = Kept S v m × (Shows v m ⊎ ((b ≡ true) ⊎ IsRewriting (lawful.Within row rest)))

-- one of these payloads has this checksum
abbrev pub Named : Bool → List (List ℕ) → ℕ → Type 0
Named true S x = (s : List ℕ) × Contains S s × (crc s ≡ x)
Named false S x = Unit {0}

-- the same for a word that is torn; and a last confirmed checksum that comes next is one of a known payload
abbrev pub Torn : Row → List What → Bool → List (List ℕ) → View → Map → What → Type 0
Torn row rest b S v m (Store Data (suc word) new Plain) =
    (x : ℕ) → IsMixOf (word_at v.body word) new x → 4 * (suc word) + 4 ≤ v.file →
    (T : List (List ℕ)) → Within S T → Holds T (data_set v (suc word) x) → IsApart T → Left row rest b T (data_set v (suc word) x) m
Torn row rest b S v m (Store Data zero new mark) = Unit {0}
Torn row rest b S v m (Store Data (suc word) new (Commit change)) = Unit {0}
Torn row rest b S v m (Store Meta word x mark) = Named (word == 9) S x
Torn row rest b S v m (Grow size) = Unit {0}
Torn row rest b S v m (Lock kind) = Unit {0}
Torn row rest b S v m Unlock = Unit {0}
Torn row rest b S v m (Died torn) = Unit {0}

-- the map after an event
abbrev pub map_next : Map → What → Map
map_next m what = replay m (change_of what)

unfoldable pub Safe : Row → List What → Bool → List (List ℕ) → Option ℕ → View → Map → Type 0
Safe row [] b S w v m = Kept S v m × (Shows v m ⊎ (b ≡ true)) × (seen v ≡ Whole v.size)
Safe row (what ∷ rest) b S w v m =
    Left row (what ∷ rest) b S v m × Torn row (what ∷ rest) b S v m what
    × ((T : List (List ℕ)) → Step S T w v what → Safe row rest (b && not (commits what)) T (word_of what w) (after v what) (map_next m what))
