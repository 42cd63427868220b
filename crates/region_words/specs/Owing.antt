-- A share whose opener is to make the events of a row.
use Rattle.std.specs.Prelude.{◌≡◌, ℕ, ◌%◌, ◌^◌, ◌<◌, ◌≤◌, false, List, [], ◌∷◌, Some, length, ⊤}
use Rattle.kv_pairs.specs.Growth.{largest}
use Rattle.lock_rules.specs.declared.table.LockKind.TheVariants.{Exclusive}
use Rattle.lock_rules.specs.declared.limits.TheConstants.{MOST_OPENERS}
use Rattle.region_words.specs.Region.{Region, IsAccepted, file_size}
use Rattle.region_words.specs.Past.{region_after, region_step}
use Rattle.region_words.specs.Rows.{Row}
use Rattle.region_words.specs.Apart.{Apart}
use Rattle.region_words.specs.Lawful.{Between, Reaches, room_of, IsWordOf, IsVersionStore, IsMarkOf}
use Rattle.region_words.specs.Coming.{IsComing}
use Rattle.region_words.specs.Told.{History, OnTold}
use Rattle.region_words.specs.Share.{ShareState, Agrees}
use Rattle.region_words.specs.declared.event.What.{What}
use Rattle.region_words.specs.declared.event.What.TheVariants.{Store, Grow, Lock, Unlock, Died}
use Rattle.region_words.specs.declared.event.Event.{Event}

-- what the exclusive holder may store in this region, whatever the checksums are
abbrev pub IsStorable : Region → ℕ → What → Type 0
IsStorable r who (Store side word value mark) =
    IsWordOf r side word × (value < 2 ^ 32) × IsVersionStore side word value × IsMarkOf who mark
IsStorable r who (Grow size) = (file_size r < size) × (size ≤ largest) × (size % 4096 ≡ 0)
IsStorable r who _ = ⊥

-- and these events one after another, each of which leaves an accepted region accepted
abbrev pub AreStorable : Region → ℕ → List What → Type 0
AreStorable r who [] = Unit {0}
AreStorable r who (what ∷ rest) =
    IsStorable r who what × (IsAccepted r → IsAccepted (region_step r what)) × AreStorable (region_step r what) who rest

-- these events of the row are to come, and after the last of them no row is under way
abbrev pub Comes : Region → List Event → ℕ → Row → List What → Type 0
Comes start past who row [] = Reaches start past (Between (room_of row))
Comes start past who row (what ∷ rest) = IsComing start past who row (what ∷ rest)

pub record Owes (row : Row) (events : List What) (s : ShareState) (h : History) : Type 0 where
  pub agrees : Agrees s h
  pub storable : AreStorable (region_after h.start h.past) s.who events
  pub coming : Apart h.start h.past → Comes h.start h.past s.who row events

-- it grows the file, if at all, to no more than this size
abbrev pub IsWithin : ℕ → What → Type 0
IsWithin room (Store side word value mark) = ⊤
IsWithin room (Grow size) = size ≤ room
IsWithin room (Lock kind) = ⊤
IsWithin room Unlock = ⊤
IsWithin room (Died torn) = ⊤

-- and so does each of these events
abbrev pub AreWithin : ℕ → List What → Type 0
AreWithin room [] = ⊤
AreWithin room (what ∷ rest) = IsWithin room what × AreWithin room rest

-- it holds exclusive, has places and room for these events, and they may be made one after another
pub record IsOwing (row : Row) (events : List What) (s : ShareState) : Type 0 where
  pub alive : s.ended ≡ false
  pub holds : s.holds ≡ Some Exclusive
  pub maker : (1 ≤ s.who) × (s.who ≤ MOST_OPENERS)
  pub places : length events ≤ s.reserved s.who
  pub room : AreWithin (s.room s.who) events
  pub told : OnTold s.told (Owes row events s)
