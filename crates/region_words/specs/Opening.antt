-- The files of a region in memory, as bytes.
use Rattle.std.specs.Prelude.{◌≡◌, ℕ, ◌+◌, ◌*◌, ◌<◌, ◌≤◌, ⊤, List, length, Option, Some, None, nat_lt, if◌then◌else◌}
use Rattle.region_words.specs.declared.region.RegionStop.{RegionStop}
use Rattle.region_words.specs.declared.region.RegionStop.TheVariants.{SizeRefused, Memory}
use Rattle.region_words.specs.declared.event.Side.TheVariants.{Data, Meta}
use Rattle.region_words.specs.declared.event.What.{What}
use Rattle.region_words.specs.declared.event.What.TheVariants.{Store, Grow, Lock, Unlock, Died}
use Rattle.region_words.specs.declared.shelf.TheConstants.{LARGEST_DATA, LARGEST_META}

-- the length for which files are refused: the data file's where it is over its limit, else the meta file's
abbrev pub size_over : List ℕ → List ℕ → Option ℕ
size_over body meta =
    if nat_lt LARGEST_DATA (length body) then Some (length body)
    else (if nat_lt LARGEST_META (length meta) then Some (length meta) else None)

-- why no region is made of these files
abbrev pub Refuses : List ℕ → List ℕ → RegionStop → Type 0
Refuses body meta (SizeRefused n) = size_over body meta ≡ Some n
Refuses body meta Memory = size_over body meta ≡ None

-- the words that an event changes lie in the files
abbrev pub LiesIn : List ℕ → List ℕ → What → Type 0
LiesIn body meta (Store Data word value mark) = 4 * word + 4 ≤ length body
LiesIn body meta (Store Meta word value mark) = 4 * word + 4 ≤ length meta
LiesIn body meta (Grow size) = length body < size
LiesIn body meta (Died (Some torn)) = 4 * torn.word + 4 ≤ length body
LiesIn body meta (Died None) = ⊤
LiesIn body meta (Lock kind) = ⊤
LiesIn body meta Unlock = ⊤

-- there is room for what an event adds
abbrev pub HasBytes : ℕ → What → Type 0
HasBytes room (Store side word value mark) = ⊤
HasBytes room (Grow size) = size ≤ room
HasBytes room (Lock kind) = ⊤
HasBytes room Unlock = ⊤
HasBytes room (Died torn) = ⊤

-- the event takes no lock
abbrev pub IsNoLock : What → Type 0
IsNoLock (Store side word value mark) = ⊤
IsNoLock (Grow size) = ⊤
IsNoLock (Lock kind) = ⊥
IsNoLock Unlock = ⊤
IsNoLock (Died torn) = ⊤
