-- A past lists the events so far, the latest first.
use Rattle.std.specs.Prelude.{◌≡◌, ◌≢◌, ℕ, Bool, true, false, List, [], ◌∷◌, ◌++◌, Some, None, ◌||◌, ◌&&◌, ◌==◌}
use Rattle.std.specs.List.{AllByRecursion}
use Rattle.lock_rules.specs.Locks.{Locks, unlocked, with_lock, without_holder}
use Rattle.meta_record.specs.Words.{with_word, grown_to}
use Rattle.region_words.specs.Region.{Region}
use Rattle.change_log.specs.declared.change.Change.{Change}
use Rattle.region_words.specs.declared.event.Side.TheVariants.{Data, Meta}
use Rattle.region_words.specs.declared.event.Mark.{Mark}
use Rattle.region_words.specs.declared.event.Mark.TheVariants.{Plain, Commit}
use Rattle.region_words.specs.declared.event.What.{What}
use Rattle.region_words.specs.declared.event.What.TheVariants.{Store, Grow, Lock, Unlock, Died}
use Rattle.region_words.specs.declared.event.Event.{Event}

abbrev pub with_data_word : Region → ℕ → ℕ → Region
with_data_word r word value = record r { data_bytes = with_word r.data_bytes word value }

-- the region after an event
abbrev pub region_step : Region → What → Region
region_step r (Store Data word value mark) = with_data_word r word value
region_step r (Store Meta word value mark) = record r { meta_bytes = with_word r.meta_bytes word value }
region_step r (Grow size) = record r { data_bytes = grown_to r.data_bytes size }
region_step r (Died (Some torn)) = with_data_word r torn.word torn.value
region_step r (Died None) = r
region_step r (Lock kind) = r
region_step r Unlock = r

-- the region after these events
abbrev pub region_after : Region → List Event → Region
region_after start [] = start
region_after start (e ∷ past) = region_step (region_after start past) e.what

-- the region after these events, the first of them first
abbrev pub after_all : Region → List What → Region
after_all r [] = r
after_all r (what ∷ rest) = after_all (region_step r what) rest

abbrev pub committed : Mark → List Change
committed Plain = []
committed (Commit change) = change ∷ []

-- the change that an event commits, if any
abbrev pub change_of : What → List Change
change_of (Store side word value mark) = committed mark
change_of (Grow size) = []
change_of (Lock kind) = []
change_of Unlock = []
change_of (Died torn) = []

-- the changes of these events, the first of them first
abbrev pub changes_of : List Event → List Change
changes_of [] = []
changes_of (e ∷ past) = changes_of past ++ change_of e.what

-- the locks after an event of this opener
abbrev pub locks_step : Locks → ℕ → What → Locks
locks_step locks who (Store side word value mark) = locks
locks_step locks who (Grow size) = locks
locks_step locks who (Lock kind) = with_lock locks who kind
locks_step locks who Unlock = without_holder locks who
locks_step locks who (Died torn) = without_holder locks who

-- who holds the lock after these events
abbrev pub locks_after : List Event → Locks
locks_after [] = unlocked
locks_after (e ∷ past) = locks_step (locks_after past) e.who e.what

abbrev pub is_death : What → Bool
is_death (Died torn) = true
is_death _ = false

-- this opener has died
abbrev pub has_died : List Event → ℕ → Bool
has_died [] who = false
has_died (e ∷ past) who = ((e.who == who) && is_death e.what) || has_died past who

-- none of these events is of this opener
abbrev pub NoneOf : ℕ → List Event → Type 0
NoneOf who later = AllByRecursion (λ e. e.who ≢ who) later

-- none of these events is a death
abbrev pub NoneDies : List Event → Type 0
NoneDies past = AllByRecursion (λ e. is_death e.what ≡ false) past

-- all of them are of this opener, and none is its death
abbrev pub AreSteps : ℕ → List Event → Type 0
AreSteps who made = AllByRecursion (λ e. (e.who ≡ who) × (is_death e.what ≡ false)) made
