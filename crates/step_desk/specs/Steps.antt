-- What each kind of step does to a pass.
use Rattle.std.specs.Prelude.{◌≡◌, ◌≢◌, ◌⊎◌, ℕ, ◌<◌, ◌≤◌, ◌^◌, max, leb, if◌then◌else◌, true, false, List, [], ◌∷◌, ◌++◌, length, Option, Some, None}
use Rattle.atomic_table.specs.Table.{Me, Step}
use Rattle.lock_rules.specs.declared.limits.TheConstants.{MOST_OPENERS}
use Rattle.region_words.specs.Region.{Region}
use Rattle.region_words.specs.Past.{NoneOf}
use Rattle.region_words.specs.Lawful.{Lawful}
use Rattle.region_words.specs.Outside.{one_more}
use Rattle.region_words.specs.Share.{made_by}
use Rattle.region_words.specs.Local.{Local, reserved_in}
use Rattle.region_words.specs.declared.event.What.{What}
use Rattle.region_words.specs.declared.event.Event.{Event}
use Rattle.step_desk.specs.declared.view.Stage.{Stage}
use Rattle.step_desk.specs.declared.view.Stage.TheVariants.{Idle, Holding, Counted}
use Rattle.step_desk.specs.declared.view.View.{View}
use Rattle.step_desk.specs.Mirrors.{Words, checksum_after, sequence_after, changes_made, mirror}
use Rattle.step_desk.specs.Numbers.{Among, without, numbers}
use Rattle.step_desk.specs.Rule.{room_in, Continues}

-- a pass with the slots that it has taken
abbrev pub M : Type 0
M = Me (Option Local) View

-- the pass at this stage of its turn, having seen this region
abbrev pub seeing : View → Stage → Local → View
seeing v stage x =
    record v { stage = stage; seen = x.past; held = x; told = []; told_of = []; places = reserved_in x v.who; room = room_in x v.who }

-- the pass, having seen this journal and nothing of the region
abbrev pub having_seen : View → List Event → View
having_seen v seen = record v { seen = seen; told = []; told_of = [] }

-- the pass with no turn
abbrev pub idle : View → View
idle v = record v { stage = Idle; told = []; told_of = [] }

-- a pass between two calls
pub record IsReady (who : ℕ) (me : M) : Type 0 where
  pub live : me.0.live ≡ true
  pub stage : me.0.stage ≡ Idle
  pub is : me.0.who ≡ who
  pub maker : (1 ≤ who) × (who ≤ MOST_OPENERS)
  pub slots : me.1 ≡ []

-- The turn was free, and the pass has taken it with this region, which is where the pass left it but for events of others.
-- The slot, which it has taken too, holds this.
pub record Took (me : M) (x : Local) (slot : Option Local) (new : M) : Type 0 where
  pub view : new ≡ (seeing me.0 Holding x, (0, slot) ∷ [])
  pub continues : Continues me.0.about x
  pub later : List Event
  pub past : x.past ≡ later ++ me.0.seen
  pub others : NoneOf me.0.who later
  pub places : reserved_in x me.0.who ≡ me.0.places
  pub room : room_in x me.0.who ≡ me.0.room

-- the pass, after one more try that was refused the turn
abbrev pub turned_away : View → View
turned_away v = record v { turns = one_more v.turns }

abbrev pub takes_turn : Step (Option Local) → M → ℕ → M → Type 0
takes_turn s me found new = (found ≡ 0 → (x : Local) × Took me x (Some x) new) × (found ≢ 0 → new ≡ (turned_away me.0, me.1))

-- the places and the rooms of the other openers stand
abbrev pub OthersStand : ℕ → Local → Local → Type 0
OthersStand who old new = (w : ℕ) → w ≢ who → (reserved_in new w ≡ reserved_in old w) × (room_in new w ≡ room_in old w)

-- The pass has the turn, and this region, to which it has added at most one event of its own. The slot holds this.
pub record Carries (stage : Stage) (slot : Option Local) (own : List What) (me : M) (x : Local) : Type 0 where
  pub live : me.0.live ≡ true
  pub at : me.0.stage ≡ stage
  pub slots : me.1 ≡ (0, slot) ∷ []
  pub continues : Continues me.0.about x
  pub one : length own ≤ 1
  pub past : x.past ≡ made_by me.0.who own ++ me.0.seen
  pub others : OthersStand me.0.who me.0.held x

-- A step changes at most one of the words that are mirrored.
abbrev pub ChangesOneWord : Region → List Event → List Event → Type 0
ChangesOneWord start old new =
    (checksum_after start new ≡ checksum_after start old) ⊎ (sequence_after start new ≡ sequence_after start old)

-- the pass may put this region back
pub record PutsBack (own : List What) (me : M) (x : Local) : Type 0 where
  pub carries : Carries Holding None own me x
  pub word : ChangesOneWord x.start me.0.seen x.past

-- the mirrored words show the region's words, and this is the number of its events
pub record CanCount (own : List What) (me : M) (x : Local) (count : ℕ) : Type 0 where
  pub carries : Carries Holding (Some x) own me x
  pub count_is : count ≡ length x.past
  pub checksum : checksum_after x.start x.past ≡ checksum_after x.start me.0.seen
  pub sequence : sequence_after x.start x.past ≡ sequence_after x.start me.0.seen

-- the pass, having seen the region in its slot
abbrev pub seeing_slot : View → Stage → List (ℕ × Option Local) → View
seeing_slot v stage [] = v
seeing_slot v stage ((k, None) ∷ rest) = v
seeing_slot v stage ((k, Some x) ∷ rest) = seeing v stage x

abbrev pub shows : Step (Option Local) → M → ℕ → M → Type 0
shows s me found new = new ≡ (seeing_slot me.0 Holding me.1, me.1)

abbrev pub counts : Step (Option Local) → M → ℕ → M → Type 0
counts s me found new = new ≡ (seeing_slot me.0 Counted me.1, me.1)

abbrev pub gives_turn : Step (Option Local) → M → ℕ → M → Type 0
gives_turn s me found new = new ≡ (idle me.0, [])

-- The pass has seen a journal that goes on from what it had seen, with no event of its own.
pub record Looked (me new : M) : Type 0 where
  pub later : List Event
  pub view : new ≡ (having_seen me.0 (later ++ me.0.seen), me.1)
  pub others : NoneOf me.0.who later
  pub lawful : Lawful me.0.about.start (later ++ me.0.seen)

-- What was found is that journal's word. Beside it stands the number of changes of an earlier journal; that journal's own number
-- is this or the one that the pass had seen, whichever is greater.
pub record LookedAt (word : Words) (me : M) (found : ℕ) (new : M) : Type 0 where
  pub looked : Looked me new
  pub shown_at : List Event
  pub found_is : found ≡ mirror word me.0.about.start shown_at
  pub fits : word me.0.about.start shown_at < 2 ^ 32
  pub same : word me.0.about.start (looked.later ++ me.0.seen) ≡ word me.0.about.start shown_at
  pub most : max (changes_made shown_at) (changes_made me.0.seen) ≡ changes_made (looked.later ++ me.0.seen)

abbrev pub peeks_at_checksum : Step (Option Local) → M → ℕ → M → Type 0
peeks_at_checksum s me found new = LookedAt checksum_after me found new

abbrev pub peeks_at_sequence : Step (Option Local) → M → ℕ → M → Type 0
peeks_at_sequence s me found new = LookedAt sequence_after me found new

-- the first journal goes on from the second, with no event of these numbers
abbrev pub Follows : List ℕ → List Event → List Event → Type 0
Follows of journal seen = (later : List Event) × (journal ≡ later ++ seen) × ((n : ℕ) → Among n of → NoneOf n later)

-- the numbers that a pass may hand out have made no event that it has seen
abbrev pub HandsAreFresh : View → Type 0
HandsAreFresh v = (n : ℕ) → Among n v.hands → NoneOf n v.seen

-- What a pass can be sure of by one look at the table, which changes nothing.
pub record Settled (v : View) : Type 0 where
  pub follows : length v.told ≤ length v.seen → Follows v.told_of v.seen v.told
  pub lawful : Lawful v.about.start v.seen
  pub fresh : HandsAreFresh v

abbrev pub settles : Step (Option Local) → M → ℕ → M → Type 0
settles s me found new = (new ≡ me) × Settled me.0

-- a pass that has handed this number out
abbrev pub keeper : View → ℕ → View
keeper v n = record v { told = []; told_of = []; hands = without n v.hands }

-- the pass of that number
abbrev pub handed : View → ℕ → View
handed v n =
    record v { live = true; stage = Idle; who = n; told = []; told_of = []; places = 0; room = 0; turns = 0; hands = []; taken = [] }

abbrev pub longer : List Event → List Event → List Event
longer xs ys = if leb (length xs) (length ys) then ys else xs

abbrev pub shorter : List Event → List Event → List Event
shorter xs ys = if leb (length xs) (length ys) then xs else ys

-- the numbers of the pass that has seen less
abbrev pub numbers_of_shorter : View → View → List ℕ
numbers_of_shorter v w = if leb (length v.seen) (length w.seen) then numbers v else numbers w

-- a pass that has taken in another
abbrev pub joined : View → View → View
joined v w =
    record v {
      seen = longer v.seen w.seen;
      told = shorter v.seen w.seen;
      told_of = numbers_of_shorter v w;
      taken = w.who ∷ (w.taken ++ (w.hands ++ v.taken));
    }

-- a region of two empty files
abbrev pub nowhere : Local
nowhere =
    record {
      start = record { data_bytes = []; meta_bytes = [] };
      past = [];
      accounts = [];
      failing = record { listed = []; made = 0; faults = 0 };
    }

-- what is left of a pass that was taken in
abbrev pub spent : View
spent =
    record {
      live = false;
      stage = Idle;
      who = 0;
      about = nowhere;
      seen = [];
      held = nowhere;
      told = [];
      told_of = [];
      places = 0;
      room = 0;
      turns = 0;
      hands = [];
      taken = [];
    }
