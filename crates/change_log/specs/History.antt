use Rattle.std.specs.Prelude.{◌≡◌, ℕ, ◌+◌, ◌<◌, ◌≤◌, ◌⊎◌, ◌↔◌, Bool, true, false, List, [], ◌∷◌, ◌++◌, Some, map, length, take, slice_get, IsTrue, IfSome, All, Any, AllPairs, Contains, is_some}
use Rattle.std.specs.Option.{option_map_or}
use Rattle.expiring_map.specs.Map.{Map}
use Rattle.expiring_map.specs.Live.{value_at, keys_at, count_at}
use Rattle.change_log.specs.Acts.{replay, act_of, is_of_call, is_append}
use Rattle.change_log.specs.declared.change.Act.{Act}
use Rattle.change_log.specs.declared.change.Act.TheVariants as act
use Rattle.change_log.specs.declared.change.Change.{Change}
use Rattle.change_log.specs.declared.call.Call.{Call}
use Rattle.change_log.specs.declared.call.Call.TheVariants as call
use Rattle.change_log.specs.declared.call.Reply.{Reply}
use Rattle.change_log.specs.declared.call.Reply.TheVariants as reply
use Rattle.change_log.specs.declared.call.Answer.{Answer}
use Rattle.change_log.specs.declared.woven.Entry.{Entry}
use Rattle.change_log.specs.declared.woven.Entry.TheVariants as entry

-- what a call is answered that finds this map at a moment
abbrev pub reply_in : Map → ℕ → Call → Reply
reply_in m now (call.Get key) = option_map_or (λ value. reply.Value value) (value_at m key now) reply.None
reply_in m now call.Keys = reply.Keys (keys_at m now)
reply_in m now call.Count = reply.Count (count_at m now)
reply_in m now _ = reply.Done

-- the answered call makes one of these changes
abbrev pub makes_change : List Change → Answer → Bool
makes_change changes a = is_some (act_of a.call a.now)

-- the answered call has its place between its begin and its answer, and found there the map of the changes before it
pub record IsPlaced (base : Map) (changes : List Change) (a : Answer) : Type 0 where
  pub begun : a.begun ≤ a.place
  pub ended : a.place ≤ a.ended
  pub within : a.ended ≤ length changes
  pub reply : a.reply ≡ reply_in (replay base (take a.place changes)) a.now a.call

-- the change that a call makes in the map that it finds stands at its place, before its answer
abbrev pub IsMade : Map → List Change → Answer → Type 0
IsMade base changes a = IfSome (act_of a.call a.now) (λ act.
    (a.place < a.ended) × (slice_get changes a.place ≡ Some (record { maker = a.who; act = act })))

-- the change at i belongs to one of these answered calls
abbrev pub IsAnswered : List Change → List Answer → ℕ → Type 0
IsAnswered changes answers i = Any (λ a. IsTrue (makes_change changes a) × (a.place ≡ i)) answers

-- from place i on this opener makes no change that p picks
abbrev pub MakesNone : (Act → Bool) → List Change → ℕ → ℕ → Type 0
MakesNone p changes maker i =
    (j : ℕ) (c : Change) → i ≤ j → slice_get changes j ≡ Some c → c.maker ≡ maker → p c.act ≡ false

-- the opener was never answered after the change at i
abbrev pub IsLeftOpen : List Answer → ℕ → ℕ → Type 0
IsLeftOpen answers maker i = All (λ a. a.who ≡ maker → a.ended ≤ i) answers

-- each change of a call is answered, but for the last of an opener, after which it answered nothing
abbrev pub IsOwned : List Change → List Answer → ℕ → Change → Type 0
IsOwned changes answers i c = IsTrue (is_of_call c.act) →
    IsAnswered changes answers i ⊎ (MakesNone is_of_call changes c.maker (i + 1) × IsLeftOpen answers c.maker i)

-- the change at i is this opener's, and either the answered put or remove of this moment, or the last that it makes
abbrev pub IsNext : List Change → List Answer → ℕ → ℕ → ℕ → Type 0
IsNext changes answers i maker t =
    (next : Change) × (slice_get changes i ≡ Some next) × (next.maker ≡ maker)
    × ((IsTrue (is_append next.act) × Any (λ a. IsTrue (makes_change changes a) × (a.place ≡ i) × (a.now ≡ t)) answers) ⊎ MakesNone (λ _. true) changes maker (i + 1))

-- a write-back is made for the put or remove that directly follows, or it is the last that its opener does
abbrev pub IsFollowed : List Change → List Answer → ℕ → Change → Type 0
IsFollowed changes answers i c = (t : ℕ) → c.act ≡ act.Pack t →
    ((next : Change) × (slice_get changes (i + 1) ≡ Some next) × (next.maker ≡ c.maker) × IsTrue (is_append next.act)
    × Any (λ a. IsTrue (makes_change changes a) × (a.place ≡ i + 1) × (a.now ≡ t)) answers)
    ⊎ MakesNone (λ _. true) changes c.maker (i + 1)
    ⊎ ((next : Change) × (slice_get changes (i + 1) ≡ Some next) × (next.maker ≡ c.maker) × MakesNone (λ _. true) changes c.maker (i + 2))

-- one legal history: each answered call once, in its caller's order, between its begin and its answer
pub record Legal (base : Map) (changes : List Change) (answers : List Answer) : Type 0 where
  pub in_order : AllPairs (λ a b. a.who ≡ b.who → a.ended ≤ b.begun) answers
  pub placed : All (IsPlaced base changes) answers
  pub made : All (IsMade base changes) answers
  pub owned : (i : ℕ) (c : Change) → slice_get changes i ≡ Some c → IsOwned changes answers i c
  pub followed : (i : ℕ) (c : Change) → slice_get changes i ≡ Some c → IsFollowed changes answers i c

-- the answer at i makes no change and has this place
abbrev pub IsReadAt : List Change → List Answer → ℕ → ℕ → Type 0
IsReadAt changes answers place i = (a : Answer) × (slice_get answers i ≡ Some a) × (makes_change changes a ≡ false) × (a.place ≡ place)

-- by caller, and then by the caller's order
abbrev pub IsBefore : List Answer → ℕ → ℕ → Type 0
IsBefore answers i j = (a b : Answer) → slice_get answers i ≡ Some a → slice_get answers j ≡ Some b →
    (a.who < b.who) ⊎ ((a.who ≡ b.who) × (i < j))

-- the reading answers of a place, each once, by caller and its order
pub record AreReadsAt (changes : List Change) (answers : List Answer) (place : ℕ) (reads : List ℕ) : Type 0 where
  pub all : (i : ℕ) → Contains reads i ↔ IsReadAt changes answers place i
  pub in_order : AllPairs (IsBefore answers) reads

-- from this place on, the reads of each place and then its change, to the end of all changes
abbrev pub WovenFrom : List Change → List Answer → ℕ → List Change → List Entry → Type 0
WovenFrom all answers place [] woven = (reads : List ℕ) × AreReadsAt all answers place reads × (woven ≡ map entry.Read reads)
WovenFrom all answers place (c ∷ changes) woven =
    (reads : List ℕ) × (more : List Entry) × AreReadsAt all answers place reads × WovenFrom all answers (place + 1) changes more
    × (woven ≡ map entry.Read reads ++ entry.Change place ∷ more)

-- the answers and changes as one history
abbrev pub IsWoven : List Change → List Answer → List Entry → Type 0
IsWoven changes answers woven = WovenFrom changes answers 0 changes woven

-- the answer at i is the first with its place after the last change
abbrev pub IsFirstBeyond : List Change → List Answer → ℕ → Type 0
IsFirstBeyond changes answers i =
    (a : Answer) × (slice_get answers i ≡ Some a) × (length changes < a.place) × All (λ b. b.place ≤ length changes) (take i answers)
