-- One caller between its calls: all that it began is answered.
use Rattle.std.specs.Prelude.{◌≡◌, ◌≢◌, ℕ, ◌+◌, ◌≤◌, ◌⊎◌, List, [], ◌∷◌, ◌++◌, Option, Some, None, length, take, slice_get, IsTrue, All, Any, AllPairs, is_some}
use Rattle.expiring_map.specs.Map.{Map}
use Rattle.change_log.specs.Acts.{replay, act_of, is_of_call, is_append}
use Rattle.change_log.specs.History.{reply_in, makes_change, IsPlaced, IsMade, IsAnswered}
use Rattle.change_log.specs.declared.change.Act.{Act}
use Rattle.change_log.specs.declared.change.Act.TheVariants as act
use Rattle.change_log.specs.declared.change.Change.{Change}
use Rattle.change_log.specs.declared.call.Call.{Call}
use Rattle.change_log.specs.declared.call.Answer.{Answer}

-- none of these changes is this caller's
abbrev pub NoneBy : ℕ → List Change → Type 0
NoneBy who changes = All (λ c. c.maker ≢ who) changes

-- each of these answers was given by this moment
abbrev pub AreEndedBy : ℕ → List Answer → Type 0
AreEndedBy moment answers = All (λ a. a.ended ≤ moment) answers

-- the change at i is this caller's put or remove, and was answered at the second t
abbrev pub IsAppendAt : List Change → List Answer → ℕ → ℕ → ℕ → Type 0
IsAppendAt changes own i who t =
    (next : Change) × (slice_get changes i ≡ Some next) × (next.maker ≡ who) × IsTrue (is_append next.act)
    × Any (λ a. IsTrue (makes_change changes a) × (a.place ≡ i) × (a.now ≡ t)) own

-- one caller's answers are legal, each change of its calls is answered, and each of its write-backs was followed by the
-- answered put or remove that it was made for
pub record IsSettled (who : ℕ) (base : Map) (changes : List Change) (own : List Answer) : Type 0 where
  pub all_own : All (λ a. a.who ≡ who) own
  pub in_order : AllPairs (λ a b. a.ended ≤ b.begun) own
  pub placed : All (IsPlaced base changes) own
  pub made : All (IsMade base changes) own
  pub answered : (i : ℕ) (c : Change) → slice_get changes i ≡ Some c → c.maker ≡ who → IsTrue (is_of_call c.act) → IsAnswered changes own i
  pub followed : (i : ℕ) (c : Change) → slice_get changes i ≡ Some c → c.maker ≡ who → (t : ℕ) → c.act ≡ act.Pack t → IsAppendAt changes own (i + 1) who t

-- none, or the call's own, or a write-back and then the call's own put or remove
abbrev pub AreOfAct : ℕ → ℕ → Option Act → List Change → Type 0
AreOfAct who now None changes = changes ≡ []
AreOfAct who now (Some own) changes =
    (changes ≡ record { maker = who; act = own } ∷ [])
    ⊎ (IsTrue (is_append own) × (changes ≡ record { maker = who; act = act.Pack now } ∷ record { maker = who; act = own } ∷ []))

-- the changes that a call makes at a moment
abbrev pub AreOfCall : ℕ → Call → ℕ → List Change → Type 0
AreOfCall who call now changes = AreOfAct who now (act_of call now) changes

-- the first of the changes that a call makes at a moment, or all
abbrev pub AreBegun : ℕ → Call → ℕ → List Change → Type 0
AreBegun who call now made = (more : List Change) × AreOfCall who call now (made ++ more)

-- the call began no later than the changes before it ended, made these, and was answered right after them by what it found
pub record HasMade (who : ℕ) (base : Map) (before made : List Change) (a : Answer) : Type 0 where
  pub caller : a.who ≡ who
  pub changes : AreOfCall who a.call a.now made
  pub makes : IsTrue (is_some (act_of a.call a.now))
  pub begun : a.begun ≤ length before
  pub place : a.place + 1 ≡ length (before ++ made)
  pub ended : a.ended ≡ length (before ++ made)
  pub reply : a.reply ≡ reply_in (replay base (take a.place (before ++ made))) a.now a.call
