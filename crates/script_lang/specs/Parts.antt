-- What the lines of a script made so far. Parts and events stand with the latest first.
use Rattle.std.specs.Prelude.{ℕ, ◌+◌, Bool, true, false, filter, List, [], ◌∷◌, ◌++◌, Option, Some, None, length, not, option_map, option_and_then, nat_le, ◌==◌, ◌&&◌, if◌then◌else◌}
use Rattle.change_log.specs.declared.call.Answer.{Answer}
use Rattle.change_log.specs.declared.call.Call.{Call}
use Rattle.opener.specs.Calls.{holds_after}
use Rattle.region_words.specs.Answered.{is_store}
use Rattle.region_words.specs.Past.{has_died}
use Rattle.region_words.specs.declared.event.Event.{Event}
use Rattle.region_words.specs.declared.event.What.{What}
use Rattle.region_words.specs.declared.event.What.TheVariants.{Lock}
use Rattle.script_lang.specs.declared.line.Line.{Line}
use Rattle.script_lang.specs.declared.line.Line.TheVariants.{Open, Begin, Step, Die}
use Rattle.script_lang.specs.declared.outcome.Outcome.{Outcome}
use Rattle.script_lang.specs.declared.outcome.Outcome.TheVariants.{Answered, Blocked, Stopped}
use Rattle.handlers.specs.declared.handler.Strategy.{Strategy}

-- what a line names, if anything, the events that it made, and what it ended with
pub record Part : Type 0 where
  pub line : Option Line
  pub made : List Event
  pub outcome : Option Outcome

-- what the lines name, the first of them first
abbrev pub lines_of : List Part → List (Option Line)
lines_of [] = []
lines_of (p ∷ parts) = lines_of parts ++ p.line ∷ []

-- the events of these lines
abbrev pub past_of : List Part → List Event
past_of [] = []
past_of (p ∷ parts) = p.made ++ past_of parts

-- the outcome that a line has, if any
abbrev pub listed : Option Outcome → List Outcome
listed None = []
listed (Some o) = o ∷ []

-- what these lines ended with, the first of them first
abbrev pub outcomes_of : List Part → List Outcome
outcomes_of [] = []
outcomes_of (p ∷ parts) = outcomes_of parts ++ listed p.outcome

abbrev pub answers_in : List Outcome → List Answer
answers_in [] = []
answers_in (Answered a ∷ rest) = a ∷ answers_in rest
answers_in (_ ∷ rest) = answers_in rest

-- the strategy of the opener that a line opens, if any
abbrev pub opened_by : Option Line → List Strategy
opened_by (Some (Open strategy)) = strategy ∷ []
opened_by _ = []

-- the strategies of the openers 1, 2, .. in order
abbrev pub strategies : List Part → List Strategy
strategies [] = []
strategies (p ∷ parts) = strategies parts ++ opened_by p.line

-- the opener was opened, and hasn't died
abbrev pub lives : ℕ → List Part → Bool
lives who parts = nat_le 1 who && (nat_le who (length (strategies parts)) && not (has_died (past_of parts) who))

-- the holds of an opener after what a line ended with
abbrev pub held_after : Option Outcome → ℕ → ℕ → ℕ
held_after (Some (Answered a)) who held = if a.who == who then holds_after a.call held else held
held_after _ who held = held

-- none after its death
abbrev pub held_alive : Option Line → ℕ → ℕ → ℕ
held_alive (Some (Die maker bits)) who held = if maker == who then 0 else held
held_alive _ who held = held

-- the holds that the opener hasn't released yet
abbrev pub holds_of : ℕ → List Part → ℕ
holds_of who [] = 0
holds_of who (p ∷ parts) = held_alive p.line who (held_after p.outcome who (holds_of who parts))

abbrev pub is_lock : What → Bool
is_lock (Lock kind) = true
is_lock _ = false

-- how many of these events are stores, and how many take a lock
abbrev pub stores_among : List Event → ℕ
stores_among events = length (filter (λ e. is_store e.what) events)

abbrev pub locks_among : List Event → ℕ
locks_among events = length (filter (λ e. is_lock e.what) events)

-- a call that runs: what was asked, the events before it began, and those of its opener since
pub record Running : Type 0 where
  pub call : Call
  pub now : ℕ
  pub past : List Event
  pub since : List Event

-- the call after a step line of its own: it runs on unless it is answered or stopped
abbrev pub stepped : Option Outcome → Running → Option Running
stepped (Some (Answered a)) c = None
stepped (Some (Stopped who reason)) c = None
stepped _ c = Some c

-- the call of an opener that runs after a line, where this one ran before it
abbrev pub running_after : Option Line → Option Outcome → ℕ → List Event → Option Running → Option Running
running_after (Some (Begin maker now call)) outcome who past before =
    if maker == who then Some (record { call = call; now = now; past = past; since = [] }) else before
running_after (Some (Step maker count)) outcome who past before = if maker == who then option_and_then (stepped outcome) before else before
running_after (Some (Die maker torn)) outcome who past before = if maker == who then None else before
running_after _ outcome who past before = before

-- the same call, after these events more
abbrev pub going_on : List Event → Running → Running
going_on made c = record c { since = made ++ c.since }

-- the events of an opener among these
abbrev pub own_of : ℕ → List Event → List Event
own_of who events = filter (λ e. e.who == who) events

-- the call of an opener that runs after these lines
abbrev pub running : ℕ → List Part → Option Running
running who [] = None
running who (p ∷ parts) = running_after p.line p.outcome who (past_of parts) (option_map (going_on (own_of who p.made)) (running who parts))

-- the steps that the lines asked of an opener's call, since it began or was last blocked, after one line more
abbrev pub asked_after : Option Line → Option Outcome → ℕ → ℕ → ℕ
asked_after (Some (Begin maker now call)) outcome who asked = if maker == who then 0 else asked
asked_after (Some (Step maker count)) (Some (Blocked w holder)) who asked = if maker == who then 0 else asked
asked_after (Some (Step maker count)) outcome who asked = if maker == who then asked + count else asked
asked_after _ outcome who asked = asked

abbrev pub asked_of : ℕ → List Part → ℕ
asked_of who [] = 0
asked_of who (p ∷ parts) = asked_after p.line p.outcome who (asked_of who parts)
