-- A worker, from its opener's first call to its death.
use Rattle.std.specs.Prelude.{◌≡◌, ℕ, false, List, ◌++◌, None}
use Rattle.change_log.specs.Settled.{IsSettled, NoneBy}
use Rattle.change_log.specs.declared.call.Answer.{Answer}
use Rattle.region_words.specs.Apart.{Apart}
use Rattle.region_words.specs.Lawful.{Lawful}
use Rattle.region_words.specs.Past.{changes_of}
use Rattle.region_words.specs.Region.{IsAccepted, base}
use Rattle.region_words.specs.Told.{History}
use Rattle.region_words.specs.declared.event.Event.{Event}
use Rattle.step_desk.specs.Passes.{PassState, state_of}

-- the journal that a pass has seen
abbrev pub history_of : PassState → History
history_of p = record { start = p.view.about.start; past = p.view.seen }

-- each of its events was possible where it happened
abbrev pub HasHappened : History → Type 0
HasHappened h = Lawful h.start h.past

-- none of its changes is this opener's
abbrev pub HasChangedNothing : ℕ → History → Type 0
HasChangedNothing who h = NoneBy who (changes_of h.past)

-- a pass whose opener lives, holds nothing and has changed nothing
abbrev pub MayWork : PassState → Type 0
MayWork p = ((state_of p).ended ≡ false) × ((state_of p).holds ≡ None) × HasChangedNothing p.view.who (history_of p)

-- where checksums tell payloads apart, these answers are an opener's to all that it changed, and each is right where it stands
abbrev pub IsSettledAt : ℕ → List Answer → History → Type 0
IsSettledAt who own h = IsAccepted h.start → Apart h.start h.past → IsSettled who (base h.start) (changes_of h.past) own

-- the history went on, and this opener changed nothing
pub record RestsFor (who : ℕ) (old new : History) : Type 0 where
  pub start : new.start ≡ old.start
  pub later : List Event
  pub past : new.past ≡ later ++ old.past
  pub others : NoneBy who (changes_of later)
