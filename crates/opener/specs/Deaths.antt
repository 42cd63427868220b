-- How an opener dies.
use Rattle.std.specs.Prelude.{◌≡◌, ℕ, ◌⊎◌, false, List, ◌∷◌, Option, Some, None, ◌==◌, if◌then◌else◌}
use Rattle.change_log.specs.declared.call.Answer.{Answer}
use Rattle.region_words.specs.Share.{ShareState, Dies, Fails}
use Rattle.region_words.specs.Told.{OnTold}
use Rattle.region_words.specs.declared.event.Side.TheVariants.{Data}
use Rattle.region_words.specs.declared.event.What.{What}
use Rattle.region_words.specs.declared.event.What.TheVariants.{Store}
use Rattle.region_words.specs.declared.stops.TornStore.{TornStore}
use Rattle.opener.specs.State.{OpenerState}
use Rattle.opener.specs.Opener.{Tied, is_ended}
use Rattle.opener.specs.Quick.{ended_as}
use Rattle.opener.specs.Settles.{AreSettled}
use Rattle.opener.specs.Writes.{first_events}
use Rattle.opener.specs.declared.work.Stage.TheVariants as stage
use Rattle.opener.specs.declared.work.Work.{Work}
use Rattle.opener.specs.declared.work.Work.TheVariants.{Ended, Runs}

-- the store that is torn to these bits where a death comes before these events: that of the first, if it is one of a payload word
abbrev pub torn_first : List What → Option ℕ → Option TornStore
torn_first (Store Data word new mark ∷ rest) (Some bits) = if word == 0 then None else Some (record { word = word; new = new; bits = bits })
torn_first events bits = None

-- the store that is torn to these bits where an opener dies at this work: its next step's
abbrev pub torn_at : Work → Option ℕ → Option TornStore
torn_at (Runs running (stage.Store plan)) bits = torn_first (first_events plan) bits
torn_at work bits = None

-- the opener is dead: by its death, or by a fault of the share that came instead; one that had ended makes no more calls
abbrev pub DiesAt : Work → Option ℕ → ShareState → ShareState → Type 0
DiesAt Ended bits s t = t ≡ s
DiesAt work bits s t = Dies (torn_at work bits) s t ⊎ Fails s t

-- one that lived is ended then,
abbrev pub DeathEnds : OpenerState → ShareState → Type 0
DeathEnds o t = is_ended o.work ≡ false → Tied (ended_as o.who) t

-- and what it answered before is settled, with all that others changed meanwhile
abbrev pub DeathSettles : OpenerState → ShareState → ShareState → Type 0
DeathSettles o s t = is_ended o.work ≡ false → (own : List Answer) → OnTold s.told (AreSettled o own) → OnTold t.told (AreSettled (ended_as o.who) own)
