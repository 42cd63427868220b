-- What Legal asks of one caller, as its calls go on.
use Rattle.std.specs.Prelude.{◌≡◌, ℕ, ◌≤◌, List, [], ◌∷◌, ◌++◌, Some, length}
use Rattle.change_log.specs.EachCaller.{LegalFor}
use Rattle.change_log.specs.Settled.{NoneBy, AreEndedBy, IsSettled, AreBegun}
use Rattle.change_log.specs.declared.call.Answer.{Answer}
use Rattle.change_log.specs.declared.call.Call.{Call}
use Rattle.change_log.specs.declared.change.Change.{Change}
use Rattle.region_words.specs.Apart.{Apart}
use Rattle.region_words.specs.Lawful.{Lawful}
use Rattle.region_words.specs.Past.{changes_of, NoneOf}
use Rattle.region_words.specs.Region.{Region, IsAccepted, base}
use Rattle.region_words.specs.Share.{ShareState}
use Rattle.region_words.specs.Told.{History, OnTold}
use Rattle.region_words.specs.declared.event.Event.{Event}
use Rattle.opener.specs.Adds.{AreMade}
use Rattle.opener.specs.Opener.{Tied}
use Rattle.opener.specs.State.{OpenerState}
use Rattle.opener.specs.declared.calls.Step.{Step}
use Rattle.opener.specs.declared.calls.Step.TheVariants as step
use Rattle.opener.specs.declared.work.Work.{Work}
use Rattle.opener.specs.declared.work.Work.TheVariants.{Idle, Ended, Runs}

-- the caller's answers so far were given before the running call began, which was before these changes ended; or by now, where none runs
abbrev pub AreEarlier : Work → List Change → List Answer → Type 0
AreEarlier (Runs running stage) before own = AreEndedBy running.begun own × (running.begun ≤ length before)
AreEarlier _ before own = AreEndedBy (length before) own

-- all changes of a caller are settled by its answers, but those that the running call has made so far, which are the last of all
pub record IsSettledSoFar (who : ℕ) (work : Work) (start : Region) (past : List Event) (own : List Answer) : Type 0 where
  pub before : List Change
  pub made : List Change
  pub are : changes_of past ≡ before ++ made
  pub settled : IsSettled who (base start) before own
  pub of_call : AreMade who work made
  pub earlier : AreEarlier work before own

-- its last call was cut off by its end after these changes, and behind them stand only those of others
pub record IsCutOff (who : ℕ) (start : Region) (past : List Event) (own : List Answer) : Type 0 where
  pub call : Call
  pub now : ℕ
  pub before : List Change
  pub made : List Change
  pub more : List Change
  pub are : changes_of past ≡ before ++ (made ++ more)
  pub settled : IsSettled who (base start) before own
  pub begun : AreBegun who call now made
  pub others : NoneBy who more

abbrev pub IsSettledBy : ℕ → Work → Region → List Event → List Answer → Type 0
IsSettledBy who Ended start past own = IsCutOff who start past own
IsSettledBy who work start past own = IsSettledSoFar who work start past own

-- where checksums tell payloads apart
abbrev pub AreSettled : OpenerState → List Answer → History → Type 0
AreSettled o own h = IsAccepted h.start → Apart h.start h.past → IsSettledBy o.who o.work h.start h.past own

abbrev pub answers_by : Step → List Answer
answers_by (step.Answered a) = a ∷ []
answers_by _ = []

-- what an opener answered before and what a step answers is settled after the step, with all that others changed meanwhile
abbrev pub Settles : OpenerState → Step → OpenerState → ShareState → ShareState → Type 0
Settles old result new s t = (own : List Answer) → OnTold s.told (AreSettled old own) → OnTold t.told (AreSettled new (own ++ answers_by result))

-- what an opener answered before is still settled where a call begins
abbrev pub BeginsSettled : OpenerState → OpenerState → ShareState → Type 0
BeginsSettled old new s = (own : List Answer) → OnTold s.told (AreSettled old own) → OnTold s.told (AreSettled new own)

-- it is settled where nothing of the caller's was made yet,
abbrev pub IsSettledFirst : Type 0
IsSettledFirst = (o : OpenerState) (h : History) → o.work ≡ Idle → NoneBy o.who (changes_of h.past) → AreSettled o [] h

-- it stays so while others go on,
abbrev pub StaysSettled : Type 0
StaysSettled =
    (o : OpenerState) (s : ShareState) (h : History) (others : List Event) (own : List Answer) → Tied o s → s.told ≡ Some h →
    Lawful h.start (others ++ h.past) → NoneOf o.who others → AreSettled o own h → AreSettled o own (record { start = h.start; past = others ++ h.past })

-- and then the caller's answers are what Legal asks of one caller
abbrev pub IsLegalSoFar : Type 0
IsLegalSoFar =
    (o : OpenerState) (h : History) (own : List Answer) → IsAccepted h.start → Apart h.start h.past → AreSettled o own h →
    LegalFor o.who (base h.start) (changes_of h.past) own
