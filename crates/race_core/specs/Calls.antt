-- What the calls of an opener come to that makes them one after another.
use Rattle.std.specs.Prelude.{◌≡◌, ◌≢◌, ℕ, true, List, [], ◌∷◌, Some, None, IfSome, ⊤}
use Rattle.change_log.specs.declared.call.Call.{Call}
use Rattle.opener.specs.Begins.{call_refusal}
use Rattle.opener.specs.Calls.{holds_after, is_write}
use Rattle.opener.specs.Opener.{stop_found}
use Rattle.opener.specs.State.{OpenerState}
use Rattle.opener.specs.declared.calls.Stop.{Stop}
use Rattle.opener.specs.declared.calls.Stop.TheVariants as stop
use Rattle.opener.specs.declared.work.Work.{Work}
use Rattle.opener.specs.declared.work.Work.TheVariants.{Runs}
use Rattle.region_words.specs.Share.{OnListed, ShareState}
use Rattle.region_words.specs.Told.{History}
use Rattle.script_lang.specs.declared.outcome.Outcome.{Outcome}
use Rattle.script_lang.specs.declared.outcome.Outcome.TheVariants.{Answered, Blocked, Stopped}
use Rattle.script_lang.specs.declared.outcome.Reason.{Reason}
use Rattle.script_lang.specs.Played.{IsPrinted, reason_said}
use Rattle.race_core.specs.declared.calls.Trouble.{Trouble}
use Rattle.race_core.specs.declared.calls.Trouble.TheVariants as trouble
use Rattle.race_core.specs.declared.entrant.TimedCall.{TimedCall}

-- each of these calls may begin beside so many holds, once those before it are answered
abbrev pub AreAllowed : ℕ → List TimedCall → Type 0
AreAllowed held [] = ⊤
AreAllowed held (c ∷ calls) = (call_refusal c.call held ≡ None) × AreAllowed (holds_after c.call held) calls

-- what this opener's call came to: its answer, or a reason for which a write is stopped
abbrev pub IsOutcomeOf : ℕ → TimedCall → Outcome → Type 0
IsOutcomeOf who c (Answered a) = (a.who ≡ who) × (a.call ≡ c.call) × (a.now ≡ c.now)
IsOutcomeOf who c (Blocked w holder) = ⊥
IsOutcomeOf who c (Stopped w why) = (w ≡ who) × IsPrinted why × (is_write c.call ≡ true)

-- one outcome for each of this opener's calls, in their order
abbrev pub AreOutcomes : ℕ → List TimedCall → List Outcome → Type 0
AreOutcomes who [] outcomes = outcomes ≡ []
AreOutcomes who (c ∷ calls) outcomes = (o : Outcome) × (rest : List Outcome) × (outcomes ≡ o ∷ rest) × IsOutcomeOf who c o × AreOutcomes who calls rest

-- the trouble with a stop whose reason isn't printed
abbrev pub IsTroubleOf : Stop → Trouble → Type 0
IsTroubleOf stop.Memory t = t ≡ trouble.Memory
IsTroubleOf stop.JournalFull t = t ≡ trouble.JournalFull
IsTroubleOf (stop.NotWhole seen) t = t ≡ trouble.NotWhole
IsTroubleOf (stop.Version n) t = t ≡ trouble.NotWhole
IsTroubleOf (stop.Flags n) t = t ≡ trouble.NotWhole
IsTroubleOf stop.Fault t = t ≡ trouble.Fault
IsTroubleOf _ t = ⊥

-- some calls on the share are to fail
abbrev pub MayFail : ShareState → Type 0
MayFail s = OnListed s.fails (λ list. list ≢ [])

-- where it stops by a fault, some calls on the share were to fail
abbrev pub FaultsWhereListed : ShareState → Stop → Type 0
FaultsWhereListed s why = why ≡ stop.Fault → MayFail s

-- two histories start with one region
abbrev pub StartsAs : History → History → Type 0
StartsAs old new = new.start ≡ old.start

-- this call runs
abbrev pub RunsAs : TimedCall → Work → Type 0
RunsAs c (Runs running stage) = (running.call ≡ c.call) × (running.now ≡ c.now)
RunsAs c _ = ⊥

-- only a write is stopped for a reason that is printed
abbrev pub IsForWrites : Call → Stop → Type 0
IsForWrites asked why = (r : Reason) → reason_said why ≡ Some r → is_write asked ≡ true

-- an opener with so many holds is at this call
pub record IsMaking (c : TimedCall) (held : ℕ) (o : OpenerState) : Type 0 where
  pub runs : RunsAs c o.work
  pub holds : o.holds ≡ held
  pub found : IfSome (stop_found o.work) (IsForWrites c.call)
