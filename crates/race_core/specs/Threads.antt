-- What workers leave of their jobs.
use Rattle.std.specs.Prelude.{◌≡◌, ◌≢◌, ℕ, true, List, [], length, slice_get, None, Some, IfSome}
use Rattle.script_lang.specs.Parts.{answers_in}
use Rattle.step_desk.specs.Passes.{PassState, StaysAt, state_of}
use Rattle.race_core.specs.Calls.{AreOutcomes}
use Rattle.race_core.specs.Worker.{HasHappened, IsSettledAt, history_of}
use Rattle.race_core.specs.declared.calls.Trouble.TheVariants as trouble
use Rattle.race_core.specs.declared.worker.Done.{Done}
use Rattle.race_core.specs.declared.entrant.TimedCall.{TimedCall}

-- what a worker leaves of a pass and these calls
pub record IsDone (pass : PassState) (calls : List TimedCall) (done : Done) : Type 0 where
  -- its pass, of the same desk and the same numbers
  pub same : StaysAt pass done.pass
  pub start : done.pass.view.about.start ≡ pass.view.about.start
  -- its opener is dead, and holds no lock
  pub ended : (state_of done.pass).ended ≡ true
  pub free : (state_of done.pass).holds ≡ None
  pub lawful : HasHappened (history_of done.pass)
  -- where it made all its calls, an outcome for each, and its answers settled
  pub outcomes : done.ceased ≡ None → AreOutcomes pass.view.who calls done.outcomes.items
  pub settled : done.ceased ≡ None → IsSettledAt pass.view.who (answers_in done.outcomes.items) (history_of done.pass)
  -- it ceases by a fault only where calls on the desk's region are to fail
  pub fault : IfSome done.ceased (λ ceased. ceased.why ≡ trouble.Fault → pass.view.about.failing.listed ≢ [])

-- as many of one as of the other, and each with that at its place
abbrev pub AreEach : {A B : Type 0} → (A → B → Type 0) → List A → List B → Type 0
AreEach {A} {B} P xs ys = (length ys ≡ length xs) × ((i : ℕ) (x : A) (y : B) → slice_get xs i ≡ Some x → slice_get ys i ≡ Some y → P x y)
