use Rattle.std.proofs.Common.{refl}
use Rattle.lock_rules.specs.declared.table.LockKind.TheVariants.{Shared}
use Rattle.opener.proofs.LoadBegins.{locked_steps}
use Rattle.opener.proofs.TriedKinds.{reads_shared}
use Rattle.opener.proofs.StepEnds.{early, stops_trying, waits}
use Rattle.opener.proofs.opener_core.OpenerCore.lock_shared.Goals as goal

pub returns-in-Ok-Taken : goal.returns-in-Ok-Taken
returns-in-Ok-Taken g c = locked_steps _ _ _ _ _ _ _ (rw c.in-Ok-Taken.field-0-is at c.in-Ok-Taken.ensures.ok) c.with_lock.ensures c.args.extent c.requires c.begin_load.ensures

pub returns-in-Ok-Busy : goal.returns-in-Ok-Busy
returns-in-Ok-Busy g c =
    waits c.requires (early refl (λ stored none. none) (λ so_far none. none) refl) Shared (reads_shared _ c.requires.at.1.0 c.requires.at.1.1) _ c.blocked.ensures (rw c.in-Ok-Busy.field-0-is at c.in-Ok-Busy.ensures.ok)

pub returns-in-Err : goal.returns-in-Err
returns-in-Err g c =
    stops_trying c.requires (early refl (λ stored none. none) (λ so_far none. none) refl) Shared (reads_shared _ c.requires.at.1.0 c.requires.at.1.1) c.in-Err.stop c.requires.at.2.1 c.stopped.ensures c.in-Err.ensures.err
