use Rattle.std.proofs.Common.{refl, ap, ◌∙◌}
use Rattle.lock_rules.specs.declared.table.LockKind.TheVariants.{Exclusive}
use Rattle.opener.specs.declared.work.Running.{Running}
use Rattle.opener.proofs.Adding.{notices_none, notices_nothing}
use Rattle.opener.proofs.Carry.{own_if}
use Rattle.opener.proofs.Counting.{notices_counted}
use Rattle.opener.proofs.Falling.{exclusive_shorter}
use Rattle.opener.proofs.Locked.{exclusive_tied, notices_kept}
use Rattle.opener.proofs.Same.{locked_same}
use Rattle.opener.proofs.TriedKinds.{writes_exclusive}
use Rattle.opener.proofs.StepEnds.{early, locks_on, stops_trying, waits}
use Rattle.opener.proofs.StoresNext.{notices_stores}
use Rattle.opener.specs.declared.work.Stage.TheVariants.{LockExclusive}
use Rattle.opener.proofs.opener_core.OpenerCore.lock_exclusive.Goals as goal

pub returns-in-Ok-Taken : goal.returns-in-Ok-Taken
returns-in-Ok-Taken g c =
    let o = c.args.self.now in
    let next = c.with_lock-running.result in
    let to = c.noticing-stage.result in
    let look = c.noticing-stage.ensures in
    let tries = rw c.in-Ok-Taken.field-0-is at c.in-Ok-Taken.ensures.ok in
    let same = locked_same c.args.running next Exclusive c.with_lock-running.ensures in
    locks_on c.requires (λ stored none. none) o next Exclusive (writes_exclusive _ c.requires.at.1) to refl (c.requires.holds ∙ own_if _ _ c.requires.at.2.0 ∙ c.requires.at.2.1) tries c.with_lock-running.ensures tt (notices_kept next o.image o.holds next.taken to look)
    (λ has. notices_counted next o.image o.holds next.taken to look (ap (λ (r : Running). r.loads) c.with_lock-running.ensures ∙ has.0, ap (λ (r : Running). r.stores) c.with_lock-running.ensures ∙ has.1)) c.going.ensures
    (notices_none next o.image o.holds next.taken to look) (λ so_far are. notices_nothing o.who next o.image o.holds next.taken to so_far look are)
    (exclusive_tied o _ next to _ _ c.requires same.0 same.1 tries look) (exclusive_shorter _ next _ o.image o.holds next.taken to look) (notices_stores LockExclusive next o.image o.holds next.taken to look)

pub returns-in-Ok-Busy : goal.returns-in-Ok-Busy
returns-in-Ok-Busy g c =
    waits c.requires (early refl (λ stored none. none) (λ so_far none. none) refl) Exclusive (writes_exclusive _ c.requires.at.1) _ c.blocked.ensures (rw c.in-Ok-Busy.field-0-is at c.in-Ok-Busy.ensures.ok)

pub returns-in-Err : goal.returns-in-Err
returns-in-Err g c =
    stops_trying c.requires (early refl (λ stored none. none) (λ so_far none. none) refl) Exclusive (writes_exclusive _ c.requires.at.1) c.in-Err.stop c.requires.at.2.1 c.stopped.ensures c.in-Err.ensures.err
