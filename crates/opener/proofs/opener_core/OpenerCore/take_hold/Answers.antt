use Rattle.std.proofs.Common.{◌≡◌, ◌+◌, refl, ap, sym, ◌∙◌}
use Rattle.std.specs.Prelude.{Some}
use Rattle.change_log.specs.declared.call.Call.TheVariants as call
use Rattle.lock_rules.specs.Counts.{Counts}
use Rattle.lock_rules.specs.declared.table.LockKind.TheVariants.{Exclusive}
use Rattle.opener.specs.Calls.{holds_after, kind_of}
use Rattle.opener.specs.declared.work.Running.{Running}
use Rattle.opener.proofs.Added.{lock_quietly}
use Rattle.opener.proofs.Adding.{holds_none, lock_more}
use Rattle.opener.proofs.Carry.{own_if}
use Rattle.opener.proofs.Holds.{done_place, first_answer, held_tied, holds_are}
use Rattle.opener.proofs.Same.{locked_same}
use Rattle.opener.proofs.StepEnds.{answers_done, early, stops_trying, waits}
use Rattle.opener.proofs.opener_core.OpenerCore.take_hold.Goals as goal

pub returns-in-Ok-Taken : goal.returns-in-Ok-Taken
returns-in-Ok-Taken g c =
    let o = c.args.self.now in
    let running = c.args.running in
    let tied = c.requires.tied in
    let none = c.requires.none in
    let next = c.with_lock.result in
    let tries = rw c.in-Ok-Taken.field-0-is at c.in-Ok-Taken.ensures.ok in
    let one : c.one_more-counts.result.exclusive ≡ 1 = ap (λ (k : Counts). k.exclusive) c.one_more-counts.ensures ∙ ap (λ n. n + 1) none in
    let free = tied.holds ∙ own_if o.holds running.taken none ∙ tied.at.2.1 in
    let same = (locked_same running next Exclusive c.with_lock.ensures).0 in
    answers_done tied (λ stored none. none) next 0 (Some Exclusive) (lock_quietly Exclusive tries.0 free) (λ kind is. ap kind_of tied.at.1 ∙ is) _ _ c.done.ensures same (lock_more Exclusive running next c.with_lock.ensures)
    (one ∙ sym (ap (λ asked. holds_after asked o.holds) tied.at.1 ∙ ap (λ n. n + 1) none)) (λ so_far are. holds_none o.who running so_far tied.at.1 are) (λ a. tt) refl (λ a. tt)
    (done_place next.call call.Hold _ refl (same.call ∙ tied.at.1))
    (λ has. (ap (λ (r : Running). r.loads) c.with_lock.ensures ∙ has.0, ap (λ (r : Running). r.stores) c.with_lock.ensures ∙ has.1))
    (holds_are o _ 1 _ one (held_tied o running next _ _ tied tries)) (first_answer o running next _ _ tied tries _ same c.changes.ensures)

pub returns-in-Ok-Busy : goal.returns-in-Ok-Busy
returns-in-Ok-Busy g c =
    let tied = c.requires.tied in
    waits tied (early refl (λ stored none. none) (λ so_far none. none) refl) Exclusive (ap kind_of tied.at.1) _ c.blocked.ensures (rw c.in-Ok-Busy.field-0-is at c.in-Ok-Busy.ensures.ok)

pub returns-in-Err : goal.returns-in-Err
returns-in-Err g c =
    let tied = c.requires.tied in
    stops_trying tied (early refl (λ stored none. none) (λ so_far none. none) refl) Exclusive (ap kind_of tied.at.1) c.in-Err.stop tied.at.2.1 c.stopped.ensures c.in-Err.ensures.err
