use Rattle.std.proofs.Common.{◌++◌, sym, subst, refl, ◌∙◌, inr}
use Rattle.std.specs.Prelude.{None}
use Rattle.change_log.specs.Settled.{AreOfCall}
use Rattle.region_words.specs.Share.{Goes, StopsReserving, reserving, unmoved}
use Rattle.region_words.specs.declared.stops.ShareStop.TheVariants as share
use Rattle.opener.specs.Counted.{counted}
use Rattle.opener.specs.Plans.{events_in, room_in}
use Rattle.opener.specs.Writes.{commits_in}
use Rattle.opener.specs.declared.calls.Stop.TheVariants as why
use Rattle.opener.specs.declared.work.End.TheVariants as end
use Rattle.opener.specs.declared.work.Stage.TheVariants.{Store}
use Rattle.opener.proofs.Added.{none_quietly}
use Rattle.opener.proofs.Adding.{none_more}
use Rattle.opener.proofs.Falling.{reserved_shorter, unreserved_shorter}
use Rattle.opener.proofs.Reserved.{counted_is, reserved_tied, reserving_stops, unreserved_leaving, unreserved_left, unreserved_plan, write_plain}
use Rattle.opener.proofs.StepEnds.{goes_on, leaves, stops}
use Rattle.opener.proofs.StopClauses.{same_call}
use Rattle.opener.proofs.opener_core.OpenerCore.reserve.Goals as goal

pub returns-in-Ok : goal.returns-in-Ok
returns-in-Ok g c =
    let o = c.args.self.now in
    let running = c.args.running in
    let plan = c.args.plan in
    let s = g.S.Share.state c.args.share.now in
    let t = g.S.Share.state c.reserve.new.self in
    let goes = subst (λ n. Goes (reserving n c.room.result s) s t) c.events.ensures c.in-Ok.ensures.ok in
    let both = subst (λ n. Goes (reserving (counted (events_in plan)) n s) s t) c.room.ensures goes in
    let exact = subst (λ n. Goes (reserving n (room_in plan) s) s t) (counted_is (events_in plan) c.requires.at.2.1.few) both in
    goes_on c.requires (λ stored none. none) o running 0 None (none_quietly (reserving c.events.result c.room.result s) c.in-Ok.ensures.ok.after refl refl refl) (λ kind is. absurd cc) (Store plan) refl
    (same_call running) (none_more running) (refl, exact) (λ looks. absurd cc) (λ has. has) c.going.ensures refl (λ so_far are. subst (λ l. AreOfCall o.who running.call running.now (l ++ commits_in plan)) (sym are) c.requires.at.2.3)
    (reserved_tied o running plan s t c.requires both) (reserved_shorter running running t plan) refl

pub returns-in-Memory : goal.returns-in-Memory
returns-in-Memory g c =
    let o = c.args.self.now in
    let running = c.args.running in
    let plan = c.args.plan in
    let s = g.S.Share.state c.args.share.now in
    let t = g.S.Share.state c.reserve.new.self in
    let plain = write_plain running.call c.requires.at.1 in
    let stops = subst (λ stop. StopsReserving c.events.result stop s t) c.in-Memory.is c.in-Err.ensures.err in
    leaves c.requires (λ stored none. none) o running 0 (none_quietly (unmoved s) stops.after refl refl refl) (end.Stop why.Memory) c.changes.result
    (unreserved_leaving o running plan s t c.requires stops plain) (same_call running) plain (none_more running) tt tt c.leave.ensures c.changes.ensures refl tt tt (λ so_far are. are)
    (λ looks. absurd cc) (λ has. tt) (unreserved_left o running plan s t c.requires stops why.Memory) (unreserved_shorter running running t plan (end.Stop why.Memory))

pub returns-in-JournalFull : goal.returns-in-JournalFull
returns-in-JournalFull g c =
    let o = c.args.self.now in
    let running = c.args.running in
    let plan = c.args.plan in
    let s = g.S.Share.state c.args.share.now in
    let t = g.S.Share.state c.reserve.new.self in
    let plain = write_plain running.call c.requires.at.1 in
    let stops = subst (λ stop. StopsReserving c.events.result stop s t) c.in-JournalFull.is c.in-Err.ensures.err in
    let all = c.events.ensures ∙ counted_is (events_in plan) c.requires.at.2.1.few in
    leaves c.requires (λ stored none. none) o running 0 (none_quietly (unmoved s) stops.0.after refl refl refl) (end.Stop why.JournalFull) c.changes-in-JournalFull.result
    (unreserved_leaving o running plan s t c.requires stops.0 plain) (same_call running) plain (none_more running) tt tt c.leave-in-JournalFull.ensures c.changes-in-JournalFull.ensures refl tt
    (inr (subst (λ n. StopsReserving n share.JournalFull s t) all stops, c.requires.owes, unreserved_plan o running plan s t c.requires stops.0)) (λ so_far are. are)
    (λ looks. absurd cc) (λ has. tt) (unreserved_left o running plan s t c.requires stops.0 why.JournalFull) (unreserved_shorter running running t plan (end.Stop why.JournalFull))

pub returns-in_default : goal.returns-in_default
returns-in_default g c =
    stops c.requires c.in-Err.stop c.stopped.ensures (reserving_stops c.events.result c.in-Err.stop _ _ c.in_default.not-Memory c.in_default.not-JournalFull c.in-Err.ensures.err)
