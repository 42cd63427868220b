use Rattle.std.proofs.Common.{false, ◌||◌, not, refl, sym, ◌∙◌, ap, subst}
use Rattle.std.proofs.Crossing.{crosses}
use denote.Param.Send.{sendable}
use Rattle.step_desk.specs.Passes.{PassState, no_counts}
use Rattle.step_desk.specs.Steps.{keeper, handed}
use Rattle.step_desk.proofs.Sent.{bytes_send, pass_sends, desk_syncs}
use Rattle.desk_tests.specs.Desks.{MayWork}
use Rattle.desk_tests.proofs.Free.{none_at_first}
use Rattle.desk_tests.proofs.threads.changes_of_two.Goals as goal

pub join-one-requires-send-F : goal.join-one-requires-send-F
join-one-requires-send-F g c κs within = search (sendable, crosses, bytes_send, pass_sends, desk_syncs) depth 40 fits 100000

pub join-one-requires-send-A : goal.join-one-requires-send-A
join-one-requires-send-A g c κs within = search (sendable, crosses, pass_sends) depth 40 fits 100000

pub join-one-requires-after_bounds : goal.join-one-requires-after_bounds
join-one-requires-after_bounds g c κs within =
    let new = c.in_ok-desk.ensures in
    let desk = c.in_ok-desk.desk in
    let seat = c.seat-seat.ensures ∙ new.pass in
    let own = c.into_pass.ensures ∙ c.split.ensures.kept ∙ ap (λ (k : PassState). record k { view = keeper k.view 2 }) seat in
    let other = c.split.ensures.pass ∙ ap (λ (k : PassState). let p : PassState = record { table = k.table; view = handed k.view 2; counts = no_counts } in p) seat in (
      subst (MayWork desk) (sym own) (refl, ap (λ b. not b || false) new.first, none_at_first 1),
      subst (MayWork desk) (sym other) (refl, ap (λ b. not b || false) new.second, none_at_first 2),
    )
