use Rattle.std.proofs.Common.{◌≢◌, ◌||◌, false, not, refl, sym, ◌∙◌, ap, subst}
use Rattle.std.proofs.lemmas.List.Elements.{All-nil}
use Rattle.change_log.specs.declared.change.Change.{Change}
use Rattle.step_desk.specs.Passes.{PassState, no_counts}
use Rattle.step_desk.specs.Steps.{keeper, handed}
use Rattle.desk_tests.specs.Desks.{MayRace}
use Rattle.desk_tests.proofs.Free.{none_at_first}
use Rattle.desk_tests.proofs.workers.passes_of_two.Goals as goal

pub returns : goal.returns
returns c =
    let new = c.in_ok-desk.ensures in
    let desk = c.in_ok-desk.desk in
    let seat = c.seat-seat.ensures ∙ new.pass in
    let own = c.into_pass-first.ensures ∙ c.split-second.ensures.kept ∙ ap (λ (k : PassState). record k { view = keeper k.view 2 }) seat in
    let other = c.split-second.ensures.pass ∙ ap (λ (k : PassState). let p : PassState = record { table = k.table; view = handed k.view 2; counts = no_counts } in p) seat in (
      subst (MayRace desk) (sym own) (refl, (ap (λ b. not b || false) new.first, none_at_first 1, All-nil (λ (d : Change). d.maker ≢ 1))),
      subst (MayRace desk) (sym other) (refl, (ap (λ b. not b || false) new.second, none_at_first 2, All-nil (λ (d : Change). d.maker ≢ 2))),
    )
