use Rattle.std.proofs.Common.{true, Some, refl, ap, sym, ◌∙◌}
use Rattle.std.specs.Prelude.{◌&&◌}
use Rattle.kv_pairs.specs.Found.{items_found}
use Rattle.kv_pairs.proofs.Stepping.{behind_unit}
use Rattle.kv_pairs.proofs.Fitting.{fit_past, not_fit}
use Rattle.kv_pairs.proofs.maps.units_fit.Goals as goal

pub returns-then-not-has_room : goal.returns-then-not-has_room
returns-then-not-has_room c =
    let unit = c.in-Some.ensures ∙ ap (λ e. Some (items_found e, c.in-Some.behind.now)) c.in-Some-entry.is in
    let full = ap (λ b. b && true) (sym c.has_room.ensures ∙ c.if-not-has_room.true) in
    sym (c.loop-entry.invariant ∙ not_fit _ _ _ _ unit full)

pub loop-entry-smaller-else-not-has_room : goal.loop-entry-smaller-else-not-has_room
loop-entry-smaller-else-not-has_room c = behind_unit _ _ _ c.in-Some.ensures

pub loop-entry-preserved-else-not-has_room : goal.loop-entry-preserved-else-not-has_room
loop-entry-preserved-else-not-has_room c =
    let unit = c.in-Some.ensures ∙ ap (λ e. Some (items_found e, c.in-Some.behind.now)) c.in-Some-entry.is in
    let room = ap (λ b. b && true) (sym c.has_room.ensures ∙ c.if-not-has_room.false) in
    c.loop-entry.invariant ∙ fit_past _ _ _ _ unit room

pub loop-entry-smaller : goal.loop-entry-smaller
loop-entry-smaller c = behind_unit _ _ _ c.in-Some.ensures

pub loop-entry-preserved : goal.loop-entry-preserved
loop-entry-preserved c =
    let unit = c.in-Some.ensures ∙ ap (λ e. Some (items_found e, c.in-Some.behind.now)) c.in_default-entry.is in
    c.loop-entry.invariant ∙ fit_past _ _ _ _ unit refl
