use Rattle.std.proofs.Common.{sym, ap, ◌∙◌}
use Rattle.std.proofs.lemmas.List.{take_rest}
use Rattle.kv_pairs.specs.Mapped.{units_fit}
use Rattle.kv_pairs.proofs.Fitting.{map_behind, map_of_nothing}
use Rattle.kv_pairs.proofs.maps.has_map.Goals as goal

pub returns-in-Ok : goal.returns-in-Ok
returns-in-Ok c = c.units_fit.ensures ∙ ap (units_fit c.args.flag) (take_rest c.args.payload.now c.in-Ok.size) ∙ sym (map_behind _ _ _ _ c.in-Ok.ensures.ok)

pub returns-in-Err : goal.returns-in-Err
returns-in-Err c = c.is_empty.ensures ∙ sym (map_of_nothing c.args.flag c.args.payload.now c.in-Err.ensures.none)
