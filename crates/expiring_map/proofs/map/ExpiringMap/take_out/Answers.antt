use Rattle.std.proofs.Common.{ap, sym, ◌∙◌, subst}
use Rattle.std.specs.Option.{is_some}
use Rattle.std.specs.FinMap as fin
use Rattle.expiring_map.specs.Map.{IsFilled}
use Rattle.expiring_map.specs.Kept.{map_kept}
use Rattle.expiring_map.proofs.Seen.{seen-remove, get-seen, is_some-map}
use Rattle.expiring_map.proofs.Filled.{IsFilled-remove}
use Rattle.expiring_map.proofs.map.ExpiringMap.take_out.Goals as goal

pub invariant_of-self : goal.invariant_of-self
invariant_of-self c = record {
  ordered = c.remove.ensures.ordered;
  filled =
      subst IsFilled (sym (ap map_kept c.remove.ensures.entries ∙ seen-remove c.args.key.now c.self.inside.kept.entries c.self.invariant.ordered))
      (IsFilled-remove (map_kept c.self.inside.kept.entries) c.args.key.now c.self.invariant.filled);
}

pub returns-clause-after : goal.returns-clause-after
returns-clause-after c =
    ap map_kept c.remove.ensures.entries ∙ seen-remove c.args.key.now c.self.inside.kept.entries c.self.invariant.ordered
    ∙ ap (λ m. fin.remove m c.args.key.now) c.self.view_is

pub returns-clause-found : goal.returns-clause-found
returns-clause-found c =
    c.is_some.ensures ∙ ap is_some c.remove.ensures.value ∙ is_some-map _ ∙ ap is_some (sym (get-seen c.args.key.now c.self.inside.kept.entries))
    ∙ ap (λ m. is_some (fin.get m c.args.key.now)) c.self.view_is
