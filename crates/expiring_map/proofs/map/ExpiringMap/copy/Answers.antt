use Rattle.std.proofs.Common.{ap, ◌∙◌}
use Rattle.std.specs.FinMap as fin
use Rattle.expiring_map.proofs.Seen.{AreKept-same, values_copied}
use Rattle.expiring_map.proofs.map.ExpiringMap.copy.Goals as goal

pub invariant_of-result : goal.invariant_of-result
invariant_of-result c = AreKept-same c.self.inside.kept.entries c.in_ok-clone.field-0.entries (values_copied _ _ c.in_ok-clone.ensures.cases) c.self.invariant

pub returns-clause-ok : goal.returns-clause-ok
returns-clause-ok c = ap (λ vs. fin.from_entries vs) (values_copied _ _ c.in_ok-clone.ensures.cases) ∙ c.self.view_is
