use Rattle.std.proofs.Common.{ap, sym, ◌∙◌, subst}
use Rattle.expiring_map.specs.Map.{IsFilled}
use Rattle.expiring_map.specs.Kept.{map_kept}
use Rattle.expiring_map.proofs.Seen.{seen-insert}
use Rattle.expiring_map.proofs.Filled.{IsFilled-insert}
use Rattle.expiring_map.proofs.map.ExpiringMap.put.Goals as goal

pub invariant_of-self-2 : goal.invariant_of-self-2
invariant_of-self-2 c = record {
  ordered = c.insert.ensures.ordered;
  filled =
      subst IsFilled (sym (ap map_kept c.in_ok-insert.ensures.entries ∙ seen-insert c.self.inside.kept.entries c.into_vec.result _))
      (IsFilled-insert (map_kept c.self.inside.kept.entries) c.into_vec.result.items _ (λ e. c.requires.key (sym c.into_vec.ensures ∙ e)) c.requires.value c.self.invariant.filled);
}

pub returns-clause-ok : goal.returns-clause-ok
returns-clause-ok c =
    ap map_kept c.in_ok-insert.ensures.entries ∙ seen-insert c.self.inside.kept.entries c.into_vec.result _
    ∙ cc (c.into_vec.ensures, c.self.view_is)
