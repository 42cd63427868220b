use Rattle.std.proofs.Common.{◌≡◌, ap, sym, ◌∙◌, subst, rules}
use Rattle.std.specs.Prelude.{map, All}
use Rattle.std.proofs.lemmas.Map.Made.{map_same_pairs}
use Rattle.expiring_map.specs.Map.{HasContent}
use Rattle.expiring_map.specs.Kept.{map_kept, pair_kept}
use Rattle.expiring_map.specs.Live.{with_expiry}
use Rattle.expiring_map.proofs.Moments.{lasting, all_lasting, seen-lasting, IsFilled-seen, all_content, All-lasting}
use Rattle.expiring_map.proofs.map.ExpiringMap.set_expiry.Goals as goal

all_set : (c : goal.After-retain) → c.retain.new.self.entries ≡ all_lasting c.args.expiry c.self.inside.kept.entries
all_set c = map_same_pairs _ (lasting c.args.expiry) _ (λ k v b w f' t. search rules) _ _ c.retain.ensures.filtered

pub invariant_of-self : goal.invariant_of-self
invariant_of-self c = record {
  ordered = c.retain.ensures.ordered;
  filled = IsFilled-seen c.retain.new.self.entries c.retain.ensures.ordered
      (subst (λ es. All HasContent (map pair_kept es)) (sym (all_set c)) (All-lasting c.args.expiry c.self.inside.kept.entries (all_content c.self.inside.kept.entries c.self.invariant.ordered c.self.invariant.filled)));
}

pub returns : goal.returns
returns c =
    ap map_kept (all_set c) ∙ seen-lasting c.args.expiry c.self.inside.kept.entries c.self.invariant.ordered ∙ ap (with_expiry c.args.expiry) c.self.view_is
