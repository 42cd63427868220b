use Rattle.std.proofs.Common.{◌≡◌, ap, sym, ◌∙◌, subst, arith, rules}
use Rattle.std.specs.Prelude.{filter, map, All}
use Rattle.std.specs.FinMap as fin
use Rattle.std.proofs.lemmas.Map.Made.{filter_same_pairs}
use Rattle.expiring_map.specs.Map.{HasContent}
use Rattle.expiring_map.specs.Kept.{map_kept, pair_kept}
use Rattle.expiring_map.specs.Live.{live_part}
use Rattle.expiring_map.proofs.Seen.{len-seen}
use Rattle.expiring_map.proofs.Moments.{lives, seen-live, IsFilled-seen, all_content, All-live}
use Rattle.expiring_map.proofs.map.ExpiringMap.drop_expired.Goals as goal

left : (c : goal.After-len) → c.retain.new.self.entries ≡ filter (lives c.args.now) c.self.inside.kept.entries
left c = filter_same_pairs _ (lives c.args.now) _ (λ k v b w f' t. search rules) _ _ c.retain.ensures.filtered

pub invariant_of-self : goal.invariant_of-self
invariant_of-self c = record {
  ordered = c.retain.ensures.ordered;
  filled = IsFilled-seen c.retain.new.self.entries c.retain.ensures.ordered
      (subst (λ es. All HasContent (map pair_kept es)) (sym (left c)) (All-live c.args.now c.self.inside.kept.entries (all_content c.self.inside.kept.entries c.self.invariant.ordered c.self.invariant.filled)));
}

pub returns-clause-after : goal.returns-clause-after
returns-clause-after c =
    ap map_kept (left c) ∙ seen-live c.args.now c.self.inside.kept.entries c.self.invariant.ordered ∙ ap (λ m. live_part m c.args.now) c.self.view_is

pub returns-clause-count : goal.returns-clause-count
returns-clause-count c =
    let before : fin.len c.args.self.now ≡ c.len-before.result = ap fin.len (sym c.self.view_is) ∙ len-seen c.self.inside.kept.entries c.self.invariant.ordered ∙ sym c.len-before.ensures.len in
    let after : fin.len (map_kept c.retain.new.self.entries) ≡ c.len.result = len-seen c.retain.new.self.entries c.retain.ensures.ordered ∙ sym c.len.ensures.len in
    omega (arith, before, after, c.retain.ensures.bound)
