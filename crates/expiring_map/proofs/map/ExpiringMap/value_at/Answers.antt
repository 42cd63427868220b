use Rattle.std.proofs.Common.{ap, sym, ◌∙◌, arith}
use Rattle.std.proofs.lemmas.Grind.{common_steps}
use Rattle.std.proofs.lemmas.Bool.Decides.{nat_tests}
use Rattle.std.specs.FinMap as fin
use Rattle.expiring_map.proofs.Seen.{get-seen}
use Rattle.expiring_map.proofs.map.ExpiringMap.value_at.Goals as goal

pub returns-in_err-kept : goal.returns-in_err-kept
returns-in_err-kept c =
    let at = ap (λ m. fin.get m c.args.key.now) (sym c.self.view_is) ∙ get-seen c.args.key.now c.self.inside.kept.entries in
    grind (arith, common_steps, nat_tests, at)

pub returns-then-not-is_live : goal.returns-then-not-is_live
returns-then-not-is_live c =
    let at = ap (λ m. fin.get m c.args.key.now) (sym c.self.view_is) ∙ get-seen c.args.key.now c.self.inside.kept.entries in
    grind (arith, common_steps, nat_tests, at)

pub returns : goal.returns
returns c =
    let at = ap (λ m. fin.get m c.args.key.now) (sym c.self.view_is) ∙ get-seen c.args.key.now c.self.inside.kept.entries in
    grind (arith, common_steps, nat_tests, at)
