use Rattle.std.proofs.Common.{◌≡◌, [], ◌∷◌, sym, subst, ap, ◌∙◌}
use Rattle.std.specs.FinMap as fin
use Rattle.expiring_map.specs.Map.{value_until}
use Rattle.write_back.specs.Rewrites.{CanWriteBack}
use Rattle.maker_tests.proofs.WriteBackSample.{change, after, can_grow}
use Rattle.maker_tests.proofs.write_backs.packing_pair.Goals as goal

pub start_rewrite-requires : goal.start_rewrite-requires
start_rewrite-requires c =
    let key = c.in_ok-copy_of.field-0 in
    let value = c.in_ok-copy_of-2.field-0 in
    let made : c.put.new.self ≡ fin.insert fin.empty (0x61 ∷ []) (value_until c.args.value.now 0) =
    c.in_ok-put.ensures.ok
    ∙ (
    ap (λ m. fin.insert m key (value_until value 0)) c.new-map.ensures
    ∙ (
    ap (λ k. fin.insert fin.empty k (value_until value 0)) c.in_ok-copy_of.ensures
    ∙ ap (λ v. fin.insert fin.empty (0x61 ∷ []) (value_until v 0)) c.in_ok-copy_of-2.ensures
    )
    ) in
    subst (λ m. CanWriteBack after m change 85) (sym made) (can_grow c.args.value.now c.requires)
