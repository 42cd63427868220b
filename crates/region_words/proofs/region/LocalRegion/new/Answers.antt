use Rattle.std.proofs.Common.{◌≡◌, ◌<◌, sym, subst, ◌∙◌}
use Rattle.std.specs.Prelude.{None}
use Rattle.region_words.specs.Opening.{size_over}
use Rattle.region_words.specs.Stores.{filled_up}
use Rattle.std.specs.Prelude.{All}
use Rattle.region_words.proofs.Openings.{keeps_opening}
use Rattle.region_words.proofs.region.LocalRegion.new.Goals as goal

pub invariant_of-result : goal.invariant_of-result
invariant_of-result c =
    let fits : size_over c.args.body.items c.args.meta.items ≡ None =
    sym (λ i. size_over (c.deref.ensures.value i) (c.deref-2.ensures.value i)) ∙ c.in_ok-check_sizes.ensures.ok in
    let body : All (λ b. b < 256) (filled_up c.args.body.items) = subst (λ xs. All (λ b. b < 256) xs) (c.deref-3.ensures.value ∙ c.in_ok-data.ensures.ok) c.are_bytes.ensures in
    let meta : All (λ b. b < 256) (filled_up c.args.meta.items) = subst (λ xs. All (λ b. b < 256) xs) (c.deref-4.ensures.value ∙ c.in_ok-meta.ensures.ok) c.are_bytes-2.ensures in
    rw (c.of.ensures, c.of-2.ensures, c.none.ensures, c.new.ensures.value, c.new-2.ensures.items, c.new-4.ensures, c.new-3.ensures.items, c.in_ok-data.ensures.ok, c.in_ok-meta.ensures.ok)
    (keeps_opening c.args.body.items c.args.meta.items _ _ fits body meta)
