use Rattle.std.proofs.Common.{◌∙◌, ℕ, List, arith, subst, sym}
use Rattle.std.proofs.lemmas.List.{length-replicate}
use Rattle.std.specs.Prelude.{false, replicate}
use Rattle.kv_pairs.specs.Fits.{FitsIn}
use Rattle.kv_pairs.specs.Growth.{largest}
use Rattle.region_words.proofs.Regions.{All-from_Small, zero_bytes}
use Rattle.maker_tests.proofs.LargePair.{fits, with_parts}
use Rattle.maker_tests.proofs.switches.one_pair.Goals as goal

pub returns : goal.returns
returns c =
    let zeros : List ℕ = replicate c.args.size 0 in
    let size = length-replicate {A = ℕ} c.args.size 0 in
    let made = fits zeros (All-from_Small zeros (zero_bytes c.args.size)) (omega (arith, size, c.requires.least)) (omega (arith, size, c.requires.most)) in
    let put = with_parts c.new-map.ensures c.in_ok-copy_of.ensures (c.of_vec.ensures ∙ c.in_ok-vec.ensures.items_if_clones_equal (λ x e. e)) in
    subst (λ m. FitsIn false m largest) (sym (c.in_ok-put.ensures.ok ∙ put)) made
