use Rattle.std.proofs.Common.{ap, ◌++◌, ◌∙◌, arith, length-set, refl}
use Rattle.kv_pairs.specs.Lengths.{shortest}
use Rattle.kv_pairs.proofs.Shortest.{groups_left, next_group, end_group}
use Rattle.kv_pairs.proofs.length.write_length.Goals as goal

pub loop-left-init : goal.loop-left-init
unfolding shortest
loop-left-init c = record { five = refl; room = omega arith; small = omega arith; so_far = refl }

pub loop-left-preserved : goal.loop-left-preserved
loop-left-preserved c =
    let i = c.loop-left.invariant in
    let left = groups_left c.loop-left.size c.loop-left.left i.room (omega arith) i.small in
    record {
      five = length-set _ _ _ ∙ i.five;
      room = left.room;
      small = left.small;
      so_far = next_group c.loop-left.groups c.loop-left.size c.loop-left.left left.room i.five (omega arith) ∙ i.so_far;
    }

pub returns-clause-ok : goal.returns-clause-ok
returns-clause-ok c =
    let i = c.loop-left.invariant in
    c.in_ok-extend_from_slice.ensures.items ∙ ap (λ z. c.args.out.now.items ++ z) (end_group c.loop-left.groups c.loop-left.size c.loop-left.left i.room i.five (omega arith) ∙ i.so_far)
