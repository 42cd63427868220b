use Rattle.std.proofs.Common.{◌∙◌, arith, length-set, refl}
use Rattle.wire_values.specs.Spelling.{number_spelling}
use Rattle.wire_values.proofs.Groups.{groups_left, next_group}
use Rattle.wire_values.proofs.number.spell_number.Goals as goal

pub loop-left-init : goal.loop-left-init
unfolding number_spelling
loop-left-init c = record { ten = refl; room = omega arith; small = omega arith; so_far = refl }

pub loop-left-preserved : goal.loop-left-preserved
loop-left-preserved c =
    let i = c.loop-left.invariant in
    let left = groups_left c.loop-left.size c.loop-left.left i.room (omega arith) i.small in
    record {
      ten = length-set _ _ _ ∙ i.ten;
      room = left.room;
      small = left.small;
      so_far = next_group c.loop-left.groups c.loop-left.size c.loop-left.left left.room i.ten (omega arith) ∙ i.so_far;
    }
