use Rattle.std.proofs.Common.{length, subst, sym, ap, ◌∙◌, arith}
use Rattle.std.specs.FinMap as fin
use Rattle.expiring_map.specs.ValueUntil.{ValueUntil}
use Rattle.expiring_map.specs.Map.{value_until}
use Rattle.expiring_map.proofs.Refold.{order}
use Rattle.kv_pairs.specs.Mapped.{IsSmall}
use Rattle.kv_pairs.proofs.Packing.{small_empty, small_with, one_more}
use Rattle.kv_pairs.proofs.packed.tests.two_pairs.Goals as goal

pub returns : goal.returns
returns c =
    let k = c.in_ok-copy_of.ensures in
    let v = c.in_ok-copy_of-2.ensures in
    let j = c.in_ok-copy_of-3.ensures in
    let w = c.in_ok-copy_of-4.ensures in
    let first = value_until c.in_ok-copy_of-2.field-0 110 in
    let second = value_until c.in_ok-copy_of-4.field-0 0 in
    let none = fin.len-empty order ValueUntil in
    let one = small_with fin.empty c.in_ok-copy_of.field-0 first small_empty (omega (arith, ap length k), omega (arith, ap length v)) (omega (arith, none)) in
    let few = one_more fin.empty c.in_ok-copy_of.field-0 first in
    let two = small_with (fin.insert fin.empty c.in_ok-copy_of.field-0 first) c.in_ok-copy_of-3.field-0 second one (omega (arith, ap length j), omega (arith, ap length w)) (omega (arith, few, none)) in
    let begun = c.in_ok-put.ensures.ok ∙ ap (λ m. fin.insert m c.in_ok-copy_of.field-0 first) c.new-map.ensures in
    subst IsSmall (sym (c.in_ok-put-2.ensures.ok ∙ ap (λ m. fin.insert m c.in_ok-copy_of-3.field-0 second) begun)) two
