use Rattle.std.specs.Prelude.{None}
use Rattle.lock_rules.proofs.Views.{seen_sound, seen_within, apart_fewer}
use Rattle.lock_rules.proofs.table.LockTable.died.Goals as goal

pub returns-then-eq-clause-sound : goal.returns-then-eq-clause-sound
returns-then-eq-clause-sound c = seen_sound c.without_bit-self-inside.result None (c.without_bit-self-inside.type_inv, tt)

pub returns-then-eq-clause-within : goal.returns-then-eq-clause-within
returns-then-eq-clause-within c = seen_within c.without_bit-self-inside.result None (c.without_bit-self-inside.type_inv, tt)

pub returns-else-eq-clause-sound : goal.returns-else-eq-clause-sound
returns-else-eq-clause-sound c = seen_sound c.without_bit-self-inside.result c.self.inside.exclusive (apart_fewer c.self.inside.shared c.without_bit-self-inside.result c.self.inside.exclusive c.self.invariant c.without_bit-self-inside.type_inv c.without_bit-self-inside.ensures.none)

pub returns-else-eq-clause-within : goal.returns-else-eq-clause-within
returns-else-eq-clause-within c = seen_within c.without_bit-self-inside.result c.self.inside.exclusive (apart_fewer c.self.inside.shared c.without_bit-self-inside.result c.self.inside.exclusive c.self.invariant c.without_bit-self-inside.type_inv c.without_bit-self-inside.ensures.none)
