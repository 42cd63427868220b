use Rattle.std.proofs.Common.{[], ◌∷◌, refl, negsuc, lit<, lit≤, arith, rules}
use Rattle.wire_values.specs.Values.{SpellsValue}
use Rattle.wire_values.specs.declared.value.Value.TheVariants as value

minus_one : SpellsValue (0xff ∷ 0xff ∷ 0xff ∷ 0xff ∷ 0xff ∷ 0xff ∷ 0xff ∷ 0xff ∷ 0xff ∷ 0x01 ∷ []) (value.I32 (negsuc 0))
minus_one = (search rules, record { chain = omega arith; most = lit≤ tt; number = refl; below = lit< tt })
