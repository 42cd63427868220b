-- A pair that a map lends.
use Rattle.expiring_map.specs.declared.pair.Pair.{Pair}
use Rattle.expiring_map.specs.declared.iter.PairRef.{PairRef}

-- the pair that is lent
abbrev pub lent : PairRef → Pair
lent r = record { key = r.key.now; value = r.value.now; expiry = r.expiry }
