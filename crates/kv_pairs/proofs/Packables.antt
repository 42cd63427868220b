-- A map that can be packed, said in two ways.
use Rattle.std.proofs.Common.{ℕ, Bool, List}
use Rattle.expiring_map.specs.ValueUntil.{ValueUntil}
use Rattle.expiring_map.specs.Map.{Map}
use Rattle.kv_pairs.specs.Mapped.{IsPackablePair, IsPackable}
use Rattle.kv_pairs.proofs.GoodItems.{Small-from, Small-to}
use Rattle.kv_pairs.proofs.Packing.{Packs, Packable}

to_pair : (flag : Bool) (key : List ℕ) (d : ValueUntil) → Packs flag key d → IsPackablePair flag key d
to_pair flag key d p =
    record {
      key_some = p.key_some;
      key_short = p.key_short;
      key_bytes = Small-to key p.key_small;
      value_some = p.value_some;
      value_short = p.value_short;
      value_bytes = Small-to d.value p.value_small;
      expiry_small = p.expiry_small;
      no_expiry = p.no_expiry;
    }

from_pair : (flag : Bool) (key : List ℕ) (d : ValueUntil) → IsPackablePair flag key d → Packs flag key d
from_pair flag key d p =
    record {
      key_some = p.key_some;
      key_short = p.key_short;
      key_small = Small-from key p.key_bytes;
      value_some = p.value_some;
      value_short = p.value_short;
      value_small = Small-from d.value p.value_bytes;
      expiry_small = p.expiry_small;
      no_expiry = p.no_expiry;
    }

pub to_packable : (flag : Bool) (m : Map) → Packable flag m → IsPackable flag m
to_packable flag m p key d e = to_pair flag key d (p key d e)

pub from_packable : (flag : Bool) (m : Map) → IsPackable flag m → Packable flag m
from_packable flag m p key d e = from_pair flag key d (p key d e)
