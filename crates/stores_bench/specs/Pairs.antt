-- Maps that are written back.
use Rattle.std.specs.Prelude.{◌^◌, ◌≤◌, false}
use Rattle.std.specs.FinMap as fin
use Rattle.expiring_map.specs.Map.{Map}
use Rattle.kv_pairs.specs.Mapped.{packed_size, IsSmall, IsPackable}

-- a map as it is read from a payload that fits a file
pub record IsRead (m : Map) : Type 0 where
  pub small : IsSmall m
  pub packs : IsPackable false m

-- and that fits a file again
pub record CanBeWritten (m : Map) : Type 0 where
  pub read : IsRead m
  pub size : packed_size false m ≤ 2 ^ 26
  pub pairs : fin.len m ≤ 2 ^ 26
