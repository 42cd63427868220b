-- A load by its fields.
use Rattle.loader.specs.Loads.{Load, IsLoad}
use Rattle.loader.specs.declared.loading.Loading.TheInside.{Inside}

-- the load that its fields stand for
abbrev pub load_of : Inside → Load
load_of l = record { first = l.first; payload = l.payload.items; outlook = l.outlook }

-- what is true of its fields
abbrev pub IsUnderWay : Inside → Type 0
IsUnderWay l = IsLoad (load_of l)
