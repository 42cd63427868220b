-- A region in memory by its fields.
use Rattle.std.specs.Prelude.{reverse, vec_capacity}
use Rattle.region_words.specs.Local.{Local, Keeps}
use Rattle.region_words.specs.declared.region.LocalRegion.TheInside.{Inside}

abbrev pub local_of : Inside → Local
local_of r =
    record {
      start = record { data_bytes = r.first_data.value.items; meta_bytes = r.first_meta.value.items };
      past = reverse r.journal.items;
      accounts = r.accounts;
      failing = r.failing;
    }

abbrev pub IsKept : Inside → Type 0
IsKept r = Keeps (local_of r) r.data.items r.meta.items r.locks r.kept r.changes (vec_capacity r.journal) (vec_capacity r.data)
