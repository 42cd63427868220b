-- A partial load by its fields.
use Rattle.std.specs.Prelude.{◌≡◌, ◌+◌, ◌%◌, ◌<◌, ◌≤◌, [], length}
use Rattle.kv_pairs.specs.Growth.{IsFileSize}
use Rattle.loader.specs.PartialLoads.{PartialLoad, added_size, size_in}
use Rattle.loader.specs.declared.partial.PartialLoading.TheInside.{Inside}

-- the load that its fields stand for
abbrev pub partial_load_of : Inside → PartialLoad
partial_load_of l =
    record { kept = l.kept; map = l.map; words = l.words; file_size = l.file_size; asked = l.asked; added = l.added.items }

-- what is true of every partial load, whatever a share tells
pub record IsPartialLoad (p : PartialLoad) : Type 0 where
  pub most : p.words.made ≤ 3
  pub early : p.words.made < 3 → p.added ≡ []
  pub file : IsFileSize p.file_size
  pub whole : length p.added % 4 ≡ 0
  pub few : length p.added < added_size p + 4
  pub room : 0 < length p.added → 4 + size_in p ≤ p.file_size

abbrev pub IsPartUnderWay : Inside → Type 0
IsPartUnderWay l = IsPartialLoad (partial_load_of l)
