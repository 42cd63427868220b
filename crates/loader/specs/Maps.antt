-- The map of an image.
use Rattle.expiring_map.specs.Map.{Map}
use Rattle.loader.specs.declared.loaded.Image.{Image}

-- the pairs that an image holds
abbrev pub map_of_image : Image → Map
map_of_image i = i.map
