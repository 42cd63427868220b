-- Why no length stands at the front of some bytes.
use Rattle.std.specs.Prelude.{ℕ, Bool, false, List, Option, take, length, nat_lt, nat_le, ◌&&◌, ◌||◌}
use Rattle.std.specs.List.{list_all}
use Rattle.std.specs.Option.{option_map_or}
use Rattle.kv_pairs.specs.Reading.{number_in}

-- the high bit stands on each byte
abbrev pub all_high : List ℕ → Bool
all_high bytes = list_all (λ b. nat_le 128 b) bytes

-- there are fewer than five bytes, and after each of them the length goes on
abbrev pub is_cut : List ℕ → Bool
is_cut bytes = nat_lt (length bytes) 5 && all_high bytes

-- it is 2 ^ 31 or more
abbrev pub is_too_large : Option (ℕ × List ℕ) → Bool
is_too_large number = option_map_or (λ r. nat_le 2147483648 r.0) number false

-- it goes on after five bytes, or the number in them is 2 ^ 31 or more
abbrev pub is_too_long : List ℕ → Bool
is_too_long bytes = (nat_le 5 (length bytes) && all_high (take 5 bytes)) || is_too_large (number_in 5 bytes)
