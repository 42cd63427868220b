use Rattle.std.specs.Prelude.{ℕ, zero, suc, ◌+◌, ◌-◌, ◌*◌, ◌%◌, List, [], ◌∷◌, ◌++◌, Option, Some, None, length, take, drop, option_and_then, option_map, nat_lt, nat_le, ◌==◌, if◌then◌else◌}
use Rattle.std.specs.Option.{option_map_or}
use Rattle.kv_pairs.specs.declared.item.Item.{Item}

-- Reading gives what stands at the front, and the bytes behind it; nothing where no such thing stands there.
infixl 10 ◌>>=◌
abbrev pub ◌>>=◌ : {A B : Type 0} → Option A → (A → Option B) → Option B
o >>= f = option_and_then f o

-- a number in at most k bytes
abbrev pub number_in : ℕ → List ℕ → Option (ℕ × List ℕ)
number_in zero bytes = None
number_in (suc k) [] = None
number_in (suc k) (b ∷ bs) =
    if nat_lt b 128 then Some (b, bs) else option_map (λ r. (b % 128 + 128 * r.0, r.1)) (number_in k bs)

-- a length: a number in at most five bytes, below 2 ^ 31
unfoldable pub length_at : List ℕ → Option (ℕ × List ℕ)
length_at bytes = do
  r ← number_in 5 bytes
  if nat_lt r.0 2147483648 then Some r else None

-- so many bytes
abbrev pub bytes_at : ℕ → List ℕ → Option (List ℕ × List ℕ)
bytes_at n bytes = if nat_le n (length bytes) then Some (take n bytes, drop n bytes) else None

-- a length, and so many bytes
abbrev pub text_at : List ℕ → Option (List ℕ × List ℕ)
text_at bytes = do
  n ← length_at bytes
  bytes_at n.0 n.1

-- a unit: no item where its first length is 0
abbrev pub unit_at : List ℕ → Option (List Item × List ℕ)
unit_at bytes = do
  key ← text_at bytes
  if length key.0 == 0 then Some ([], key.1) else do
    value ← text_at key.1
    Some (record { key = key.0; value = value.0 } ∷ [], value.1)

-- the items of the whole units at the front, at most k units, and the bytes behind them
abbrev pub units_in : ℕ → List ℕ → List Item × List ℕ
units_in zero bytes = ([], bytes)
units_in (suc k) bytes =
    option_map_or (λ u. let more = units_in k u.1 in (u.0 ++ more.0, more.1)) (unit_at bytes) ([], bytes)

-- each unit takes a byte at least
abbrev pub units_at : List ℕ → List Item × List ℕ
units_at bytes = units_in (length bytes) bytes

-- the bytes that these units take
abbrev pub run_size : List ℕ → ℕ
run_size bytes = length bytes - length (units_at bytes).1

-- the items that a payload begins with, as far as it can be read, and the bytes behind them
unfoldable pub read_payload : List ℕ → List Item × List ℕ
read_payload bytes = option_map_or (λ n. units_at n.1) (length_at bytes) ([], bytes)

-- the items of a payload, where it can be read to its end
abbrev pub items_of : List ℕ → Option (List Item)
items_of bytes = let read = read_payload bytes in if length read.1 == 0 then Some read.0 else None

-- the items of the longest front that has items, and its size
abbrev pub greedy_items : List ℕ → List Item
greedy_items bytes = (read_payload bytes).0

abbrev pub greedy_size : List ℕ → ℕ
greedy_size bytes = length bytes - length (read_payload bytes).1
