-- The events of a row that are still to come, made one by one.
use Rattle.std.specs.Prelude.{◌≡◌, ℕ, ◌+◌, List, [], ◌∷◌, ◌++◌, length, max, Option, unwrap_or, Bool, ⊤}
use Rattle.std.specs.FinMap as fin
use Rattle.crc_words.specs.Crc.{crc, crc_from}
use Rattle.expiring_map.specs.Map.{Map}
use Rattle.kv_pairs.specs.Mapped.{packed}
use Rattle.kv_pairs.specs.Growth.{grown_size}
use Rattle.region_words.specs.Rows.{Row, Pack, Clear, Enable, Disable, write_back_stores, switch_stores}
use Rattle.region_words.specs.Standings.{tail_of, tail_bytes}
use Rattle.region_words.specs.Share.{ShareState, Goes, stored}
use Rattle.region_words.specs.Owing.{IsOwing}
use Rattle.region_words.specs.declared.next.Next.{Next}
use Rattle.region_words.specs.declared.next.Next.TheVariants as next
use Rattle.region_words.specs.declared.next.Stored.{Stored}
use Rattle.region_words.specs.declared.next.Stored.TheVariants.{More, Done}
use Rattle.region_words.specs.declared.standing.Standing.{Standing}
use Rattle.region_words.specs.declared.event.Mark.{Mark}
use Rattle.region_words.specs.declared.event.What.{What}
use Rattle.region_words.specs.declared.event.What.TheVariants.{Store, Grow, Lock, Unlock, Died}

-- the events to come, the size to which they grow the file, 0 where they don't, and what is known of the image after them
pub record Making : Type 0 where
  pub events : List What
  pub room : ℕ
  pub standing : Standing

-- the first of these events, without its mark
abbrev pub next_of : List What → Next
next_of [] = next.End
next_of (Store side word value mark ∷ rest) = next.Store side word value
next_of (Grow size ∷ rest) = next.Grow size
next_of (Lock kind ∷ rest) = next.End
next_of (Unlock ∷ rest) = next.End
next_of (Died torn ∷ rest) = next.End

-- whether events are left
abbrev pub stored_of : List What → Stored
stored_of [] = Done
stored_of (what ∷ rest) = More

-- these events, and perhaps more, are to come of a row
abbrev pub IsOwingFirst : List What → ShareState → Type 0
IsOwingFirst events s = (row : Row) × (more : List What) × IsOwing row (events ++ more) s

-- the first of the old events was made, and the others are to come
abbrev pub MakesFirst : List What → List What → ShareState → ShareState → Type 0
MakesFirst old new s t = (first : What) × (old ≡ first ∷ new) × Goes (stored first s) s t

-- the size of the file after a rewrite to this map, from what is known of the image
abbrev pub size_by : Standing → Bool → Map → ℕ → Option ℕ
size_by s flag m need = grown_size (length (packed flag m)) need (fin.len m) s.file_size

-- the events that put this map in the image's place, with room for so many bytes
abbrev pub write_back_by : Standing → Map → ℕ → Mark → List What
write_back_by s m need mark = write_back_stores s (size_by s s.flag m need) (packed s.flag m) mark

-- and those that also store other flags
abbrev pub switch_by : Standing → Bool → ℕ → Map → Mark → List What
switch_by s flag flags m mark = switch_stores s (size_by s flag m 0) flags (packed flag m) mark

-- what is known of an image once an item stands at its end
abbrev pub appended_standing : Standing → List ℕ → Standing
appended_standing s item =
    let bytes = tail_bytes s ++ item in
    record s { size = s.size + length item; checksum = crc_from s.checksum item; tail = tail_of bytes (length bytes) }

-- what is known of the image of this payload once it is written in the old one's place
abbrev pub rewritten_standing : Standing → ℕ → Bool → Option ℕ → List ℕ → Standing
rewritten_standing s version flag size new =
    record {
      sequence = s.sequence + 1;
      version = version;
      flag = flag;
      size = length new;
      checksum = crc new;
      tail = tail_of new (length new);
      file_size = max s.file_size (unwrap_or size 0);
    }

-- the rows that write a payload in the old one's place and leave the flag as it is
abbrev pub IsWriteBack : Row → Type 0
IsWriteBack (Pack now need) = ⊤
IsWriteBack Clear = ⊤
IsWriteBack _ = ⊥

-- the rows that write a payload with the other flag
abbrev pub IsSwitch : Row → Type 0
IsSwitch (Enable now seconds) = ⊤
IsSwitch (Disable now) = ⊤
IsSwitch _ = ⊥
