-- The events of a write-back, from what is known of the image.
use Rattle.std.specs.Prelude.{◌≡◌, ℕ, ◌^◌, ◌<◌, ◌≤◌, List, [], ◌∷◌, ◌++◌, Option, Some, None, IsSome, length, unwrap_or, nat_lt, ◌==◌, if◌then◌else◌, ⊤}
use Rattle.std.specs.FinMap as fin
use Rattle.expiring_map.specs.Map.{Map}
use Rattle.kv_pairs.specs.Mapped.{packed, packed_size, IsSmall}
use Rattle.kv_pairs.specs.Growth.{grown_size, rewrite_size, IsFileSize}
use Rattle.change_log.specs.declared.change.Act.{Act}
use Rattle.change_log.specs.declared.change.Act.TheVariants as act
use Rattle.change_log.specs.declared.change.Change.{Change}
use Rattle.region_words.specs.Rows.{growth, next_sequence, store_data, store_meta, write_back_stores}
use Rattle.region_words.specs.Making.{Making, rewritten_standing}
use Rattle.region_words.specs.declared.standing.Standing.{Standing}
use Rattle.region_words.specs.declared.event.Mark.TheVariants.{Commit}
use Rattle.region_words.specs.declared.event.Side.TheVariants.{Meta}
use Rattle.region_words.specs.declared.event.What.{What}
use Rattle.region_words.specs.declared.event.What.TheVariants.{Store}
use Rattle.write_back.specs.declared.rewriting.RewriteStop.{RewriteStop}
use Rattle.write_back.specs.declared.rewriting.RewriteStop.TheVariants.{Full, SequenceEnd, Memory}

-- the pairs are written anew for this change
abbrev pub IsWriteBack : Act → Type 0
IsWriteBack (act.Pack now) = ⊤
IsWriteBack act.Clear = ⊤
IsWriteBack _ = ⊥

-- the map that the change leaves can be written to a data file of a store
pub record CanWriteBack (s : Standing) (m : Map) (change : Change) (need : ℕ) : Type 0 where
  pub act : IsWriteBack change.act
  pub file : IsFileSize s.file_size
  pub small : IsSmall m
  pub size : packed_size s.flag m ≤ 2 ^ 30
  pub pairs : fin.len m ≤ 2 ^ 30
  pub bytes : need ≤ 2 ^ 30

-- the size of the file that holds the map and so many bytes more
abbrev pub file_for : Standing → Map → ℕ → Option ℕ
file_for s m need = grown_size (length (packed s.flag m)) need (fin.len m) s.file_size

-- the size to which the file grows, 0 where it doesn't
abbrev pub room_for : Standing → Option ℕ → ℕ
room_for s size = let wanted = unwrap_or size 0 in if nat_lt s.file_size wanted then wanted else 0

-- a fresh store gets the version 3
abbrev pub version_after : Standing → ℕ
version_after s = if s.version == 0 then 3 else s.version

-- a write-back to a file of this size, of which nothing is made yet
abbrev pub rewriting_to : Standing → Map → Change → Option ℕ → Making
rewriting_to s m change size =
    let new = packed s.flag m in
    record {
      events = write_back_stores s size new (Commit change);
      room = room_for s size;
      standing = rewritten_standing s (version_after s) s.flag size new;
    }

abbrev pub rewriting : Standing → Map → Change → ℕ → Making
rewriting s m change need = rewriting_to s m change (file_for s m need)

-- the file has room, and the sequence can be raised
abbrev pub CanBegin : Standing → Map → ℕ → Type 0
CanBegin s m need = IsSome (file_for s m need) × (s.sequence < 0xffffffff)

-- why a write-back isn't begun: the greatest file is too small, else the sequence is at its end, else memory is short
abbrev pub IsRefused : Standing → Map → ℕ → RewriteStop → Type 0
IsRefused s m need (Full size) = (file_for s m need ≡ None) × (size ≡ rewrite_size (length (packed s.flag m)) need)
IsRefused s m need SequenceEnd = IsSome (file_for s m need) × (s.sequence ≡ 0xffffffff)
IsRefused s m need Memory = CanBegin s m need

-- the events before the payload
abbrev pub opening : Standing → ℕ → List What
opening s size = growth s (Some size) ++ next_sequence s ∷ (if s.version == 0 then store_meta 1 3 ∷ [] else [])

-- the events behind the payload, with the change on the checksum
abbrev pub closing : Standing → Change → List What
closing after change =
    store_data 0 after.size ∷ Store Meta 0 after.checksum (Commit change) ∷ store_meta 7 after.size
    ∷ store_meta 8 after.size ∷ store_meta 9 after.checksum ∷ []
