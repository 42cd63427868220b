-- Were the sequence peeked first and the checksum then, equal words would prove nothing: a Clear of an empty map stores the same four bytes again.
use Rattle.std.proofs.Common.{◌≡◌, ℕ, false, List, [], ◌∷◌, ◌++◌, refl, sym, lit<, lit≤}
use Rattle.std.specs.Prelude.{None, IsSome, replicate}
use Rattle.std.specs.FinMap as fin
use Rattle.std.specs.Ordering.{nat_cmp}
use Rattle.std.specs.Cmp.Lexicographic.{slice_cmp}
use Rattle.crc_words.specs.Crc.{crc}
use Rattle.expiring_map.specs.Map.{Map}
use Rattle.expiring_map.specs.ValueUntil.{ValueUntil}
use Rattle.kv_pairs.specs.Reading.{length_at, read_payload}
use Rattle.kv_pairs.specs.Growth.{grown_size}
use Rattle.meta_record.specs.declared.shown.Shown.TheVariants.{Whole}
use Rattle.change_log.specs.declared.change.Act.TheVariants as act
use Rattle.lock_rules.specs.declared.table.LockKind.TheVariants.{Exclusive}
use Rattle.region_words.specs.Region.{Region, IsRegion, shown}
use Rattle.region_words.specs.Past.{changes_of}
use Rattle.region_words.specs.Rows.{Clear, events_of, store_data, store_meta, size_after}
use Rattle.region_words.specs.Apart.{Apart, strings}
use Rattle.region_words.specs.Lawful.{Between, Within, Reaches, Lawful, map_after}
use Rattle.region_words.specs.declared.event.Side.TheVariants.{Meta}
use Rattle.region_words.specs.declared.event.Mark.TheVariants.{Commit}
use Rattle.region_words.specs.declared.event.What.{What}
use Rattle.region_words.specs.declared.event.What.TheVariants.{Store, Lock}
use Rattle.region_words.specs.declared.event.Event.{Event}
use Rattle.region_tests.proofs.Samples.{bytes_of, meta}
use Rattle.region_words.proofs.MapLemmas.{packed-empty}
use Rattle.region_words.proofs.Regions.{All-from_Small, joined_bytes, zero_bytes}
use Rattle.region_tests.proofs.ApartTest.{apart_by, same_list, all_small}
use Rattle.region_words.proofs.EqualSequence.{free_resting}
use Rattle.region_words.specs.Images.{IsKept, checksum_at, sequence_at}

abbrev nothing : List ℕ
nothing = 0xff ∷ 0xff ∷ 0xff ∷ 0x07 ∷ []

-- an empty map that was cleared before, in files of one page
abbrev start : Region
start =
    record {
      data_bytes = bytes_of (4 ∷ []) ++ nothing ++ replicate 4088 0;
      meta_bytes = meta 0x4c9985d1 3 1 4 4 0x4c9985d1 0 ++ replicate 3984 0;
    }

abbrev no_pairs : Map
no_pairs = fin.empty

start_shows : shown start ≡ Whole 4
unfolding shown crc read_payload length_at
start_shows = refl

kept : IsKept start [] 4 no_pairs
unfolding shown crc read_payload length_at
kept = record { rests = free_resting start [] tt refl; shows = start_shows; maps = refl }

start_is : IsRegion start
start_is =
    record {
      data_file =
          record {
            pages = refl;
            not_empty = lit< tt;
            most = lit≤ tt;
            small = All-from_Small start.data_bytes (joined_bytes (bytes_of (4 ∷ []) ++ nothing) (replicate 4088 0) (all_small (bytes_of (4 ∷ []) ++ nothing) refl) (zero_bytes 4088));
          };
      meta_file =
          record {
            pages = refl;
            not_empty = lit< tt;
            most = lit≤ tt;
            small = All-from_Small start.meta_bytes (joined_bytes (meta 0x4c9985d1 3 1 4 4 0x4c9985d1 0) (replicate 3984 0) (all_small (meta 0x4c9985d1 3 1 4 4 0x4c9985d1 0) refl) (zero_bytes 3984));
          };
    }

abbrev by_two : What → Event
by_two what = record { who = 2; what = what }

abbrev marked_store : What
marked_store = Store Meta 0 0x4c9985d1 (Commit (record { maker = 2; act = act.Clear }))

abbrev last_stores : List What
last_stores = store_meta 7 4 ∷ store_meta 8 4 ∷ store_meta 9 0x4c9985d1 ∷ []

abbrev locked : List Event
locked = by_two (Lock Exclusive) ∷ []

abbrev raised : List Event
raised = by_two (store_meta 2 2) ∷ locked

abbrev stored : List Event
stored = by_two (store_data 1 0x07ffffff) ∷ raised

abbrev headed : List Event
headed = by_two (store_data 0 4) ∷ stored

abbrev marked : List Event
marked = by_two marked_store ∷ headed

clear_row : events_of start (map_after start locked) 2 Clear ≡ store_meta 2 2 ∷ store_data 1 0x07ffffff ∷ store_data 0 4 ∷ marked_store ∷ last_stores
unfolding events_of grown_size crc
clear_row = rw (packed-empty false, fin.len-empty (slice_cmp nat_cmp) ValueUntil) refl

has_size : IsSome (size_after start (map_after start locked) Clear)
unfolding grown_size
has_size = rw (packed-empty false) refl

lead_locked : Reaches start locked (Between None)
lead_locked = (Between None, refl, refl)

lead_raised : Reaches start raised (Within Clear (store_data 1 0x07ffffff ∷ store_data 0 4 ∷ marked_store ∷ last_stores))
lead_raised =
    (Between None, lead_locked, (Clear, store_data 1 0x07ffffff ∷ store_data 0 4 ∷ marked_store ∷ last_stores, (((4, start_shows), (lit< tt, has_size)), sym clear_row, refl), refl))

lead_stored : Reaches start stored (Within Clear (store_data 0 4 ∷ marked_store ∷ last_stores))
lead_stored = (_, lead_raised, (Clear, store_data 0 4 ∷ marked_store ∷ last_stores, (refl, refl), refl))

lead_headed : Reaches start headed (Within Clear (marked_store ∷ last_stores))
lead_headed = (_, lead_stored, (Clear, marked_store ∷ last_stores, (refl, refl), refl))

lead_marked : Reaches start marked (Within Clear last_stores)
lead_marked = (_, lead_headed, (Clear, last_stores, (refl, refl), refl))

lawful : Lawful start marked
lawful = (
  (
    (
      (
        (tt, record { maker = (lit≤ tt, lit≤ tt); alive = refl; possible = (refl, refl); accepted = λ _. refl }, λ _. (Between None, lead_locked)),
        record { maker = (lit≤ tt, lit≤ tt); alive = refl; possible = (refl, lit≤ tt, lit< tt, λ e. absurd cc, tt); accepted = λ _. refl },
        λ _. (_, lead_raised),
      ),
      record { maker = (lit≤ tt, lit≤ tt); alive = refl; possible = (refl, lit≤ tt, lit< tt, tt, tt); accepted = λ _. refl },
      λ _. (_, lead_stored),
    ),
    record { maker = (lit≤ tt, lit≤ tt); alive = refl; possible = (refl, lit≤ tt, lit< tt, tt, tt); accepted = λ _. refl },
    λ _. (_, lead_headed),
  ),
  record { maker = (lit≤ tt, lit≤ tt); alive = refl; possible = (refl, lit≤ tt, lit< tt, λ e. absurd cc, refl); accepted = λ _. refl },
  λ _. (_, lead_marked),
)

apart : Apart start marked
unfolding crc same_list
apart = apart_by (nothing ∷ []) (strings start marked) refl refl

-- the sequence is peeked before these events and the checksum after them, and a change was made
abbrev IsPeekedSoundly : Type 0
IsPeekedSoundly =
    (start : Region) (after mid past : List Event) (n : ℕ) (m : Map) → IsRegion start → Lawful start (after ++ (mid ++ past)) → Apart start (after ++ (mid ++ past)) →
    IsKept start past n m → sequence_at start (mid ++ past) ≡ sequence_at start past → checksum_at start (after ++ (mid ++ past)) ≡ checksum_at start past →
    changes_of (after ++ (mid ++ past)) ≡ changes_of past

wrong_order : IsPeekedSoundly → ⊥
wrong_order sound =
    let same : changes_of marked ≡ [] = sound start marked [] [] 4 no_pairs start_is lawful apart kept refl refl in
    cc
