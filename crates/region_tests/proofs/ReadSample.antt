-- The laws of reads hold of something: a put that another opener appends to a region of whole pages, and the load of what it added.
use Rattle.std.proofs.Common.{◌≡◌, ℕ, List, [], ◌∷◌, ◌++◌, refl, sym, ap, lit<, lit≤, ◌<◌}
use Rattle.std.specs.FinMap as fin
use Rattle.expiring_map.specs.Map.{Map, value_until}
use Rattle.region_words.proofs.WordStores.{Small}
use Rattle.region_words.proofs.Regions.{All-from_Small, joined_bytes, zero_bytes}
use Rattle.region_words.proofs.EqualSequence.{free_resting}
use Rattle.region_words.proofs.PartialLoad.{Loaded, partial_load}
use Rattle.region_tests.proofs.ApartTest.{apart_by, same_list, all_small}
use Rattle.region_words.specs.Apart.{Apart, strings}
use Rattle.std.specs.Prelude.{None, All, replicate}
use Rattle.kv_pairs.specs.Reading.{length_at, read_payload}
use Rattle.meta_record.specs.declared.shown.Shown.TheVariants.{Whole}
use Rattle.std.proofs.lemmas.List.Elements.{All-nil, All-cons}
use Rattle.crc_words.specs.Crc.{crc}
use Rattle.kv_pairs.specs.Lengths.{shortest}
use Rattle.change_log.specs.declared.change.Act.{Act}
use Rattle.change_log.specs.declared.change.Act.TheVariants as act
use Rattle.lock_rules.specs.declared.table.LockKind.TheVariants.{Exclusive}
use Rattle.region_words.specs.Region.{Region, IsRegion, shown}
use Rattle.region_words.specs.Rows.{Append, events_of, store_data, store_meta}
use Rattle.region_words.specs.Lawful.{Between, Within, Reaches, Lawful, IsPermitted, phase_with, map_after}
use Rattle.region_words.specs.declared.event.Side.TheVariants.{Meta}
use Rattle.region_words.specs.declared.event.Mark.TheVariants.{Commit}
use Rattle.region_words.specs.declared.event.What.{What}
use Rattle.region_words.specs.declared.event.What.TheVariants.{Store, Lock, Unlock}
use Rattle.region_words.specs.declared.event.Event.{Event}
use Rattle.region_tests.proofs.Samples.{bytes_of, meta, one_pair}
use Rattle.region_words.specs.Images.{IsKept}

abbrev put : Act
put = act.Put (0x6b ∷ []) (0x01 ∷ 0x64 ∷ []) 0

abbrev by_two : What → Event
by_two what = record { who = 2; what = what }

abbrev header_store : List What
header_store =
    store_data 0 16 ∷ Store Meta 0 (crc (one_pair ++ 0x01 ∷ 0x6b ∷ 0x02 ∷ 0x01 ∷ 0x64 ∷ [])) (Commit (record { maker = 2; act = put })) ∷ store_meta 7 16 ∷ []

-- a store of one pair, in files of one page
abbrev start : Region
start =
    record {
      data_bytes = bytes_of (11 ∷ []) ++ one_pair ++ replicate 4081 0;
      meta_bytes = meta 0x3a6595d3 3 1 11 4 0x4c9985d1 0 ++ replicate 3984 0;
    }

start_shows : shown start ≡ Whole 11
unfolding shown crc read_payload length_at
start_shows = refl

abbrev locked : List Event
locked = by_two (Lock Exclusive) ∷ []

append_row : events_of start (map_after start locked) 2 (Append put)
    ≡ store_data 3 0x01636261 ∷ store_data 4 0x6401026b ∷ store_data 0 16
    ∷ Store Meta 0 (crc (one_pair ++ 0x01 ∷ 0x6b ∷ 0x02 ∷ 0x01 ∷ 0x64 ∷ [])) (Commit (record { maker = 2; act = put })) ∷ store_meta 7 16 ∷ []
unfolding events_of shortest shown crc read_payload length_at
append_row = refl

abbrev begun : List Event
begun = by_two (store_data 3 0x01636261) ∷ locked

key_bytes : All (λ b. b < 256) (0x6b ∷ [])
key_bytes = All-cons (λ b. b < 256) 0x6b [] (lit< tt) (All-nil (λ b. b < 256))

value_bytes : All (λ b. b < 256) (0x01 ∷ 0x64 ∷ [])
value_bytes = All-cons (λ b. b < 256) 0x01 (0x64 ∷ []) (lit< tt) (All-cons (λ b. b < 256) 0x64 [] (lit< tt) (All-nil (λ b. b < 256)))

lead_locked : Reaches start locked (Between None)
lead_locked = (Between None, refl, refl)

lead_begun : Reaches start begun (Within (Append put) (store_data 4 0x6401026b ∷ header_store))
unfolding shortest
lead_begun = (
  Between None,
  lead_locked,
  (
    Append put,
    store_data 4 0x6401026b ∷ header_store,
    ((11, start_shows, (lit< tt, lit≤ tt), ((lit< tt, lit≤ tt, key_bytes), lit< tt, lit≤ tt, value_bytes, lit< tt, λ _. refl), λ need e. absurd cc), sym append_row, refl),
    refl,
  ),
)

permitted_lock : IsPermitted start [] (by_two (Lock Exclusive))
permitted_lock = record { maker = (lit≤ tt, lit≤ tt); alive = refl; possible = (refl, refl); accepted = λ _. refl }

permitted_store : IsPermitted start locked (by_two (store_data 3 0x01636261))
permitted_store = record { maker = (lit≤ tt, lit≤ tt); alive = refl; possible = (refl, lit≤ tt, lit< tt, tt, tt); accepted = λ _. refl }

lawful_begun : Lawful start begun
lawful_begun = ((tt, permitted_lock, λ _. (Between None, lead_locked)), permitted_store, λ _. (_, lead_begun))

-- the past after the second word, the header, the checksum, the record's size, and the end of the hold
abbrev stored : List Event
stored = by_two (store_data 4 0x6401026b) ∷ begun

abbrev headed : List Event
headed = by_two (store_data 0 16) ∷ stored

abbrev marked : List Event
marked = by_two (Store Meta 0 (crc (one_pair ++ 0x01 ∷ 0x6b ∷ 0x02 ∷ 0x01 ∷ 0x64 ∷ [])) (Commit (record { maker = 2; act = put }))) ∷ headed

abbrev sized : List Event
sized = by_two (store_meta 7 16) ∷ marked

abbrev ended : List Event
ended = by_two Unlock ∷ sized

lead_stored : Reaches start stored (Within (Append put) header_store)
lead_stored = (_, lead_begun, (Append put, header_store, (refl, refl), refl))

lead_headed : (rest : List What) → header_store ≡ store_data 0 16 ∷ rest → Reaches start headed (phase_with (Append put) rest)
lead_headed rest e = (_, lead_stored, (Append put, rest, (refl, sym e), refl))

lead_ended : Reaches start ended (Between None)
lead_ended = (_, (_, (_, lead_headed _ refl, (_, _, (refl, refl), refl)), (_, _, (refl, refl), refl)), ((None, refl), refl))

lawful_sample : Lawful start ended
unfolding crc
lawful_sample = (
  (
    (
      (
        (
          lawful_begun,
          record { maker = (lit≤ tt, lit≤ tt); alive = refl; possible = (refl, lit≤ tt, lit< tt, tt, tt); accepted = λ _. refl },
          λ _. (_, lead_stored),
        ),
        record { maker = (lit≤ tt, lit≤ tt); alive = refl; possible = (refl, lit≤ tt, lit< tt, tt, tt); accepted = λ _. refl },
        λ _. (_, lead_headed _ refl),
      ),
      record { maker = (lit≤ tt, lit≤ tt); alive = refl; possible = (refl, lit≤ tt, lit< tt, λ e. absurd cc, refl); accepted = λ _. refl },
      λ _. (_, (_, lead_headed _ refl, (_, _, (refl, refl), refl))),
    ),
    record { maker = (lit≤ tt, lit≤ tt); alive = refl; possible = (refl, lit≤ tt, lit< tt, λ e. absurd cc, tt); accepted = λ _. refl },
    λ _. (_, (_, (_, lead_headed _ refl, (_, _, (refl, refl), refl)), (_, _, (refl, refl), refl))),
  ),
  record { maker = (lit≤ tt, lit≤ tt); alive = refl; possible = refl; accepted = λ _. refl },
  λ _. (_, lead_ended),
)

longer : List ℕ
longer = one_pair ++ 0x01 ∷ 0x6b ∷ 0x02 ∷ 0x01 ∷ 0x64 ∷ []

apart_sample : Apart start ended
unfolding crc same_list longer
apart_sample = apart_by (one_pair ∷ longer ∷ (0xff ∷ 0xff ∷ 0xff ∷ 0x07 ∷ []) ∷ []) (strings start ended) refl refl

-- the pair that was kept
abbrev pair : Map
pair = fin.insert fin.empty (0x6b ∷ []) (value_until (0x03 ∷ 0x61 ∷ 0x62 ∷ 0x63 ∷ []) 0)

kept_start : IsKept start [] 11 pair
unfolding shown crc read_payload length_at
kept_start = record { rests = free_resting start [] tt refl; shows = start_shows; maps = refl }

start_is : IsRegion start
start_is =
    record {
      data_file =
          record {
            pages = refl;
            not_empty = lit< tt;
            most = lit≤ tt;
            small = All-from_Small start.data_bytes (joined_bytes (bytes_of (11 ∷ []) ++ one_pair) (replicate 4081 0) front_small (zero_bytes 4081));
          };
      meta_file =
          record {
            pages = refl;
            not_empty = lit< tt;
            most = lit≤ tt;
            small = All-from_Small start.meta_bytes (joined_bytes (meta 0x3a6595d3 3 1 11 4 0x4c9985d1 0) (replicate 3984 0) meta_small (zero_bytes 3984));
          };
    }
  where
    front_small : Small (bytes_of (11 ∷ []) ++ one_pair)
    front_small = all_small (bytes_of (11 ∷ []) ++ one_pair) refl

    meta_small : Small (meta 0x3a6595d3 3 1 11 4 0x4c9985d1 0)
    meta_small = all_small (meta 0x3a6595d3 3 1 11 4 0x4c9985d1 0) refl

-- what the other opener appended is loaded from where the kept bytes end
load_sample : Loaded start [] 11 pair kept_start ended start_is lawful_sample apart_sample refl
unfolding crc
load_sample = partial_load start [] 11 pair kept_start ended start_is lawful_sample apart_sample refl (lit≤ tt) refl

-- one item, a put
items_sample : load_sample.items ≡ record { key = 0x6b ∷ []; value = 0x01 ∷ 0x64 ∷ [] } ∷ []
unfolding length_at
items_sample = ap (λ x. x.0) (sym load_sample.reads)
