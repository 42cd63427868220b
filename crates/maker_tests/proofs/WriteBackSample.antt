-- A fresh region in memory: its holder may write no pairs to it.
use Rattle.std.proofs.Common.{◌≡◌, ℕ, ◌<◌, ◌≤◌, ◌^◌, List, [], ◌∷◌, ◌++◌, length, false, refl, sym, subst, ap, ◌∙◌, lit≤, lit<, arith, inl, length-append}
use Rattle.std.specs.Prelude.{None, All, IsSome}
use Rattle.std.specs.Ordering.{nat_cmp}
use Rattle.std.specs.Cmp.Lexicographic.{slice_cmp}
use Rattle.std.specs.FinMap as fin
use Rattle.std.proofs.lemmas.List.Elements.{All-nil, All-cons}
use Rattle.crc_words.specs.Crc.{crc}
use Rattle.expiring_map.specs.ValueUntil.{ValueUntil}
use Rattle.expiring_map.specs.Map.{value_until}
use Rattle.kv_pairs.specs.Lengths.{shortest}
use Rattle.kv_pairs.specs.Reading.{length_at, read_payload}
use Rattle.kv_pairs.specs.Growth.{grown_size, IsFileSize}
use Rattle.kv_pairs.specs.Mapped.{packed_size, stored, length_prefixed}
use Rattle.kv_pairs.proofs.Packing.{small_empty, small_with}
use Rattle.change_log.specs.declared.change.Act.{Act}
use Rattle.change_log.specs.declared.change.Act.TheVariants as act
use Rattle.change_log.specs.declared.change.Change.{Change}
use Rattle.lock_rules.specs.declared.table.LockKind.TheVariants.{Exclusive}
use Rattle.meta_record.specs.declared.shown.Shown.TheVariants.{Whole}
use Rattle.region_words.specs.Region.{Region, shown}
use Rattle.region_words.specs.Past.{region_after}
use Rattle.region_words.specs.Rows.{Pack, MayBegin, IsAppendable, events_of, size_after, store_data, store_meta}
use Rattle.region_words.specs.Lawful.{Between, MayComeNext, map_after}
use Rattle.region_words.specs.Stores.{filled_up}
use Rattle.region_words.specs.Coming.{IsComing}
use Rattle.region_words.specs.Share.{Goes, locked, reserving}
use Rattle.region_words.specs.Owing.{AreStorable, Comes, IsOwing}
use Rattle.region_words.specs.Local.{Seated, seat_state, event_of}
use Rattle.region_words.specs.declared.standing.Standing.{Standing}
use Rattle.region_words.specs.declared.event.Side.TheVariants.{Meta}
use Rattle.region_words.specs.declared.event.Mark.TheVariants.{Commit}
use Rattle.region_words.specs.declared.event.What.{What}
use Rattle.region_words.specs.declared.event.What.TheVariants.{Store, Lock}
use Rattle.region_words.specs.declared.event.Event.{Event}
use Rattle.region_words.proofs.MapLemmas.{live_part-empty, packed-empty, packed-one, len-one}
use Rattle.region_words.proofs.FirstLock.{locked_past}
use Rattle.write_back.specs.Rewrites.{IsWriteBack, CanWriteBack, rewriting}

abbrev pub sample : Region
sample = record { data_bytes = filled_up []; meta_bytes = filled_up [] }

abbrev pub known : Standing
known = record { sequence = 0; version = 0; flag = false; size = 0; checksum = 0; tail = 0; file_size = 4096 }

abbrev pub lock : List Event
lock = event_of 1 (Lock Exclusive) ∷ []

abbrev pub change : Change
change = record { maker = 1; act = act.Pack 100 }

abbrev pub stores : List What
stores =
    store_meta 2 1 ∷ store_meta 1 3 ∷ store_data 1 0x07ffffff ∷ store_data 0 4 ∷ Store Meta 0 0x4c9985d1 (Commit change)
    ∷ store_meta 7 4 ∷ store_meta 8 4 ∷ store_meta 9 0x4c9985d1 ∷ []

-- no pairs can be written to a store of this standing
pub can_write : (s : Standing) (c : Change) (need : ℕ) → IsWriteBack c.act → IsFileSize s.file_size → need ≤ 2 ^ 30 → CanWriteBack s fin.empty c need
can_write s c need is file bytes =
    let size = ap length (packed-empty s.flag) in
    let len = fin.len-empty (slice_cmp nat_cmp) ValueUntil in
    record { act = is; file = file; small = small_empty; size = omega (arith, size); pairs = omega (arith, len); bytes = bytes }

pub page : IsFileSize 4096
page = record { some = lit< tt; pages = refl; most = lit≤ tt }

pub can_pack : CanWriteBack known fin.empty change 7
can_pack = can_write known change 7 tt page (lit≤ tt)

-- its events
pub writes : (rewriting known fin.empty change 7).events ≡ stores
unfolding grown_size crc
writes = rw (packed-empty false, fin.len-empty (slice_cmp nat_cmp) ValueUntil) refl

pub shows : shown sample ≡ Whole 0
unfolding shown crc read_payload length_at
shows = refl

row : events_of sample fin.empty 1 (Pack 100 7) ≡ stores
unfolding events_of shown crc read_payload length_at grown_size
row = rw (live_part-empty 100) (rw (packed-empty false, fin.len-empty (slice_cmp nat_cmp) ValueUntil) refl)

-- the item for which room is made
abbrev item : Act
item = act.Put (0x6b ∷ []) (0x03 ∷ 0x61 ∷ 0x62 ∷ 0x63 ∷ []) 0

one_byte : (b : ℕ) → b < 256 → All (λ b. b < 256) (b ∷ [])
one_byte b small = All-cons (λ b. b < 256) b [] small (All-nil (λ b. b < 256))

value_bytes : All (λ b. b < 256) (0x03 ∷ 0x61 ∷ 0x62 ∷ 0x63 ∷ [])
value_bytes =
    All-cons (λ b. b < 256) 0x03 (0x61 ∷ 0x62 ∷ 0x63 ∷ []) (lit< tt)
    (All-cons (λ b. b < 256) 0x61 (0x62 ∷ 0x63 ∷ []) (lit< tt) (All-cons (λ b. b < 256) 0x62 (0x63 ∷ []) (lit< tt) (one_byte 0x63 (lit< tt))))

appendable : IsAppendable false item
appendable = ((lit< tt, lit≤ tt, one_byte 0x6b (lit< tt)), lit< tt, lit≤ tt, value_bytes, lit< tt, λ _. refl)

-- room is found
fits : IsSome (size_after sample fin.empty (Pack 100 7))
unfolding grown_size
fits = rw (live_part-empty 100) (rw (packed-empty false) refl)

begins : MayBegin sample fin.empty None (Pack 100 7)
unfolding shortest
begins = ((0, shows, λ room. absurd (omega (arith, room.0))), (item, appendable, refl), (lit< tt, fits))

pub no_pairs : map_after sample lock ≡ fin.empty
unfolding shown crc read_payload length_at
no_pairs = refl

coming : IsComing sample lock 1 (Pack 100 7) stores
coming =
    record {
      phase = Between None;
      reached = (Between None, refl, refl);
      next = subst (λ m. MayComeNext sample m 1 (Between None) (Pack 100 7) stores) (sym no_pairs) (begins, sym row, refl);
    }

storable : AreStorable sample 1 stores
storable = (
  (lit≤ tt, lit< tt, λ e. absurd cc, tt),
  λ _. refl,
  (
    (lit≤ tt, lit< tt, λ _. inl refl, tt),
    λ _. refl,
    (
      (lit≤ tt, lit< tt, tt, tt),
      λ _. refl,
      (
        (lit≤ tt, lit< tt, tt, tt),
        λ _. refl,
        (
          (lit≤ tt, lit< tt, λ e. absurd cc, refl),
          λ _. refl,
          (
            (lit≤ tt, lit< tt, λ e. absurd cc, tt),
            λ _. refl,
            ((lit≤ tt, lit< tt, λ e. absurd cc, tt), λ _. refl, ((lit≤ tt, lit< tt, λ e. absurd cc, tt), λ _. refl, tt)),
          ),
        ),
      ),
    ),
  ),
)

-- the events may be made, and come next
record IsReady (r : Region) (past : List Event) (who : ℕ) : Type 0 where
  may : AreStorable (region_after r past) who stores
  comes : Comes r past who (Pack 100 7) stores

ready : IsReady sample lock 1
ready = record { may = storable; comes = coming }

-- so it is after the first lock and a reservation
pub owing : (s t u : Seated) → (seat_state s).ended ≡ false → s.who ≡ 1 → s.region.start ≡ sample → s.region.past ≡ [] →
    Goes (locked Exclusive (seat_state s)) (seat_state s) (seat_state t) → Goes (reserving 8 0 (seat_state t)) (seat_state t) (seat_state u) →
    IsOwing (Pack 100 7) stores (seat_state u)
owing s t u alive one start_is none took kept =
    let told = locked_past s t one none took in
    let g = kept.after.told in
    let who : u.who ≡ 1 = kept.after.same.who ∙ told.0 in
    let start : u.region.start ≡ sample = g.start ∙ (told.1 ∙ start_is) in
    let past : u.region.past ≡ lock = g.past ∙ (ap (λ others. others ++ t.region.past) (g.none refl) ∙ told.2) in
    let is : IsReady u.region.start u.region.past u.who =
    subst (λ w. IsReady u.region.start u.region.past w) (sym who)
    (subst (λ r. IsReady r u.region.past 1) (sym start) (subst (λ p. IsReady sample p 1) (sym past) ready)) in
    record {
      alive = kept.after.ended ∙ (took.after.ended ∙ alive);
      holds = kept.after.holds ∙ took.after.holds;
      maker = kept.after.sound.maker;
      places = let places = ap (seat_state u).reserved kept.after.same.who ∙ kept.after.places in omega (arith, places);
      room = (tt, (tt, (tt, (tt, (tt, (tt, (tt, (tt, tt))))))));
      told = record { agrees = kept.after.sound.told; storable = is.may; coming = λ _. is.comes };
    }

-- what is known of a store without pairs
abbrev pub after : Standing
after = record { sequence = 1; version = 3; flag = false; size = 4; checksum = 0x4c9985d1; tail = 0; file_size = 4096 }

-- an item of 4004 bytes
length-item : (value : List ℕ) → length value ≡ 4000 → packed_size false (fin.insert fin.empty (0x61 ∷ []) (value_until value 0)) ≡ 4008
unfolding shortest
length-item value e =
    let pair = value_until value 0 in
    let bytes = stored false pair in
    let size : length bytes ≡ 4000 = omega (arith, length-append value [], e) in
    let prefix : length (shortest (length bytes)) ≡ 2 = ap (λ n. length (shortest n)) size in
    ap length (packed-one false (0x61 ∷ []) pair)
    ∙ omega (arith, size, prefix, length-append (length_prefixed bytes) [], length-append (shortest (length bytes)) bytes)

-- a pair with 4000 bytes can be written to it
pub can_grow : (value : List ℕ) → length value ≡ 4000 → CanWriteBack after (fin.insert fin.empty (0x61 ∷ []) (value_until value 0)) change 85
can_grow value e =
    let pair = value_until value 0 in
    let len = len-one (0x61 ∷ []) pair in
    let size = length-item value e in
    let none = fin.len-empty (slice_cmp nat_cmp) ValueUntil in
    record {
      act = tt;
      file = page;
      small = small_with fin.empty (0x61 ∷ []) pair small_empty (lit≤ tt, omega (arith, e)) (omega (arith, none));
      size = omega (arith, size);
      pairs = omega (arith, len);
      bytes = lit≤ tt;
    }
