-- A region in memory that shows one pair: its holder may append another.
use Rattle.std.proofs.Common.{◌≡◌, ℕ, zero, suc, ◌<◌, List, [], ◌∷◌, ◌++◌, false, refl, sym, subst, ap, ◌∙◌, lit≤, lit<, arith}
use Rattle.std.specs.Prelude.{None, All, replicate}
use Rattle.std.proofs.lemmas.List.Elements.{All-nil, All-cons}
use Rattle.crc_words.specs.Crc.{crc}
use Rattle.expiring_map.specs.Map.{Map}
use Rattle.kv_pairs.specs.Lengths.{shortest}
use Rattle.kv_pairs.specs.Reading.{length_at, read_payload}
use Rattle.change_log.specs.declared.change.Act.{Act}
use Rattle.change_log.specs.declared.change.Act.TheVariants as act
use Rattle.change_log.specs.declared.change.Change.{Change}
use Rattle.lock_rules.specs.declared.table.LockKind.TheVariants.{Exclusive}
use Rattle.meta_record.specs.declared.shown.Shown.TheVariants.{Whole}
use Rattle.region_words.specs.Region.{Region, shown}
use Rattle.region_words.specs.Past.{region_after}
use Rattle.region_words.specs.Rows.{Append, MayBegin, IsAppendable, events_of, store_data, store_meta}
use Rattle.region_words.specs.Lawful.{Between, map_after}
use Rattle.region_words.specs.Stores.{filled_up}
use Rattle.region_words.specs.Coming.{IsComing}
use Rattle.region_words.specs.Share.{Goes, locked, reserving}
use Rattle.region_words.specs.Owing.{AreStorable, Comes, IsOwing}
use Rattle.region_words.specs.Local.{Seated, seat_state, event_of}
use Rattle.region_words.specs.declared.standing.Standing.{Standing}
use Rattle.region_words.specs.declared.event.Side.TheVariants.{Meta}
use Rattle.region_words.specs.declared.event.Mark.TheVariants.{Commit}
use Rattle.region_words.specs.declared.event.What.{What}
use Rattle.region_words.specs.declared.event.What.TheVariants.{Store, Lock}
use Rattle.region_words.specs.declared.event.Event.{Event}
use Rattle.region_words.proofs.FirstLock.{locked_past}
use Rattle.appender.specs.Appends.{CanAppend, appending}

abbrev body : List ℕ
body = 0x0b ∷ 0 ∷ 0 ∷ 0 ∷ 0xff ∷ 0xff ∷ 0xff ∷ 0x07 ∷ 0x01 ∷ 0x6b ∷ 0x04 ∷ 0x03 ∷ 0x61 ∷ 0x62 ∷ 0x63 ∷ []

abbrev meta : List ℕ
meta =
    0xd3 ∷ 0x95 ∷ 0x65 ∷ 0x3a ∷ 3 ∷ 0 ∷ 0 ∷ 0 ∷ 1 ∷ 0 ∷ 0 ∷ 0 ∷ 0 ∷ 0 ∷ 0 ∷ 0 ∷ 0 ∷ 0 ∷ 0 ∷ 0 ∷ 0 ∷ 0 ∷ 0 ∷ 0 ∷ 0 ∷ 0 ∷ 0 ∷ 0
    ∷ 0x0b ∷ 0 ∷ 0 ∷ 0 ∷ 4 ∷ 0 ∷ 0 ∷ 0 ∷ 0xd1 ∷ 0x85 ∷ 0x99 ∷ 0x4c ∷ []

abbrev pub sample : Region
sample = record { data_bytes = filled_up body; meta_bytes = filled_up meta }

abbrev pub known : Standing
known = record { sequence = 1; version = 3; flag = false; size = 11; checksum = 0x3a6595d3; tail = 0x00636261; file_size = 4096 }

abbrev lock : List Event
lock = event_of 1 (Lock Exclusive) ∷ []

abbrev pub put : Act
put = act.Put (0x6b ∷ []) (0x01 ∷ 0x64 ∷ []) 0

abbrev pub change : Change
change = record { maker = 1; act = put }

abbrev pub stores : List What
stores =
    store_data 3 0x01636261 ∷ store_data 4 0x6401026b ∷ store_data 0 16 ∷ Store Meta 0 0x685b2d6c (Commit change) ∷ store_meta 7 16 ∷ []

one_byte : (b : ℕ) → b < 256 → All (λ b. b < 256) (b ∷ [])
one_byte b small = All-cons (λ b. b < 256) b [] small (All-nil (λ b. b < 256))

value_bytes : All (λ b. b < 256) (0x01 ∷ 0x64 ∷ [])
value_bytes = All-cons (λ b. b < 256) 0x01 (0x64 ∷ []) (lit< tt) (one_byte 0x64 (lit< tt))

appendable : IsAppendable false put
appendable = ((lit< tt, lit≤ tt, one_byte 0x6b (lit< tt)), lit< tt, lit≤ tt, value_bytes, lit< tt, λ _. refl)

pub can_append : CanAppend known change
unfolding shortest
can_append = record { appendable = appendable; some = lit< tt; room = lit≤ tt; file = lit≤ tt }

pub can_remove : CanAppend (record known { size = 8; tail = 0 }) (record { maker = 1; act = act.Remove (0x6b ∷ []) })
unfolding shortest
can_remove = record { appendable = (lit< tt, lit≤ tt, one_byte 0x6b (lit< tt)); some = lit< tt; room = lit≤ tt; file = lit≤ tt }

sevens : (n : ℕ) → All (λ b. b < 256) (replicate n 7)
sevens zero = All-nil (λ b. b < 256)
sevens (suc n) = All-cons (λ b. b < 256) 7 (replicate n 7) (lit< tt) (sevens n)

-- an item that fits exactly
pub can_fill : CanAppend (record known { size = 4008; tail = 0 }) (record { maker = 1; act = act.Put (0x62 ∷ []) (replicate 81 7) 0 })
unfolding shortest
can_fill =
    record {
      appendable = ((lit< tt, lit≤ tt, one_byte 0x62 (lit< tt)), lit< tt, lit≤ tt, sevens 81, lit< tt, λ _. refl);
      some = lit< tt;
      room = lit≤ tt;
      file = lit≤ tt;
    }

-- its events
pub appends : (appending known change).events ≡ stores
unfolding shortest crc
appends = refl

shows : shown sample ≡ Whole 11
unfolding shown crc read_payload length_at
shows = refl

row : (m : Map) → events_of sample m 1 (Append put) ≡ stores
unfolding events_of shortest shown crc read_payload length_at
row m = refl

begins : (m : Map) → MayBegin sample m None (Append put)
unfolding shortest
begins m = (11, shows, (lit< tt, lit≤ tt), appendable, λ need e. absurd cc)

coming : IsComing sample lock 1 (Append put) stores
coming = record { phase = Between None; reached = (Between None, refl, refl); next = (begins (map_after sample lock), sym (row (map_after sample lock)), refl) }

storable : AreStorable sample 1 stores
storable = (
  (lit≤ tt, lit< tt, tt, tt),
  λ _. refl,
  (
    (lit≤ tt, lit< tt, tt, tt),
    λ _. refl,
    (
      (lit≤ tt, lit< tt, tt, tt),
      λ _. refl,
      ((lit≤ tt, lit< tt, λ e. absurd cc, refl), λ _. refl, ((lit≤ tt, lit< tt, λ e. absurd cc, tt), λ _. refl, tt)),
    ),
  ),
)

-- the stores may be made, and come next
record IsReady (r : Region) (past : List Event) (who : ℕ) : Type 0 where
  may : AreStorable (region_after r past) who stores
  comes : Comes r past who (Append put) stores

ready : IsReady sample lock 1
ready = record { may = storable; comes = coming }

-- so it is after the first lock and a reservation
pub owing : (s t u : Seated) → (seat_state s).ended ≡ false → s.who ≡ 1 → s.region.start ≡ sample → s.region.past ≡ [] →
    Goes (locked Exclusive (seat_state s)) (seat_state s) (seat_state t) → Goes (reserving 5 0 (seat_state t)) (seat_state t) (seat_state u) →
    IsOwing (Append put) stores (seat_state u)
owing s t u alive one start_is none took kept =
    let told = locked_past s t one none took in
    let g = kept.after.told in
    let who : u.who ≡ 1 = kept.after.same.who ∙ told.0 in
    let start : u.region.start ≡ sample = g.start ∙ (told.1 ∙ start_is) in
    let past : u.region.past ≡ lock = g.past ∙ (ap (λ others. others ++ t.region.past) (g.none refl) ∙ told.2) in
    let is : IsReady u.region.start u.region.past u.who =
    subst (λ w. IsReady u.region.start u.region.past w) (sym who)
    (subst (λ r. IsReady r u.region.past 1) (sym start) (subst (λ p. IsReady sample p 1) (sym past) ready)) in
    record {
      alive = kept.after.ended ∙ (took.after.ended ∙ alive);
      holds = kept.after.holds ∙ took.after.holds;
      maker = kept.after.sound.maker;
      places = let places = ap (seat_state u).reserved kept.after.same.who ∙ kept.after.places in omega (arith, places);
      room = (tt, (tt, (tt, (tt, (tt, tt)))));
      told = record { agrees = kept.after.sound.told; storable = is.may; coming = λ _. is.comes };
    }
