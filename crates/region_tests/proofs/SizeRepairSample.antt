-- A region in memory whose header alone agrees: its holder may store the record's size.
use Rattle.std.proofs.Common.{◌≡◌, ℕ, List, [], ◌∷◌, ◌++◌, refl, sym, subst, ap, ◌∙◌, lit≤, lit<}
use Rattle.std.specs.Prelude.{None}
use Rattle.crc_words.specs.Crc.{crc}
use Rattle.expiring_map.specs.Map.{Map}
use Rattle.kv_pairs.specs.Reading.{length_at, read_payload}
use Rattle.lock_rules.specs.declared.table.LockKind.TheVariants.{Exclusive}
use Rattle.meta_record.specs.declared.shown.Shown.TheVariants.{Header}
use Rattle.region_words.specs.Region.{Region, shown}
use Rattle.region_words.specs.Rows.{SizeRepair, events_of, store_meta}
use Rattle.region_words.specs.Lawful.{Lawful, Between, Reaches, IsPermitted}
use Rattle.region_words.specs.Stores.{filled_up}
use Rattle.region_words.specs.Share.{Goes, MayMake, reserving}
use Rattle.region_words.specs.Local.{Seated, seat_state, event_of}
use Rattle.region_words.specs.declared.event.What.{What}
use Rattle.region_words.specs.declared.event.What.TheVariants.{Lock}
use Rattle.region_words.specs.declared.event.Event.{Event}

abbrev body : List ℕ
body = 0x0b ∷ 0 ∷ 0 ∷ 0 ∷ 0xff ∷ 0xff ∷ 0xff ∷ 0x07 ∷ 0x01 ∷ 0x6b ∷ 0x04 ∷ 0x03 ∷ 0x61 ∷ 0x62 ∷ 0x63 ∷ []

abbrev meta : List ℕ
meta =
    0xd3 ∷ 0x95 ∷ 0x65 ∷ 0x3a ∷ 3 ∷ 0 ∷ 0 ∷ 0 ∷ 1 ∷ 0 ∷ 0 ∷ 0 ∷ 0 ∷ 0 ∷ 0 ∷ 0 ∷ 0 ∷ 0 ∷ 0 ∷ 0 ∷ 0 ∷ 0 ∷ 0 ∷ 0 ∷ 0 ∷ 0 ∷ 0 ∷ 0
    ∷ 4 ∷ 0 ∷ 0 ∷ 0 ∷ 4 ∷ 0 ∷ 0 ∷ 0 ∷ 0xd1 ∷ 0x85 ∷ 0x99 ∷ 0x4c ∷ []

abbrev pub sample : Region
sample = record { data_bytes = filled_up body; meta_bytes = filled_up meta }

abbrev pub repair : What
repair = store_meta 7 11

abbrev lock : List Event
lock = event_of 1 (Lock Exclusive) ∷ []

shows : shown sample ≡ Header 11
unfolding shown crc read_payload length_at
shows = refl

row : (m : Map) → events_of sample m 1 SizeRepair ≡ repair ∷ []
unfolding events_of shown crc read_payload length_at
row m = refl

leads : Reaches sample (event_of 1 repair ∷ lock) (Between None)
leads = (Between None, (Between None, refl, refl), (SizeRepair, [], ((11, shows), sym (row _), refl), refl))

permitted : IsPermitted sample lock (event_of 1 repair)
permitted = record { maker = (lit≤ tt, lit≤ tt); alive = refl; possible = (refl, lit≤ tt, lit< tt, λ e. absurd cc, tt); accepted = λ _. refl }

repairs : Lawful sample lock → Lawful sample (event_of 1 repair ∷ lock)
repairs l = (l, permitted, λ _. (Between None, leads))

-- the size may be stored after a reservation
pub may_repair : (s t : Seated) → (events size : ℕ) → s.who ≡ 1 → s.region.start ≡ sample → s.region.past ≡ lock →
    Goes (reserving events size (seat_state s)) (seat_state s) (seat_state t) → MayMake repair (seat_state t)
may_repair s t events size one start_is past_is goes =
    let g = goes.after.told in
    let who : t.who ≡ 1 = goes.after.same.who ∙ one in
    let start : t.region.start ≡ sample = g.start ∙ start_is in
    let past : t.region.past ≡ lock = g.past ∙ ap (λ others. others ++ s.region.past) (g.none refl) ∙ past_is in
    let lawful = subst (λ r. Lawful r lock) start (subst (λ p. Lawful t.region.start p) past goes.after.sound.told.lawful) in
    subst (λ w. Lawful t.region.start (event_of w repair ∷ t.region.past)) (sym who)
    (subst (λ r. Lawful r (event_of 1 repair ∷ t.region.past)) (sym start) (subst (λ p. Lawful sample (event_of 1 repair ∷ p)) (sym past) (repairs lawful)))
