-- A fresh region: its holder may let the file grow, to make room for a put of 500 bytes.
use Rattle.std.proofs.Common.{◌≡◌, ℕ, ◌<◌, false, List, [], ◌∷◌, ◌++◌, refl, sym, subst, ap, ◌∙◌, lit≤, lit<, arith}
use Rattle.std.specs.Prelude.{None, Some, All, is_some, replicate, length}
use Rattle.std.specs.Ordering.{nat_cmp}
use Rattle.std.specs.Cmp.Lexicographic.{slice_cmp}
use Rattle.std.specs.FinMap as fin
use Rattle.std.proofs.lemmas.List.Elements.{All-nil, All-cons}
use Rattle.crc_words.specs.Crc.{crc}
use Rattle.expiring_map.specs.ValueUntil.{ValueUntil}
use Rattle.kv_pairs.specs.Growth.{grown_size}
use Rattle.kv_pairs.specs.Lengths.{shortest}
use Rattle.kv_pairs.specs.Reading.{length_at, read_payload}
use Rattle.change_log.specs.declared.change.Act.{Act}
use Rattle.change_log.specs.declared.change.Act.TheVariants as act
use Rattle.lock_rules.specs.declared.table.LockKind.TheVariants.{Exclusive}
use Rattle.meta_record.specs.declared.shown.Shown.TheVariants.{Whole}
use Rattle.region_words.specs.Region.{Region, base, shown, flag}
use Rattle.region_words.specs.Rows.{Row, Pack, CanRewrite, IsAppendable, MayBegin, events_of, item_of, size_after, store_data, store_meta}
use Rattle.region_words.specs.Lawful.{Lawful, Between, Within, Reaches, IsPermitted}
use Rattle.region_words.specs.Stores.{filled_up}
use Rattle.region_words.specs.Share.{Goes, MayMake, reserving}
use Rattle.region_words.specs.Local.{Seated, seat_state, event_of}
use Rattle.region_words.specs.declared.event.Side.TheVariants.{Meta}
use Rattle.region_words.specs.declared.event.Mark.TheVariants.{Commit}
use Rattle.region_words.specs.declared.event.What.{What}
use Rattle.region_words.specs.declared.event.What.TheVariants.{Store, Grow, Lock}
use Rattle.region_words.specs.declared.event.Event.{Event}
use Rattle.region_words.proofs.MapLemmas.{live_part-empty, packed-empty}
use Rattle.region_words.proofs.Regions.{All-from_Small, zero_bytes}

abbrev pub sample : Region
sample = record { data_bytes = filled_up []; meta_bytes = filled_up [] }

abbrev put : Act
put = act.Put (0x6b ∷ []) (replicate 500 0) 0

abbrev row : Row
row = Pack 100 504

abbrev lock : List Event
lock = event_of 1 (Lock Exclusive) ∷ []

abbrev later : List What
later =
    store_meta 2 1 ∷ store_meta 1 3 ∷ store_data 1 0x07ffffff ∷ store_data 0 4
    ∷ Store Meta 0 0x4c9985d1 (Commit (record { maker = 1; act = act.Pack 100 })) ∷ store_meta 7 4 ∷ store_meta 8 4 ∷ store_meta 9 0x4c9985d1 ∷ []

shows : shown sample ≡ Whole 0
unfolding shown crc read_payload length_at
shows = refl

no_pairs : base sample ≡ fin.empty
unfolding shown crc read_payload length_at
no_pairs = refl

its_events : events_of sample fin.empty 1 row ≡ Grow 8192 ∷ later
unfolding events_of grown_size crc
its_events = rw (live_part-empty 100) (rw (packed-empty false, fin.len-empty (slice_cmp nat_cmp) ValueUntil) refl)

its_size : size_after sample fin.empty row ≡ Some 8192
unfolding grown_size
its_size = rw (live_part-empty 100) (rw (packed-empty false, fin.len-empty (slice_cmp nat_cmp) ValueUntil) refl)

key_bytes : All (λ b. b < 256) (0x6b ∷ [])
key_bytes = All-cons (λ b. b < 256) 0x6b [] (lit< tt) (All-nil (λ b. b < 256))

appendable : IsAppendable (flag sample) put
appendable = ((lit< tt, lit≤ tt, key_bytes), lit< tt, lit≤ tt, All-from_Small (replicate 500 0) (zero_bytes 500), lit< tt, λ _. refl)

its_need : 504 ≡ length (item_of (flag sample) put)
unfolding shortest
its_need = refl

can_rewrite : CanRewrite sample fin.empty row
can_rewrite = (lit< tt, ap is_some its_size)

may_begin : MayBegin sample fin.empty None row
may_begin = ((0, shows, λ room. let some = room.0 in omega arith), (put, appendable, its_need), can_rewrite)

leads : Reaches sample (event_of 1 (Grow 8192) ∷ lock) (Within row later)
leads = (
  Between None,
  (Between None, refl, refl),
  (row, later, (subst (λ m. MayBegin sample m None row) (sym no_pairs) may_begin, sym (ap (λ m. events_of sample m 1 row) no_pairs ∙ its_events), refl), refl),
)

permitted : IsPermitted sample lock (event_of 1 (Grow 8192))
permitted = record { maker = (lit≤ tt, lit≤ tt); alive = refl; possible = (refl, lit< tt, lit≤ tt, refl); accepted = λ _. refl }

grows : Lawful sample lock → Lawful sample (event_of 1 (Grow 8192) ∷ lock)
grows l = (l, permitted, λ _. (Within row later, leads))

-- the file may grow after a reservation
pub may_grow : (s t : Seated) → (events size : ℕ) → s.who ≡ 1 → s.region.start ≡ sample → s.region.past ≡ lock →
    Goes (reserving events size (seat_state s)) (seat_state s) (seat_state t) → MayMake (Grow 8192) (seat_state t)
may_grow s t events size one start_is past_is goes =
    let g = goes.after.told in
    let who : t.who ≡ 1 = goes.after.same.who ∙ one in
    let start : t.region.start ≡ sample = g.start ∙ start_is in
    let past : t.region.past ≡ lock = g.past ∙ ap (λ others. others ++ s.region.past) (g.none refl) ∙ past_is in
    let lawful = subst (λ r. Lawful r lock) start (subst (λ p. Lawful t.region.start p) past goes.after.sound.told.lawful) in
    subst (λ w. Lawful t.region.start (event_of w (Grow 8192) ∷ t.region.past)) (sym who)
    (subst (λ r. Lawful r (event_of 1 (Grow 8192) ∷ t.region.past)) (sym start) (subst (λ p. Lawful sample (event_of 1 (Grow 8192) ∷ p)) (sym past) (grows lawful)))
