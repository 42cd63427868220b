-- A region in memory that shows one pair: its holder may die within the first store of an append.
use Rattle.std.proofs.Common.{◌≡◌, ℕ, List, [], ◌∷◌, ◌++◌, refl, sym, subst, ◌∙◌, lit≤, lit<, ◌<◌}
use Rattle.std.specs.Prelude.{Some, None, All}
use Rattle.std.proofs.lemmas.List.Elements.{All-nil, All-cons}
use Rattle.crc_words.specs.Crc.{crc}
use Rattle.expiring_map.specs.Map.{Map}
use Rattle.kv_pairs.specs.Lengths.{shortest}
use Rattle.kv_pairs.specs.Reading.{length_at, read_payload}
use Rattle.change_log.specs.declared.change.Act.{Act}
use Rattle.change_log.specs.declared.change.Act.TheVariants as act
use Rattle.lock_rules.specs.declared.table.LockKind.TheVariants.{Exclusive}
use Rattle.meta_record.specs.declared.shown.Shown.TheVariants.{Whole}
use Rattle.region_words.specs.Region.{Region, shown}
use Rattle.region_words.specs.Past.{region_after}
use Rattle.region_words.specs.Rows.{Append, events_of, store_data, store_meta}
use Rattle.region_words.specs.Lawful.{Lawful, Between, Reaches, IsPermitted}
use Rattle.region_words.specs.Stores.{filled_up}
use Rattle.region_words.specs.Share.{Goes, MayTearAt, locked, torn_word}
use Rattle.region_words.specs.Local.{Seated, seat_state, event_of}
use Rattle.region_words.specs.declared.event.Side.TheVariants.{Meta}
use Rattle.region_words.specs.declared.event.Mark.TheVariants.{Commit}
use Rattle.region_words.specs.declared.event.TornWord.{TornWord}
use Rattle.region_words.specs.declared.event.What.{What}
use Rattle.region_words.specs.declared.event.What.TheVariants.{Store, Lock, Died}
use Rattle.region_words.specs.declared.event.Event.{Event}
use Rattle.region_words.specs.declared.stops.TornStore.{TornStore}
use Rattle.region_tests.proofs.Samples.{one_pair}
use Rattle.region_words.proofs.FirstLock.{locked_past}

abbrev body : List ℕ
body = 0x0b ∷ 0 ∷ 0 ∷ 0 ∷ one_pair

abbrev meta : List ℕ
meta =
    0xd3 ∷ 0x95 ∷ 0x65 ∷ 0x3a ∷ 3 ∷ 0 ∷ 0 ∷ 0 ∷ 1 ∷ 0 ∷ 0 ∷ 0 ∷ 0 ∷ 0 ∷ 0 ∷ 0 ∷ 0 ∷ 0 ∷ 0 ∷ 0 ∷ 0 ∷ 0 ∷ 0 ∷ 0 ∷ 0 ∷ 0 ∷ 0 ∷ 0
    ∷ 0x0b ∷ 0 ∷ 0 ∷ 0 ∷ 4 ∷ 0 ∷ 0 ∷ 0 ∷ 0xd1 ∷ 0x85 ∷ 0x99 ∷ 0x4c ∷ []

abbrev sample : Region
sample = record { data_bytes = filled_up body; meta_bytes = filled_up meta }

abbrev lock : List Event
lock = event_of 1 (Lock Exclusive) ∷ []

abbrev put : Act
put = act.Put (0x6b ∷ []) (0x01 ∷ 0x64 ∷ []) 0

-- the store is of word 3, and the bits are all ones
abbrev pub tear : TornStore
tear = record { word = 3; new = 0x01636261; bits = 0xffffffff }

abbrev left : TornWord
left = record { word = 3; value = 0xff636261 }

abbrev later_stores : List What
later_stores =
    store_data 4 0x6401026b ∷ store_data 0 16
    ∷ Store Meta 0 (crc (one_pair ++ 0x01 ∷ 0x6b ∷ 0x02 ∷ 0x01 ∷ 0x64 ∷ [])) (Commit (record { maker = 1; act = put })) ∷ store_meta 7 16 ∷ []

key_bytes : All (λ b. b < 256) (0x6b ∷ [])
key_bytes = All-cons (λ b. b < 256) 0x6b [] (lit< tt) (All-nil (λ b. b < 256))

value_bytes : All (λ b. b < 256) (0x01 ∷ 0x64 ∷ [])
value_bytes = All-cons (λ b. b < 256) 0x01 (0x64 ∷ []) (lit< tt) (All-cons (λ b. b < 256) 0x64 [] (lit< tt) (All-nil (λ b. b < 256)))

shows : shown sample ≡ Whole 11
unfolding shown crc read_payload length_at
shows = refl

row : (m : Map) → events_of sample m 1 (Append put) ≡ store_data 3 0x01636261 ∷ later_stores
unfolding events_of shortest shown crc read_payload length_at
row m = refl

leads : Reaches sample (event_of 1 (Died (Some left)) ∷ lock) (Between None)
unfolding shortest
leads = (
  Between None,
  (Between None, refl, refl),
  (
    (
      0xffffffff,
      (
        Append put,
        0x01636261,
        later_stores,
        ((11, shows, (lit< tt, lit≤ tt), ((lit< tt, lit≤ tt, key_bytes), lit< tt, lit≤ tt, value_bytes, lit< tt, λ _. refl), λ need e. absurd cc), sym (row _), refl),
        refl,
      ),
    ),
    refl,
  ),
)

permitted : IsPermitted sample lock (event_of 1 (Died (Some left)))
permitted = record { maker = (lit≤ tt, lit≤ tt); alive = refl; possible = (refl, (lit≤ tt, lit≤ tt, lit< tt)); accepted = λ _. refl }

tears : Lawful sample lock → Lawful sample (event_of 1 (Died (Some left)) ∷ lock)
tears l = (l, permitted, λ _. (Between None, leads))

-- it is lawful that this opener dies within that store
abbrev MayDieSo : Region → ℕ → List Event → Type 0
MayDieSo r who past = Lawful r (event_of who (Died (torn_word (region_after r past) (Some tear))) ∷ past)

-- so it is after the first lock
pub may_tear : (s t : Seated) → s.who ≡ 1 → s.region.start ≡ sample → s.region.past ≡ [] →
    Goes (locked Exclusive (seat_state s)) (seat_state s) (seat_state t) → MayTearAt (Some tear) (seat_state t)
may_tear s t one start_is none goes =
    let told = locked_past s t one none goes in
    let start = told.1 ∙ start_is in
    let lawful : MayDieSo sample 1 lock = tears (subst (λ r. Lawful r lock) start (subst (λ p. Lawful t.region.start p) told.2 goes.after.sound.told.lawful)) in (
      goes.after.holds,
      subst (λ w. MayDieSo t.region.start w t.region.past) (sym told.0)
          (subst (λ r. MayDieSo r 1 t.region.past) (sym start) (subst (λ p. MayDieSo sample 1 p) (sym told.2) lawful)),
    )
