-- A put that is appended, from the lock to its giving up, is lawful.
use Rattle.std.proofs.Common.{◌≡◌, List, [], ◌∷◌, ◌++◌, refl, sym, lit<, lit≤, ◌<◌}
use Rattle.std.specs.Prelude.{None, All}
use Rattle.std.proofs.lemmas.List.Elements.{All-nil, All-cons}
use Rattle.crc_words.specs.Crc.{crc}
use Rattle.kv_pairs.specs.Lengths.{shortest}
use Rattle.change_log.specs.declared.change.Act.{Act}
use Rattle.change_log.specs.declared.change.Act.TheVariants as act
use Rattle.lock_rules.specs.declared.table.LockKind.TheVariants.{Exclusive}
use Rattle.region_words.specs.Region.{Region}
use Rattle.region_words.specs.Rows.{Append, store_data, store_meta}
use Rattle.region_words.specs.Lawful.{Between, Within, Reaches, Lawful, IsPermitted, phase_with}
use Rattle.region_words.specs.declared.event.Side.TheVariants.{Meta}
use Rattle.region_words.specs.declared.event.Mark.TheVariants.{Commit}
use Rattle.region_words.specs.declared.event.What.{What}
use Rattle.region_words.specs.declared.event.What.TheVariants.{Store, Lock, Unlock}
use Rattle.region_words.specs.declared.event.Event.{Event}
use Rattle.region_tests.proofs.Samples.{small, append_row, small_shows, one_pair}

abbrev put : Act
put = act.Put (0x6b ∷ []) (0x01 ∷ 0x64 ∷ []) 0

abbrev by_two : What → Event
by_two what = record { who = 2; what = what }

abbrev header_store : List What
header_store =
    store_data 0 16 ∷ Store Meta 0 (crc (one_pair ++ 0x01 ∷ 0x6b ∷ 0x02 ∷ 0x01 ∷ 0x64 ∷ [])) (Commit (record { maker = 2; act = put })) ∷ store_meta 7 16 ∷ []

abbrev start : Region
start = small 11 11

abbrev locked : List Event
locked = by_two (Lock Exclusive) ∷ []

abbrev begun : List Event
begun = by_two (store_data 3 0x01636261) ∷ locked

key_bytes : All (λ b. b < 256) (0x6b ∷ [])
key_bytes = All-cons (λ b. b < 256) 0x6b [] (lit< tt) (All-nil (λ b. b < 256))

value_bytes : All (λ b. b < 256) (0x01 ∷ 0x64 ∷ [])
value_bytes = All-cons (λ b. b < 256) 0x01 (0x64 ∷ []) (lit< tt) (All-cons (λ b. b < 256) 0x64 [] (lit< tt) (All-nil (λ b. b < 256)))

lead_locked : Reaches start locked (Between None)
lead_locked = (Between None, refl, refl)

lead_begun : Reaches start begun (Within (Append put) (store_data 4 0x6401026b ∷ header_store))
unfolding shortest
lead_begun = (
  Between None,
  lead_locked,
  (
    Append put,
    store_data 4 0x6401026b ∷ header_store,
    ((11, small_shows, (lit< tt, lit≤ tt), ((lit< tt, lit≤ tt, key_bytes), lit< tt, lit≤ tt, value_bytes, lit< tt, λ _. refl), λ need e. absurd cc), sym (append_row _), refl),
    refl,
  ),
)

permitted_lock : IsPermitted start [] (by_two (Lock Exclusive))
permitted_lock = record { maker = (lit≤ tt, lit≤ tt); alive = refl; possible = (refl, refl); accepted = λ _. refl }

permitted_store : IsPermitted start locked (by_two (store_data 3 0x01636261))
permitted_store = record { maker = (lit≤ tt, lit≤ tt); alive = refl; possible = (refl, lit≤ tt, lit< tt, tt, tt); accepted = λ _. refl }

lawful_begun : Lawful start begun
lawful_begun = ((tt, permitted_lock, λ _. (Between None, lead_locked)), permitted_store, λ _. (_, lead_begun))

-- the past after the second word, the header, the checksum, the record's size, and the end of the hold
abbrev stored : List Event
stored = by_two (store_data 4 0x6401026b) ∷ begun

abbrev headed : List Event
headed = by_two (store_data 0 16) ∷ stored

abbrev marked : List Event
marked = by_two (Store Meta 0 (crc (one_pair ++ 0x01 ∷ 0x6b ∷ 0x02 ∷ 0x01 ∷ 0x64 ∷ [])) (Commit (record { maker = 2; act = put }))) ∷ headed

abbrev sized : List Event
sized = by_two (store_meta 7 16) ∷ marked

abbrev ended : List Event
ended = by_two Unlock ∷ sized

lead_stored : Reaches start stored (Within (Append put) header_store)
lead_stored = (_, lead_begun, (Append put, header_store, (refl, refl), refl))

lead_headed : (rest : List What) → header_store ≡ store_data 0 16 ∷ rest → Reaches start headed (phase_with (Append put) rest)
lead_headed rest e = (_, lead_stored, (Append put, rest, (refl, sym e), refl))

lead_ended : Reaches start ended (Between None)
lead_ended = (_, (_, (_, lead_headed _ refl, (_, _, (refl, refl), refl)), (_, _, (refl, refl), refl)), ((None, refl), refl))

lawful_sample : Lawful start ended
unfolding crc
lawful_sample = (
  (
    (
      (
        (
          lawful_begun,
          record { maker = (lit≤ tt, lit≤ tt); alive = refl; possible = (refl, lit≤ tt, lit< tt, tt, tt); accepted = λ _. refl },
          λ _. (_, lead_stored),
        ),
        record { maker = (lit≤ tt, lit≤ tt); alive = refl; possible = (refl, lit≤ tt, lit< tt, tt, tt); accepted = λ _. refl },
        λ _. (_, lead_headed _ refl),
      ),
      record { maker = (lit≤ tt, lit≤ tt); alive = refl; possible = (refl, lit≤ tt, lit< tt, λ e. absurd cc, refl); accepted = λ _. refl },
      λ _. (_, (_, lead_headed _ refl, (_, _, (refl, refl), refl))),
    ),
    record { maker = (lit≤ tt, lit≤ tt); alive = refl; possible = (refl, lit≤ tt, lit< tt, λ e. absurd cc, tt); accepted = λ _. refl },
    λ _. (_, (_, (_, lead_headed _ refl, (_, _, (refl, refl), refl)), (_, _, (refl, refl), refl))),
  ),
  record { maker = (lit≤ tt, lit≤ tt); alive = refl; possible = refl; accepted = λ _. refl },
  λ _. (_, lead_ended),
)
