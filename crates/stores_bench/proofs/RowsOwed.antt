-- The rows that are made in the start: their makers may begin, and their events are owed.
use Rattle.std.proofs.Common.{◌≡◌, ℕ, ◌+◌, ◌<◌, ◌≤◌, Bool, true, false, cond, List, [], ◌∷◌, length, refl, sym, ap, subst, ◌∙◌, arith}
use Rattle.std.specs.Prelude.{◌==◌}
use Rattle.std.proofs.lemmas.Bool.Decides.{nat_tests}
use Rattle.expiring_map.specs.Map.{Map, value_until}
use Rattle.kv_pairs.specs.Mapped.{packed, put_item, remove_item, written_item}
use Rattle.change_log.specs.declared.change.Act.TheVariants as act
use Rattle.change_log.specs.declared.change.Change.{Change}
use Rattle.region_words.specs.Region.{file_size}
use Rattle.region_words.specs.Rows.{Row, Clear, IsAppendable, item_of}
use Rattle.region_words.specs.Share.{Goes, reserving}
use Rattle.region_words.specs.Local.{Seated, seat_state}
use Rattle.region_words.specs.Making.{Making}
use Rattle.region_words.specs.Owing.{IsOwing}
use Rattle.region_words.specs.declared.standing.Standing.{Standing}
use Rattle.region_words.specs.declared.event.Mark.TheVariants.{Commit}
use Rattle.region_words.proofs.OwedRows.{append_within}
use Rattle.appender.specs.Appends.{CanAppend, appending}
use Rattle.write_back.specs.Rewrites.{CanBegin, file_for, rewriting}
use Rattle.stores_bench.specs.Start.{IsReady, known_of, put_by_one}
use Rattle.stores_bench.specs.Pairs.{CanBeWritten}
use Rattle.stores_bench.proofs.Owed.{owing, put_storable, rewrite_storable}
use Rattle.stores_bench.proofs.Roomy.{within_room}

-- the item of a value that isn't empty
item_is : (value : List ℕ) → 0 < length value → written_item false (0x6b ∷ []) (value_until value 0) ≡ item_of false (put_by_one value).act
item_is value some = go (length value == 0) refl
  where
    go : (b : Bool) → (length value == 0) ≡ b →
        cond b (remove_item (0x6b ∷ [])) (put_item false (0x6b ∷ []) (value_until value 0)) ≡ put_item false (0x6b ∷ []) (value_until value 0)
    go true e = let none : length value ≡ 0 = grind (arith, nat_tests) in absurd (omega (arith, some, none))
    go false e = refl

-- a put of this value has room behind the start's payload
pub record Fits (change : Change) (value : List ℕ) (standing : Standing) : Type 0 where
  pub is : change ≡ put_by_one value
  pub may : IsAppendable false change.act
  pub room : 8 + length (item_of false (put_by_one value).act) ≤ standing.file_size

-- where the file has room for as many bytes as the item is said to take
pub fits_of : (change : Change) (value : List ℕ) (standing : Standing) (size : ℕ) → change ≡ put_by_one value → IsAppendable false change.act → 0 < length value →
    size ≡ length (written_item false (0x6b ∷ []) (value_until value 0)) → 8 + size ≤ standing.file_size → Fits change value standing
fits_of change value standing size is may some item room =
    record { is = is; may = may; room = omega (arith, room, item ∙ ap length (item_is value some)) }

file_is : (s : Seated) (standing : Standing) → IsReady s standing → standing.file_size ≡ file_size s.region.start
file_is s standing ready = ap (λ (x : Standing). x.file_size) ready.known

pub can_append : (s : Seated) (standing : Standing) (change : Change) (value : List ℕ) → IsReady s standing → Fits change value standing → CanAppend standing change
can_append s standing change value ready fits =
    let size = file_size s.region.start in
    let can : CanAppend (known_of size) (put_by_one value) =
    record {
      appendable = subst (λ (x : Change). IsAppendable false x.act) fits.is fits.may;
      some = omega arith;
      room = omega (arith, fits.room, file_is s standing ready);
      file = ready.file.most;
    } in
    subst (λ x. CanAppend x change) (sym ready.known) (subst (CanAppend (known_of size)) (sym fits.is) can)

pub append_owed : (s t : Seated) (standing : Standing) (change : Change) (value : List ℕ) (making : Making) (events room : ℕ) → IsReady s standing → Fits change value standing →
    making ≡ appending standing change → events ≡ length making.events → Goes (reserving events room (seat_state s)) (seat_state s) (seat_state t) →
    (row : Row) × IsOwing row making.events (seat_state t)
append_owed s t standing change value making events room ready fits made count goes =
    let size = file_size s.region.start in
    let item = item_of false (put_by_one value).act in
    let mark = Commit (put_by_one value) in
    let is : making ≡ appending (known_of size) (put_by_one value) = made ∙ (λ i. appending (ready.known i) (fits.is i)) in
    let places : events ≡ length (appending (known_of size) (put_by_one value)).events = count ∙ ap (λ (x : Making). length x.events) is in
    let owed = owing Clear (appending (known_of size) (put_by_one value)).events room s t ready.held
    (subst (λ n. Goes (reserving n room (seat_state s)) (seat_state s) (seat_state t)) places goes)
    (λ k h. append_within k (known_of size) item mark)
    (put_storable s.region.start value ready.held.start (subst (λ (x : Change). IsAppendable false x.act) fits.is fits.may) (omega (arith, fits.room, file_is s standing ready))) in
    (Clear, subst (λ (x : Making). IsOwing Clear x.events (seat_state t)) (sym is) owed)

abbrev packing : Change
packing = record { maker = 1; act = act.Pack 0 }

pub write_back_owed : (s t : Seated) (standing : Standing) (m : Map) (making : Making) (events room : ℕ) → IsReady s standing → CanBeWritten m → CanBegin standing m 0 →
    making ≡ rewriting standing m packing 0 → events ≡ length making.events → room ≡ making.room → Goes (reserving events room (seat_state s)) (seat_state s) (seat_state t) →
    (row : Row) × IsOwing row making.events (seat_state t)
write_back_owed s t standing m making events room ready can begins made count wide goes =
    let size = file_size s.region.start in
    let known = known_of size in
    let is : making ≡ rewriting known m packing 0 = made ∙ (λ i. rewriting (ready.known i) m packing 0) in
    let places : events ≡ length (rewriting known m packing 0).events = count ∙ ap (λ (x : Making). length x.events) is in
    let roomy : room ≡ (rewriting known m packing 0).room = wide ∙ ap (λ (x : Making). x.room) is in
    let begun : CanBegin known m 0 = subst (λ x. CanBegin x m 0) ready.known begins in
    let owed = owing Clear (rewriting known m packing 0).events room s t ready.held
    (subst (λ n. Goes (reserving n room (seat_state s)) (seat_state s) (seat_state t)) places goes)
    (λ k h. within_room known (file_for known m 0) (packed false m) (Commit packing) k (subst (λ z. z ≤ k) roomy h))
    (rewrite_storable s.region.start m packing ready.held.start can ready.file refl begun.0) in
    (Clear, subst (λ (x : Making). IsOwing Clear x.events (seat_state t)) (sym is) owed)
