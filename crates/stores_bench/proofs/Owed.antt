-- What the holder of the start is to store is owed.
use Rattle.std.proofs.Common.{◌≡◌, ℕ, ◌+◌, ◌^◌, ◌<◌, ◌≤◌, false, List, [], ◌++◌, length, max, refl, sym, ap, subst, ◌∙◌, arith, length-append}
use Rattle.std.specs.Prelude.{IsSome, flat_map}
use Rattle.std.specs.FinMap as fin
use Rattle.crc_words.specs.Crc.{crc, crc_from}
use Rattle.crc_words.proofs.Bounds.{crc_below}
use Rattle.crc_words.proofs.Continued.{continued_is}
use Rattle.expiring_map.specs.Map.{Map}
use Rattle.kv_pairs.specs.Growth.{IsFileSize, grown_size}
use Rattle.kv_pairs.specs.Mapped.{packed, heading, put_item}
use Rattle.change_log.specs.declared.change.Change.{Change}
use Rattle.region_words.specs.Region.{Region, IsRegion, record_of, file_size}
use Rattle.region_words.specs.Past.{region_after}
use Rattle.region_words.specs.Rows.{Row, IsAppendable, item_of, append_stores, write_back_stores}
use Rattle.region_words.specs.Apart.{Apart}
use Rattle.region_words.specs.Share.{Goes, reserving}
use Rattle.region_words.specs.Local.{Seated, seat_state}
use Rattle.region_words.specs.Owing.{AreStorable, AreWithin, IsOwing}
use Rattle.region_words.specs.declared.event.Mark.TheVariants.{Commit}
use Rattle.region_words.specs.declared.event.What.{What}
use Rattle.region_words.proofs.Regions.{All-from_Small}
use Rattle.region_words.proofs.RowsStand.{item_bytes}
use Rattle.region_words.proofs.GrownFiles.{IsFound, grown_roomy}
use Rattle.region_words.proofs.PackedBytes.{packed_bytes}
use Rattle.region_words.proofs.StorableRows.{append_storable, write_back_storable}
use Rattle.stores_bench.specs.Start.{IsStart, IsHeld, lock, known_of, put_by_one}
use Rattle.stores_bench.specs.Pairs.{CanBeWritten}
use Rattle.stores_bench.proofs.NotApart.{not_apart}

-- events that may be stored in the start are owed once there are places and room for them
pub owing : (row : Row) (events : List What) (room : ℕ) (s t : Seated) → IsHeld s → Goes (reserving (length events) room (seat_state s)) (seat_state s) (seat_state t) →
    ((k : ℕ) → room ≤ k → AreWithin k events) → (IsRegion s.region.start → AreStorable s.region.start 1 events) → IsOwing row events (seat_state t)
owing row events room s t held goes within storable =
    let g = goes.after.told in
    let same : t.who ≡ s.who = goes.after.same.who in
    let past : t.region.past ≡ lock = g.past ∙ ap (λ others. others ++ s.region.past) (g.none refl) ∙ held.past in
    let stores = storable (subst IsRegion g.start goes.after.sound.told.region) in
    record {
      alive = goes.after.ended ∙ held.alive;
      holds = goes.after.holds ∙ held.holds;
      maker = goes.after.sound.maker;
      places = subst (λ w. length events ≤ (seat_state t).reserved w) (sym same) (omega (arith, goes.after.places));
      room = subst (λ w. AreWithin ((seat_state t).room w) events) (sym same) (subst (λ k. AreWithin k events) (sym goes.after.room) (within (max ((seat_state s).room s.who) room) (omega arith)));
      told = record {
        agrees = goes.after.sound.told;
        storable = subst (λ w. AreStorable (region_after t.region.start t.region.past) w events) (sym (same ∙ held.who))
            (subst (λ p. AreStorable (region_after t.region.start p) 1 events) (sym past) (subst (λ r. AreStorable r 1 events) (sym g.start) stores));
        coming = λ apart. absurd (not_apart t.region.start (subst IsStart (sym g.start) held.start) (subst (λ p. Apart t.region.start p) past apart));
      };
    }

version_is : (r : Region) → IsStart r → (record_of r).version ≡ 3
version_is r (behind, is) = ap (λ (x : Region). (record_of x).version) is

sum_below : (item : List ℕ) → crc_from 0 item < 2 ^ 32
unfolding crc
sum_below item = subst (λ x. x < 2 ^ 32) (sym (continued_is [] item)) (crc_below item)

-- the stores of an append may be made in the start
pub put_storable : (r : Region) (value : List ℕ) → IsStart r → IsAppendable false (put_by_one value).act → 8 + length (item_of false (put_by_one value).act) ≤ file_size r → IsRegion r →
    AreStorable r 1 (append_stores (known_of (file_size r)) (item_of false (put_by_one value).act) (Commit (put_by_one value)))
put_storable r value start may room is =
    let put = put_by_one value in
    let item = item_of false put.act in
    append_storable r (known_of (file_size r)) item (Commit put) 1 is (All-from_Small item (item_bytes false put.act may)) (omega (arith, room)) (omega arith) (sum_below item)
    (λ ok e. absurd (omega (arith, e, version_is r start))) refl

some_packed : (m : Map) → 0 < length (packed false m)
unfolding packed
some_packed m = omega (arith, length-append heading (flat_map (λ e. put_item false e.0 e.1) (fin.entries m)))

-- and so may those of a write-back
pub rewrite_storable : (r : Region) (m : Map) (change : Change) → IsStart r → CanBeWritten m → IsFileSize (file_size r) → change.maker ≡ 1 →
    IsSome (grown_size (length (packed false m)) 0 (fin.len m) (file_size r)) → IsRegion r →
    AreStorable r 1 (write_back_stores (known_of (file_size r)) (grown_size (length (packed false m)) 0 (fin.len m) (file_size r)) (packed false m) (Commit change))
rewrite_storable r m change start can file mine some is =
    let size = grown_size (length (packed false m)) 0 (fin.len m) (file_size r) in
    let f = grown_roomy (length (packed false m)) 0 (fin.len m) (file_size r) file.most file.pages some in
    let found : IsFound (4 + length (packed false m)) size =
    record { wanted = f.wanted; is = f.is; roomy = record { room = omega (arith, f.roomy.room); most = f.roomy.most; pages = f.roomy.pages } } in
    write_back_storable r (known_of (file_size r)) size (packed false m) (Commit change) 1 is refl found (omega arith) (packed_bytes false m can.read.packs) (some_packed m)
    (λ ok e. absurd (omega (arith, e, version_is r start))) mine
