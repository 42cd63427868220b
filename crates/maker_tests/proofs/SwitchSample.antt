-- A fresh region in memory: its holder may switch the expiry on.
use Rattle.std.proofs.Common.{◌≡◌, ℕ, List, [], ◌∷◌, ◌++◌, true, false, refl, sym, subst, ap, ◌∙◌, lit≤, lit<, arith, inr}
use Rattle.std.specs.Prelude.{None, IsSome, map}
use Rattle.std.specs.Ordering.{nat_cmp}
use Rattle.std.specs.Cmp.Lexicographic.{slice_cmp}
use Rattle.std.specs.FinMap as fin
use Rattle.crc_words.specs.Crc.{crc}
use Rattle.expiring_map.specs.ValueUntil.{ValueUntil}
use Rattle.expiring_map.specs.Live.{expiring, with_expiry}
use Rattle.kv_pairs.specs.Reading.{length_at, read_payload}
use Rattle.kv_pairs.specs.Growth.{grown_size, IsFileSize}
use Rattle.change_log.specs.declared.change.Act.TheVariants as act
use Rattle.change_log.specs.declared.change.Change.{Change}
use Rattle.lock_rules.specs.declared.table.LockKind.TheVariants.{Exclusive}
use Rattle.region_words.specs.Region.{Region, shown}
use Rattle.region_words.specs.Past.{region_after}
use Rattle.region_words.specs.Rows.{Enable, MayBegin, closed_size, events_of, size_after, store_data, store_meta}
use Rattle.region_words.specs.Lawful.{Between, MayComeNext}
use Rattle.region_words.specs.Coming.{IsComing}
use Rattle.region_words.specs.Share.{Goes, locked, reserving}
use Rattle.region_words.specs.Owing.{AreStorable, Comes, IsOwing}
use Rattle.region_words.specs.Local.{Seated, seat_state}
use Rattle.region_words.specs.declared.standing.Standing.{Standing}
use Rattle.region_words.specs.declared.event.Side.TheVariants.{Data}
use Rattle.region_words.specs.declared.event.Mark.TheVariants.{Commit}
use Rattle.region_words.specs.declared.event.What.{What}
use Rattle.region_words.specs.declared.event.What.TheVariants.{Store}
use Rattle.region_words.specs.declared.event.Event.{Event}
use Rattle.region_words.proofs.FitsAfter.{cleared_fits}
use Rattle.region_words.proofs.MapLemmas.{entries-empty, packed-empty}
use Rattle.region_words.proofs.FirstLock.{locked_past}
use Rattle.expiry_switch.specs.Switches.{CanSwitch, enabling}
use Rattle.maker_tests.proofs.WriteBackSample.{sample, known, lock, no_pairs, shows}

abbrev pub change : Change
change = record { maker = 1; act = act.Enable 100 0 }

abbrev pub stores : List What
stores =
    store_meta 2 1 ∷ store_meta 1 4 ∷ store_meta 7 closed_size ∷ store_data 0 closed_size ∷ store_meta 8 closed_size ∷ store_data 1 0x07ffffff ∷ store_meta 26 1
    ∷ store_meta 0 0x4c9985d1 ∷ store_meta 9 0x4c9985d1 ∷ Store Data 0 4 (Commit change) ∷ store_meta 7 4 ∷ store_meta 8 4 ∷ []

-- a store without pairs can be switched
pub can_switch : (s : Standing) → IsFileSize s.file_size → CanSwitch s fin.empty
can_switch s file =
    let fits = cleared_fits s.flag fin.empty in
    record { file = file; map = record { pairs = fits.pairs; size = omega (arith, fits.size) } }

with_expiry-empty : (expiry : ℕ) → with_expiry expiry fin.empty ≡ fin.empty
with_expiry-empty expiry = ap (λ es. fin.from_entries (map (λ e. (e.0, expiring expiry e.1)) es)) entries-empty

-- its events
pub writes : (enabling known fin.empty 1 100 0).events ≡ stores
unfolding grown_size crc
writes = rw (with_expiry-empty 0) (rw (packed-empty true, fin.len-empty (slice_cmp nat_cmp) ValueUntil) refl)

row : events_of sample fin.empty 1 (Enable 100 0) ≡ stores
unfolding events_of shown crc read_payload length_at grown_size
row = rw (with_expiry-empty 0) (rw (packed-empty true, fin.len-empty (slice_cmp nat_cmp) ValueUntil) refl)

-- room is found
fits : IsSome (size_after sample fin.empty (Enable 100 0))
unfolding grown_size
fits = rw (with_expiry-empty 0) (rw (packed-empty true) refl)

begins : MayBegin sample fin.empty None (Enable 100 0)
begins = ((0, shows), refl, lit< tt, (lit< tt, fits))

coming : IsComing sample lock 1 (Enable 100 0) stores
coming =
    record {
      phase = Between None;
      reached = (Between None, refl, refl);
      next = subst (λ m. MayComeNext sample m 1 (Between None) (Enable 100 0) stores) (sym no_pairs) (begins, sym row, refl);
    }

storable : AreStorable sample 1 stores
storable = (
  (lit≤ tt, lit< tt, λ e. absurd cc, tt),
  λ _. refl,
  (
    (lit≤ tt, lit< tt, λ _. inr refl, tt),
    λ _. refl,
    (
      (lit≤ tt, lit< tt, λ e. absurd cc, tt),
      λ _. refl,
      (
        (lit≤ tt, lit< tt, tt, tt),
        λ _. refl,
        (
          (lit≤ tt, lit< tt, λ e. absurd cc, tt),
          λ _. refl,
          (
            (lit≤ tt, lit< tt, tt, tt),
            λ _. refl,
            (
              (lit≤ tt, lit< tt, λ e. absurd cc, tt),
              λ _. refl,
              (
                (lit≤ tt, lit< tt, λ e. absurd cc, tt),
                λ _. refl,
                (
                  (lit≤ tt, lit< tt, λ e. absurd cc, tt),
                  λ _. refl,
                  (
                    (lit≤ tt, lit< tt, tt, refl),
                    λ _. refl,
                    ((lit≤ tt, lit< tt, λ e. absurd cc, tt), λ _. refl, ((lit≤ tt, lit< tt, λ e. absurd cc, tt), λ _. refl, tt)),
                  ),
                ),
              ),
            ),
          ),
        ),
      ),
    ),
  ),
)

-- the events may be made, and come next
record IsReady (r : Region) (past : List Event) (who : ℕ) : Type 0 where
  may : AreStorable (region_after r past) who stores
  comes : Comes r past who (Enable 100 0) stores

ready : IsReady sample lock 1
ready = record { may = storable; comes = coming }

-- so it is after the first lock and a reservation
pub owing : (s t u : Seated) → (seat_state s).ended ≡ false → s.who ≡ 1 → s.region.start ≡ sample → s.region.past ≡ [] →
    Goes (locked Exclusive (seat_state s)) (seat_state s) (seat_state t) → Goes (reserving 12 0 (seat_state t)) (seat_state t) (seat_state u) →
    IsOwing (Enable 100 0) stores (seat_state u)
owing s t u alive one start_is none took kept =
    let told = locked_past s t one none took in
    let g = kept.after.told in
    let who : u.who ≡ 1 = kept.after.same.who ∙ told.0 in
    let start : u.region.start ≡ sample = g.start ∙ (told.1 ∙ start_is) in
    let past : u.region.past ≡ lock = g.past ∙ (ap (λ others. others ++ t.region.past) (g.none refl) ∙ told.2) in
    let is : IsReady u.region.start u.region.past u.who =
    subst (λ w. IsReady u.region.start u.region.past w) (sym who)
    (subst (λ r. IsReady r u.region.past 1) (sym start) (subst (λ p. IsReady sample p 1) (sym past) ready)) in
    record {
      alive = kept.after.ended ∙ (took.after.ended ∙ alive);
      holds = kept.after.holds ∙ took.after.holds;
      maker = kept.after.sound.maker;
      places = let places = ap (seat_state u).reserved kept.after.same.who ∙ kept.after.places in omega (arith, places);
      room = (tt, (tt, (tt, (tt, (tt, (tt, (tt, (tt, (tt, (tt, (tt, (tt, tt))))))))))));
      told = record { agrees = kept.after.sound.told; storable = is.may; coming = λ _. is.comes };
    }
