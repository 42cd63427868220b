-- The rows that store no payload.
use Rattle.std.proofs.Common.{◌≡◌, ◌⊎◌, ℕ, zero, suc, ◌≤◌, Bool, true, false, List, [], ◌∷◌, refl, sym, ap, ◌∙◌, inl, inr, arith, subst}
use Rattle.std.specs.Prelude.{Option, Some, None, Contains, not, ◌&&◌, nat_le}
use Rattle.std.specs.FinMap as fin
use Rattle.std.proofs.lemmas.Bool.Decides.{nat_tests}
use Rattle.crc_words.specs.Crc.{crc}
use Rattle.expiring_map.specs.Map.{Map, map_of_pairs, pairs_of}
use Rattle.meta_record.specs.declared.shown.Damage.{Damage}
use Rattle.meta_record.specs.declared.shown.Shown.TheVariants.{Whole, Header, Last, Damaged}
use Rattle.region_words.specs.Region.{Region, header, map_in, base}
use Rattle.region_words.specs.Rows.{Row, Restore, Discard, SizeRepair, MayBegin, events_of, store_meta}
use Rattle.region_words.specs.declared.event.What.{What}
use Rattle.region_words.specs.declared.event.What.TheVariants.{Store, Grow, Lock, Unlock, Died}
use Rattle.region_words.specs.declared.event.Side.TheVariants.{Data, Meta}
use Rattle.region_words.specs.declared.event.Mark.TheVariants.{Plain, Commit}
use Rattle.region_words.specs.Outcome.{commits}
use Rattle.region_words.proofs.RowsStand.{size_repair_is}
use Rattle.region_words.proofs.View.{View, view, has, image, agree, map_at, seen, seen_is, Shows, Broken, IsOr, look, look_whole, look_whole_bare, look_header, look_header_bare, look_last, look_last_bare, look_none, by_size, fits_of, crc_of, agree_from}
use Rattle.region_words.proofs.Kept.{IsApart, Holds, Fit, Kept, known, bare, confirmed, NotEmpty, NoneAt, Within, kept_shows, shown_known, is_known, empty_map, not_empty_more}
use Rattle.region_words.proofs.Changes.{after, data_set}
use Rattle.region_words.proofs.Safe.{Safe, Left, Torn, map_next, word_of}
use Rattle.region_words.proofs.TextLaws.{TextLaws}

left_any : (row : Row) (rest : List What) (b : Bool) (S : List (List ℕ)) (v : View) (m : Map) → Left row rest false S v m → Left row rest b S v m
left_any row rest b S v m (k, inl s) = (k, inl s)
left_any row rest b S v m (k, inr (inl e)) = absurd cc
left_any row rest b S v m (k, inr (inr h)) = (k, inr (inr h))

torn_any : (row : Row) (rest : List What) (b : Bool) (S : List (List ℕ)) (v : View) (m : Map) (what : What) → Torn row rest false S v m what → Torn row rest b S v m what
torn_any row rest b S v m (Store Data (suc word) new Plain) t = λ x mix inside U more holds apart. left_any row rest b U (data_set v (suc word) x) m (t x mix inside U more holds apart)
torn_any row rest b S v m (Store Data zero new mark) t = tt
torn_any row rest b S v m (Store Data (suc word) new (Commit change)) t = tt
torn_any row rest b S v m (Store Meta word x mark) t = t
torn_any row rest b S v m (Grow size) t = tt
torn_any row rest b S v m (Lock kind) t = tt
torn_any row rest b S v m Unlock t = tt
torn_any row rest b S v m (Died torn) t = tt

-- safe without leave to be broken is safe with it
pub safe_any : (row : Row) (rest : List What) (b : Bool) (S : List (List ℕ)) (w : Option ℕ) (v : View) (m : Map) → Safe row rest false S w v m → Safe row rest b S w v m
unfolding Safe
safe_any row [] b S w v m (k, inl s, whole) = (k, inl s, whole)
safe_any row [] b S w v m (k, inr e, whole) = absurd cc
safe_any row (what ∷ rest) b S w v m (l, t, n) = (
  left_any row (what ∷ rest) b S v m l,
  torn_any row (what ∷ rest) b S v m what t,
  λ T step. safe_any row rest (b && not (commits what)) T (word_of what w) (after v what) (map_next m what) (n T step),
)

-- a payload that the checksum is known to be of, with the map
pub record Anchor (S : List (List ℕ)) (v : View) (m : Map) (s : List ℕ) : Type 0 where
  pub among : Contains S s
  pub sum_of : v.sum ≡ crc s
  pub maps : map_in v.on s ≡ Some m

pub anchor : (S : List (List ℕ)) (v : View) (m : Map) → IsApart S → Holds S v → Shows v m → (s : List ℕ) × Anchor S v m s
anchor S v m apart holds sh = let f = shown_known S v m apart holds sh in (image v f.0, record { among = f.2; sum_of = f.3; maps = f.1.maps })

-- what is seen as an image of rule 1 or 2 has the map
pub shows_whole : (S : List (List ℕ)) (v : View) (m : Map) (n : ℕ) → IsApart S → Holds S v → Kept S v m → (seen v ≡ Whole n) ⊎ (seen v ≡ Header n) → Shows v m
shows_whole S v m n apart holds k e = elim (kept_shows S v m apart holds k) [ inl s ↦ s | inr b ↦ absurd (clash b e) ]
  where
    clash : Broken v → ((seen v ≡ Whole n) ⊎ (seen v ≡ Header n)) → ⊥
    clash (inl (k, s)) (inl t) = cc
    clash (inl (k, s)) (inr t) = cc
    clash (inr (k, s)) (inl t) = cc
    clash (inr (k, s)) (inr t) = cc

-- the checksum of nothing is 0
pub crc_nothing : crc [] ≡ 0
unfolding crc
crc_nothing = refl

-- a damaged region's state
abbrev pub Damage_kept : List (List ℕ) → View → Map → Type 0
Damage_kept S v m =
    ((s : List ℕ) × Contains S s × (v.sum ≡ crc s) × IsOr (map_in v.on s) m)
    ⊎ (NotEmpty S v m × NoneAt v v.head × NoneAt v v.size × (agree v v.last v.last_sum ≡ true → map_at v v.last ≡ None))

pub from_damage : (S : List (List ℕ)) (v : View) (m : Map) → Damage_kept S v m → Kept S v m
from_damage S v m (inl (s, c, e, o)) = known s c e o
from_damage S v m (inr (n, h, z, l)) = bare n h z l

pub damage_more : (S T : List (List ℕ)) (v : View) (m : Map) → Within S T → Damage_kept S v m → Damage_kept T v m
damage_more S T v m wide (inl (s, c, e, o)) = inl (s, wide s c, e, o)
damage_more S T v m wide (inr (n, h, z, l)) = inr (not_empty_more S T v m wide n, h, z, l)

-- header and record's size 0 leave it so
damage_head : (S : List (List ℕ)) (v : View) (m : Map) → Damage_kept S v m → Damage_kept S (record v { head = 0 }) m
damage_head S v m (inl k) = inl k
damage_head S v m (inr (n, h, z, l)) = inr (n, inl refl, z, l)

damage_size : (S : List (List ℕ)) (v : View) (m : Map) → Damage_kept S v m → Damage_kept S (record v { size = 0 }) m
damage_size S v m (inl k) = inl k
damage_size S v m (inr (n, h, z, l)) = inr (n, h, inl refl, l)

-- a region that shows its last confirmed image
abbrev pub Last_kept : List (List ℕ) → View → Map → Type 0
Last_kept S v m =
    ((s : List ℕ) × Contains S s × (v.sum ≡ crc s) × IsOr (map_in v.on s) m)
    ⊎ ((agree v v.size v.sum ≡ false) × (agree v v.head v.sum ≡ false) × (agree v v.last v.sum ≡ false) × (agree v v.last v.last_sum ≡ true) × (map_at v v.last ≡ Some m))

from_last : (S : List (List ℕ)) (v : View) (m : Map) → Last_kept S v m → Kept S v m
from_last S v m (inl (s, c, e, o)) = known s c e o
from_last S v m (inr (z, h, k, l, f)) = confirmed z h l f

last_more : (S T : List (List ℕ)) (v : View) (m : Map) → Within S T → Last_kept S v m → Last_kept T v m
last_more S T v m wide (inl (s, c, e, o)) = inl (s, wide s c, e, o)
last_more S T v m wide (inr k) = inr k

last_head : (S : List (List ℕ)) (v : View) (m : Map) → Last_kept S v m → Last_kept S (record v { head = v.last }) m
last_head S v m (inl k) = inl k
last_head S v m (inr (z, h, k, l, f)) = inr (z, k, k, l, f)

last_size : (S : List (List ℕ)) (v : View) (m : Map) → Last_kept S v m → Last_kept S (record v { size = v.last }) m
last_size S v m (inl k) = inl k
last_size S v m (inr (z, h, k, l, f)) = inr (k, h, k, l, f)

-- the image that is seen as the last confirmed one
pub record Confirms (v : View) (q : Map) : Type 0 where
  pub seen_last : seen v ≡ Last v.last
  pub agrees : agree v v.last v.last_sum ≡ true
  pub maps : map_at v v.last ≡ Some q

pub confirms : (v : View) (n : ℕ) → seen v ≡ Last n → (q : Map) × Confirms v q
confirms v n s =
    elim (look v) [
      | look_whole k a em t ↦ absurd cc
      | look_whole_bare a em t ↦ absurd cc
      | look_header k nay a em t ↦ absurd cc
      | look_header_bare nay a em t ↦ absurd cc
      | look_last k nay nor a em t ↦ (k, record { seen_last = t; agrees = a; maps = em })
      | look_last_bare nay nor a em t ↦ absurd cc
      | look_none d nay nor a t ↦ absurd cc
    ]

last_kept : (S : List (List ℕ)) (v : View) (m q : Map) → Holds S v → Confirms v q → Kept S v m → Last_kept S v m
last_kept S v m q holds c (known s a e o) = inl (s, a, e, o)
last_kept S v m q holds c (bare n h z l) = absurd (let k = l c.agrees in let f = c.maps in cc)
last_kept S v m q holds c (confirmed z h l f) = go (agree v v.last v.sum) refl
  where
    go : (b : Bool) → agree v v.last v.sum ≡ b → Last_kept S v m
    go true e = inl (image v v.last, holds.of_last (fits_of v v.last v.sum e), sym (crc_of v v.last v.sum e), inl f)
    go false e = inr (z, h, e, l, f)

module _ (r : Region) (m : Map) (who : ℕ) (room : Option ℕ) (S : List (List ℕ)) (w : Option ℕ) (apart : IsApart S) (holds : Holds S (view r)) (kept : Kept S (view r) m) where
  -- the size repair
  size_store_safe : MayBegin r m room SizeRepair → Safe SizeRepair (store_meta 7 (header r) ∷ []) false S w (view r) m
  unfolding Safe
  size_store_safe (n, e) =
      let s : seen (view r) ≡ Header n = sym (seen_is r) ∙ e in
      let sh = shows_whole S (view r) m n apart holds kept (inr s) in
      let a = anchor S (view r) m apart holds sh in
      let agreed : agree (view r) (view r).head (view r).sum ≡ true = head_agrees (view r) n s in
      let maps : map_at (view r) (view r).head ≡ Some m =
      ap (map_in (view r).on) (is_known S (view r) m apart holds a.0 (view r).head a.1.among a.1.sum_of holds.of_head agreed) ∙ a.1.maps in (
        (kept, inl sh),
        tt,
        λ T step. (known a.0 (step.wide a.0 a.1.among) a.1.sum_of (inl a.1.maps), inl (by_size (after (view r) (store_meta 7 (header r))) m agreed maps).1, (by_size (after (view r) (store_meta 7 (header r))) m agreed maps).0),
      )
    where
      head_agrees : (v : View) (n : ℕ) → seen v ≡ Header n → agree v v.head v.sum ≡ true
      head_agrees v n s =
          elim (look v) [
            | look_whole k a em t ↦ absurd cc
            | look_whole_bare a em t ↦ absurd cc
            | look_header k nay a em t ↦ a
            | look_header_bare nay a em t ↦ absurd cc
            | look_last k nay nor a em t ↦ absurd cc
            | look_last_bare nay nor a em t ↦ absurd cc
            | look_none d nay nor a t ↦ absurd cc
          ]

  pub resize_safe : MayBegin r m room SizeRepair → Safe SizeRepair (events_of r m who SizeRepair) false S w (view r) m
  resize_safe (n, e) = subst (λ z. Safe SizeRepair z false S w (view r) m) (sym (size_repair_is r m who n e)) (size_store_safe (n, e))

  -- what is seen as damage is not shown
  broken_shows : (d : Damage) → seen (view r) ≡ Damaged d → Shows (view r) m → ⊥
  broken_shows d e ((n, inl s), f) = cc
  broken_shows d e ((n, inr s), f) = cc

  last_shows : (n : ℕ) → seen (view r) ≡ Last n → Shows (view r) m → ⊥
  last_shows n e ((k, inl s), f) = cc
  last_shows n e ((k, inr s), f) = cc

  -- damage is never the state in which the last confirmed image alone agrees
  pub damage_kept : (d : Damage) → seen (view r) ≡ Damaged d → Damage_kept S (view r) m
  damage_kept d e = go kept
    where
      not_last : (v : View) → seen v ≡ Damaged d → agree v v.last v.last_sum ≡ true → agree v v.size v.sum ≡ false → agree v v.head v.sum ≡ false → map_at v v.last ≡ Some m → ⊥
      not_last v e l z h f =
          elim (look v) [
            | look_whole k a em t ↦ cc
            | look_whole_bare a em t ↦ cc
            | look_header k nay a em t ↦ cc
            | look_header_bare nay a em t ↦ cc
            | look_last k nay nor a em t ↦ cc
            | look_last_bare nay nor a em t ↦ cc
            | look_none d nay nor a t ↦ cc
          ]

      go : Kept S (view r) m → Damage_kept S (view r) m
      go (known s c q o) = inl (s, c, q, o)
      go (bare n h z l) = inr (n, h, z, l)
      go (confirmed z h l f) = absurd (not_last (view r) e l z h f)

  -- the empty image in the damaged one's place
  pub discard_safe : MayBegin r m room Discard → Safe Discard (events_of r m who Discard) true S w (view r) m
  unfolding Safe events_of
  discard_safe ((d, e), q) =
      let v = view r in
      let s : seen v ≡ Damaged d = sym (seen_is r) ∙ e in
      let k0 = damage_kept d s in (
        (kept, inr (inl refl)),
        tt,
        λ T1 s1. let k1 = damage_more S T1 v m s1.wide k0 in (
          (from_damage T1 v m k1, inr (inl refl)),
          tt,
          λ T2 s2. let v2 = record v { head = 0 } in let k2 = damage_head T2 v m (damage_more T1 T2 v m s2.wide k1) in (
            (from_damage T2 v2 m k2, inr (inl refl)),
            tt,
            λ T3 s3. let v3 = record v2 { size = 0 } in let k3 = damage_size T3 v2 m (damage_more T2 T3 v2 m s3.wide k2) in (
              (from_damage T3 v3 m k3, inr (inl refl)),
              tt,
              λ T4 s4. let v4 = record v3 { sum = 0 } in let e4 = emptied T4 v4 refl refl s4.fit s4.holds in (
                (e4.0, inl e4.1),
                tt,
                λ T5 s5. let e5 = emptied T5 (record v4 { last = 0 }) refl refl s5.fit s5.holds in (
                  (e5.0, inl e5.1),
                  ([], e5.3, crc_nothing),
                  λ T6 s6. let e6 = emptied T6 (record v4 { last = 0; last_sum = 0 }) refl refl s6.fit s6.holds in (e6.0, inl e6.1, e6.2),
                ),
              ),
            ),
          ),
        ),
      )
    where
      emptied : (T : List (List ℕ)) (v : View) → v.size ≡ 0 → v.sum ≡ 0 → Fit v → Holds T v → Kept T v fin.empty × Shows v fin.empty × (seen v ≡ Whole v.size) × Contains T []
      emptied T v z c fit holds =
          let there : has v 0 ≡ true = four_fit v.file (omega (arith, fit.file_is)) in
          let there_too : has v v.size ≡ true = ap (has v) z ∙ there in
          let among : Contains T [] = subst (λ k. Contains T (image v k)) z (holds.of_size there_too) in
          let sum_of : v.sum ≡ crc [] = c ∙ sym crc_nothing in
          let agrees : agree v v.size v.sum ≡ true = agree_from v v.size v.sum there_too (ap (λ k. crc (image v k)) z ∙ sym sum_of) in
          (known [] among sum_of (inl (empty_map v.on)), (by_size v fin.empty agrees (ap (map_at v) z ∙ empty_map v.on)).1, (by_size v fin.empty agrees (ap (map_at v) z ∙ empty_map v.on)).0, among)
        where
          four_fit : (n : ℕ) → 4 ≤ n → nat_le 4 n ≡ true
          four_fit n h = grind (arith, nat_tests)

  -- the last confirmed image in place of the one that is lost
  pub restore_safe : TextLaws → MayBegin r m room Restore → Safe Restore (events_of r m who Restore) true S w (view r) m
  unfolding Safe events_of
  restore_safe laws ((n, e), q) =
      let v = view r in
      let c = confirms v n (sym (seen_is r) ∙ e) in
      let k0 = last_kept S v m c.0 holds c.1 kept in
      let base_is : base r ≡ c.0 = base_from c.0 c.1 in
      let map_is : map_at v v.last ≡ Some (map_of_pairs (pairs_of (base r))) = c.1.maps ∙ ap Some (sym (laws.pairs (base r) ∙ base_is)) in (
        (kept, inr (inl refl)),
        tt,
        λ T1 s1. let k1 = last_more S T1 v m s1.wide k0 in (
          (from_last T1 v m k1, inr (inl refl)),
          tt,
          λ T2 s2. let v2 = record v { head = v.last } in let k2 = last_head T2 v m (last_more T1 T2 v m s2.wide k1) in (
            (from_last T2 v2 m k2, inr (inl refl)),
            tt,
            λ T3 s3. let v3 = record v2 { size = v.last } in let k3 = last_size T3 v2 m (last_more T2 T3 v2 m s3.wide k2) in (
              (from_last T3 v3 m k3, inr (inl refl)),
              tt,
              λ T4 s4. let v4 = record v3 { sum = v.last_sum } in (
                known (image v v.last) (s4.holds.of_size (fits_of v v.last v.last_sum c.1.agrees)) (sym (crc_of v v.last v.last_sum c.1.agrees)) (inl map_is),
                inl (by_size v4 (map_of_pairs (pairs_of (base r))) c.1.agrees map_is).1,
                (by_size v4 (map_of_pairs (pairs_of (base r))) c.1.agrees map_is).0,
              ),
            ),
          ),
        ),
      )
    where
      base_from : (q : Map) → Confirms (view r) q → base r ≡ q
      base_from q c = rw (seen_is r ∙ c.seen_last) (rw c.maps refl)
