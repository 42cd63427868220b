-- The row of a put or remove.
use Rattle.std.proofs.Common.{◌≡◌, ℕ, ◌+◌, ◌*◌, ◌/◌, ◌<◌, ◌≤◌, Bool, true, false, List, [], ◌∷◌, ◌++◌, length, take, drop, refl, sym, ap, ◌∙◌, inl, arith, subst, length-append, length-drop, length-take}
use Rattle.std.specs.Prelude.{All, Option, Some, Contains, nat_le, option_and_then}
use Rattle.std.proofs.lemmas.Bool.Decides.{nat_tests}
use Rattle.std.proofs.lemmas.List.{take_at, take-append-le, take-append-drop, take_all, take-take}
use Rattle.std.proofs.lemmas.List.Elements.{All-take, All-append}
use Rattle.crc_words.specs.Crc.{crc}
use Rattle.expiring_map.specs.Map.{Map}
use Rattle.kv_pairs.specs.Growth.{largest}
use Rattle.change_log.specs.Acts.{applied}
use Rattle.change_log.specs.declared.change.Act.{Act}
use Rattle.meta_record.specs.declared.shown.Shown.TheVariants.{Whole}
use Rattle.region_words.specs.Region.{Region, record_of, flag, map_in, shown, payload_of, size_of}
use Rattle.region_words.specs.Rows.{Append, MayBegin, events_of, mark_of, item_of, store_data, store_meta}
use Rattle.region_words.proofs.OfRegion.{append_to}
use Rattle.region_words.specs.declared.event.Side.TheVariants.{Meta}
use Rattle.region_words.specs.declared.event.What.TheVariants.{Store}
use Rattle.region_words.proofs.View.{View, view, has, image, agree, map_at, seen, seen_is, Shows, look, look_whole, look_whole_bare, look_header, look_header_bare, look_last, look_last_bare, look_none, by_size, fits_of, crc_of, agree_from}
use Rattle.region_words.proofs.Kept.{IsApart, Holds, Fit, Kept, known, Within, new_shows}
use Rattle.region_words.proofs.Safe.{Safe}
use Rattle.region_words.proofs.ShortRows.{shows_whole}
use Rattle.region_words.proofs.ByStanding.{append_is_stores}
use Rattle.region_words.proofs.PayloadStores.{stored}
use Rattle.region_words.proofs.TextLaws.{TextLaws}

-- tests of sizes
pub has_from : (v : View) (z : ℕ) → 4 + z ≤ v.file → has v z ≡ true
has_from v z h = go (4 + z) v.file h
  where
    go : (a b : ℕ) → a ≤ b → nat_le a b ≡ true
    go a b h = grind (arith, nat_tests)

pub has_to : (v : View) (z : ℕ) → has v z ≡ true → 4 + z ≤ v.file
has_to v z h = go (4 + z) v.file h
  where
    go : (a b : ℕ) → nat_le a b ≡ true → a ≤ b
    go a b h = grind (arith, nat_tests)

-- what is seen whole
pub record IsSeen (v : View) (n : ℕ) : Type 0 where
  pub size_is : n ≡ v.size
  pub agrees : agree v v.size v.sum ≡ true

pub whole_seen : (v : View) (n : ℕ) → seen v ≡ Whole n → IsSeen v n
whole_seen v n s =
    elim (look v) [
      | look_whole k a em t ↦ record { size_is = cc; agrees = a }
      | look_whole_bare a em t ↦ absurd cc
      | look_header k nay a em t ↦ absurd cc
      | look_header_bare nay a em t ↦ absurd cc
      | look_last k nay nor a em t ↦ absurd cc
      | look_last_bare nay nor a em t ↦ absurd cc
      | look_none d nay nor a t ↦ absurd cc
    ]

-- a payload stands whole: rule 1 shows it, with the map m
pub record Stands (old : List ℕ) (on : Bool) (S : List (List ℕ)) (v : View) : Type 0 where
  pub among : Contains S old
  pub sum_is : v.sum ≡ crc old
  pub size_is : v.size ≡ length old
  pub on_is : v.on ≡ on
  pub image_is : take (length old) v.body ≡ old
  pub fits_in : 4 + length old ≤ v.file

pub stands_image : (old : List ℕ) (on : Bool) (S : List (List ℕ)) (v : View) → Stands old on S v → image v v.size ≡ old
stands_image old on S v k = ap (image v) k.size_is ∙ k.image_is

pub stands_kept : (old : List ℕ) (on : Bool) (S : List (List ℕ)) (v : View) (m : Map) → map_in on old ≡ Some m → Stands old on S v → Kept S v m
stands_kept old on S v m maps k = known old k.among k.sum_is (inl (ap (λ o. map_in o old) k.on_is ∙ maps))

pub stands_shows : (old : List ℕ) (on : Bool) (S : List (List ℕ)) (v : View) (m : Map) → map_in on old ≡ Some m → Stands old on S v → Shows v m
stands_shows old on S v m maps k =
    let image_is = stands_image old on S v k in
    let fits : has v v.size ≡ true = has_from v v.size (omega (arith, k.fits_in, k.size_is)) in
    (by_size v m (agree_from v v.size v.sum fits (ap crc image_is ∙ sym k.sum_is)) (ap (λ o. map_in o (image v v.size)) k.on_is ∙ ap (map_in on) image_is ∙ maps)).1

pub stands_more : (old : List ℕ) (on : Bool) (S T : List (List ℕ)) (v : View) → Within S T → Stands old on S v → Stands old on T v
stands_more old on S T v wide k = record { among = wide old k.among; sum_is = k.sum_is; size_is = k.size_is; on_is = k.on_is; image_is = k.image_is; fits_in = k.fits_in }

pub stands_head : (old : List ℕ) (on : Bool) (S : List (List ℕ)) (v : View) (x : ℕ) → Stands old on S v → Stands old on S (record v { head = x })
stands_head old on S v x k = record { among = k.among; sum_is = k.sum_is; size_is = k.size_is; on_is = k.on_is; image_is = k.image_is; fits_in = k.fits_in }

-- where a row that needs a whole image begins
pub begins_whole : (r : Region) (m : Map) (S : List (List ℕ)) (n : ℕ) → IsApart S → Holds S (view r) → Fit (view r) → Kept S (view r) m → shown r ≡ Whole n →
    let v = view r in let old = image v v.size in (map_in v.on old ≡ Some m) × Stands old v.on S v × (length old ≡ v.size) × (n ≡ v.size)
begins_whole r m S n apart holds fit kept e =
    let v = view r in
    let s : seen v ≡ Whole n = sym (seen_is r) ∙ e in
    let sh = shows_whole S v m n apart holds kept (inl s) in
    let is = whole_seen v n s in
    let fits = fits_of v v.size v.sum is.agrees in
    let room = has_to v v.size fits in
    let len : length (image v v.size) ≡ v.size = omega (arith, length-take v.size v.body, room, fit.file_is) in
    let maps : map_in v.on (image v v.size) ≡ Some m = map_of_whole v m (s ∙ ap Whole is.size_is) sh in (
      maps,
      record {
        among = holds.of_size fits;
        sum_is = sym (crc_of v v.size v.sum is.agrees);
        size_is = sym len;
        on_is = refl;
        image_is = ap (λ k. take k v.body) len;
        fits_in = omega (arith, len, room);
      },
      len,
      is.size_is,
    )
  where
    map_of_whole : (v : View) (m : Map) → seen v ≡ Whole v.size → Shows v m → map_at v v.size ≡ Some m
    map_of_whole v m t (p, e) = ap (λ x. option_and_then (λ k. map_at v k) (size_of x)) (sym t) ∙ e

module _ (r : Region) (m : Map) (who : ℕ) (room : Option ℕ) (S : List (List ℕ)) (w : Option ℕ) (apart : IsApart S) (holds : Holds S (view r)) (fit : Fit (view r)) (kept : Kept S (view r) m)
    (laws : TextLaws) (a : Act) where
  old : List ℕ
  old = payload_of r (record_of r).size

  item : List ℕ
  item = item_of (flag r) a

  abbrev new : List ℕ
  new = payload_of r (record_of r).size ++ item_of (flag r) a

  -- an item at the end of the payload
  stores_safe : MayBegin r m room (Append a) →
      Safe (Append a) (append_to (payload_of r (record_of r).size) (item_of (flag r) a) (mark_of r who (Append a))) false S w (view r) m
  unfolding Safe
  stores_safe (n, e, has_room, appendable, need) =
      let v = view r in
      let start = begins_whole r m S n apart holds fit kept e in
      let p = image v v.size in
      let i = item_of (flag r) a in
      let k = 4 * (length p / 4) in
      let len_old : length p ≡ v.size = start.2 in
      let bytes = laws.item_bytes (flag r) a appendable in
      let p_bytes : All (λ b. b < 256) p = All-take (λ b. b < 256) v.size v.body fit.bytes in
      let small : All (λ b. b < 256) new = All-append (λ b. b < 256) p i p_bytes bytes.0 in
      let some_old : 0 < length p = omega (arith, has_room.0, start.3, len_old) in
      let most : length p ≤ largest = omega (arith, start.1.fits_in, fit.most) in
      let maps : map_in v.on new ≡ Some (applied m a) = laws.appended (flag r) p m a p_bytes most some_old start.0 appendable in
      let tail = store_data 0 (length new) ∷ Store Meta 0 (crc new) (mark_of r who (Append a)) ∷ store_meta 7 (length new) ∷ [] in
      let body_room : k ≤ length v.body = omega (arith, start.1.fits_in, fit.file_is) in
      let pre_is : take k v.body ≡ take k new = sym (take-take k v.size v.body (omega (arith, len_old))) ∙ sym (take-append-le k p i (omega arith)) in
      stored (Append a) tail false m (length p) new small (λ T u. Stands p v.on T u)
      (λ X T u body wide st same len. record { among = wide p st.among; sum_is = st.sum_is; size_is = st.size_is; on_is = st.on_is; image_is = same ∙ st.image_is; fits_in = st.fits_in })
      (λ T u rest st uh ua seq comm. (stands_kept p v.on T u m start.0 st, inl (stands_shows p v.on T u m start.0 st)))
      (λ T last u st uh ua uf t body_is less more inside. finish T last u st t body_is less inside start.0 maps)
      (drop k new) (take k v.body) (drop k v.body) (1 + length p / 4) (length p / 4) S w v
      (omega (arith, length-drop k new, length-append p i, bytes.1)) (omega arith) (omega (arith, length-take k v.body, body_room)) (omega (arith, length-take k v.body, body_room)) (omega (arith, length-append p i))
      (sym (take-append-drop k new) ∙ ap (λ l. l ++ drop k new) (sym pre_is)) (sym (take-append-drop k v.body))
      (start.1.image_is ∙ sym (take_all (length p) p (omega arith)) ∙ sym (take-append-le (length p) p i (omega arith)))
      start.1 holds apart fit
    where
      finish : (T : List (List ℕ)) (last : ℕ) (u : View) → Stands (image (view r) (view r).size) (view r).on T u → (t : List ℕ) → u.body ≡ new ++ t → length new ≤ 4 * last → 4 * last + 4 ≤ u.file →
          map_in (view r).on (image (view r) (view r).size) ≡ Some m → map_in (view r).on new ≡ Some (applied m a) →
          Safe (Append a) (store_data 0 (length new) ∷ Store Meta 0 (crc new) (mark_of r who (Append a)) ∷ store_meta 7 (length new) ∷ []) false T (Some last) u m
      finish T last u st t body_is less inside old_maps maps =
          let p = image (view r) (view r).size in
          let on = (view r).on in
          let N = length new in
          let fits : has u N ≡ true = has_from u N (omega (arith, less, inside)) in
          let image_new : take N u.body ≡ new = ap (take N) body_is ∙ take_at new t N refl in
          let agreed : (x : View) → x.body ≡ u.body → x.file ≡ u.file → x.sum ≡ crc new → agree x N x.sum ≡ true =
          λ x b f c. agree_from x N x.sum (ap (λ k. nat_le (4 + N) k) f ∙ fits) (ap (λ l. crc (take N l)) b ∙ ap crc image_new ∙ sym c) in
          let maps_new : map_in u.on (take N u.body) ≡ Some (applied m a) = ap (λ o. map_in o (take N u.body)) st.on_is ∙ ap (map_in on) image_new ∙ maps in
          let u1 = record u { head = N } in
          let u2 = record u1 { sum = crc new } in
          let u3 = record u2 { size = N } in (
            (stands_kept p on T u m old_maps st, inl (stands_shows p on T u m old_maps st)),
            tt,
            λ T1 s1. let st1 = stands_head p on T1 u N (stands_more p on T T1 u s1.wide st) in (
              (stands_kept p on T1 u1 m old_maps st1, inl (stands_shows p on T1 u1 m old_maps st1)),
              tt,
              λ T2 s2.
                  let among : Contains T2 new = subst (Contains T2) image_new (s2.holds.of_head fits) in
                  let k2 : Kept T2 u2 (applied m a) = known new among refl (inl (ap (λ o. map_in o new) st.on_is ∙ maps)) in
                  let sh2 : Shows u2 (applied m a) = new_shows T2 u2 (applied m a) s2.apart s2.holds (agreed u2 refl refl refl) maps_new in (
                    (k2, inl sh2),
                    tt,
                    λ T3 s3. (
                      known new (s3.wide new among) refl (inl (ap (λ o. map_in o new) st.on_is ∙ maps)),
                      inl (by_size u3 (applied m a) (agreed u3 refl refl refl) maps_new).1,
                      (by_size u3 (applied m a) (agreed u3 refl refl refl) maps_new).0,
                    ),
                  ),
            ),
          )

  pub append_safe : MayBegin r m room (Append a) → Safe (Append a) (events_of r m who (Append a)) false S w (view r) m
  append_safe (n, e, has_room, appendable, need) =
      subst (λ z. Safe (Append a) z false S w (view r) m) (sym (append_is_stores r n fit.bytes e m who a)) (stores_safe (n, e, has_room, appendable, need))
