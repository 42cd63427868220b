-- The rows that put a new payload in the old one's place under an open size: Pack and Clear.
use Rattle.std.proofs.Common.{◌≡◌, ◌⊎◌, ℕ, ◌+◌, ◌-◌, ◌<◌, ◌≤◌, Bool, true, false, cond, List, [], ◌∷◌, ◌++◌, length, take, refl, sym, ap, ◌∙◌, inl, inr, arith, subst}
use Rattle.std.specs.Prelude.{All, Option, Some, not, ◌==◌, Contains, nat_lt, replicate, unwrap_or}
use Rattle.std.specs.List.{list_any}
use Rattle.std.proofs.lemmas.List.{take_at, take-append-le}
use Rattle.std.proofs.lemmas.List.Elements.{All-take}
use Rattle.crc_words.specs.Crc.{crc}
use Rattle.expiring_map.specs.Map.{Map}
use Rattle.change_log.specs.Acts.{applied}
use Rattle.change_log.specs.declared.change.Act.TheVariants as act
use Rattle.change_log.specs.declared.change.Change.{Change}
use Rattle.region_words.specs.Region.{Region, record_of, map_in, file_size}
use Rattle.kv_pairs.specs.Mapped.{packed}
use Rattle.region_words.specs.Rows.{Row, Pack, Clear, MayBegin, events_of, store_meta, payload_stores, confirmed_by_checksum, size_after, payload_after}
use Rattle.region_words.specs.Standings.{words_of}
use Rattle.region_words.proofs.OfRegion.{growth}
use Rattle.region_words.specs.Outcome.{stores_sequence, commits, is_rewrite}
use Rattle.region_words.specs.declared.event.Side.TheVariants.{Meta}
use Rattle.region_words.specs.declared.event.Mark.TheVariants.{Commit}
use Rattle.region_words.specs.declared.event.What.{What}
use Rattle.region_words.specs.declared.event.What.TheVariants.{Store, Grow}
use Rattle.region_words.proofs.View.{View, view, has, image, agree, by_size, agree_from}
use Rattle.region_words.proofs.Kept.{IsApart, Holds, Fit, Kept, known, Within, new_shows}
use Rattle.region_words.proofs.Changes.{after}
use Rattle.region_words.proofs.Safe.{Safe, Left}
use Rattle.region_words.proofs.PayloadStores.{stored, none_raises, none_commits}
use Rattle.region_words.proofs.TextLaws.{TextLaws}
use Rattle.region_words.proofs.AppendRow.{has_from, Stands, stands_kept, stands_shows, begins_whole}

-- the file is grown, or not
pub grows_or : (r : Region) (size : Option ℕ) → (growth r size ≡ []) ⊎ ((x : ℕ) × (growth r size ≡ Grow x ∷ []))
grows_or r size = go (nat_lt (file_size r) (unwrap_or size 0))
  where
    go : (b : Bool) → (cond b (Grow (unwrap_or size 0) ∷ []) [] ≡ []) ⊎ ((x : ℕ) × (cond b (Grow (unwrap_or size 0) ∷ []) [] ≡ Grow x ∷ []))
    go true = inr (unwrap_or size 0, refl)
    go false = inl refl

-- the checksum is that of the old payload, under the old flag
pub record Knows (old : List ℕ) (on : Bool) (S : List (List ℕ)) (v : View) : Type 0 where
  pub among : Contains S old
  pub sum_is : v.sum ≡ crc old
  pub on_is : v.on ≡ on

pub knows_to : (old : List ℕ) (on : Bool) (S T : List (List ℕ)) (v u : View) → Within S T → u.sum ≡ v.sum → u.on ≡ v.on → Knows old on S v → Knows old on T u
knows_to old on S T v u wide s o k = record { among = wide old k.among; sum_is = s ∙ k.sum_is; on_is = o ∙ k.on_is }

-- a longer file shows what it showed
pub stands_grown : (old : List ℕ) (on : Bool) (S T : List (List ℕ)) (v : View) (x : ℕ) → Within S T → Fit v → v.file < x → Stands old on S v → Stands old on T (after v (Grow x))
stands_grown old on S T v x wide fit more k =
    record {
      among = wide old k.among;
      sum_is = k.sum_is;
      size_is = k.size_is;
      on_is = k.on_is;
      image_is = take-append-le (length old) v.body (replicate (x - v.file) 0) (omega (arith, k.fits_in, fit.file_is)) ∙ k.image_is;
      fits_in = omega (arith, k.fits_in, more);
    }

module _ (row : Row) (rewrites : is_rewrite row ≡ true) (old new : List ℕ) (on : Bool) (m : Map) (old_maps : map_in on old ≡ Some m) where
  -- between the sequence and the mark
  pub knows_left : (S : List (List ℕ)) (v : View) (rest : List What) → Knows old on S v → list_any stores_sequence rest ≡ false → list_any commits rest ≡ true → Left row rest false S v m
  knows_left S v rest k seq comm = (known old k.among k.sum_is (inl (ap (λ o. map_in o old) k.on_is ∙ old_maps)), inr (inr (rewrites, ap not seq, comm)))

  module _ (ch : Change) (new_maps : map_in on new ≡ Some (applied m ch.act)) (small : All (λ b. b < 256) new) (some : 0 < length new) where
    -- the header, the mark on the checksum, and the rest of the record
    confirm : (S : List (List ℕ)) (w : Option ℕ) (v : View) (t : List ℕ) → Knows old on S v → v.body ≡ new ++ t → 4 + length new ≤ v.file → Safe row (confirmed_by_checksum new (Commit ch)) false S w v m
    unfolding Safe
    confirm S w v t k body_is room =
        let N = length new in
        let next = applied m ch.act in
        let fits : has v N ≡ true = has_from v N room in
        let image_new : take N v.body ≡ new = ap (take N) body_is ∙ take_at new t N refl in
        let maps_new : map_in v.on (take N v.body) ≡ Some next = ap (λ o. map_in o (take N v.body)) k.on_is ∙ ap (map_in on) image_new ∙ new_maps in
        let new_known : map_in v.on new ≡ Some next = ap (λ o. map_in o new) k.on_is ∙ new_maps in
        let agreed : agree v N (crc new) ≡ true = agree_from v N (crc new) fits (ap crc image_new) in
        let v1 = record v { head = N } in
        let v2 = record v1 { sum = crc new } in
        let v3 = record v2 { size = N } in
        let v4 = record v3 { last = N } in
        let v5 = record v4 { last_sum = crc new } in (
          knows_left S v (confirmed_by_checksum new (Commit ch)) k refl refl,
          tt,
          λ T1 s1. let k1 = knows_to old on S T1 v v1 s1.wide refl refl k in (
            knows_left T1 v1 (Store Meta 0 (crc new) (Commit ch) ∷ store_meta 7 N ∷ store_meta 8 N ∷ store_meta 9 (crc new) ∷ []) k1 refl refl,
            tt,
            λ T2 s2. let among : Contains T2 new = subst (Contains T2) image_new (s2.holds.of_head fits) in (
              (known new among refl (inl new_known), inl (new_shows T2 v2 next s2.apart s2.holds agreed maps_new)),
              tt,
              λ T3 s3. let among3 = s3.wide new among in (
                (known new among3 refl (inl new_known), inl (by_size v3 next agreed maps_new).1),
                tt,
                λ T4 s4. let among4 = s4.wide new among3 in (
                  (known new among4 refl (inl new_known), inl (by_size v4 next agreed maps_new).1),
                  (new, among4, refl),
                  λ T5 s5. (known new (s5.wide new among4) refl (inl new_known), inl (by_size v5 next agreed maps_new).1, (by_size v5 next agreed maps_new).0),
                ),
              ),
            ),
          ),
        )

    payload : (S : List (List ℕ)) (w : Option ℕ) (v : View) → Knows old on S v → Holds S v → IsApart S → Fit v → Safe row (payload_stores new ++ confirmed_by_checksum new (Commit ch)) false S w v m
    payload S w v k holds apart fit =
        stored row (confirmed_by_checksum new (Commit ch)) false m 0 new small (Knows old on)
        (λ X T u body wide k same len. knows_to old on X T u (record u { body = body }) wide refl refl k)
        (λ T u rest k uh ua seq comm. knows_left T u rest k seq comm)
        (λ T last u k uh ua uf t body_is less more inside. confirm T (Some last) u t k body_is (omega (arith, less, inside)))
        new [] v.body 1 0 S w v some refl refl (omega arith) (omega arith) refl refl refl k holds apart fit

    versioned : (b : Bool) (S : List (List ℕ)) (w : Option ℕ) (v : View) → Knows old on S v → Holds S v → IsApart S → Fit v →
        Safe row (cond b (store_meta 1 3 ∷ []) [] ++ payload_stores new ++ confirmed_by_checksum new (Commit ch)) false S w v m
    unfolding Safe
    versioned false S w v k holds apart fit = payload S w v k holds apart fit
    versioned true S w v k holds apart fit =
        let tail = confirmed_by_checksum new (Commit ch) in (
          knows_left S v (store_meta 1 3 ∷ payload_stores new ++ tail) k (none_raises 1 (words_of new) tail) (none_commits 1 (words_of new) tail),
          tt,
          λ T s. payload T w v (knows_to old on S T v v s.wide refl refl k) s.holds s.apart s.fit,
        )

    raise : (b : Bool) (x : ℕ) (S : List (List ℕ)) (w : Option ℕ) (v : View) → Stands old on S v →
        Safe row (store_meta 2 x ∷ cond b (store_meta 1 3 ∷ []) [] ++ payload_stores new ++ confirmed_by_checksum new (Commit ch)) false S w v m
    unfolding Safe
    raise b x S w v st = (
      (stands_kept old on S v m old_maps st, inl (stands_shows old on S v m old_maps st)),
      tt,
      λ T s. versioned b T w v (record { among = s.wide old st.among; sum_is = st.sum_is; on_is = st.on_is }) s.holds s.apart s.fit,
    )

    pub write_back : (b : Bool) (x : ℕ) (grown : List What) → ((grown ≡ []) ⊎ ((y : ℕ) × (grown ≡ Grow y ∷ []))) → (S : List (List ℕ)) (w : Option ℕ) (v : View) → Fit v → Stands old on S v →
        Safe row (grown ++ store_meta 2 x ∷ cond b (store_meta 1 3 ∷ []) [] ++ payload_stores new ++ confirmed_by_checksum new (Commit ch)) false S w v m
    unfolding Safe
    write_back b x grown (inl none) S w v fit st =
        subst (λ g. Safe row (g ++ store_meta 2 x ∷ cond b (store_meta 1 3 ∷ []) [] ++ payload_stores new ++ confirmed_by_checksum new (Commit ch)) false S w v m) (sym none) (raise b x S w v st)
    write_back b x grown (inr (y, one)) S w v fit st =
        subst (λ g. Safe row (g ++ store_meta 2 x ∷ cond b (store_meta 1 3 ∷ []) [] ++ payload_stores new ++ confirmed_by_checksum new (Commit ch)) false S w v m) (sym one) (
          (stands_kept old on S v m old_maps st, inl (stands_shows old on S v m old_maps st)),
          tt,
          λ T s. raise b x T w (after v (Grow y)) (stands_grown old on S T v y s.wide fit s.inside st),
        )

module _ (r : Region) (m : Map) (who : ℕ) (room : Option ℕ) (S : List (List ℕ)) (w : Option ℕ) (apart : IsApart S) (holds : Holds S (view r)) (fit : Fit (view r)) (kept : Kept S (view r) m)
    (laws : TextLaws) where
  -- Pack and Clear
  pub pack_safe : (now need : ℕ) → MayBegin r m room (Pack now need) → Safe (Pack now need) (events_of r m who (Pack now need)) false S w (view r) m
  unfolding events_of packed
  pack_safe now need ((n, e, no_room), of_item, rewrite) =
      let v = view r in
      let old = image v v.size in
      let start = begins_whole r m S n apart holds fit kept e in
      let old_bytes : All (λ b. b < 256) old = All-take (λ b. b < 256) v.size v.body fit.bytes in
      let text = laws.packs r m (Pack now need) old old_bytes (omega (arith, start.1.fits_in, fit.most)) start.0 tt in
      let row = Pack now need in
      write_back row refl old (payload_after r m row) v.on m start.0 (record { maker = who; act = act.Pack now }) text.1 text.0 (omega arith)
      ((record_of r).version == 0) ((record_of r).sequence + 1) (growth r (size_after r m row)) (grows_or r (size_after r m row)) S w v fit start.1

  pub clear_safe : MayBegin r m room Clear → Safe Clear (events_of r m who Clear) false S w (view r) m
  unfolding events_of packed
  clear_safe ((n, e), rewrite) =
      let v = view r in
      let old = image v v.size in
      let start = begins_whole r m S n apart holds fit kept e in
      let old_bytes : All (λ b. b < 256) old = All-take (λ b. b < 256) v.size v.body fit.bytes in
      let text = laws.packs r m Clear old old_bytes (omega (arith, start.1.fits_in, fit.most)) start.0 tt in
      write_back Clear refl old (payload_after r m Clear) v.on m start.0 (record { maker = who; act = act.Clear }) text.1 text.0 (omega arith)
      ((record_of r).version == 0) ((record_of r).sequence + 1) (growth r (size_after r m Clear)) (grows_or r (size_after r m Clear)) S w v fit start.1
