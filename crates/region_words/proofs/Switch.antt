-- The rows that close all sizes before they store a payload: Enable, Disable and Recovered.
use Rattle.std.proofs.Common.{◌≡◌, ◌⊎◌, ℕ, zero, suc, ◌+◌, ◌*◌, ◌-◌, ◌<◌, ◌≤◌, Bool, true, false, List, [], ◌∷◌, ◌++◌, length, take, refl, sym, ap, ◌∙◌, inl, inr, arith, subst}
use Rattle.std.specs.Prelude.{All, Option, Some, not, ◌==◌, Contains, nat_le, nat_lt}
use Rattle.std.specs.List.{list_any}
use Rattle.std.specs.FinMap as fin
use Rattle.std.proofs.lemmas.Bool.Decides.{nat_tests}
use Rattle.std.proofs.lemmas.List.{take_at}
use Rattle.std.proofs.lemmas.List.Elements.{All-take}
use Rattle.crc_words.specs.Crc.{crc}
use Rattle.expiring_map.specs.Map.{Map, pairs_of}
use Rattle.kv_pairs.specs.Growth.{largest}
use Rattle.kv_pairs.specs.Mapped.{packed, greedy_map}
use Rattle.change_log.specs.Acts.{applied}
use Rattle.change_log.specs.declared.change.Act.TheVariants as act
use Rattle.change_log.specs.declared.change.Change.{Change}
use Rattle.meta_record.specs.declared.shown.Shown.TheVariants.{Damaged}
use Rattle.region_words.specs.Region.{Region, record_of, flag, map_in, recovery_payload}
use Rattle.region_words.specs.Apart.{ending_in}
use Rattle.region_words.specs.Rows.{Row, Enable, Disable, Recover, MayBegin, events_of, store_data, store_meta, payload_stores, close_sizes, closed_size, confirmed_by_header, size_after, payload_after}
use Rattle.region_words.specs.Standings.{words_of}
use Rattle.region_words.proofs.OfRegion.{growth}
use Rattle.region_words.specs.Outcome.{stores_sequence, commits, is_rewrite}
use Rattle.region_words.specs.declared.event.Side.TheVariants.{Data}
use Rattle.region_words.specs.declared.event.Mark.TheVariants.{Commit}
use Rattle.region_words.specs.declared.event.What.{What}
use Rattle.region_words.specs.declared.event.What.TheVariants.{Store, Grow}
use Rattle.region_words.proofs.View.{View, view, has, image, agree, seen, seen_is, IsOr, by_size, agree_from}
use Rattle.region_words.proofs.Kept.{IsApart, Holds, Fit, Kept, known, bare, NotEmpty, new_shows, not_empty_more, empty_map}
use Rattle.region_words.proofs.Changes.{after}
use Rattle.region_words.proofs.Safe.{Safe, Left}
use Rattle.region_words.proofs.PayloadStores.{stored, none_raises, none_commits}
use Rattle.region_words.proofs.TextLaws.{TextLaws}
use Rattle.region_words.proofs.ShortRows.{safe_any, Damage_kept, damage_kept, damage_more, from_damage}
use Rattle.region_words.proofs.AppendRow.{has_from, Stands, stands_kept, stands_shows, begins_whole}
use Rattle.region_words.proofs.WriteBack.{Knows, knows_to, knows_left, stands_grown, grows_or}

-- a closed size fits no file
shut_out : (v : View) (z x : ℕ) → v.file ≤ largest → z ≡ closed_size → agree v z x ≡ false
shut_out v z x most e = rw (out (4 + z) v.file (omega (arith, most, e))) refl
  where
    out : (a b : ℕ) → b < a → nat_le a b ≡ false
    out a b h = grind (arith, nat_tests)

-- the sizes of payloads that end in a word
ends_in : (w n : ℕ) → n ≤ 4 * w → 4 * w < n + 4 → 0 < n → Contains (ending_in w) n
ends_in w n less more some = rw (above w (omega (arith, less, some))) (go (4 * w - n) refl)
  where
    above : (k : ℕ) → 0 < k → nat_lt 0 k ≡ true
    above k h = grind (arith, nat_tests)

    go : (d : ℕ) → 4 * w - n ≡ d → Contains ((4 * w - 3) ∷ (4 * w - 2) ∷ (4 * w - 1) ∷ (4 * w) ∷ []) n
    go zero e = (3, omega arith, omega (arith, e, less))
    go (suc zero) e = (2, omega arith, omega (arith, e, less))
    go (suc (suc zero)) e = (1, omega arith, omega (arith, e, less))
    go (suc (suc (suc zero))) e = (0, omega arith, omega (arith, e, less))
    go (suc (suc (suc (suc d)))) e = absurd (omega (arith, e, more, less))

-- all sizes are closed, and the checksum is no surprise
pub record Shut (on : Bool) (m : Map) (S : List (List ℕ)) (v : View) : Type 0 where
  pub nothing : NotEmpty S v m
  pub size_is : v.size ≡ closed_size
  pub head_is : v.head ≡ closed_size
  pub last_is : v.last ≡ closed_size
  pub most : v.file ≤ largest
  pub on_is : v.on ≡ on

shut_kept : (on : Bool) (m : Map) (S : List (List ℕ)) (v : View) → Shut on m S v → Kept S v m
shut_kept on m S v k =
    bare k.nothing (inr (shut_out v v.head v.sum k.most k.head_is)) (inr (shut_out v v.size v.sum k.most k.size_is))
    (λ a. absurd (let f = shut_out v v.last v.last_sum k.most k.last_is in cc))

-- of a payload that is known, the empty one is no surprise
not_empty : (on : Bool) (m : Map) (S : List (List ℕ)) (v : View) (s : List ℕ) → Contains S s → v.sum ≡ crc s → IsOr (map_in on s) m → NotEmpty S v m
not_empty on m S v [] c e (inl f) = inl (some_map (sym f ∙ empty_map on))
  where
    some_map : Some m ≡ Some fin.empty → m ≡ fin.empty
    some_map e = cc
not_empty on m S v [] c e (inr f) = absurd (let p = sym f ∙ empty_map on in cc)
not_empty on m S v (b ∷ bs) c e o = inr (b ∷ bs, c, e, λ f. cc)

module _ (row : Row) (rewrites : is_rewrite row ≡ true) (new : List ℕ) (on : Bool) (m : Map) (ch : Change) (new_maps : map_in on new ≡ Some (applied m ch.act)) (some : 0 < length new) where
  shut_left : (S : List (List ℕ)) (v : View) (rest : List What) → Shut on m S v → list_any stores_sequence rest ≡ false → list_any commits rest ≡ true → Left row rest false S v m
  shut_left S v rest k seq comm = (shut_kept on m S v k, inr (inr (rewrites, ap not seq, comm)))

  not_nothing : new ≡ [] → ⊥
  not_nothing e = absurd (omega (arith, some, ap length e))

  -- both checksums, the mark on the header, and the other sizes
  pub confirm : (S : List (List ℕ)) (w : ℕ) (v : View) (t : List ℕ) → Shut on m S v → v.body ≡ new ++ t → length new ≤ 4 * w → 4 * w < length new + 4 → 4 * w + 4 ≤ v.file →
      Safe row (confirmed_by_header new (Commit ch)) false S (Some w) v m
  unfolding Safe
  confirm S w v t k body_is less more inside =
      let N = length new in
      let next = applied m ch.act in
      let c = crc new in
      let fits : has v N ≡ true = has_from v N (omega (arith, less, inside)) in
      let image_new : take N v.body ≡ new = ap (take N) body_is ∙ take_at new t N refl in
      let maps_new : map_in v.on (take N v.body) ≡ Some next = ap (λ o. map_in o (take N v.body)) k.on_is ∙ ap (map_in on) image_new ∙ new_maps in
      let new_known : map_in v.on new ≡ Some next = ap (λ o. map_in o new) k.on_is ∙ new_maps in
      let agreed : agree v N c ≡ true = agree_from v N c fits (ap crc image_new) in
      let v1 = record v { sum = c } in
      let v2 = record v1 { last_sum = c } in
      let v3 = record v2 { head = N } in
      let v4 = record v3 { size = N } in
      let v5 = record v4 { last = N } in
      let rest2 = Store Data 0 N (Commit ch) ∷ store_meta 7 N ∷ store_meta 8 N ∷ [] in
      let shut : (T : List (List ℕ)) (u : View) → Contains T new → u.sum ≡ c → u.size ≡ closed_size → u.head ≡ closed_size → u.last ≡ closed_size → u.file ≤ largest → u.on ≡ on → Shut on m T u =
      λ T u among e z h l f o. record { nothing = inr (new, among, e, not_nothing); size_is = z; head_is = h; last_is = l; most = f; on_is = o } in (
        shut_left S v (confirmed_by_header new (Commit ch)) k refl refl,
        tt,
        λ T1 s1. let among1 : Contains T1 new = subst (Contains T1) image_new (s1.means N (ends_in w N less more some) fits (ap crc image_new)) in (
          shut_left T1 v1 (store_meta 9 c ∷ rest2) (shut T1 v1 among1 refl k.size_is k.head_is k.last_is k.most k.on_is) refl refl,
          (new, among1, refl),
          λ T2 s2. let among2 = s2.wide new among1 in (
            shut_left T2 v2 rest2 (shut T2 v2 among2 refl k.size_is k.head_is k.last_is k.most k.on_is) refl refl,
            tt,
            λ T3 s3. let among3 = s3.wide new among2 in (
              (known new among3 refl (inl new_known), inl (new_shows T3 v3 next s3.apart s3.holds agreed maps_new)),
              tt,
              λ T4 s4. let among4 = s4.wide new among3 in (
                (known new among4 refl (inl new_known), inl (by_size v4 next agreed maps_new).1),
                tt,
                λ T5 s5. (known new (s5.wide new among4) refl (inl new_known), inl (by_size v5 next agreed maps_new).1, (by_size v5 next agreed maps_new).0),
              ),
            ),
          ),
        ),
      )

module _ (row : Row) (rewrites : is_rewrite row ≡ true) (old new : List ℕ) (on0 on : Bool) (m : Map) (ch : Change) (old_maps : map_in on0 old ≡ Some m) (new_maps : map_in on new ≡ Some (applied m ch.act))
    (small : All (λ b. b < 256) new) (some : 0 < length new) (flags : ℕ) (flags_on : (flags == 1) ≡ on) where
  -- all sizes are closed, and the checksum is that of the old payload, under the old flag
  record Closed (S : List (List ℕ)) (v : View) : Type 0 where
    knows : Knows old on0 S v
    size_is : v.size ≡ closed_size
    head_is : v.head ≡ closed_size
    last_is : v.last ≡ closed_size
    most : v.file ≤ largest

  left : (S : List (List ℕ)) (v : View) (rest : List What) → Knows old on0 S v → list_any stores_sequence rest ≡ false → list_any commits rest ≡ true → Left row rest false S v m
  left S v rest k seq comm = knows_left row rewrites old new on0 m old_maps S v rest k seq comm

  tail : List What
  tail = store_meta 26 flags ∷ confirmed_by_header new (Commit ch)

  set_flags : (S : List (List ℕ)) (w : ℕ) (v : View) (t : List ℕ) → Closed S v → v.body ≡ new ++ t → length new ≤ 4 * w → 4 * w < length new + 4 → 4 * w + 4 ≤ v.file →
      Safe row (store_meta 26 flags ∷ confirmed_by_header new (Commit ch)) false S (Some w) v m
  unfolding Safe
  set_flags S w v t k body_is less more inside = (
    left S v (store_meta 26 flags ∷ confirmed_by_header new (Commit ch)) k.knows refl refl,
    tt,
    λ T s. let u = after v (store_meta 26 flags) in
        confirm row rewrites new on m ch new_maps some T w u t
        (record { nothing = not_empty on0 m T u old (s.wide old k.knows.among) k.knows.sum_is (inl old_maps); size_is = k.size_is; head_is = k.head_is; last_is = k.last_is; most = k.most; on_is = flags_on })
        body_is less more inside,
  )

  payload : (S : List (List ℕ)) (w : Option ℕ) (v : View) → Closed S v → Holds S v → IsApart S → Fit v → Safe row (payload_stores new ++ store_meta 26 flags ∷ confirmed_by_header new (Commit ch)) false S w v m
  payload S w v k holds apart fit =
      stored row (store_meta 26 flags ∷ confirmed_by_header new (Commit ch)) false m 0 new small Closed
      (λ X T u body wide k same len. record { knows = knows_to old on0 X T u (record u { body = body }) wide refl refl k.knows; size_is = k.size_is; head_is = k.head_is; last_is = k.last_is; most = k.most })
      (λ T u rest k uh ua seq comm. left T u rest k.knows seq comm)
      (λ T last u k uh ua uf t body_is less more inside. set_flags T last u t k body_is less more inside)
      new [] v.body 1 0 S w v some refl refl (omega arith) (omega arith) refl refl refl k holds apart fit

  close : (S : List (List ℕ)) (w : Option ℕ) (v : View) → Knows old on0 S v →
      Safe row (close_sizes ++ payload_stores new ++ store_meta 26 flags ∷ confirmed_by_header new (Commit ch)) false S w v m
  unfolding Safe
  close S w v k =
      let more = payload_stores new ++ store_meta 26 flags ∷ confirmed_by_header new (Commit ch) in
      let seq = none_raises 1 (words_of new) (store_meta 26 flags ∷ confirmed_by_header new (Commit ch)) in
      let comm = none_commits 1 (words_of new) (store_meta 26 flags ∷ confirmed_by_header new (Commit ch)) in
      let v1 = record v { size = closed_size } in
      let v2 = record v1 { head = closed_size } in
      let v3 = record v2 { last = closed_size } in (
        left S v (close_sizes ++ more) k seq comm,
        tt,
        λ T1 s1. let k1 = knows_to old on0 S T1 v v1 s1.wide refl refl k in (
          left T1 v1 (store_data 0 closed_size ∷ store_meta 8 closed_size ∷ more) k1 seq comm,
          tt,
          λ T2 s2. let k2 = knows_to old on0 T1 T2 v1 v2 s2.wide refl refl k1 in (
            left T2 v2 (store_meta 8 closed_size ∷ more) k2 seq comm,
            tt,
            λ T3 s3. payload T3 w3 v3 (record { knows = knows_to old on0 T2 T3 v2 v3 s3.wide refl refl k2; size_is = refl; head_is = refl; last_is = refl; most = s3.fit.most }) s3.holds s3.apart s3.fit,
          ),
        ),
      )
    where
      w3 : Option ℕ
      w3 = Some 0

  raise : (x : ℕ) (S : List (List ℕ)) (w : Option ℕ) (v : View) → Stands old on0 S v →
      Safe row (store_meta 2 x ∷ store_meta 1 4 ∷ close_sizes ++ payload_stores new ++ store_meta 26 flags ∷ confirmed_by_header new (Commit ch)) false S w v m
  unfolding Safe
  raise x S w v st =
      let more = payload_stores new ++ store_meta 26 flags ∷ confirmed_by_header new (Commit ch) in
      let seq = none_raises 1 (words_of new) (store_meta 26 flags ∷ confirmed_by_header new (Commit ch)) in
      let comm = none_commits 1 (words_of new) (store_meta 26 flags ∷ confirmed_by_header new (Commit ch)) in (
        (stands_kept old on0 S v m old_maps st, inl (stands_shows old on0 S v m old_maps st)),
        tt,
        λ T1 s1. let k1 : Knows old on0 T1 v = record { among = s1.wide old st.among; sum_is = st.sum_is; on_is = st.on_is } in (
          left T1 v (store_meta 1 4 ∷ close_sizes ++ more) k1 seq comm,
          tt,
          λ T2 s2. close T2 w v (knows_to old on0 T1 T2 v v s2.wide refl refl k1),
        ),
      )

  pub switch : (x : ℕ) (grown : List What) → ((grown ≡ []) ⊎ ((y : ℕ) × (grown ≡ Grow y ∷ []))) → (S : List (List ℕ)) (w : Option ℕ) (v : View) → Fit v → Stands old on0 S v →
      Safe row (grown ++ store_meta 2 x ∷ store_meta 1 4 ∷ close_sizes ++ payload_stores new ++ store_meta 26 flags ∷ confirmed_by_header new (Commit ch)) false S w v m
  unfolding Safe
  switch x grown (inl none) S w v fit st =
      subst (λ g. Safe row (g ++ store_meta 2 x ∷ store_meta 1 4 ∷ close_sizes ++ payload_stores new ++ store_meta 26 flags ∷ confirmed_by_header new (Commit ch)) false S w v m) (sym none) (raise x S w v st)
  switch x grown (inr (y, one)) S w v fit st =
      subst (λ g. Safe row (g ++ store_meta 2 x ∷ store_meta 1 4 ∷ close_sizes ++ payload_stores new ++ store_meta 26 flags ∷ confirmed_by_header new (Commit ch)) false S w v m) (sym one) (
        (stands_kept old on0 S v m old_maps st, inl (stands_shows old on0 S v m old_maps st)),
        tt,
        λ T s. raise x T w (after v (Grow y)) (stands_grown old on0 S T v y s.wide fit s.inside st),
      )

module _ (r : Region) (m : Map) (who : ℕ) (room : Option ℕ) (S : List (List ℕ)) (w : Option ℕ) (apart : IsApart S) (holds : Holds S (view r)) (fit : Fit (view r)) (kept : Kept S (view r) m)
    (laws : TextLaws) where
  pub enable_safe : (now seconds : ℕ) → MayBegin r m room (Enable now seconds) → Safe (Enable now seconds) (events_of r m who (Enable now seconds)) false S w (view r) m
  unfolding events_of packed
  enable_safe now seconds ((n, e), off, range, rewrite) =
      let v = view r in
      let old = image v v.size in
      let start = begins_whole r m S n apart holds fit kept e in
      let old_bytes : All (λ b. b < 256) old = All-take (λ b. b < 256) v.size v.body fit.bytes in
      let row = Enable now seconds in
      let text = laws.packs r m row old old_bytes (omega (arith, start.1.fits_in, fit.most)) start.0 (off, range) in
      switch row refl old (payload_after r m row) v.on true m (record { maker = who; act = act.Enable now seconds }) start.0 text.1 text.0 (omega arith) 1 refl
      ((record_of r).sequence + 1) (growth r (size_after r m row)) (grows_or r (size_after r m row)) S w v fit start.1

  pub disable_safe : (now : ℕ) → MayBegin r m room (Disable now) → Safe (Disable now) (events_of r m who (Disable now)) false S w (view r) m
  unfolding events_of packed
  disable_safe now ((n, e), off, rewrite) =
      let v = view r in
      let old = image v v.size in
      let start = begins_whole r m S n apart holds fit kept e in
      let old_bytes : All (λ b. b < 256) old = All-take (λ b. b < 256) v.size v.body fit.bytes in
      let row = Disable now in
      let text = laws.packs r m row old old_bytes (omega (arith, start.1.fits_in, fit.most)) start.0 off in
      switch row refl old (payload_after r m row) v.on false m (record { maker = who; act = act.Disable now }) start.0 text.1 text.0 (omega arith) 0 refl
      ((record_of r).sequence + 1) (growth r (size_after r m row)) (grows_or r (size_after r m row)) S w v fit start.1

grown_sequence : (grown : List What) → ((grown ≡ []) ⊎ ((y : ℕ) × (grown ≡ Grow y ∷ []))) → (new : List ℕ) (ch : Change) → list_any stores_sequence (grown ++ payload_stores new ++ confirmed_by_header new (Commit ch)) ≡ false
grown_sequence grown (inl none) new ch =
    subst (λ g. list_any stores_sequence (g ++ payload_stores new ++ confirmed_by_header new (Commit ch)) ≡ false) (sym none) (none_raises 1 (words_of new) (confirmed_by_header new (Commit ch)))
grown_sequence grown (inr (y, one)) new ch =
    subst (λ g. list_any stores_sequence (g ++ payload_stores new ++ confirmed_by_header new (Commit ch)) ≡ false) (sym one) (none_raises 1 (words_of new) (confirmed_by_header new (Commit ch)))

grown_commits : (grown : List What) → ((grown ≡ []) ⊎ ((y : ℕ) × (grown ≡ Grow y ∷ []))) → (new : List ℕ) (ch : Change) → list_any commits (grown ++ payload_stores new ++ confirmed_by_header new (Commit ch)) ≡ true
grown_commits grown (inl none) new ch =
    subst (λ g. list_any commits (g ++ payload_stores new ++ confirmed_by_header new (Commit ch)) ≡ true) (sym none) (none_commits 1 (words_of new) (confirmed_by_header new (Commit ch)))
grown_commits grown (inr (y, one)) new ch =
    subst (λ g. list_any commits (g ++ payload_stores new ++ confirmed_by_header new (Commit ch)) ≡ true) (sym one) (none_commits 1 (words_of new) (confirmed_by_header new (Commit ch)))

-- a closed size leaves a damaged region's state
close_size : (S : List (List ℕ)) (v : View) (m : Map) → v.file ≤ largest → Damage_kept S v m → Damage_kept S (record v { size = closed_size }) m
close_size S v m most (inl k) = inl k
close_size S v m most (inr (n, h, z, l)) = inr (n, h, inr (shut_out v closed_size v.sum most refl), l)

close_head : (S : List (List ℕ)) (v : View) (m : Map) → v.file ≤ largest → Damage_kept S v m → Damage_kept S (record v { head = closed_size }) m
close_head S v m most (inl k) = inl k
close_head S v m most (inr (n, h, z, l)) = inr (n, inr (shut_out v closed_size v.sum most refl), z, l)

damage_nothing : (S : List (List ℕ)) (v : View) (m : Map) → Damage_kept S v m → NotEmpty S v m
damage_nothing S v m (inl (s, c, e, o)) = not_empty v.on m S v s c e o
damage_nothing S v m (inr (n, h, z, l)) = n

module _ (row : Row) (rewrites : is_rewrite row ≡ true) (new : List ℕ) (on : Bool) (m : Map) (ch : Change) (new_maps : map_in on new ≡ Some (applied m ch.act)) (small : All (λ b. b < 256) new) (some : 0 < length new) where
  payload_shut : (S : List (List ℕ)) (w : Option ℕ) (v : View) → Shut on m S v → Holds S v → IsApart S → Fit v → Safe row (payload_stores new ++ confirmed_by_header new (Commit ch)) false S w v m
  payload_shut S w v k holds apart fit =
      stored row (confirmed_by_header new (Commit ch)) false m 0 new small (Shut on m)
      (λ X T u body wide k same len. record { nothing = not_empty_more X T u m wide k.nothing; size_is = k.size_is; head_is = k.head_is; last_is = k.last_is; most = k.most; on_is = k.on_is })
      (λ T u rest k uh ua seq comm. shut_left row rewrites new on m ch new_maps some T u rest k seq comm)
      (λ T last u k uh ua uf t body_is less more inside. confirm row rewrites new on m ch new_maps some T last u t k body_is less more inside)
      new [] v.body 1 0 S w v some refl refl (omega arith) (omega arith) refl refl refl k holds apart fit

  grow_shut : (grown : List What) → ((grown ≡ []) ⊎ ((y : ℕ) × (grown ≡ Grow y ∷ []))) → (S : List (List ℕ)) (w : Option ℕ) (v : View) → Shut on m S v → Holds S v → IsApart S → Fit v →
      Safe row (grown ++ payload_stores new ++ confirmed_by_header new (Commit ch)) false S w v m
  unfolding Safe
  grow_shut grown (inl none) S w v k holds apart fit =
      subst (λ g. Safe row (g ++ payload_stores new ++ confirmed_by_header new (Commit ch)) false S w v m) (sym none) (payload_shut S w v k holds apart fit)
  grow_shut grown (inr (y, one)) S w v k holds apart fit =
      let tail = confirmed_by_header new (Commit ch) in
      subst (λ g. Safe row (g ++ payload_stores new ++ confirmed_by_header new (Commit ch)) false S w v m) (sym one) (
        shut_left row rewrites new on m ch new_maps some S v (Grow y ∷ payload_stores new ++ tail) k (none_raises 1 (words_of new) tail) (none_commits 1 (words_of new) tail),
        tt,
        λ T s. payload_shut T w (after v (Grow y))
            (record { nothing = not_empty_more S T v m s.wide k.nothing; size_is = k.size_is; head_is = k.head_is; last_is = k.last_is; most = s.fit.most; on_is = k.on_is }) s.holds s.apart s.fit,
      )

  damage_left : (S : List (List ℕ)) (v : View) (rest : List What) → Damage_kept S v m → list_any stores_sequence rest ≡ false → list_any commits rest ≡ true → Left row rest false S v m
  damage_left S v rest k seq comm = (from_damage S v m k, inr (inr (rewrites, ap not seq, comm)))

  pub recover : (grown : List What) → ((grown ≡ []) ⊎ ((y : ℕ) × (grown ≡ Grow y ∷ []))) → list_any stores_sequence (grown ++ payload_stores new ++ confirmed_by_header new (Commit ch)) ≡ false →
      list_any commits (grown ++ payload_stores new ++ confirmed_by_header new (Commit ch)) ≡ true → (S : List (List ℕ)) (w : Option ℕ) (v : View) → v.on ≡ on → Damage_kept S v m → Fit v →
      Safe row (close_sizes ++ grown ++ payload_stores new ++ confirmed_by_header new (Commit ch)) false S w v m
  unfolding Safe
  recover grown g seq comm S w v on_is k fit =
      let more = grown ++ payload_stores new ++ confirmed_by_header new (Commit ch) in
      let v1 = record v { size = closed_size } in
      let v2 = record v1 { head = closed_size } in
      let v3 = record v2 { last = closed_size } in (
        damage_left S v (close_sizes ++ more) k seq comm,
        tt,
        λ T1 s1. let k1 = close_size T1 v m fit.most (damage_more S T1 v m s1.wide k) in (
          damage_left T1 v1 (store_data 0 closed_size ∷ store_meta 8 closed_size ∷ more) k1 seq comm,
          tt,
          λ T2 s2. let k2 = close_head T2 v1 m fit.most (damage_more T1 T2 v1 m s2.wide k1) in (
            damage_left T2 v2 (store_meta 8 closed_size ∷ more) k2 seq comm,
            tt,
            λ T3 s3. let n3 = damage_nothing T3 v2 m (damage_more T2 T3 v2 m s3.wide k2) in
                grow_shut grown g T3 w3 v3 (record { nothing = n3; size_is = refl; head_is = refl; last_is = refl; most = s3.fit.most; on_is = on_is }) s3.holds s3.apart s3.fit,
          ),
        ),
      )
    where
      w3 : Option ℕ
      w3 = Some 0

module _ (r : Region) (m : Map) (who : ℕ) (room : Option ℕ) (S : List (List ℕ)) (w : Option ℕ) (apart : IsApart S) (holds : Holds S (view r)) (fit : Fit (view r)) (kept : Kept S (view r) m)
    (laws : TextLaws) where
  pub recover_safe : MayBegin r m room Recover → Safe Recover (events_of r m who Recover) true S w (view r) m
  unfolding events_of packed Safe
  recover_safe ((d, e), rewrite) =
      let v = view r in
      let s : seen v ≡ Damaged d = sym (seen_is r) ∙ e in
      let new = payload_after r m Recover in
      let ch : Change = record { maker = who; act = act.Recovered (pairs_of (greedy_map (flag r) (recovery_payload r))) } in
      let text = laws.recovers r m fit.bytes fit.most in
      let k0 = damage_kept r m who room S w apart holds kept d s in
      let grown = growth r (size_after r m Recover) in
      let g = grows_or r (size_after r m Recover) in
      let tail = confirmed_by_header new (Commit ch) in (
        (kept, inr (inl refl)),
        tt,
        λ T1 s1. safe_any Recover (close_sizes ++ grown ++ payload_stores new ++ tail) true T1 w v m
            (recover Recover refl new v.on m ch text.1 text.0 (omega arith) grown g (grown_sequence grown g new ch) (grown_commits grown g new ch) T1 w v refl (damage_more S T1 v m s1.wide k0) fit),
      )
