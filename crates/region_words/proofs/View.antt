-- What a region shows depends on five words, the flag, and the bytes behind the header.
use Rattle.std.proofs.Common.{◌≡◌, ◌⊎◌, ℕ, ◌+◌, Bool, true, false, List, length, take, drop, refl, sym, ap, ◌∙◌, inl, inr, arith}
use Rattle.std.specs.Prelude.{Option, Some, None, not, ◌==◌, ◌&&◌, nat_le, if◌then◌else◌, is_some, option_and_then}
use Rattle.std.proofs.lemmas.Bool.Decides.{nat_tests}
use Rattle.crc_words.specs.Crc.{crc}
use Rattle.expiring_map.specs.Map.{Map}
use Rattle.meta_record.specs.declared.shown.Damage.{Damage}
use Rattle.meta_record.specs.declared.shown.Damage.TheVariants.{Length, Checksum, Content}
use Rattle.meta_record.specs.declared.shown.Shown.{Shown}
use Rattle.meta_record.specs.declared.shown.Shown.TheVariants.{Whole, Header, Last, Damaged}
use Rattle.region_words.specs.Region.{Region, header, record_of, flag, map_in, shown, ShowsMap, size_of}
use Rattle.region_words.specs.Outcome.{IsBroken}

pub record View : Type 0 where
  pub head : ℕ
  pub size : ℕ
  pub last : ℕ
  pub sum : ℕ
  pub last_sum : ℕ
  pub on : Bool
  pub body : List ℕ
  pub file : ℕ

abbrev pub view : Region → View
view r =
    record {
      head = header r;
      size = (record_of r).size;
      last = (record_of r).last_size;
      sum = (record_of r).checksum;
      last_sum = (record_of r).last_checksum;
      on = flag r;
      body = drop 4 r.data_bytes;
      file = length r.data_bytes;
    }

abbrev pub has : View → ℕ → Bool
has v z = nat_le (4 + z) v.file

abbrev pub image : View → ℕ → List ℕ
image v z = take z v.body

abbrev pub agree : View → ℕ → ℕ → Bool
agree v z x = has v z && (crc (image v z) == x)

abbrev pub map_at : View → ℕ → Option Map
map_at v z = map_in v.on (image v z)

abbrev pub with_map : View → Shown → Shown
with_map v (Whole n) = if is_some (map_at v n) then Whole n else Damaged Content
with_map v (Header n) = if is_some (map_at v n) then Header n else Damaged Content
with_map v (Last n) = if is_some (map_at v n) then Last n else Damaged Content
with_map v (Damaged d) = Damaged d

unfoldable pub seen : View → Shown
seen v =
    with_map v (
    if agree v v.size v.sum then Whole v.size
    else (if not (v.head == v.size) && agree v v.head v.sum then Header v.head
    else (if agree v v.last v.last_sum then Last v.last
    else Damaged (if has v v.size then Checksum else Length))))

abbrev pub map_seen : View → Option Map
map_seen v = option_and_then (λ n. map_at v n) (size_of (seen v))

pub seen_is : (r : Region) → shown r ≡ seen (view r)
unfolding shown seen
seen_is r = refl

abbrev pub Shows : View → Map → Type 0
Shows v m = ((n : ℕ) × ((seen v ≡ Whole n) ⊎ (seen v ≡ Header n))) × (map_seen v ≡ Some m)

abbrev pub Broken : View → Type 0
Broken v = ((n : ℕ) × (seen v ≡ Last n)) ⊎ ((d : Damage) × (seen v ≡ Damaged d))

pub shows_is : (r : Region) (m : Map) → Shows (view r) m → ShowsMap r m
unfolding shown seen
shows_is r m s = s

pub is_shows : (r : Region) (m : Map) → ShowsMap r m → Shows (view r) m
unfolding shown seen
is_shows r m s = s

pub broken_is : (r : Region) → Broken (view r) → IsBroken r
unfolding shown seen
broken_is r b = b

-- rule 1
pub by_size : (v : View) (m : Map) → agree v v.size v.sum ≡ true → map_at v v.size ≡ Some m → (seen v ≡ Whole v.size) × Shows v m
unfolding seen
by_size v m e em =
    let s : seen v ≡ Whole v.size = rw e (rw em refl) in
    (s, ((v.size, inl s), rw s em))

same_number : (a b : ℕ) → (a == b) ≡ true → a ≡ b
same_number a b e = grind (arith, nat_tests)

-- where rule 1 fails, rule 2 needs no test that the sizes differ
second : (v : View) → agree v v.size v.sum ≡ false → (not (v.head == v.size) && agree v v.head v.sum) ≡ agree v v.head v.sum
second v e = go (v.head == v.size) refl
  where
    go : (b : Bool) → (v.head == v.size) ≡ b → (not b && agree v v.head v.sum) ≡ agree v v.head v.sum
    go false same = refl
    go true same = sym (ap (λ z. agree v z v.sum) (same_number v.head v.size same) ∙ e)

-- rule 2
pub by_head : (v : View) (m : Map) → agree v v.size v.sum ≡ false → agree v v.head v.sum ≡ true → map_at v v.head ≡ Some m → (seen v ≡ Header v.head) × Shows v m
unfolding seen
by_head v m nay e em =
    let two : (not (v.head == v.size) && agree v v.head v.sum) ≡ true = second v nay ∙ e in
    let s : seen v ≡ Header v.head = rw nay (rw two (rw em refl)) in
    (s, ((v.head, inr s), rw s em))

-- the seven ways in which a region is seen
pub data Look (v : View) : Type 0 where
  look_whole : (m : Map) → agree v v.size v.sum ≡ true → map_at v v.size ≡ Some m → seen v ≡ Whole v.size → Look v
  look_whole_bare : agree v v.size v.sum ≡ true → map_at v v.size ≡ None → seen v ≡ Damaged Content → Look v
  look_header : (m : Map) → agree v v.size v.sum ≡ false → agree v v.head v.sum ≡ true → map_at v v.head ≡ Some m → seen v ≡ Header v.head → Look v
  look_header_bare : agree v v.size v.sum ≡ false → agree v v.head v.sum ≡ true → map_at v v.head ≡ None → seen v ≡ Damaged Content → Look v
  look_last : (m : Map) → agree v v.size v.sum ≡ false → agree v v.head v.sum ≡ false → agree v v.last v.last_sum ≡ true → map_at v v.last ≡ Some m → seen v ≡ Last v.last → Look v
  look_last_bare : agree v v.size v.sum ≡ false → agree v v.head v.sum ≡ false → agree v v.last v.last_sum ≡ true → map_at v v.last ≡ None → seen v ≡ Damaged Content → Look v
  look_none : (d : Damage) → agree v v.size v.sum ≡ false → agree v v.head v.sum ≡ false → agree v v.last v.last_sum ≡ false → seen v ≡ Damaged d → Look v

pub look : (v : View) → Look v
unfolding seen
look v = one (agree v v.size v.sum) refl
  where
    one_map : (o : Option Map) → agree v v.size v.sum ≡ true → map_at v v.size ≡ o → Look v
    one_map (Some m) e em = look_whole m e em (rw e (rw em refl))
    one_map None e em = look_whole_bare e em (rw e (rw em refl))

    two_map : (o : Option Map) → agree v v.size v.sum ≡ false → agree v v.head v.sum ≡ true → (not (v.head == v.size) && agree v v.head v.sum) ≡ true → map_at v v.head ≡ o → Look v
    two_map (Some m) nay e t em = look_header m nay e em (rw nay (rw t (rw em refl)))
    two_map None nay e t em = look_header_bare nay e em (rw nay (rw t (rw em refl)))

    three_map : (o : Option Map) → agree v v.size v.sum ≡ false → agree v v.head v.sum ≡ false → (not (v.head == v.size) && agree v v.head v.sum) ≡ false → agree v v.last v.last_sum ≡ true → map_at v v.last ≡ o → Look v
    three_map (Some m) nay nor t e em = look_last m nay nor e em (rw nay (rw t (rw e (rw em refl))))
    three_map None nay nor t e em = look_last_bare nay nor e em (rw nay (rw t (rw e (rw em refl))))

    three : (b : Bool) → agree v v.size v.sum ≡ false → agree v v.head v.sum ≡ false → (not (v.head == v.size) && agree v v.head v.sum) ≡ false → agree v v.last v.last_sum ≡ b → Look v
    three true nay nor t e = three_map (map_at v v.last) nay nor t e refl
    three false nay nor t e = look_none (if has v v.size then Checksum else Length) nay nor e (rw nay (rw t (rw e refl)))

    two : (b : Bool) → agree v v.size v.sum ≡ false → agree v v.head v.sum ≡ b → Look v
    two true nay e = two_map (map_at v v.head) nay e (second v nay ∙ e) refl
    two false nay e = three (agree v v.last v.last_sum) nay e (second v nay ∙ e) refl

    one : (b : Bool) → agree v v.size v.sum ≡ b → Look v
    one true e = one_map (map_at v v.size) e refl
    one false e = two (agree v v.head v.sum) e refl

-- a map, or none
abbrev pub IsOr : Option Map → Map → Type 0
IsOr o m = (o ≡ Some m) ⊎ (o ≡ None)

one_map : (o : Option Map) (m n : Map) → IsOr o m → o ≡ Some n → o ≡ Some m
one_map o m n (inl e) f = e
one_map o m n (inr e) f = absurd cc

-- what rules 1 and 2 could show has the map m
pub shows_or_broken : (v : View) (m : Map) → (agree v v.size v.sum ≡ true → IsOr (map_at v v.size) m) → (agree v v.head v.sum ≡ true → IsOr (map_at v v.head) m) → Shows v m ⊎ Broken v
shows_or_broken v m one two =
    elim (look v) [
      | look_whole n e em s ↦ inl (by_size v m e (one_map _ m n (one e) em)).1
      | look_whole_bare e em s ↦ inr (inr (Content, s))
      | look_header n nay e em s ↦ inl (by_head v m nay e (one_map _ m n (two e) em)).1
      | look_header_bare nay e em s ↦ inr (inr (Content, s))
      | look_last n nay nor e em s ↦ inr (inl (v.last, s))
      | look_last_bare nay nor e em s ↦ inr (inr (Content, s))
      | look_none d nay nor e s ↦ inr (inr (d, s))
    ]

-- the image shown by rule 1 or 2
pub record Found (v : View) (m : Map) (z : ℕ) : Type 0 where
  pub place : (z ≡ v.size) ⊎ (z ≡ v.head)
  pub agrees : agree v z v.sum ≡ true
  pub maps : map_at v z ≡ Some m

pub found : (v : View) (m : Map) → Shows v m → (z : ℕ) × Found v m z
found v m ((n, s), e) =
    elim (look v) [
      | look_whole k a em t ↦ (v.size, record { place = inl refl; agrees = a; maps = ap (λ x. option_and_then (λ n. map_at v n) (size_of x)) (sym t) ∙ e })
      | look_whole_bare a em t ↦ absurd (clash s t)
      | look_header k nay a em t ↦ (v.head, record { place = inr refl; agrees = a; maps = ap (λ x. option_and_then (λ n. map_at v n) (size_of x)) (sym t) ∙ e })
      | look_header_bare nay a em t ↦ absurd (clash s t)
      | look_last k nay nor a em t ↦ absurd (clash_last s t)
      | look_last_bare nay nor a em t ↦ absurd (clash s t)
      | look_none d nay nor a t ↦ absurd (clash s t)
    ]
  where
    clash : {d : Damage} → ((seen v ≡ Whole n) ⊎ (seen v ≡ Header n)) → seen v ≡ Damaged d → ⊥
    clash (inl p) q = cc
    clash (inr p) q = cc

    clash_last : {k : ℕ} → ((seen v ≡ Whole n) ⊎ (seen v ≡ Header n)) → seen v ≡ Last k → ⊥
    clash_last (inl p) q = cc
    clash_last (inr p) q = cc

-- the parts of an agreement
pub fits_of : (v : View) (z x : ℕ) → agree v z x ≡ true → has v z ≡ true
fits_of v z x e = go (has v z) e
  where
    go : (b : Bool) → (b && (crc (image v z) == x)) ≡ true → b ≡ true
    go true f = refl
    go false f = absurd cc

pub crc_of : (v : View) (z x : ℕ) → agree v z x ≡ true → crc (image v z) ≡ x
crc_of v z x e = same_number _ _ (go (has v z) e)
  where
    go : (b : Bool) → (b && (crc (image v z) == x)) ≡ true → (crc (image v z) == x) ≡ true
    go true f = f
    go false f = absurd cc

pub agree_from : (v : View) (z x : ℕ) → has v z ≡ true → crc (image v z) ≡ x → agree v z x ≡ true
agree_from v z x f e = rw f (go (crc (image v z)) e)
  where
    go : (c : ℕ) → c ≡ x → (c == x) ≡ true
    go c e = grind (arith, nat_tests)
