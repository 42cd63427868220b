-- What every region keeps at which a death may leave it.
use Rattle.std.proofs.Common.{◌≡◌, ◌⊎◌, ℕ, ◌+◌, ◌<◌, ◌≤◌, Bool, true, false, List, [], length, refl, sym, ap, ◌∙◌, inl, inr, arith, subst}
use Rattle.std.specs.Prelude.{Some, None, All, nat_le, unwrap_or, Contains}
use Rattle.std.proofs.lemmas.Bool.Decides.{nat_tests}
use Rattle.std.specs.FinMap as fin
use Rattle.crc_words.specs.Crc.{crc}
use Rattle.expiring_map.specs.Map.{Map}
use Rattle.kv_pairs.specs.Reading.{read_payload, length_at}
use Rattle.kv_pairs.specs.Growth.{largest}
use Rattle.meta_record.specs.declared.shown.Shown.TheVariants.{Last}
use Rattle.region_words.specs.Region.{map_in, size_of}
use Rattle.region_words.specs.Rows.{closed_size}
use Rattle.region_words.proofs.View.{View, has, image, agree, map_at, seen, map_seen, Shows, Broken, IsOr, shows_or_broken, look, look_whole, look_whole_bare, look_header, look_header_bare, look_last, look_last_bare, look_none, by_size, by_head, fits_of, crc_of, Found, found}

-- different ones of these have different checksums
abbrev pub IsApart : List (List ℕ) → Type 0
IsApart S = (s t : List ℕ) → Contains S s → Contains S t → crc s ≡ crc t → s ≡ t

-- the images of the three sizes are among these
pub record Holds (S : List (List ℕ)) (v : View) : Type 0 where
  pub of_head : has v v.head ≡ true → Contains S (image v v.head)
  pub of_size : has v v.size ≡ true → Contains S (image v v.size)
  pub of_last : has v v.last ≡ true → Contains S (image v v.last)

-- the bytes are bytes, and no more than fit a file
pub record Fit (v : View) : Type 0 where
  pub file_is : v.file ≡ 4 + length v.body
  pub most : v.file ≤ largest
  pub bytes : All (λ b. b < 256) v.body

-- the empty payload is no surprise: the map is empty, or the checksum is that of another payload
abbrev pub NotEmpty : List (List ℕ) → View → Map → Type 0
NotEmpty S v m = (m ≡ fin.empty) ⊎ ((s : List ℕ) × Contains S s × (v.sum ≡ crc s) × (s ≡ [] → ⊥))

abbrev pub NoneAt : View → ℕ → Type 0
NoneAt v z = (z ≡ 0) ⊎ (agree v z v.sum ≡ false)

-- Where a death leaves a region: its checksum is that of a known payload, which has the map m or none; or no size agrees,
-- but for the empty one; or the last confirmed image alone agrees, and has the map m.
pub data Kept (S : List (List ℕ)) (v : View) (m : Map) : Type 0 where
  known : (s : List ℕ) → Contains S s → v.sum ≡ crc s → IsOr (map_in v.on s) m → Kept S v m
  bare : NotEmpty S v m → NoneAt v v.head → NoneAt v v.size → (agree v v.last v.last_sum ≡ true → map_at v v.last ≡ None) → Kept S v m
  confirmed : agree v v.size v.sum ≡ false → agree v v.head v.sum ≡ false → agree v v.last v.last_sum ≡ true → map_at v v.last ≡ Some m → Kept S v m

abbrev pub Within : List (List ℕ) → List (List ℕ) → Type 0
Within S T = (t : List ℕ) → Contains S t → Contains T t

pub not_empty_more : (S T : List (List ℕ)) (v : View) (m : Map) → Within S T → NotEmpty S v m → NotEmpty T v m
not_empty_more S T v m wide (inl e) = inl e
not_empty_more S T v m wide (inr (s, c, e, n)) = inr (s, wide s c, e, n)

pub kept_more : (S T : List (List ℕ)) (v : View) (m : Map) → Within S T → Kept S v m → Kept T v m
kept_more S T v m wide (known s c e o) = known s (wide s c) e o
kept_more S T v m wide (bare n h z l) = bare (not_empty_more S T v m wide n) h z l
kept_more S T v m wide (confirmed z h l e) = confirmed z h l e

pub empty_map : (b : Bool) → map_in b [] ≡ Some fin.empty
unfolding read_payload length_at
empty_map true = refl
empty_map false = refl

pub no_bytes : (v : View) → image v 0 ≡ []
no_bytes v = refl

module _ (S : List (List ℕ)) (v : View) (m : Map) (apart : IsApart S) (holds : Holds S v) where
  -- a size that agrees is that of the known payload
  pub is_known : (s : List ℕ) (z : ℕ) → Contains S s → v.sum ≡ crc s → (has v z ≡ true → Contains S (image v z)) → agree v z v.sum ≡ true → image v z ≡ s
  is_known s z c e there a = apart (image v z) s (there (fits_of v z v.sum a)) c (crc_of v z v.sum a ∙ e)

  none_agrees : (z : ℕ) → NotEmpty S v m → NoneAt v z → (has v z ≡ true → Contains S (image v z)) → agree v z v.sum ≡ true → map_at v z ≡ Some m
  none_agrees z n (inr f) there a = absurd cc
  none_agrees z (inl e) (inl f) there a = ap (map_at v) f ∙ empty_map v.on ∙ ap Some (sym e)
  none_agrees z (inr (s, c, e, n)) (inl f) there a = absurd (n (sym (is_known s z c e there a) ∙ ap (image v) f))

  known_or : (s : List ℕ) (z : ℕ) → Contains S s → v.sum ≡ crc s → IsOr (map_in v.on s) m → (has v z ≡ true → Contains S (image v z)) → agree v z v.sum ≡ true → IsOr (map_at v z) m
  known_or s z c e o there a = subst (λ t. IsOr (map_in v.on t) m) (sym (is_known s z c e there a)) o

  pub kept_shows : Kept S v m → Shows v m ⊎ Broken v
  kept_shows (known s c e o) = shows_or_broken v m (known_or s v.size c e o holds.of_size) (known_or s v.head c e o holds.of_head)
  kept_shows (bare n h z l) = shows_or_broken v m (λ a. inl (none_agrees v.size n z holds.of_size a)) (λ a. inl (none_agrees v.head n h holds.of_head a))
  kept_shows (confirmed z h l e) = shows_or_broken v m (λ a. absurd cc) (λ a. absurd cc)

  -- an image that is shown is known
  pub shown_known : Shows v m → (z : ℕ) × Found v m z × Contains S (image v z) × (v.sum ≡ crc (image v z))
  shown_known s = let f = found v m s in (f.0, f.1, there f.0 f.1.place (fits_of v f.0 v.sum f.1.agrees), sym (crc_of v f.0 v.sum f.1.agrees))
    where
      there : (z : ℕ) → ((z ≡ v.size) ⊎ (z ≡ v.head)) → has v z ≡ true → Contains S (image v z)
      there z (inl e) f = subst (λ k. has v k ≡ true → Contains S (image v k)) (sym e) holds.of_size f
      there z (inr e) f = subst (λ k. has v k ≡ true → Contains S (image v k)) (sym e) holds.of_head f

  -- rule 1 or 2 shows an image that the header's size finds
  pub new_shows : agree v v.head v.sum ≡ true → map_at v v.head ≡ Some m → Shows v m
  new_shows a e =
      elim (look v) [
        | look_whole n f em s ↦
            let fit = fits_of v v.head v.sum a in
            let same = is_known (image v v.head) v.size (holds.of_head fit) (sym (crc_of v v.head v.sum a)) holds.of_size f in
            (by_size v m f (ap (map_in v.on) same ∙ e)).1
        | look_whole_bare f em s ↦
            let fit = fits_of v v.head v.sum a in
            let same = is_known (image v v.head) v.size (holds.of_head fit) (sym (crc_of v v.head v.sum a)) holds.of_size f in
            (by_size v m f (ap (map_in v.on) same ∙ e)).1
        | look_header n f g em s ↦ (by_head v m f a e).1
        | look_header_bare f g em s ↦ (by_head v m f a e).1
        | look_last n f g l em s ↦ absurd cc
        | look_last_bare f g l em s ↦ absurd cc
        | look_none d f g l s ↦ absurd cc
      ]

-- a start keeps the map with which its history begins
pub start_kept : (S : List (List ℕ)) (v : View) → Holds S v → Kept S v (unwrap_or (map_seen v) fin.empty)
start_kept S v holds =
    elim (look v) [
      | look_whole n a e s ↦ known (image v v.size) (holds.of_size (fits_of v v.size v.sum a)) (sym (crc_of v v.size v.sum a)) (inl (e ∙ ap Some (sym (base_is v.size n (ap size_of s) e))))
      | look_whole_bare a e s ↦ known (image v v.size) (holds.of_size (fits_of v v.size v.sum a)) (sym (crc_of v v.size v.sum a)) (inr e)
      | look_header n nay a e s ↦ known (image v v.head) (holds.of_head (fits_of v v.head v.sum a)) (sym (crc_of v v.head v.sum a)) (inl (e ∙ ap Some (sym (base_is v.head n (ap size_of s) e))))
      | look_header_bare nay a e s ↦ known (image v v.head) (holds.of_head (fits_of v v.head v.sum a)) (sym (crc_of v v.head v.sum a)) (inr e)
      | look_last n f g l e s ↦ confirmed f g l (e ∙ ap Some (sym (base_is v.last n (ap size_of s) e)))
      | look_last_bare f g l e s ↦ bare (inl (empty_is (ap size_of s))) (inr g) (inr f) (λ _. e)
      | look_none d f g l s ↦ bare (inl (empty_is (ap size_of s))) (inr g) (inr f) (λ k. absurd cc)
    ]
  where
    base_is : (z : ℕ) (n : Map) → size_of (seen v) ≡ Some z → map_at v z ≡ Some n → unwrap_or (map_seen v) fin.empty ≡ n
    base_is z n s e = rw s (rw e refl)

    empty_is : size_of (seen v) ≡ None → unwrap_or (map_seen v) fin.empty ≡ fin.empty
    empty_is s = rw s refl

-- a closed size doesn't fit
pub closed_out : (v : View) (z x : ℕ) → Fit v → z ≡ closed_size → agree v z x ≡ false
closed_out v z x f e = rw (out (4 + z) v.file (omega (arith, f.most, e))) refl
  where
    out : (a b : ℕ) → b < a → nat_le a b ≡ false
    out a b h = grind (arith, nat_tests)

-- where the last confirmed image is seen under the checksum of the record, it has the map
pub last_shown : (S : List (List ℕ)) (v : View) (m : Map) (n : ℕ) → IsApart S → Holds S v → Kept S v m → seen v ≡ Last n → v.sum ≡ v.last_sum → map_seen v ≡ Some m
last_shown S v m n apart holds kept s e =
    elim (look v) [
      | look_whole k a em t ↦ absurd cc
      | look_whole_bare a em t ↦ absurd cc
      | look_header k nay a em t ↦ absurd cc
      | look_header_bare nay a em t ↦ absurd cc
      | look_last k nay nor a em t ↦ rw t (go kept k a em)
      | look_last_bare nay nor a em t ↦ absurd cc
      | look_none d nay nor a t ↦ absurd cc
    ]
  where
    go : Kept S v m → (k : Map) → agree v v.last v.last_sum ≡ true → map_at v v.last ≡ Some k → map_at v v.last ≡ Some m
    go (known x c f (inl o)) k a em =
        let same : image v v.last ≡ x = apart (image v v.last) x (holds.of_last (fits_of v v.last v.last_sum a)) c (crc_of v v.last v.last_sum a ∙ sym e ∙ f) in
        ap (map_in v.on) same ∙ o
    go (known x c f (inr o)) k a em =
        let same : image v v.last ≡ x = apart (image v v.last) x (holds.of_last (fits_of v v.last v.last_sum a)) c (crc_of v v.last v.last_sum a ∙ sym e ∙ f) in
        absurd (let none = ap (map_in v.on) same ∙ o in cc)
    go (bare n h z l) k a em = absurd (let none = l a in cc)
    go (confirmed z h l f) k a em = f
