-- What stands of a kept image as long as the sequence stays the same.
use Rattle.std.proofs.Common.{◌≡◌, ◌≢◌, ◌⊎◌, ℕ, zero, suc, ◌+◌, ◌/◌, ◌^◌, ◌<◌, ◌≤◌, Bool, true, false, List, [], ◌∷◌, ◌++◌, length, refl, ap, ◌∙◌, arith}
use Rattle.std.specs.Prelude.{Some, None, Contains, slice_index, filter, map, nat_le}
use Rattle.std.proofs.lemmas.Bool.Decides.{nat_tests}
use Rattle.crc_words.specs.Crc.{crc}
use Rattle.meta_record.specs.Words.{word_at, fits}
use Rattle.change_log.specs.Acts.{replay, is_append}
use Rattle.change_log.specs.declared.change.Change.{Change}
use Rattle.region_words.specs.Region.{Region, IsRegion, record_of, header, flag, payload_of, file_size, map_in}
use Rattle.region_words.specs.Past.{region_step, change_of, with_data_word}
use Rattle.region_words.specs.Apart.{recorded_payloads, payloads_of}
use Rattle.region_words.specs.Lawful.{IsWordOf}
use Rattle.region_words.proofs.Bytes.{IsMixOf}
use Rattle.region_words.specs.Outcome.{stores_sequence}
use Rattle.region_words.specs.declared.event.Side.TheVariants.{Data, Meta}
use Rattle.region_words.specs.declared.event.Mark.TheVariants.{Plain, Commit}
use Rattle.region_words.specs.declared.event.What.{What}
use Rattle.region_words.specs.declared.event.What.TheVariants.{Store, Grow, Lock, Unlock, Died}
use Rattle.region_words.specs.Images.{Image, kept_bytes}

-- the payload of this size is this one
abbrev pub IsAt : Region → List ℕ → ℕ → Type 0
IsAt r bytes z = (4 + z ≤ length r.data_bytes) × (payload_of r z ≡ bytes)

-- nothing was marked, and the payload and its size are the kept ones; or the payload is longer
abbrev pub IsGrown : Image → List Change → List ℕ → ℕ → Type 0
IsGrown k more current size = ((more ≡ []) × (current ≡ kept_bytes k) × (size ≡ k.size)) ⊎ ((0 < k.size) × (k.size < length current))

-- As long as the sequence is the kept one: the checksum is that of a known payload, which is the kept one if no change was
-- marked since, and is longer otherwise, and its map is the kept one after these changes; it stands at the record's size or at
-- the header's; the kept bytes stand; and all words of the record but the checksum and the size are the same.
pub record Stands (k : Image) (S : List (List ℕ)) (more : List Change) (r : Region) : Type 0 where
  pub current : List ℕ
  pub among : Contains S current
  pub sum_of : (record_of r).checksum ≡ crc current
  pub maps : map_in (flag k.region) current ≡ Some (replay k.pairs more)
  pub grown : IsGrown k more current (record_of r).size
  pub found : IsAt r current (record_of r).size ⊎ IsAt r current (header r)
  pub size_is : k.size ≤ (record_of r).size
  pub front : (i : ℕ) → i < k.size → slice_index r.data_bytes (4 + i) ≡ slice_index k.region.data_bytes (4 + i)
  pub file_is : length k.region.data_bytes ≤ length r.data_bytes
  pub words : (x : ℕ) → x ≢ 0 → x ≢ 7 → word_at r.meta_bytes x ≡ word_at k.region.meta_bytes x

-- What may happen meanwhile: the header and words behind the whole kept ones are stored, the checksum with the mark of an append, the size;
-- the file grows; locks come and go; openers die, and their words are torn behind the whole kept ones.
abbrev pub Mild : ℕ → What → Type 0
Mild n (Store Data word value mark) = (mark ≡ Plain) × ((word ≡ 0) ⊎ (1 + n / 4 ≤ word))
Mild n (Store Meta word value mark) =
    ((word ≡ 0) × ((change : Change) × (mark ≡ Commit change) × (is_append change.act ≡ true))) ⊎ ((word ≡ 7) × (mark ≡ Plain))
Mild n (Grow size) = Unit {0}
Mild n (Lock kind) = Unit {0}
Mild n Unlock = Unit {0}
Mild n (Died None) = Unit {0}
Mild n (Died (Some torn)) = 1 + n / 4 ≤ torn.word

abbrev pub Within : List (List ℕ) → List (List ℕ) → Type 0
Within S T = (t : List ℕ) → Contains S t → Contains T t

abbrev pub Inside : Region → What → Type 0
Inside r (Store side word value mark) = IsWordOf r side word × (value < 2 ^ 32)
Inside r (Grow size) = file_size r < size
Inside r (Lock kind) = Unit {0}
Inside r Unlock = Unit {0}
Inside r (Died torn) = Unit {0}

-- what is known of an event that comes
pub record Step (S T : List (List ℕ)) (r : Region) (what : What) : Type 0 where
  pub wide : Within S T
  pub holds : Within (recorded_payloads (region_step r what)) T
  pub inside : Inside r what
  pub region : IsRegion (region_step r what)

-- the image stands where the word is torn
abbrev pub Torn : Image → List (List ℕ) → List Change → Region → What → Type 0
Torn k S more r (Store Data word new mark) =
    (x : ℕ) → IsMixOf (word_at r.data_bytes word) new x → 1 ≤ word → IsWordOf r Data word → (T : List (List ℕ)) → Within S T →
    Stands k T more (with_data_word r word x) × (1 + k.size / 4 ≤ word)
Torn k S more r (Store Meta word value mark) = Unit {0}
Torn k S more r (Grow size) = Unit {0}
Torn k S more r (Lock kind) = Unit {0}
Torn k S more r Unlock = Unit {0}
Torn k S more r (Died torn) = Unit {0}

-- these events may come, as far as the sequence is not stored: the image stands before, within and after them
unfoldable pub Fine : Image → List (List ℕ) → List Change → Region → List What → Type 0
Fine k S more r [] = Stands k S more r
Fine k S more r (what ∷ rest) =
    Stands k S more r × Torn k S more r what
    × ((T : List (List ℕ)) → Step S T r what → stores_sequence what ≡ false → Mild k.size what × Fine k T (more ++ change_of what) (region_step r what) rest)

pub stands_more : (k : Image) (S T : List (List ℕ)) (more : List Change) (r : Region) → Within S T → Stands k S more r → Stands k T more r
stands_more k S T more r wide s =
    record {
      current = s.current;
      among = wide s.current s.among;
      sum_of = s.sum_of;
      maps = s.maps;
      grown = s.grown;
      found = s.found;
      size_is = s.size_is;
      front = s.front;
      file_is = s.file_is;
      words = s.words;
    }

torn_more : (k : Image) (S T : List (List ℕ)) (more : List Change) (r : Region) (what : What) → Within S T → Torn k S more r what → Torn k T more r what
torn_more k S T more r (Store Data word new mark) wide t = λ x mix one inside U more_wide. t x mix one inside U (λ z c. more_wide z (wide z c))
torn_more k S T more r (Store Meta word value mark) wide t = tt
torn_more k S T more r (Grow size) wide t = tt
torn_more k S T more r (Lock kind) wide t = tt
torn_more k S T more r Unlock wide t = tt
torn_more k S T more r (Died torn) wide t = tt

step_more : (S T U : List (List ℕ)) (r : Region) (what : What) → Within S T → Step T U r what → Step S U r what
step_more S T U r what wide s = record { wide = λ z c. s.wide z (wide z c); holds = s.holds; inside = s.inside; region = s.region }

-- more payloads may be known
pub fine_more : (k : Image) (S T : List (List ℕ)) (more : List Change) (r : Region) (events : List What) → Within S T → Fine k S more r events → Fine k T more r events
unfolding Fine
fine_more k S T more r [] wide f = stands_more k S T more r wide f
fine_more k S T more r (what ∷ rest) wide f =
    (stands_more k S T more r wide f.0, torn_more k S T more r what wide f.1, λ U step quiet. f.2 U (step_more S T U r what wide step) quiet)

-- it stands before them
pub stands_first : (k : Image) (S : List (List ℕ)) (more : List Change) (r : Region) (events : List What) → Fine k S more r events → Stands k S more r
unfolding Fine
stands_first k S more r [] f = f
stands_first k S more r (what ∷ rest) f = f.0

-- other bytes of data with the same front
abbrev pub data_stands : (k : Image) (S T : List (List ℕ)) (more : List Change) (r : Region) (bytes : List ℕ) → Within S T → (s : Stands k S more r) → length r.data_bytes ≤ length bytes →
    ((i : ℕ) → i < k.size → slice_index bytes (4 + i) ≡ slice_index k.region.data_bytes (4 + i)) →
    IsAt (record r { data_bytes = bytes }) s.current (record_of r).size ⊎ IsAt (record r { data_bytes = bytes }) s.current (header (record r { data_bytes = bytes })) →
    Stands k T more (record r { data_bytes = bytes })
data_stands k S T more r bytes wide s longer front found =
    record {
      current = s.current;
      among = wide s.current s.among;
      sum_of = s.sum_of;
      maps = s.maps;
      grown = s.grown;
      found = found;
      size_is = s.size_is;
      front = front;
      file_is = omega (arith, longer, s.file_is);
      words = s.words;
    }

contains_first : (x : List ℕ) (xs : List (List ℕ)) → Contains (x ∷ xs) x
contains_first x xs = (0, omega arith, refl)

contains_more : (x : List ℕ) (xs : List (List ℕ)) (y : List ℕ) → Contains xs y → Contains (x ∷ xs) y
contains_more x xs y (i, lt, e) = (suc i, omega (arith, lt), e)

contains_map : (f : ℕ → List ℕ) (xs : List ℕ) (x : ℕ) → Contains xs x → Contains (map f xs) (f x)
contains_map f [] x (i, lt, e) = absurd (omega (arith, lt))
contains_map f (y ∷ ys) x (zero, lt, e) = (0, omega arith, ap f e)
contains_map f (y ∷ ys) x (suc i, lt, e) = contains_more (f y) (map f ys) (f x) (contains_map f ys x (i, omega (arith, lt), e))

contains_filter : (p : ℕ → Bool) (xs : List ℕ) (x : ℕ) → Contains xs x → p x ≡ true → Contains (filter p xs) x
contains_filter p [] x (i, lt, e) h = absurd (omega (arith, lt))
contains_filter p (y ∷ ys) x (zero, lt, e) h = rw (ap p e ∙ h) (0, omega arith, e)
contains_filter p (y ∷ ys) x (suc i, lt, e) h = go (contains_filter p ys x (i, omega (arith, lt), e) h) (p y) refl
  where
    go : Contains (filter p ys) x → (b : Bool) → p y ≡ b → Contains (filter p (y ∷ ys)) x
    go (j, l, f) true g = rw g (suc j, omega (arith, l), f)
    go rest false g = rw g rest

pub fits_true : (bytes : List ℕ) (n : ℕ) → 4 + n ≤ length bytes → fits bytes n ≡ true
fits_true bytes n h = go (4 + n) (length bytes) h
  where
    go : (a b : ℕ) → a ≤ b → nat_le a b ≡ true
    go a b h = grind (arith, nat_tests)

pub fits_means : (bytes : List ℕ) (n : ℕ) → fits bytes n ≡ true → 4 + n ≤ length bytes
fits_means bytes n h = go (4 + n) (length bytes) h
  where
    go : (a b : ℕ) → nat_le a b ≡ true → a ≤ b
    go a b h = grind (arith, nat_tests)

-- the payloads of the header's size and of the record's, where they fit, are recorded ones
contains_contents : (r : Region) (sizes : List ℕ) (n : ℕ) → Contains sizes n → fits r.data_bytes n ≡ true → Contains (payloads_of r sizes) (payload_of r n)
contains_contents r sizes n c f = contains_map (payload_of r) (filter (fits r.data_bytes) sizes) n (contains_filter (fits r.data_bytes) sizes n c f)

pub header_among : (r : Region) → 4 + header r ≤ length r.data_bytes → Contains (recorded_payloads r) (payload_of r (header r))
header_among r h = contains_contents r (header r ∷ (record_of r).size ∷ (record_of r).last_size ∷ []) (header r) (0, omega arith, refl) (fits_true r.data_bytes (header r) h)

pub size_among : (r : Region) → 4 + (record_of r).size ≤ length r.data_bytes → Contains (recorded_payloads r) (payload_of r (record_of r).size)
size_among r h = contains_contents r (header r ∷ (record_of r).size ∷ (record_of r).last_size ∷ []) (record_of r).size (1, omega arith, refl) (fits_true r.data_bytes (record_of r).size h)
