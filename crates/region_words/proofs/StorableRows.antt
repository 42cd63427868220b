-- The events of a row may be stored one after another: they lie in the files, and leave an accepted region accepted.
use Rattle.std.proofs.Common.{◌≡◌, ◌≢◌, ℕ, ◌+◌, ◌-◌, ◌*◌, ◌/◌, ◌%◌, ◌^◌, ◌<◌, ◌≤◌, Bool, true, false, cond, List, [], ◌∷◌, ◌++◌, length, refl, sym, ap, ◌∙◌, arith, subst, inl, inr, append-nil, length-append, length-take}
use Rattle.std.specs.Prelude.{Option, IsOk, nat_lt, unwrap_or, replicate, slice_index, ◌==◌}
use Rattle.std.specs.Int.{to_le_bytes, w32}
use Rattle.std.proofs.lemmas.Bool.Decides.{nat_tests}
use Rattle.std.proofs.lemmas.List.{get_or_append_left, length-replicate}
use Rattle.crc_words.specs.Crc.{crc, crc_from}
use Rattle.crc_words.proofs.Bounds.{crc_below}
use Rattle.crc_words.proofs.Continued.{continued_is}
use Rattle.kv_pairs.specs.Growth.{largest}
use Rattle.change_log.specs.declared.change.Act.{Act}
use Rattle.meta_record.specs.Words.{word_at, with_word, grown_to}
use Rattle.meta_record.specs.Records.{record_at, checked}
use Rattle.kv_pairs.proofs.GoodItems.{Small-at, Small-from as bytes_from}
use Rattle.meta_record.proofs.WordLemmas.{length-with_word, same_word, other_word}
use Rattle.region_words.specs.Region.{Region, IsRegion, IsAccepted, region_of, record_of, flag, file_size, payload_of}
use Rattle.region_words.specs.Rows.{IsAppendable, AreBytes, item_of, append_stores, write_back_stores, switch_stores, recover_stores, restore_stores, discard_stores, size_repair_stores, stores_from, store_data, store_meta, payload_stores, close_sizes, confirmed_by_checksum, confirmed_by_header}
use Rattle.region_words.specs.Standings.{words_of, tail_bytes, standing_of}
use Rattle.region_words.specs.Lawful.{IsMarkOf}
use Rattle.region_words.specs.Owing.{AreStorable}
use Rattle.region_words.specs.declared.standing.Standing.{Standing}
use Rattle.region_words.specs.declared.event.Side.TheVariants.{Data, Meta}
use Rattle.region_words.specs.declared.event.Mark.{Mark}
use Rattle.region_words.specs.declared.event.Mark.TheVariants.{Commit}
use Rattle.region_words.specs.declared.event.What.{What}
use Rattle.region_words.specs.declared.event.What.TheVariants.{Store, Grow, Lock, Unlock, Died}
use Rattle.region_words.proofs.WordStores.{Small, Small-take, length-words_of}
use Rattle.region_words.proofs.Regions.{Small-from_All, All-from_Small, joined_bytes, word_bytes}
use Rattle.region_words.proofs.RowsStand.{item_bytes}
use Rattle.region_words.proofs.StaysAccepted.{few_flags, has_version, same_version, other_version, other_flags, kept_flags, same_but_sequence}
use Rattle.region_words.proofs.GrownFiles.{IsRoomy, IsFound}

-- words, one after another
abbrev pub SmallWords : List ℕ → Type 0
SmallWords [] = Unit {0}
SmallWords (v ∷ vs) = (v < 2 ^ 32) × SmallWords vs

pub small_words : (bytes : List ℕ) → Small bytes → SmallWords (words_of bytes)
small_words [] s = tt
small_words (a ∷ []) s = (omega (arith, s.0), tt)
small_words (a ∷ b ∷ []) s = (omega (arith, s.0, s.1.0), tt)
small_words (a ∷ b ∷ c ∷ []) s = (omega (arith, s.0, s.1.0, s.1.1.0), tt)
small_words (a ∷ b ∷ c ∷ d ∷ rest) s = (omega (arith, s.0, s.1.0, s.1.1.0, s.1.1.1.0), small_words rest s.1.1.1.1)

-- a store in the meta file that leaves the version and the flags
abbrev IsQuiet : ℕ → ℕ → What → Type 0
IsQuiet size who (Store Data word value mark) = ⊥
IsQuiet size who (Store Meta word value mark) = (4 * word + 4 ≤ size) × (value < 2 ^ 32) × IsMarkOf who mark × (word ≢ 1) × (word ≢ 26) × (word ≢ 27)
IsQuiet size who (Grow n) = ⊥
IsQuiet size who (Lock kind) = ⊥
IsQuiet size who Unlock = ⊥
IsQuiet size who (Died torn) = ⊥

abbrev AreQuiet : ℕ → ℕ → List What → Type 0
AreQuiet size who [] = Unit {0}
AreQuiet size who (what ∷ rest) = IsQuiet size who what × AreQuiet size who rest

-- quiet stores one after another, behind a header that isn't 0
quiet_storable : (who : ℕ) (events : List What) (body meta : List ℕ) → word_at body 0 ≢ 0 → AreQuiet (length meta) who events → AreStorable (region_of body meta) who events
quiet_storable who [] body meta n q = tt
quiet_storable who (Store Data word value mark ∷ rest) body meta n q = absurd q.0
quiet_storable who (Store Meta word value mark ∷ rest) body meta n q =
    let inside = q.0.0 in (
      (inside, q.0.1, (λ e. absurd (q.0.3 e)), q.0.2),
      (λ ok.
          same_version (record_at meta) (record_at (with_word meta word value)) (word_at body 0) (word_at body 0)
          (other_word meta word value inside 1 (λ e. q.0.3 (sym e))) (kept_flags meta word value inside q.0.4 q.0.5) (has_version (record_at meta) (word_at body 0) n ok) ok),
      quiet_storable who rest body (with_word meta word value) n (subst (λ k. AreQuiet k who rest) (sym (length-with_word meta word value inside)) q.1),
    )
quiet_storable who (Grow size ∷ rest) body meta n q = absurd q.0
quiet_storable who (Lock kind ∷ rest) body meta n q = absurd q.0
quiet_storable who (Unlock ∷ rest) body meta n q = absurd q.0
quiet_storable who (Died torn ∷ rest) body meta n q = absurd q.0

-- the words of a payload, its size, and quiet stores, where an accepted region has a version
module _ (who size : ℕ) (tail : List What) (meta : List ℕ) (some : 0 < size) (most : size < 2 ^ 32) (quiet : AreQuiet (length meta) who tail) where
  sized : (body : List ℕ) → 4 ≤ length body → (IsOk (checked (record_at meta) (word_at body 0)) → (record_at meta).version ≢ 0) → AreStorable (region_of body meta) who (store_data 0 size ∷ tail)
  sized body inside firm = (
    (omega (arith, inside), most, tt, tt),
    (λ ok. same_version (record_at meta) (record_at meta) (word_at body 0) (word_at (with_word body 0 size) 0) refl refl (firm ok) ok),
    quiet_storable who tail (with_word body 0 size) meta (let now = same_word body 0 size (omega (arith, inside)) most in λ e. absurd (omega (arith, now, e, some))) quiet,
  )

  pub payload_storable : (w : ℕ) (vs body : List ℕ) → 1 ≤ w → 4 * (w + length vs) ≤ length body → SmallWords vs →
      (IsOk (checked (record_at meta) (word_at body 0)) → (record_at meta).version ≢ 0) → AreStorable (region_of body meta) who (stores_from w vs ++ store_data 0 size ∷ tail)
  payload_storable w [] body first inside small firm = sized body (omega (arith, first, inside)) firm
  payload_storable w (v ∷ vs) body first inside small firm =
      let here : 4 * w + 4 ≤ length body = omega (arith, inside) in
      let same = length-with_word body w v here in
      let head : word_at (with_word body w v) 0 ≡ word_at body 0 = other_word body w v here 0 (omega (arith, first)) in (
        (here, small.0, tt, tt),
        (λ ok. subst (λ h. IsOk (checked (record_at meta) h)) (sym head) ok),
        payload_storable (w + 1) vs (with_word body w v) (omega arith) (omega (arith, same, inside)) small.1 (λ ok. firm (subst (λ h. IsOk (checked (record_at meta) h)) head ok)),
      )

-- the events of an append may be stored, whatever is known of the image, where its item fits behind it
pub append_storable : (r : Region) (s : Standing) (item : List ℕ) (mark : Mark) (who : ℕ) → IsRegion r → AreBytes item → 4 + s.size + length item ≤ file_size r → 0 < s.size + length item →
    crc_from s.checksum item < 2 ^ 32 → (IsAccepted r → (record_of r).version ≢ 0) → IsMarkOf who mark → AreStorable r who (append_stores s item mark)
append_storable r s item mark who is may room some sum firm mine =
    let size = s.size + length item in
    let bytes = tail_bytes s ++ item in
    let meta_size : 112 ≤ length r.meta_bytes = omega (arith, is.meta_file.pages, is.meta_file.not_empty) in
    let small : Small bytes = joined_bytes (tail_bytes s) item (Small-take (s.size % 4) (to_le_bytes w32 s.tail) (word_bytes s.tail)) (Small-from_All item may) in
    let tail_size : length (tail_bytes s) ≤ s.size % 4 = omega (arith, length-take (s.size % 4) (to_le_bytes w32 s.tail)) in
    let most : size < 2 ^ 32 = omega (arith, room, is.data_file.most) in
    payload_storable who size (Store Meta 0 (crc_from s.checksum item) mark ∷ store_meta 7 size ∷ []) r.meta_bytes some most
    ((omega (arith, meta_size), sum, mine, omega arith, omega arith, omega arith), ((omega (arith, meta_size), most, tt, omega arith, omega arith, omega arith), tt))
    (1 + s.size / 4) (words_of bytes) r.data_bytes (omega arith)
    (omega (arith, length-words_of bytes, length-append (tail_bytes s) item, tail_size, room, is.data_file.pages)) (small_words bytes small) firm

-- the same for what is to be known of the image
pub known_append_storable : (r : Region) (who n : ℕ) (a : Act) → IsRegion r → IsAppendable (flag r) a → 4 + n + length (item_of (flag r) a) ≤ file_size r → 0 < n →
    (IsAccepted r → (record_of r).version ≢ 0) → AreStorable r who (append_stores (standing_of r n) (item_of (flag r) a) (Commit (record { maker = who; act = a })))
known_append_storable r who n a is may room some firm =
    let item = item_of (flag r) a in
    append_storable r (standing_of r n) item (Commit (record { maker = who; act = a })) who is (All-from_Small item (item_bytes (flag r) a may)) room (omega (arith, some))
    (subst (λ x. x < 2 ^ 32) (sym (continued_is (payload_of r n) item)) (crc_below (payload_of r n ++ item))) firm refl

-- a longer file has the same header
grown_header : (body : List ℕ) (size : ℕ) → 4 ≤ length body → word_at (grown_to body size) 0 ≡ word_at body 0
grown_header body size inside =
    omega (arith, same 0 (omega arith), same 1 (omega arith), same 2 (omega arith), same 3 (omega arith))
  where
    same : (i : ℕ) → i < 4 → slice_index (grown_to body size) i ≡ slice_index body i
    same i lt = get_or_append_left body (replicate (size - length body) 0) 0 i (omega (arith, lt, inside))

grown_length : (body : List ℕ) (size : ℕ) → length body < size → length (grown_to body size) ≡ size
grown_length body size more = omega (arith, length-append body (replicate (size - length body) 0), length-replicate {A = ℕ} (size - length body) 0, more)

-- the events of a write-back
module _ (who : ℕ) (new : List ℕ) (mark : Mark) (mine : IsMarkOf who mark) (bytes : Small new) (some : 0 < length new) (short : length new ≤ largest) where
  last_storable : (body meta : List ℕ) → 4 + length new ≤ length body → length body % 4 ≡ 0 → 112 ≤ length meta →
      (IsOk (checked (record_at meta) (word_at body 0)) → (record_at meta).version ≢ 0) → AreStorable (region_of body meta) who (payload_stores new ++ confirmed_by_checksum new mark)
  last_storable body meta room pages inside firm =
      let sum = crc_below new in
      let size : length new < 2 ^ 32 = omega (arith, short) in
      payload_storable who (length new) (Store Meta 0 (crc new) mark ∷ store_meta 7 (length new) ∷ store_meta 8 (length new) ∷ store_meta 9 (crc new) ∷ []) meta some size (
        (omega (arith, inside), sum, mine, omega arith, omega arith, omega arith),
        (
          (omega (arith, inside), size, tt, omega arith, omega arith, omega arith),
          ((omega (arith, inside), size, tt, omega arith, omega arith, omega arith), ((omega (arith, inside), sum, tt, omega arith, omega arith, omega arith), tt)),
        ),
      )
      1 (words_of new) body (omega arith) (omega (arith, length-words_of new, room, pages)) (small_words new bytes) firm

  versioned : (fresh : Bool) (body meta : List ℕ) → 4 + length new ≤ length body → length body % 4 ≡ 0 → 112 ≤ length meta →
      (fresh ≡ false → IsOk (checked (record_at meta) (word_at body 0)) → (record_at meta).version ≢ 0) →
      AreStorable (region_of body meta) who (cond fresh (store_meta 1 3 ∷ []) [] ++ payload_stores new ++ confirmed_by_checksum new mark)
  versioned false body meta room pages inside firm = last_storable body meta room pages inside (firm refl)
  versioned true body meta room pages inside firm =
      let here : 4 * 1 + 4 ≤ length meta = omega (arith, inside) in
      let now : (record_at (with_word meta 1 3)).version ≡ 3 = same_word meta 1 3 here (omega arith) in (
        (here, omega arith, (λ e. inl refl), tt),
        (λ ok. other_version (record_at meta) (record_at (with_word meta 1 3)) (word_at body 0) (word_at body 0) 3 refl now (kept_flags meta 1 3 here (omega arith) (omega arith)) ok),
        last_storable body (with_word meta 1 3) room pages (omega (arith, length-with_word meta 1 3 here, inside)) (λ ok e. omega (arith, now, e)),
      )

  raised : (fresh : Bool) (x : ℕ) (body meta : List ℕ) → x < 2 ^ 32 → 4 + length new ≤ length body → length body % 4 ≡ 0 → 112 ≤ length meta →
      (fresh ≡ false → IsOk (checked (record_at meta) (word_at body 0)) → (record_at meta).version ≢ 0) →
      AreStorable (region_of body meta) who (store_meta 2 x ∷ cond fresh (store_meta 1 3 ∷ []) [] ++ payload_stores new ++ confirmed_by_checksum new mark)
  raised fresh x body meta small room pages inside firm =
      let here : 4 * 2 + 4 ≤ length meta = omega (arith, inside) in
      let same = same_but_sequence meta x (word_at body 0) inside in
      let version : (record_at (with_word meta 2 x)).version ≡ (record_at meta).version = other_word meta 2 x here 1 (omega arith) in (
        (here, small, (λ e. absurd (omega (arith, e))), tt),
        (λ ok. subst IsOk (sym same) ok),
        versioned fresh body (with_word meta 2 x) room pages (omega (arith, length-with_word meta 2 x here, inside)) (λ f ok e. firm f (subst IsOk same ok) (sym version ∙ e)),
      )

  grown_storable : (grows fresh : Bool) (wanted x : ℕ) (body meta : List ℕ) → nat_lt (length body) wanted ≡ grows → x < 2 ^ 32 → IsRoomy (4 + length new) wanted → 4 ≤ length body → length body % 4 ≡ 0 → 112 ≤ length meta →
      (fresh ≡ false → IsOk (checked (record_at meta) (word_at body 0)) → (record_at meta).version ≢ 0) →
      AreStorable (region_of body meta) who (cond grows (Grow wanted ∷ []) [] ++ store_meta 2 x ∷ cond fresh (store_meta 1 3 ∷ []) [] ++ payload_stores new ++ confirmed_by_checksum new mark)
  grown_storable false fresh wanted x body meta e small roomy four pages inside firm =
      let less : wanted ≤ length body = grind (arith, nat_tests) in
      raised fresh x body meta small (omega (arith, less, roomy.room)) pages inside firm
  grown_storable true fresh wanted x body meta e small roomy four pages inside firm =
      let more : length body < wanted = grind (arith, nat_tests) in
      let size : length (grown_to body wanted) ≡ wanted = grown_length body wanted more in
      let head = grown_header body wanted four in (
        (more, roomy.most, roomy.pages),
        (λ ok. subst (λ h. IsOk (checked (record_at meta) h)) (sym head) ok),
        raised fresh x (grown_to body wanted) meta small (omega (arith, size, roomy.room)) (omega (arith, size, roomy.pages)) inside (λ f ok. firm f (subst (λ h. IsOk (checked (record_at meta) h)) head ok)),
      )

-- the events of a write-back may be stored
pub write_back_storable : (r : Region) (s : Standing) (size : Option ℕ) (new : List ℕ) (mark : Mark) (who : ℕ) → IsRegion r → s.file_size ≡ file_size r → IsFound (4 + length new) size →
    s.sequence < 0xffffffff → AreBytes new → 0 < length new → (IsAccepted r → (record_of r).version ≡ 0 → s.version ≡ 0) → IsMarkOf who mark → AreStorable r who (write_back_stores s size new mark)
write_back_storable r s size new mark who is file found low may some firm mine =
    let wanted = unwrap_or size 0 in
    let is_wanted : wanted ≡ found.wanted = ap (λ o. unwrap_or o 0) found.is in
    let roomy : IsRoomy (4 + length new) wanted = subst (IsRoomy (4 + length new)) (sym is_wanted) found.roomy in
    grown_storable who new mark mine (Small-from_All new may) some (omega (arith, roomy.room, roomy.most)) (nat_lt s.file_size wanted) (s.version == 0) wanted (s.sequence + 1) r.data_bytes r.meta_bytes
    (ap (λ z. nat_lt z wanted) (sym file)) (omega (arith, low)) roomy (omega (arith, is.data_file.pages, is.data_file.not_empty)) (omega (arith, is.data_file.pages)) (omega (arith, is.meta_file.pages, is.meta_file.not_empty))
    (λ f ok e. let z = firm ok e in versions f z)
  where
    versions : (s.version == 0) ≡ false → s.version ≡ 0 → ⊥
    versions f z = grind (arith, nat_tests)

-- a store that leaves the version and the flags
abbrev IsMild : ℕ → ℕ → ℕ → What → Type 0
IsMild data_size meta_size who (Store Data word value mark) = (4 * word + 4 ≤ data_size) × (value < 2 ^ 32) × IsMarkOf who mark
IsMild data_size meta_size who (Store Meta word value mark) = IsQuiet meta_size who (Store Meta word value mark)
IsMild data_size meta_size who (Grow size) = ⊥
IsMild data_size meta_size who (Lock kind) = ⊥
IsMild data_size meta_size who Unlock = ⊥
IsMild data_size meta_size who (Died torn) = ⊥

abbrev AreMild : ℕ → ℕ → ℕ → List What → Type 0
AreMild data_size meta_size who [] = Unit {0}
AreMild data_size meta_size who (what ∷ rest) = IsMild data_size meta_size who what × AreMild data_size meta_size who rest

mild_joined : (d k who : ℕ) (xs ys : List What) → AreMild d k who xs → AreMild d k who ys → AreMild d k who (xs ++ ys)
mild_joined d k who [] ys p q = q
mild_joined d k who (x ∷ xs) ys p q = (p.0, mild_joined d k who xs ys p.1 q)

mild_words : (d k who w : ℕ) (vs : List ℕ) → 4 * (w + length vs) ≤ d → SmallWords vs → AreMild d k who (stores_from w vs)
mild_words d k who w [] h s = tt
mild_words d k who w (v ∷ vs) h s = ((omega (arith, h), s.0, tt), mild_words d k who (w + 1) vs (omega (arith, h)) s.1)

-- such stores one after another in a region that has a version, and what comes behind them
mild_then : (who : ℕ) (events rest : List What) (body meta : List ℕ) → (record_at meta).version ≢ 0 → AreMild (length body) (length meta) who events →
    ((b m : List ℕ) → length b ≡ length body → length m ≡ length meta → (record_at m).version ≡ (record_at meta).version → AreStorable (region_of b m) who rest) →
    AreStorable (region_of body meta) who (events ++ rest)
mild_then who [] rest body meta n q go = go body meta refl refl refl
mild_then who (Store Data word value mark ∷ events) rest body meta n q go =
    let same = length-with_word body word value q.0.0 in (
      (q.0.0, q.0.1, tt, q.0.2),
      (λ ok. same_version (record_at meta) (record_at meta) (word_at body 0) (word_at (with_word body word value) 0) refl refl n ok),
      mild_then who events rest (with_word body word value) meta n (subst (λ k. AreMild k (length meta) who events) (sym same) q.1) (λ b m e f v. go b m (e ∙ same) f v),
    )
mild_then who (Store Meta word value mark ∷ events) rest body meta n q go =
    let same = length-with_word meta word value q.0.0 in
    let version : (record_at (with_word meta word value)).version ≡ (record_at meta).version = other_word meta word value q.0.0 1 (λ e. q.0.3 (sym e)) in (
      (q.0.0, q.0.1, (λ e. absurd (q.0.3 e)), q.0.2),
      (λ ok. same_version (record_at meta) (record_at (with_word meta word value)) (word_at body 0) (word_at body 0) version (kept_flags meta word value q.0.0 q.0.4 q.0.5) n ok),
      mild_then who events rest body (with_word meta word value) (λ e. n (sym version ∙ e)) (subst (λ k. AreMild (length body) k who events) (sym same) q.1) (λ b m e f v. go b m e (f ∙ same) (v ∙ version)),
    )
mild_then who (Grow size ∷ events) rest body meta n q go = absurd q.0
mild_then who (Lock kind ∷ events) rest body meta n q go = absurd q.0
mild_then who (Unlock ∷ events) rest body meta n q go = absurd q.0
mild_then who (Died torn ∷ events) rest body meta n q go = absurd q.0

mild_storable : (who : ℕ) (events : List What) (body meta : List ℕ) → (record_at meta).version ≢ 0 → AreMild (length body) (length meta) who events → AreStorable (region_of body meta) who events
mild_storable who events body meta n q = subst (AreStorable (region_of body meta) who) (append-nil events) (mild_then who events [] body meta n q (λ b m e f v. tt))

-- the events of a switch and of a recovery
module _ (who : ℕ) (new : List ℕ) (mark : Mark) (mine : IsMarkOf who mark) (bytes : Small new) (short : length new ≤ largest) where
  size_small : length new < 2 ^ 32
  size_small = omega (arith, short)

  opens : (d k : ℕ) → 4 ≤ d → 112 ≤ k → AreMild d k who (confirmed_by_header new mark)
  opens d k four inside = (
    (omega (arith, inside), crc_below new, tt, omega arith, omega arith, omega arith),
    (
      (omega (arith, inside), crc_below new, tt, omega arith, omega arith, omega arith),
      (
        (omega (arith, four), size_small, mine),
        ((omega (arith, inside), size_small, tt, omega arith, omega arith, omega arith), ((omega (arith, inside), size_small, tt, omega arith, omega arith, omega arith), tt)),
      ),
    ),
  )

  closes : (d k : ℕ) → 4 ≤ d → 112 ≤ k → AreMild d k who close_sizes
  closes d k four inside =
      ((omega (arith, inside), omega arith, tt, omega arith, omega arith, omega arith), ((omega (arith, four), omega arith, tt), ((omega (arith, inside), omega arith, tt, omega arith, omega arith, omega arith), tt)))

  payloads : (d k : ℕ) → 4 + length new ≤ d → d % 4 ≡ 0 → AreMild d k who (payload_stores new)
  payloads d k room pages = mild_words d k who 1 (words_of new) (omega (arith, length-words_of new, room, pages)) (small_words new bytes)

  flagged : (flags : ℕ) → flags ≤ 1 → (body meta : List ℕ) → (record_at meta).version ≢ 0 → 4 ≤ length body → 112 ≤ length meta →
      AreStorable (region_of body meta) who (store_meta 26 flags ∷ confirmed_by_header new mark)
  flagged flags few body meta n four inside =
      let here : 4 * 26 + 4 ≤ length meta = omega (arith, inside) in
      let version : (record_at (with_word meta 26 flags)).version ≡ (record_at meta).version = other_word meta 26 flags here 1 (omega arith) in
      let low : word_at (with_word meta 26 flags) 26 ≡ flags = same_word meta 26 flags here (omega (arith, few)) in
      let high : word_at (with_word meta 26 flags) 27 ≡ word_at meta 27 = other_word meta 26 flags here 27 (omega arith) in (
        (here, omega (arith, few), (λ e. absurd (omega (arith, e))), tt),
        (λ ok.
            let old = few_flags (record_at meta) (word_at body 0) ok in
            other_flags (record_at meta) (record_at (with_word meta 26 flags)) (word_at body 0) (word_at body 0) version (omega (arith, low, high, old, few)) n ok),
        mild_storable who (confirmed_by_header new mark) body (with_word meta 26 flags) (λ e. n (sym version ∙ e)) (opens (length body) (length (with_word meta 26 flags)) four (omega (arith, inside, length-with_word meta 26 flags here))),
      )

  closed : (flags : ℕ) → flags ≤ 1 → (body meta : List ℕ) → (record_at meta).version ≢ 0 → 4 + length new ≤ length body → length body % 4 ≡ 0 → 112 ≤ length meta →
      AreStorable (region_of body meta) who (close_sizes ++ payload_stores new ++ store_meta 26 flags ∷ confirmed_by_header new mark)
  closed flags few body meta n room pages inside =
      mild_then who (close_sizes ++ payload_stores new) (store_meta 26 flags ∷ confirmed_by_header new mark) body meta n
      (mild_joined (length body) (length meta) who close_sizes (payload_stores new) (closes (length body) (length meta) (omega (arith, room)) inside) (payloads (length body) (length meta) room pages))
      (λ b m e f v. flagged flags few b m (λ z. n (sym v ∙ z)) (omega (arith, e, room)) (omega (arith, f, inside)))

  fourth : (flags x : ℕ) → flags ≤ 1 → x < 2 ^ 32 → (body meta : List ℕ) → 4 + length new ≤ length body → length body % 4 ≡ 0 → 112 ≤ length meta →
      AreStorable (region_of body meta) who (store_meta 2 x ∷ store_meta 1 4 ∷ close_sizes ++ payload_stores new ++ store_meta 26 flags ∷ confirmed_by_header new mark)
  fourth flags x few small body meta room pages inside =
      let here : 4 * 2 + 4 ≤ length meta = omega (arith, inside) in
      let m1 = with_word meta 2 x in
      let l1 : length m1 ≡ length meta = length-with_word meta 2 x here in
      let m2 = with_word m1 1 4 in
      let one : 4 * 1 + 4 ≤ length m1 = omega (arith, inside, l1) in
      let l2 : length m2 ≡ length m1 = length-with_word m1 1 4 one in
      let now : (record_at m2).version ≡ 4 = same_word m1 1 4 one (omega arith) in (
        (here, small, (λ e. absurd (omega (arith, e))), tt),
        (λ ok. subst IsOk (sym (same_but_sequence meta x (word_at body 0) inside)) ok),
        (
          (one, omega arith, (λ e. inr refl), tt),
          (λ ok. other_version (record_at m1) (record_at m2) (word_at body 0) (word_at body 0) 4 refl now (kept_flags m1 1 4 one (omega arith) (omega arith)) ok),
          closed flags few body m2 (λ e. omega (arith, now, e)) room pages (omega (arith, inside, l1, l2)),
        ),
      )

  switch_grown : (grows : Bool) (flags wanted x : ℕ) → flags ≤ 1 → x < 2 ^ 32 → (body meta : List ℕ) → nat_lt (length body) wanted ≡ grows → IsRoomy (4 + length new) wanted → 4 ≤ length body → length body % 4 ≡ 0 → 112 ≤ length meta →
      AreStorable (region_of body meta) who (cond grows (Grow wanted ∷ []) [] ++ store_meta 2 x ∷ store_meta 1 4 ∷ close_sizes ++ payload_stores new ++ store_meta 26 flags ∷ confirmed_by_header new mark)
  switch_grown false flags wanted x few small body meta e roomy four pages inside =
      let less : wanted ≤ length body = grind (arith, nat_tests) in
      fourth flags x few small body meta (omega (arith, less, roomy.room)) pages inside
  switch_grown true flags wanted x few small body meta e roomy four pages inside =
      let more : length body < wanted = grind (arith, nat_tests) in
      let size : length (grown_to body wanted) ≡ wanted = grown_length body wanted more in
      let head = grown_header body wanted four in (
        (more, roomy.most, roomy.pages),
        (λ ok. subst (λ h. IsOk (checked (record_at meta) h)) (sym head) ok),
        fourth flags x few small (grown_to body wanted) meta (omega (arith, size, roomy.room)) (omega (arith, size, roomy.pages)) inside,
      )

  opened : (body meta : List ℕ) → (record_at meta).version ≢ 0 → 4 + length new ≤ length body → length body % 4 ≡ 0 → 112 ≤ length meta →
      AreStorable (region_of body meta) who (payload_stores new ++ confirmed_by_header new mark)
  opened body meta n room pages inside =
      mild_storable who (payload_stores new ++ confirmed_by_header new mark) body meta n
      (mild_joined (length body) (length meta) who (payload_stores new) (confirmed_by_header new mark) (payloads (length body) (length meta) room pages) (opens (length body) (length meta) (omega (arith, room)) inside))

  recover_grown : (grows : Bool) (wanted x : ℕ) → x < 2 ^ 32 → (body meta : List ℕ) → nat_lt (length body) wanted ≡ grows → (record_at meta).version ≢ 0 → IsRoomy (4 + length new) wanted → 4 ≤ length body → length body % 4 ≡ 0 → 112 ≤ length meta →
      AreStorable (region_of body meta) who (store_meta 2 x ∷ close_sizes ++ cond grows (Grow wanted ∷ []) [] ++ payload_stores new ++ confirmed_by_header new mark)
  recover_grown grows wanted x small body meta e n roomy four pages inside = by_growth grows e
    where
      front : AreMild (length body) (length meta) who (store_meta 2 x ∷ close_sizes)
      front = ((omega (arith, inside), small, tt, omega arith, omega arith, omega arith), closes (length body) (length meta) four inside)

      by_growth : (g : Bool) → nat_lt (length body) wanted ≡ g →
          AreStorable (region_of body meta) who (store_meta 2 x ∷ close_sizes ++ cond g (Grow wanted ∷ []) [] ++ payload_stores new ++ confirmed_by_header new mark)
      by_growth false f =
          let less : wanted ≤ length body = grind (arith, nat_tests) in
          mild_then who (store_meta 2 x ∷ close_sizes) (payload_stores new ++ confirmed_by_header new mark) body meta n front
          (λ b m p q v. opened b m (λ z. n (sym v ∙ z)) (omega (arith, p, less, roomy.room)) (omega (arith, p, pages)) (omega (arith, q, inside)))
      by_growth true f =
          let more : length body < wanted = grind (arith, nat_tests) in
          mild_then who (store_meta 2 x ∷ close_sizes) (Grow wanted ∷ (payload_stores new ++ confirmed_by_header new mark)) body meta n front
          (λ b m p q v.
          let size : length (grown_to b wanted) ≡ wanted = grown_length b wanted (omega (arith, p, more)) in
          let head = grown_header b wanted (omega (arith, p, four)) in (
            (omega (arith, p, more), roomy.most, roomy.pages),
            (λ ok. subst (λ h. IsOk (checked (record_at m) h)) (sym head) ok),
            opened (grown_to b wanted) m (λ z. n (sym v ∙ z)) (omega (arith, size, roomy.room)) (omega (arith, size, roomy.pages)) (omega (arith, q, inside)),
          ))

-- the events of a switch may be stored
pub switch_storable : (r : Region) (s : Standing) (size : Option ℕ) (flags : ℕ) (new : List ℕ) (mark : Mark) (who : ℕ) → IsRegion r → s.file_size ≡ file_size r → IsFound (4 + length new) size →
    s.sequence < 0xffffffff → flags ≤ 1 → AreBytes new → IsMarkOf who mark → AreStorable r who (switch_stores s size flags new mark)
switch_storable r s size flags new mark who is file found low few may mine =
    let wanted = unwrap_or size 0 in
    let is_wanted : wanted ≡ found.wanted = ap (λ o. unwrap_or o 0) found.is in
    let roomy : IsRoomy (4 + length new) wanted = subst (IsRoomy (4 + length new)) (sym is_wanted) found.roomy in
    switch_grown who new mark mine (Small-from_All new may) (omega (arith, roomy.room, roomy.most)) (nat_lt s.file_size wanted) flags wanted (s.sequence + 1) few (omega (arith, low)) r.data_bytes r.meta_bytes
    (ap (λ z. nat_lt z wanted) (sym file)) roomy (omega (arith, is.data_file.pages, is.data_file.not_empty)) (omega (arith, is.data_file.pages)) (omega (arith, is.meta_file.pages, is.meta_file.not_empty))

-- those of a recovery where there is a version
pub recover_storable : (r : Region) (s : Standing) (size : Option ℕ) (new : List ℕ) (mark : Mark) (who : ℕ) → IsRegion r → s.file_size ≡ file_size r → IsFound (4 + length new) size →
    s.sequence < 0xffffffff → (record_of r).version ≢ 0 → AreBytes new → IsMarkOf who mark → AreStorable r who (recover_stores s size new mark)
recover_storable r s size new mark who is file found low n may mine =
    let wanted = unwrap_or size 0 in
    let is_wanted : wanted ≡ found.wanted = ap (λ o. unwrap_or o 0) found.is in
    let roomy : IsRoomy (4 + length new) wanted = subst (IsRoomy (4 + length new)) (sym is_wanted) found.roomy in
    recover_grown who new mark mine (Small-from_All new may) (omega (arith, roomy.room, roomy.most)) (nat_lt s.file_size wanted) wanted (s.sequence + 1) (omega (arith, low)) r.data_bytes r.meta_bytes
    (ap (λ z. nat_lt z wanted) (sym file)) n roomy (omega (arith, is.data_file.pages, is.data_file.not_empty)) (omega (arith, is.data_file.pages)) (omega (arith, is.meta_file.pages, is.meta_file.not_empty))

-- a word of a file is a number of 32 bits
pub read_below : (file : List ℕ) (w : ℕ) → AreBytes file → word_at file w < 2 ^ 32
read_below file w h =
    let s = bytes_from file h in
    omega (arith, Small-at file (4 * w) s, Small-at file (4 * w + 1) s, Small-at file (4 * w + 2) s, Small-at file (4 * w + 3) s)

-- those of the short rows
pub restore_storable : (r : Region) (s : Standing) (mark : Mark) (who : ℕ) → IsRegion r → s.sequence < 0xffffffff → (record_of r).version ≢ 0 → IsMarkOf who mark → AreStorable r who (restore_stores s (record_of r) mark)
restore_storable r s mark who is low n mine =
    let inside : 112 ≤ length r.meta_bytes = omega (arith, is.meta_file.pages, is.meta_file.not_empty) in
    let four : 4 ≤ length r.data_bytes = omega (arith, is.data_file.pages, is.data_file.not_empty) in
    let size = read_below r.meta_bytes 8 is.meta_file.small in
    let sum = read_below r.meta_bytes 9 is.meta_file.small in
    mild_storable who (restore_stores s (record_of r) mark) r.data_bytes r.meta_bytes n (
      (omega (arith, inside), omega (arith, low), tt, omega arith, omega arith, omega arith),
      (
        (omega (arith, four), size, tt),
        ((omega (arith, inside), size, tt, omega arith, omega arith, omega arith), ((omega (arith, inside), sum, mine, omega arith, omega arith, omega arith), tt)),
      ),
    )

pub discard_storable : (r : Region) (s : Standing) (mark : Mark) (who : ℕ) → IsRegion r → s.sequence < 0xffffffff → (record_of r).version ≢ 0 → IsMarkOf who mark → AreStorable r who (discard_stores s mark)
discard_storable r s mark who is low n mine =
    let inside : 112 ≤ length r.meta_bytes = omega (arith, is.meta_file.pages, is.meta_file.not_empty) in
    let four : 4 ≤ length r.data_bytes = omega (arith, is.data_file.pages, is.data_file.not_empty) in
    mild_storable who (discard_stores s mark) r.data_bytes r.meta_bytes n (
      (omega (arith, inside), omega (arith, low), tt, omega arith, omega arith, omega arith),
      (
        (omega (arith, four), omega arith, tt),
        (
          (omega (arith, inside), omega arith, tt, omega arith, omega arith, omega arith),
          (
            (omega (arith, inside), omega arith, mine, omega arith, omega arith, omega arith),
            ((omega (arith, inside), omega arith, tt, omega arith, omega arith, omega arith), ((omega (arith, inside), omega arith, tt, omega arith, omega arith, omega arith), tt)),
          ),
        ),
      ),
    )

pub size_repair_storable : (r : Region) (s : Standing) (who : ℕ) → IsRegion r → s.size < 2 ^ 32 → (record_of r).version ≢ 0 → AreStorable r who (size_repair_stores s)
size_repair_storable r s who is small n =
    mild_storable who (size_repair_stores s) r.data_bytes r.meta_bytes n ((omega (arith, is.meta_file.pages, is.meta_file.not_empty), small, tt, omega arith, omega arith, omega arith), tt)
