-- What a write-back leaves is known from what was known before it and from what was written.
use Rattle.std.proofs.Common.{◌≡◌, ℕ, ◌+◌, ◌-◌, ◌*◌, ◌%◌, ◌^◌, ◌<◌, ◌≤◌, Bool, true, false, cond, List, [], ◌∷◌, ◌++◌, length, refl, sym, ap, ◌∙◌, arith, subst, length-append}
use Rattle.std.specs.Prelude.{Option, nat_lt, max, unwrap_or, replicate, ◌==◌, if◌then◌else◌}
use Rattle.std.proofs.lemmas.Bool.Decides.{nat_tests}
use Rattle.std.proofs.lemmas.List.{length-replicate}
use Rattle.std.proofs.lemmas.List.Elements.{All-drop}
use Rattle.std.specs.FinMap as fin
use Rattle.crc_words.specs.Crc.{crc}
use Rattle.crc_words.proofs.Bounds.{crc_below}
use Rattle.expiring_map.specs.Map.{Map}
use Rattle.kv_pairs.specs.Growth.{largest}
use Rattle.meta_record.specs.Words.{word_at, with_word, grown_to}
use Rattle.meta_record.specs.Records.{record_at}
use Rattle.meta_record.proofs.WordLemmas.{length-with_word}
use Rattle.region_words.specs.Region.{Region, IsRegion, IsAccepted, record_of, header, flag, file_size, payload_of}
use Rattle.region_words.specs.Past.{after_all}
use Rattle.region_words.specs.Rows.{Row, Append, Pack, Clear, Enable, Disable, Restore, Discard, Recover, SizeRepair, MayBegin, CanRewrite, write_back_stores, AreBytes, events_of, standing, size_after, payload_after, need_of, row_map, store_meta, flag_after, payload_stores, close_sizes, closed_size, switch_stores, recover_stores, confirmed_by_checksum, confirmed_by_header, mark_of}
use Rattle.region_words.specs.Standings.{standing_of, words_of, tail_of}
use Rattle.region_words.specs.Making.{rewritten_standing, IsWriteBack, IsSwitch}
use Rattle.region_words.specs.declared.event.Mark.{Mark}
use Rattle.region_words.specs.declared.event.What.TheVariants.{Grow}
use Rattle.region_words.proofs.WordStores.{Small, stored, tail_stored, length-stored, length-words_of}
use Rattle.region_words.proofs.Regions.{Small-from_All}
use Rattle.region_words.proofs.Appended.{after_all-append, after_all-stores}
use Rattle.region_words.proofs.WordsSet.{Setting, set_to, set_all, last_set, AreWords, word-set_all}
use Rattle.region_words.proofs.StaysAccepted.{few_flags}
use Rattle.region_words.proofs.TextProofs.{text_laws}
use Rattle.region_words.proofs.GrownFiles.{IsFound, grown_roomy}

-- the data after a payload and its size are stored
abbrev pub written : List ℕ → List ℕ → List ℕ
written file new = with_word (stored file 1 (words_of new)) 0 (length new)

pub length-written : (file new : List ℕ) → length file % 4 ≡ 0 → 4 + length new ≤ length file → length (written file new) ≡ length file
length-written file new pages room =
    let same = length-stored file 1 (words_of new) (omega (arith, length-words_of new, room, pages)) in
    length-with_word (stored file 1 (words_of new)) 0 (length new) (omega (arith, same, room)) ∙ same

-- the payload stands there
pub payload-written : (file new : List ℕ) → Small new → length file % 4 ≡ 0 → 4 + length new ≤ length file → payload_of (record { data_bytes = written file new; meta_bytes = [] }) (length new) ≡ new
payload-written file new small pages room = tail_stored file new 0 small pages (omega arith) room (λ i lt. absurd (omega (arith, lt)))

-- the data after a growth
abbrev pub grown : Bool → List ℕ → ℕ → List ℕ
grown b file size = cond b (grown_to file size) file

pub length-grown : (file : List ℕ) (size : ℕ) → length (grown (nat_lt (length file) size) file size) ≡ max (length file) size
length-grown file size = go (nat_lt (length file) size) refl
  where
    go : (b : Bool) → nat_lt (length file) size ≡ b → length (cond b (grown_to file size) file) ≡ max (length file) size
    go true e =
        let less : length file < size = grind (arith, nat_tests) in
        omega (arith, less, length-append file (replicate (size - length file) 0), length-replicate {A = ℕ} (size - length file) 0)
    go false e = let more : size ≤ length file = grind (arith, nat_tests) in omega (arith, more)

-- what is read of the meta file after these settings
pub record IsRead (meta : List ℕ) (stores : List Setting) (sequence version size : ℕ) (on : Bool) : Type 0 where
  pub sequence_is : last_set 2 (word_at meta 2) stores ≡ sequence
  pub version_is : last_set 1 (word_at meta 1) stores ≡ version
  pub size_is : last_set 7 (word_at meta 7) stores ≡ size
  pub flag_is : (last_set 26 (word_at meta 26) stores + 4294967296 * last_set 27 (word_at meta 27) stores) == 1 ≡ on

-- what is known after a rewrite
abbrev pub IsLeft : Region → ℕ → Bool → Option ℕ → List ℕ → Region → Type 0
IsLeft r version on size new t =
    ((record_of t).size ≡ length new) × (standing_of t (length new) ≡ rewritten_standing (standing r) version on size new)

-- a file of its new length in which the payload is written, and a record that is read so
pub rewrite_leaves : (r : Region) (new file : List ℕ) (size : Option ℕ) (stores : List Setting) (version : ℕ) (on : Bool) → Small new → length file % 4 ≡ 0 → 4 + length new ≤ length file →
    length file ≡ max (file_size r) (unwrap_or size 0) → AreWords (length r.meta_bytes) stores → IsRead r.meta_bytes stores ((record_of r).sequence + 1) version (length new) on →
    IsLeft r version on size new (record { data_bytes = written file new; meta_bytes = set_all r.meta_bytes stores })
rewrite_leaves r new file size stores version on bytes pages room long are read =
    let words = λ (w : ℕ). word-set_all (length r.meta_bytes) r.meta_bytes stores refl are w in
    let content : payload_of (record { data_bytes = written file new; meta_bytes = [] }) (length new) ≡ new = payload-written file new bytes pages room in
    let flags : (word_at (set_all r.meta_bytes stores) 26 + 4294967296 * word_at (set_all r.meta_bytes stores) 27) == 1 ≡ on = (λ i. (words 26 i + 4294967296 * words 27 i) == 1) ∙ read.flag_is in
    let sequence : word_at (set_all r.meta_bytes stores) 2 ≡ (record_of r).sequence + 1 = words 2 ∙ read.sequence_is in
    let version_now : word_at (set_all r.meta_bytes stores) 1 ≡ version = words 1 ∙ read.version_is in
    let data_size : length (written file new) ≡ max (file_size r) (unwrap_or size 0) = length-written file new pages room ∙ long in (
      words 7 ∙ read.size_is,
      λ i. record {
        sequence = sequence i;
        version = version_now i;
        flag = flags i;
        size = length new;
        checksum = crc (content i);
        tail = tail_of (content i) (length new);
        file_size = data_size i;
      },
    )

-- the settings of a write-back, with a version where there was none
abbrev confirming : List ℕ → List Setting
confirming new = set_to 0 (crc new) ∷ set_to 7 (length new) ∷ set_to 8 (length new) ∷ set_to 9 (crc new) ∷ []

abbrev settings : ℕ → Bool → List ℕ → List Setting
settings x fresh new = set_to 2 x ∷ cond fresh (set_to 1 3 ∷ []) [] ++ confirming new

-- those of a switch of the flag, and of a recovery
abbrev closing : ℕ → List Setting
closing x = set_to 2 x ∷ set_to 7 closed_size ∷ set_to 8 closed_size ∷ []

abbrev opening : List ℕ → List Setting
opening new = set_to 0 (crc new) ∷ set_to 9 (crc new) ∷ set_to 7 (length new) ∷ set_to 8 (length new) ∷ []

abbrev switching : ℕ → ℕ → List ℕ → List Setting
switching x flags new = set_to 2 x ∷ set_to 1 4 ∷ set_to 7 closed_size ∷ set_to 8 closed_size ∷ set_to 26 flags ∷ opening new

module _ (x : ℕ) (new : List ℕ) (mark : Mark) where
  confirmed_after : (q : Region) → after_all q (payload_stores new ++ confirmed_by_checksum new mark) ≡ record { data_bytes = written q.data_bytes new; meta_bytes = set_all q.meta_bytes (confirming new) }
  confirmed_after q = after_all-append q (payload_stores new) (confirmed_by_checksum new mark) ∙ ap (λ z. after_all z (confirmed_by_checksum new mark)) (after_all-stores q 1 (words_of new))

  opened_after : (q : Region) → after_all q (payload_stores new ++ confirmed_by_header new mark) ≡ record { data_bytes = written q.data_bytes new; meta_bytes = set_all q.meta_bytes (opening new) }
  opened_after q = after_all-append q (payload_stores new) (confirmed_by_header new mark) ∙ ap (λ z. after_all z (confirmed_by_header new mark)) (after_all-stores q 1 (words_of new))

  flagged_after : (q : Region) (flags : ℕ) →
      after_all q (payload_stores new ++ store_meta 26 flags ∷ confirmed_by_header new mark) ≡ record { data_bytes = written q.data_bytes new; meta_bytes = set_all q.meta_bytes (set_to 26 flags ∷ opening new) }
  flagged_after q flags =
      after_all-append q (payload_stores new) (store_meta 26 flags ∷ confirmed_by_header new mark) ∙ ap (λ z. after_all z (store_meta 26 flags ∷ confirmed_by_header new mark)) (after_all-stores q 1 (words_of new))

  -- after a write-back
  written_back : (r : Region) (grows fresh : Bool) (size : ℕ) →
      after_all r (cond grows (Grow size ∷ []) [] ++ store_meta 2 x ∷ cond fresh (store_meta 1 3 ∷ []) [] ++ payload_stores new ++ confirmed_by_checksum new mark)
      ≡ record { data_bytes = written (grown grows r.data_bytes size) new; meta_bytes = set_all r.meta_bytes (settings x fresh new) }
  written_back r true true size = confirmed_after (record { data_bytes = grown_to r.data_bytes size; meta_bytes = set_all r.meta_bytes (set_to 2 x ∷ set_to 1 3 ∷ []) })
  written_back r true false size = confirmed_after (record { data_bytes = grown_to r.data_bytes size; meta_bytes = set_all r.meta_bytes (set_to 2 x ∷ []) })
  written_back r false true size = confirmed_after (record { data_bytes = r.data_bytes; meta_bytes = set_all r.meta_bytes (set_to 2 x ∷ set_to 1 3 ∷ []) })
  written_back r false false size = confirmed_after (record { data_bytes = r.data_bytes; meta_bytes = set_all r.meta_bytes (set_to 2 x ∷ []) })

  -- after a switch
  switched : (r : Region) (grows : Bool) (size flags : ℕ) →
      after_all r (cond grows (Grow size ∷ []) [] ++ store_meta 2 x ∷ store_meta 1 4 ∷ close_sizes ++ payload_stores new ++ store_meta 26 flags ∷ confirmed_by_header new mark)
      ≡ record { data_bytes = written (with_word (grown grows r.data_bytes size) 0 closed_size) new; meta_bytes = set_all r.meta_bytes (switching x flags new) }
  switched r true size flags =
      flagged_after (record { data_bytes = with_word (grown_to r.data_bytes size) 0 closed_size; meta_bytes = set_all r.meta_bytes (set_to 2 x ∷ set_to 1 4 ∷ set_to 7 closed_size ∷ set_to 8 closed_size ∷ []) }) flags
  switched r false size flags =
      flagged_after (record { data_bytes = with_word r.data_bytes 0 closed_size; meta_bytes = set_all r.meta_bytes (set_to 2 x ∷ set_to 1 4 ∷ set_to 7 closed_size ∷ set_to 8 closed_size ∷ []) }) flags

  -- after a recovery
  recovered : (r : Region) (grows : Bool) (size : ℕ) →
      after_all r (store_meta 2 x ∷ close_sizes ++ cond grows (Grow size ∷ []) [] ++ payload_stores new ++ confirmed_by_header new mark)
      ≡ record { data_bytes = written (grown grows (with_word r.data_bytes 0 closed_size) size) new; meta_bytes = set_all r.meta_bytes (closing x ++ opening new) }
  recovered r true size = opened_after (record { data_bytes = grown_to (with_word r.data_bytes 0 closed_size) size; meta_bytes = set_all r.meta_bytes (closing x) })
  recovered r false size = opened_after (record { data_bytes = with_word r.data_bytes 0 closed_size; meta_bytes = set_all r.meta_bytes (closing x) })

-- these settings are words, and what is read after them
module _ (meta new : List ℕ) (x : ℕ) (inside : 112 ≤ length meta) (sequence : x < 2 ^ 32) (short : length new ≤ largest) where
  size_small : length new < 2 ^ 32
  size_small = omega (arith, short)

  confirms : AreWords (length meta) (confirming new)
  confirms =
      (omega (arith, inside), crc_below new, (omega (arith, inside), size_small, (omega (arith, inside), size_small, (omega (arith, inside), crc_below new, tt))))

  opens : AreWords (length meta) (opening new)
  opens =
      (omega (arith, inside), crc_below new, (omega (arith, inside), crc_below new, (omega (arith, inside), size_small, (omega (arith, inside), size_small, tt))))

  settings_words : (b : Bool) → AreWords (length meta) (settings x b new)
  settings_words true = (omega (arith, inside), sequence, (omega (arith, inside), omega arith, confirms))
  settings_words false = (omega (arith, inside), sequence, confirms)

  switching_words : (flags : ℕ) → flags < 2 ^ 32 → AreWords (length meta) (switching x flags new)
  switching_words flags small =
      (omega (arith, inside), sequence, (omega (arith, inside), omega arith, (omega (arith, inside), omega arith, (omega (arith, inside), omega arith, (omega (arith, inside), small, opens)))))

  recovering_words : AreWords (length meta) (closing x ++ opening new)
  recovering_words = (omega (arith, inside), sequence, (omega (arith, inside), omega arith, (omega (arith, inside), omega arith, opens)))

  settings_read : (b : Bool) → IsRead meta (settings x b new) x (cond b 3 (record_at meta).version) (length new) ((record_at meta).flags == 1)
  settings_read true = record { sequence_is = refl; version_is = refl; size_is = refl; flag_is = refl }
  settings_read false = record { sequence_is = refl; version_is = refl; size_is = refl; flag_is = refl }

  switching_read : (flags : ℕ) (on : Bool) → (flags + 4294967296 * word_at meta 27) == 1 ≡ on → IsRead meta (switching x flags new) x 4 (length new) on
  switching_read flags on e = record { sequence_is = refl; version_is = refl; size_is = refl; flag_is = e }

  recovering_read : IsRead meta (closing x ++ opening new) x (record_at meta).version (length new) ((record_at meta).flags == 1)
  recovering_read = record { sequence_is = refl; version_is = refl; size_is = refl; flag_is = refl }

-- the size after a rewrite has room for the payload
pub room_after : (r : Region) (m : Map) (row : Row) → IsRegion r → CanRewrite r m row → IsFound (4 + length (payload_after r m row) + need_of row) (size_after r m row)
room_after r m row is can =
    grown_roomy (length (payload_after r m row)) (need_of row) (fin.len (row_map r m row)) (file_size r) is.data_file.most is.data_file.pages can.1

-- what a rewrite begins with
pub record Rewriting (r : Region) (m : Map) (row : Row) : Type 0 where
  pub pages : max (file_size r) (unwrap_or (size_after r m row) 0) % 4 ≡ 0
  pub room : 4 + length (payload_after r m row) ≤ max (file_size r) (unwrap_or (size_after r m row) 0)
  pub short : length (payload_after r m row) ≤ largest
  pub sequence : (record_of r).sequence + 1 < 2 ^ 32
  pub four : 4 ≤ file_size r
  pub meta : 112 ≤ length r.meta_bytes

rewriting : (r : Region) (m : Map) (row : Row) → IsRegion r → CanRewrite r m row → Rewriting r m row
rewriting r m row is can =
    let size = size_after r m row in
    let found = room_after r m row is can in
    let wanted : unwrap_or size 0 ≡ found.wanted = ap (λ o. unwrap_or o 0) found.is in
    record {
      pages = omega (arith, wanted, found.roomy.pages, is.data_file.pages);
      room = omega (arith, wanted, found.roomy.room);
      short = omega (arith, found.roomy.room, found.roomy.most);
      sequence = omega (arith, can.0);
      four = omega (arith, is.data_file.pages, is.data_file.not_empty);
      meta = omega (arith, is.meta_file.pages, is.meta_file.not_empty);
    }

module _ (r : Region) (m : Map) (row : Row) (mark : Mark) (is : IsRegion r) (can : CanRewrite r m row) (bytes : AreBytes (payload_after r m row)) where
  abbrev new : List ℕ
  new = payload_after r m row

  abbrev size : Option ℕ
  size = size_after r m row

  abbrev x : ℕ
  x = (record_of r).sequence + 1

  abbrev grows : Bool
  grows = nat_lt (file_size r) (unwrap_or size 0)

  begins : Rewriting r m row
  begins = rewriting r m row is can

  small : Small new
  small = Small-from_All new bytes

  -- a file as long as the one that was grown
  as_long : (file : List ℕ) → length file ≡ max (file_size r) (unwrap_or size 0) → (length file % 4 ≡ 0) × (4 + length new ≤ length file)
  as_long file e = let b = begins in (omega (arith, e, b.pages), omega (arith, e, b.room))

  pub write_back_left : IsLeft r (if (record_of r).version == 0 then 3 else (record_of r).version) (flag r) size new (after_all r (write_back_stores (standing r) size new mark))
  write_back_left =
      let b = begins in
      let file = grown grows r.data_bytes (unwrap_or size 0) in
      let long : length file ≡ max (file_size r) (unwrap_or size 0) = length-grown r.data_bytes (unwrap_or size 0) in
      let fit = as_long file long in
      let fresh = (record_of r).version == 0 in
      subst (IsLeft r (if (record_of r).version == 0 then 3 else (record_of r).version) (flag r) size new) (sym (written_back x new mark r grows ((record_of r).version == 0) (unwrap_or size 0)))
      (rewrite_leaves r new file size (settings x ((record_of r).version == 0) new) (if (record_of r).version == 0 then 3 else (record_of r).version) (flag r) small fit.0 fit.1 long
      (settings_words r.meta_bytes new x b.meta b.sequence b.short ((record_of r).version == 0)) (settings_read r.meta_bytes new x b.meta b.sequence b.short ((record_of r).version == 0)))

  pub switch_left : (flags : ℕ) (on : Bool) → flags < 2 ^ 32 → (flags + 4294967296 * word_at r.meta_bytes 27) == 1 ≡ on →
      IsLeft r 4 on size new (after_all r (switch_stores (standing r) size flags new mark))
  switch_left flags on few e =
      let b = begins in
      let body = grown grows r.data_bytes (unwrap_or size 0) in
      let body_long : length body ≡ max (file_size r) (unwrap_or size 0) = length-grown r.data_bytes (unwrap_or size 0) in
      let file = with_word body 0 closed_size in
      let long : length file ≡ max (file_size r) (unwrap_or size 0) = length-with_word body 0 closed_size (omega (arith, body_long, b.four)) ∙ body_long in
      let fit = as_long file long in
      subst (IsLeft r 4 on size new) (sym (switched x new mark r grows (unwrap_or size 0) flags))
      (rewrite_leaves r new file size (switching x flags new) 4 on small fit.0 fit.1 long
      (switching_words r.meta_bytes new x b.meta b.sequence b.short flags few) (switching_read r.meta_bytes new x b.meta b.sequence b.short flags on e))

  pub recover_left : IsLeft r (record_of r).version (flag r) size new (after_all r (recover_stores (standing r) size new mark))
  recover_left =
      let b = begins in
      let body = with_word r.data_bytes 0 closed_size in
      let same : length body ≡ file_size r = length-with_word r.data_bytes 0 closed_size (omega (arith, b.four)) in
      let file = grown grows body (unwrap_or size 0) in
      let long : length file ≡ max (file_size r) (unwrap_or size 0) =
      ap (λ k. length (grown (nat_lt k (unwrap_or size 0)) body (unwrap_or size 0))) (sym same) ∙ length-grown body (unwrap_or size 0) ∙ ap (λ k. max k (unwrap_or size 0)) same in
      let fit = as_long file long in
      subst (IsLeft r (record_of r).version (flag r) size new) (sym (recovered x new mark r grows (unwrap_or size 0)))
      (rewrite_leaves r new file size (closing x ++ opening new) (record_of r).version (flag r) small fit.0 fit.1 long
      (recovering_words r.meta_bytes new x b.meta b.sequence b.short) (recovering_read r.meta_bytes new x b.meta b.sequence b.short))

-- after a write-back
pub write_back_leaves : (r : Region) (m : Map) (room : Option ℕ) (who : ℕ) (row : Row) → IsRegion r → IsWriteBack row → MayBegin r m room row → AreBytes (payload_after r m row) →
    IsLeft r (if (record_of r).version == 0 then 3 else (record_of r).version) (flag r) (size_after r m row) (payload_after r m row) (after_all r (events_of r m who row))
unfolding events_of
write_back_leaves r m room who (Pack now need) is w b bytes = write_back_left r m (Pack now need) (mark_of r who (Pack now need)) is b.2 bytes
write_back_leaves r m room who Clear is w b bytes = write_back_left r m Clear (mark_of r who Clear) is b.1 bytes
write_back_leaves r m room who (Append a) is w b bytes = absurd w
write_back_leaves r m room who (Enable now seconds) is w b bytes = absurd w
write_back_leaves r m room who (Disable now) is w b bytes = absurd w
write_back_leaves r m room who Restore is w b bytes = absurd w
write_back_leaves r m room who Discard is w b bytes = absurd w
write_back_leaves r m room who Recover is w b bytes = absurd w
write_back_leaves r m room who SizeRepair is w b bytes = absurd w

-- after a switch of the flag
pub switch_leaves : (r : Region) (m : Map) (room : Option ℕ) (who : ℕ) (row : Row) → IsRegion r → IsAccepted r → IsSwitch row → MayBegin r m room row → AreBytes (payload_after r m row) →
    IsLeft r 4 (flag_after r row) (size_after r m row) (payload_after r m row) (after_all r (events_of r m who row))
unfolding events_of
switch_leaves r m room who (Enable now seconds) is ok w b bytes =
    switch_left r m (Enable now seconds) (mark_of r who (Enable now seconds)) is b.3 bytes 1 true (omega arith)
    (let none : word_at r.meta_bytes 27 ≡ 0 = omega (arith, few_flags (record_of r) (header r) ok) in ap (λ k. (1 + 4294967296 * k) == 1) none)
switch_leaves r m room who (Disable now) is ok w b bytes =
    switch_left r m (Disable now) (mark_of r who (Disable now)) is b.2 bytes 0 false (omega arith)
    (let none : word_at r.meta_bytes 27 ≡ 0 = omega (arith, few_flags (record_of r) (header r) ok) in ap (λ k. (0 + 4294967296 * k) == 1) none)
switch_leaves r m room who (Append a) is ok w b bytes = absurd w
switch_leaves r m room who (Pack now need) is ok w b bytes = absurd w
switch_leaves r m room who Clear is ok w b bytes = absurd w
switch_leaves r m room who Restore is ok w b bytes = absurd w
switch_leaves r m room who Discard is ok w b bytes = absurd w
switch_leaves r m room who Recover is ok w b bytes = absurd w
switch_leaves r m room who SizeRepair is ok w b bytes = absurd w

-- after a recovery
pub recover_leaves : (r : Region) (m : Map) (room : Option ℕ) (who : ℕ) → IsRegion r → MayBegin r m room Recover →
    IsLeft r (record_of r).version (flag r) (size_after r m Recover) (payload_after r m Recover) (after_all r (events_of r m who Recover))
unfolding events_of
recover_leaves r m room who is b =
    let bytes = text_laws.recovers r m (All-drop (λ b. b < 256) 4 r.data_bytes is.data_file.small) is.data_file.most in
    recover_left r m Recover (mark_of r who Recover) is b.1 bytes.0
