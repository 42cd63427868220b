-- What a partial load lacks, and what its bytes are in the region.
use Rattle.std.proofs.Common.{◌≡◌, ℕ, ◌+◌, ◌-◌, ◌*◌, ◌/◌, ◌%◌, ◌<◌, ◌≤◌, Bool, true, false, List, [], ◌++◌, length, take, drop, refl, sym, ◌∙◌, ap, arith, length-take, length-append}
use Rattle.std.specs.Prelude.{nat_lt, None, if◌then◌else◌}
use Rattle.std.specs.Int.{to_le_bytes, w32}
use Rattle.std.proofs.lemmas.Bool.Decides.{nat_tests}
use Rattle.std.proofs.lemmas.List.{drop-drop, drop-take, take-take}
use Rattle.std.proofs.Math.Seq.{take-add}
use Rattle.crc_words.specs.Crc.{crc_from}
use Rattle.expiring_map.specs.Map.{Map}
use Rattle.kv_pairs.specs.Mapped.{first_without_room}
use Rattle.kv_pairs.specs.Reading.{units_at}
use Rattle.kv_pairs.specs.declared.item.Item.{Item}
use Rattle.meta_record.specs.Words.{word_at}
use Rattle.region_words.specs.Region.{Region, IsRegion, payload_of, record_of}
use Rattle.region_words.specs.Images.{bytes_behind}
use Rattle.region_words.specs.Standings.{tail_of, first_of, words_of}
use Rattle.loader.specs.PartialLoads.{PartialLoad, Extends, GoesOnIn, HasLoadedPart, is_another, need_of, checksum_in, sequence_in, size_in, first_byte, added_size, bytes_from, bytes_added, next_part_word}
use Rattle.loader.specs.PartialInside.{IsPartialLoad}
use Rattle.loader.specs.declared.partial.Need.{Need}
use Rattle.loader.specs.declared.partial.Need.TheVariants.{Word, FileSize, Payload, Nothing, FullLoad}
use Rattle.loader.proofs.Fronts.{word-bytes-at}
use Rattle.loader.proofs.RecordAnswered.{checksum-is, sequence-is, record-size-is}

-- what is lacking, by the questions that are asked one after another
abbrev need_by : (early other small asked more : Bool) → Need
need_by early other small asked more =
    if early then Word else (if other then FullLoad else (if small then (if asked then FullLoad else FileSize) else (if more then Payload else Nothing)))

-- the record was loaded, and the image may go on to its size
pub record MayGoOn (p : PartialLoad) : Type 0 where
  pub made : 3 ≤ p.words.made
  pub sequence : sequence_in p ≡ p.kept.sequence
  pub size : p.kept.size ≤ size_in p
  pub empty : p.kept.size ≡ 0 → size_in p ≡ 0
  pub room : 4 + size_in p ≤ p.file_size

module _ (p : PartialLoad) where
  abbrev Asks : (early other small more : Bool) → Type 0
  Asks early other small more =
      (nat_lt p.words.made 3 ≡ early) × (is_another p ≡ other) × (nat_lt p.file_size (4 + size_in p) ≡ small) × (nat_lt (length p.added) (added_size p) ≡ more)

  by_asking : {P : Type 0} → ((early other small more : Bool) → Asks early other small more → need_by early other small p.asked more ≡ need_of p → P) → P
  by_asking f = f (nat_lt p.words.made 3) (is_another p) (nat_lt p.file_size (4 + size_in p)) (nat_lt (length p.added) (added_size p)) (refl, refl, refl, refl) refl

  may_go_on : (more : Bool) → Asks false false false more → MayGoOn p
  may_go_on more a =
      record {
        made = grind (arith, nat_tests, a.0);
        sequence = grind (arith, nat_tests, a.1);
        size = grind (arith, nat_tests, a.1);
        empty = λ none. grind (arith, nat_tests, a.1, none);
        room = grind (arith, nat_tests, a.2);
      }

  pub nothing_lacks : need_of p ≡ Nothing → MayGoOn p × (added_size p ≤ length p.added)
  nothing_lacks none = by_asking (λ early other small more a e. go early other small p.asked more a (e ∙ none))
    where
      go : (early other small asked more : Bool) → Asks early other small more → need_by early other small asked more ≡ Nothing → MayGoOn p × (added_size p ≤ length p.added)
      go true other small asked more a is = absurd (let k = is in cc)
      go false true small asked more a is = absurd (let k = is in cc)
      go false false true true more a is = absurd (let k = is in cc)
      go false false true false more a is = absurd (let k = is in cc)
      go false false false asked true a is = absurd (let k = is in cc)
      go false false false asked false a is = (may_go_on false a, grind (arith, nat_tests, a.3))

  pub payload_lacks : need_of p ≡ Payload → MayGoOn p × (length p.added < added_size p)
  payload_lacks lacks = by_asking (λ early other small more a e. go early other small p.asked more a (e ∙ lacks))
    where
      go : (early other small asked more : Bool) → Asks early other small more → need_by early other small asked more ≡ Payload → MayGoOn p × (length p.added < added_size p)
      go true other small asked more a is = absurd (let k = is in cc)
      go false true small asked more a is = absurd (let k = is in cc)
      go false false true true more a is = absurd (let k = is in cc)
      go false false true false more a is = absurd (let k = is in cc)
      go false false false asked false a is = absurd (let k = is in cc)
      go false false false asked true a is = (may_go_on true a, grind (arith, nat_tests, a.3))

  -- where a full load is wanted, the image doesn't go on
  pub full_load_fails : (r : Region) → need_of p ≡ FullLoad → HasLoadedPart p r → GoesOnIn p.kept r → ⊥
  full_load_fails r full has on = by_asking (λ early other small more a e. go early other small p.asked more refl a (e ∙ full))
    where
      go : (early other small asked more : Bool) → p.asked ≡ asked → Asks early other small more → need_by early other small asked more ≡ FullLoad → ⊥
      go true other small asked more known a is = absurd (let k = is in cc)
      go false true small asked more known a is =
          let made : 3 ≤ p.words.made = grind (arith, nat_tests, a.0) in
          let sequence : sequence_in p ≡ p.kept.sequence = sequence-is p.words r made has.words ∙ on.sequence in
          let size = record-size-is p.words r made has.words in
          let most : p.kept.size ≤ size_in p = omega (arith, size, on.size) in
          let empty : p.kept.size ≡ 0 → size_in p ≡ 0 = λ none. size ∙ on.empty none in
          other_is_none sequence most empty a.1
        where
          other_is_none : sequence_in p ≡ p.kept.sequence → p.kept.size ≤ size_in p → (p.kept.size ≡ 0 → size_in p ≡ 0) → is_another p ≡ true → ⊥
          other_is_none sequence most empty other = grind (arith, nat_tests, sequence, most, empty, other)
      go false false true true more known a is =
          let made : 3 ≤ p.words.made = grind (arith, nat_tests, a.0) in
          let size = record-size-is p.words r made has.words in
          let short : p.file_size < 4 + size_in p = grind (arith, nat_tests, a.2) in
          omega (arith, has.asked known, size, short, on.room)
      go false false true false more known a is = absurd (let k = is in cc)
      go false false false asked true known a is = absurd (let k = is in cc)
      go false false false asked false known a is = absurd (let k = is in cc)

-- the bytes that are loaded are those of the region's payload
module _ (p : PartialLoad) (r : Region) (may : MayGoOn p) (has : HasLoadedPart p r) (all : added_size p ≤ length p.added) where
  abbrev n : ℕ
  n = p.kept.size

  abbrev z : ℕ
  z = size_in p

  pub from_is : bytes_from p ≡ drop (first_byte p.kept) (payload_of r z)
  from_is =
      let b = first_byte p.kept in
      ap (take (z - b)) has.added
      ∙ take-take (z - b) (length p.added) (drop (4 + b) r.data_bytes) all
      ∙ ap (take (z - b)) (sym (drop-drop b 4 r.data_bytes))
      ∙ sym (drop-take b (z - b) (drop 4 r.data_bytes))
      ∙ ap (λ k. drop b (take k (drop 4 r.data_bytes))) (omega (arith, may.size))

  pub record_size : z ≡ (record_of r).size
  record_size = record-size-is p.words r may.made has.words

  pub behind_is : bytes_added p ≡ bytes_behind r n
  behind_is =
      ap (drop (n % 4)) from_is
      ∙ drop-drop (n % 4) (first_byte p.kept) (payload_of r z)
      ∙ ap (λ k. drop k (payload_of r z)) (omega arith)
      ∙ ap (λ k. drop n (payload_of r k)) record_size

  pub from_size : length (bytes_from p) ≡ z - first_byte p.kept
  from_size = omega (arith, length-take (added_size p) p.added, all)

  pub tail_is : tail_of (bytes_from p) (length (bytes_from p)) ≡ tail_of (payload_of r z) z
  tail_is =
      let b = first_byte p.kept in
      (λ k. tail_of (from_is k) (from_size k))
      ∙ ap (λ bytes. first_of (words_of bytes)) (drop-drop (4 * ((z - b) / 4)) b (payload_of r z) ∙ ap (λ k. drop k (payload_of r z)) (omega (arith, may.size)))

  -- what was found to go on does so in the region
  pub goes_on : (m : Map) → Extends m p → GoesOnIn p.kept r
  goes_on m e =
      record {
        sequence = sym (sequence-is p.words r may.made has.words) ∙ may.sequence;
        size = omega (arith, record_size, may.size);
        empty = λ none. sym record_size ∙ may.empty none;
        room = omega (arith, record_size, may.room, has.file);
        checksum = ap (crc_from p.kept.checksum) (sym behind_is) ∙ e.checksum ∙ checksum-is p.words r may.made has.words;
        items = e.items;
        reads = ap units_at (sym behind_is) ∙ e.reads;
        mapped = e.mapped;
      }

  module _ (on : GoesOnIn p.kept r) where
    sum_goes_on : crc_from p.kept.checksum (bytes_added p) ≡ checksum_in p
    sum_goes_on = ap (crc_from p.kept.checksum) behind_is ∙ on.checksum ∙ sym (checksum-is p.words r may.made has.words)

    reads_on : units_at (bytes_added p) ≡ (on.items, [])
    reads_on = ap units_at behind_is ∙ on.reads

    -- no items were found that go on, so the image doesn't
    pub none_found : ((items : List Item) → crc_from p.kept.checksum (bytes_added p) ≡ checksum_in p → units_at (bytes_added p) ≡ (items, []) → ⊥) → ⊥
    none_found none = none on.items sum_goes_on reads_on

    -- and neither does it where those that were found have no map
    pub none_mapped : (items : List Item) → units_at (bytes_added p) ≡ (items, []) → (first_without_room p.kept.flag items ≡ None → ⊥) → ⊥
    none_mapped items reads none = none (ap (first_without_room p.kept.flag) (ap (λ u. u.0) (sym reads ∙ reads_on)) ∙ on.mapped)

-- with one more payload word
pub part_word_taken : (p : PartialLoad) (r : Region) (value : ℕ) (bytes : List ℕ) → IsPartialLoad p → need_of p ≡ Payload → bytes ≡ p.added ++ to_le_bytes w32 value → IsRegion r →
    HasLoadedPart p r → value ≡ word_at r.data_bytes (next_part_word p) → HasLoadedPart (record p { added = bytes }) r
part_word_taken p r value bytes good lacks more region has is =
    let lack = payload_lacks p lacks in
    let n = length p.added in
    let b = first_byte p.kept in
    let w = next_part_word p in
    let place : 4 * w ≡ 4 + b + n = omega (arith, good.whole) in
    let fits : 4 * w + 4 ≤ length r.data_bytes = omega (arith, place, lack.0.room, lack.1, lack.0.size, good.whole, good.file.pages, has.file) in
    let next : take 4 (drop n (drop (4 + b) r.data_bytes)) ≡ to_le_bytes w32 value =
    ap (take 4) (drop-drop n (4 + b) r.data_bytes ∙ ap (λ k. drop k r.data_bytes) (sym place))
    ∙ word-bytes-at r.data_bytes w region.data_file.small fits ∙ sym (ap (to_le_bytes w32) is) in
    let long : length bytes ≡ n + 4 = ap length more ∙ length-append p.added (to_le_bytes w32 value) in
    let both : take (n + 4) (drop (4 + b) r.data_bytes) ≡ bytes =
    take-add n 4 (drop (4 + b) r.data_bytes) ∙ (λ k. (sym has.added) k ++ next k) ∙ sym more in
    record { words = has.words; file = has.file; asked = has.asked; added = sym (ap (λ k. take k (drop (4 + b) r.data_bytes)) long ∙ both) }
