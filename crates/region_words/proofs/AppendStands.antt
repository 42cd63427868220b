-- The events of an append leave a kept image standing.
use Rattle.std.proofs.Common.{◌≡◌, ◌≢◌, ℕ, zero, suc, ◌+◌, ◌*◌, ◌/◌, ◌<◌, ◌≤◌, true, List, [], ◌∷◌, ◌++◌, length, refl, sym, ap, ◌∙◌, inl, inr, arith, append-nil, subst}
use Rattle.std.specs.Prelude.{Some, Contains, slice_index}
use Rattle.std.specs.Int.{to_le_bytes, w32}
use Rattle.crc_words.specs.Crc.{crc}
use Rattle.meta_record.specs.Words.{with_word}
use Rattle.meta_record.proofs.WordLemmas.{length-with_word, same_word, other_word, above_word}
use Rattle.change_log.specs.Acts.{replay, is_append}
use Rattle.change_log.specs.declared.change.Change.{Change}
use Rattle.region_words.specs.Region.{Region, IsRegion, record_of, header, flag, payload_of, map_in}
use Rattle.region_words.specs.Past.{region_step, with_data_word}
use Rattle.region_words.specs.Rows.{stores_from, store_data, store_meta}
use Rattle.region_words.specs.Standings.{words_of}
use Rattle.region_words.specs.declared.event.Side.TheVariants.{Meta}
use Rattle.region_words.specs.declared.event.Mark.TheVariants.{Commit}
use Rattle.region_words.specs.declared.event.What.{What}
use Rattle.region_words.specs.declared.event.What.TheVariants.{Store}
use Rattle.region_words.proofs.WordStores.{Small}
use Rattle.region_words.proofs.WordsRead.{IsWordIn, Holds, set_word, torn_word, payload_is, same_payload}
use Rattle.region_words.proofs.Stands.{Stands, Fine, IsAt, data_stands, header_among}
use Rattle.region_words.specs.Images.{Image}

-- the words of bytes
first_of_four : (a b c d : ℕ) (rest : List ℕ) → a < 256 → b < 256 → c < 256 → d < 256 → (q : ℕ) → q < 4 →
    slice_index (to_le_bytes w32 (a + 256 * b + 65536 * c + 16777216 * d)) q ≡ slice_index (a ∷ b ∷ c ∷ d ∷ rest) q
first_of_four a b c d rest ha hb hc hd zero lt = omega arith
first_of_four a b c d rest ha hb hc hd (suc zero) lt = omega arith
first_of_four a b c d rest ha hb hc hd (suc (suc zero)) lt = omega arith
first_of_four a b c d rest ha hb hc hd (suc (suc (suc zero))) lt = omega arith
first_of_four a b c d rest ha hb hc hd (suc (suc (suc (suc q)))) lt = absurd (omega (arith, lt))

first_of_three : (a b c : ℕ) → a < 256 → b < 256 → c < 256 → (q : ℕ) → q < 4 →
    slice_index (to_le_bytes w32 (a + 256 * b + 65536 * c)) q ≡ slice_index (a ∷ b ∷ c ∷ []) q
first_of_three a b c ha hb hc zero lt = omega arith
first_of_three a b c ha hb hc (suc zero) lt = omega arith
first_of_three a b c ha hb hc (suc (suc zero)) lt = omega arith
first_of_three a b c ha hb hc (suc (suc (suc zero))) lt = omega arith
first_of_three a b c ha hb hc (suc (suc (suc (suc q)))) lt = absurd (omega (arith, lt))

first_of_two : (a b : ℕ) → a < 256 → b < 256 → (q : ℕ) → q < 4 → slice_index (to_le_bytes w32 (a + 256 * b)) q ≡ slice_index (a ∷ b ∷ []) q
first_of_two a b ha hb zero lt = omega arith
first_of_two a b ha hb (suc zero) lt = omega arith
first_of_two a b ha hb (suc (suc zero)) lt = omega arith
first_of_two a b ha hb (suc (suc (suc zero))) lt = omega arith
first_of_two a b ha hb (suc (suc (suc (suc q)))) lt = absurd (omega (arith, lt))

first_of_one : (a : ℕ) → a < 256 → (q : ℕ) → q < 4 → slice_index (to_le_bytes w32 a) q ≡ slice_index (a ∷ []) q
first_of_one a ha zero lt = omega arith
first_of_one a ha (suc zero) lt = omega arith
first_of_one a ha (suc (suc zero)) lt = omega arith
first_of_one a ha (suc (suc (suc zero))) lt = omega arith
first_of_one a ha (suc (suc (suc (suc q)))) lt = absurd (omega (arith, lt))

-- these bytes are what is left of the payload from this word on
abbrev pub IsRest : List ℕ → ℕ → List ℕ → Type 0
IsRest new w bytes = (i q : ℕ) → 4 + i ≡ 4 * w + q → slice_index new i ≡ slice_index bytes q

rest_on : (new : List ℕ) (w a b c d : ℕ) (rest : List ℕ) → IsRest new w (a ∷ b ∷ c ∷ d ∷ rest) → IsRest new (w + 1) rest
rest_on new w a b c d rest is i q e = is i (suc (suc (suc (suc q)))) (omega (arith, e))

module _ (k : Image) (more : List Change) (new : List ℕ) (c : ℕ) (tail : List What) (low : k.size ≤ c) (upto : c ≤ length new)
    (front : (i : ℕ) → i < k.size → slice_index new i ≡ slice_index k.region.data_bytes (4 + i)) where
  -- a region while the words are stored
  pub record Going (S : List (List ℕ)) (r : Region) (w : ℕ) : Type 0 where
    pub stands : Stands k S more r
    pub region : IsRegion r
    pub room : 4 + length new ≤ length r.data_bytes
    pub held : Holds new c w r.data_bytes
    pub size : (record_of r).size ≡ c
    pub is : payload_of r c ≡ stands.current

  abbrev pub Ends : Type 0
  Ends = (S : List (List ℕ)) (r : Region) (w : ℕ) → Going S r w → 4 + length new ≤ 4 * w → Fine k S more r tail

  -- the old payload stands in a file that holds its bytes
  still : (S : List (List ℕ)) (r : Region) (w : ℕ) (g : Going S r w) (bytes : List ℕ) → length r.data_bytes ≡ length bytes → ((i : ℕ) → i < c → slice_index bytes (4 + i) ≡ slice_index new i) →
      IsAt (record r { data_bytes = bytes }) g.stands.current c
  still S r w g bytes size same =
      (omega (arith, size, g.room, upto), same_payload r.data_bytes bytes c (omega (arith, g.room, upto)) (omega (arith, size)) (λ i lt. same i lt ∙ sym (g.held i (inl lt))) ∙ g.is)

  as_size : (t : Region) (bytes : List ℕ) (z : ℕ) → z ≡ c → IsAt t bytes c → IsAt t bytes z
  as_size t bytes z e h = subst (IsAt t bytes) (sym e) h

  cell : (S : List (List ℕ)) (r : Region) (w v : ℕ) (rest : List What) → Going S r w → IsWordIn new w v → 1 + k.size / 4 ≤ w →
      ((T : List (List ℕ)) (s : Region) → Going T s (w + 1) → Fine k T more s rest) → Fine k S more r (store_data w v ∷ rest)
  unfolding Fine
  cell S r w v rest g is high go = (
    g.stands,
    λ x mix one inside T wide. (
      let torn = torn_word r.data_bytes new c w v x g.region.data_file.small inside is mix g.held in
          let size = length-with_word r.data_bytes w x inside in
          data_stands k S T more r (with_word r.data_bytes w x) wide g.stands (omega (arith, size))
          (λ i lt. torn i (omega (arith, lt, low)) ∙ front i lt)
          (inl (as_size (with_data_word r w x) g.stands.current (record_of r).size g.size (still S r w g (with_word r.data_bytes w x) (sym size) torn))),
      high,
    ),
    λ T step quiet.
        let size = length-with_word r.data_bytes w v step.inside.0 in
        let held = set_word r.data_bytes new c w v step.inside.0 is g.held in
        let there = still S r w g (with_word r.data_bytes w v) (sym size) (λ i lt. held i (inl lt)) in (
          (refl, inr high),
          subst (λ z. Fine k T z (with_data_word r w v) rest) (sym (append-nil more))
              (go T (with_data_word r w v)
              (record {
                stands = data_stands k S T more r (with_word r.data_bytes w v) step.wide g.stands (omega (arith, size)) (λ i lt. held i (inl (omega (arith, lt, low))) ∙ front i lt)
                    (inl (as_size (with_data_word r w v) g.stands.current (record_of r).size g.size there));
                region = step.region;
                room = omega (arith, size, g.room);
                held = held;
                size = g.size;
                is = there.1;
              })),
        ),
  )

  -- all the words
  pub words_fine : Ends → (w : ℕ) (bytes : List ℕ) → IsRest new w bytes → 4 + length new ≤ 4 * w + length bytes → Small bytes → 1 + k.size / 4 ≤ w →
      (S : List (List ℕ)) (r : Region) → Going S r w → Fine k S more r (stores_from w (words_of bytes) ++ tail)
  words_fine end w [] is ends small high S r g = end S r w g (omega (arith, ends))
  words_fine end w (x0 ∷ []) is ends small high S r g =
      cell S r w x0 tail g (λ q i lt e. first_of_one x0 small.0 q lt ∙ sym (is i q e)) high (λ T s h. end T s (w + 1) h (omega (arith, ends)))
  words_fine end w (x0 ∷ x1 ∷ []) is ends small high S r g =
      cell S r w (x0 + 256 * x1) tail g (λ q i lt e. first_of_two x0 x1 small.0 small.1.0 q lt ∙ sym (is i q e)) high (λ T s h. end T s (w + 1) h (omega (arith, ends)))
  words_fine end w (x0 ∷ x1 ∷ x2 ∷ []) is ends small high S r g =
      cell S r w (x0 + 256 * x1 + 65536 * x2) tail g (λ q i lt e. first_of_three x0 x1 x2 small.0 small.1.0 small.1.1.0 q lt ∙ sym (is i q e)) high (λ T s h. end T s (w + 1) h (omega (arith, ends)))
  words_fine end w (x0 ∷ x1 ∷ x2 ∷ x3 ∷ rest) is ends small high S r g =
      let word : IsWordIn new w (x0 + 256 * x1 + 65536 * x2 + 16777216 * x3) =
      λ q i lt e. first_of_four x0 x1 x2 x3 rest small.0 small.1.0 small.1.1.0 small.1.1.1.0 q lt ∙ sym (is i q e) in
      cell S r w (x0 + 256 * x1 + 65536 * x2 + 16777216 * x3) (stores_from (w + 1) (words_of rest) ++ tail) g word high
      (λ T s h. words_fine end (w + 1) rest (rest_on new w x0 x1 x2 x3 rest is) (omega (arith, ends)) small.1.1.1.1 (omega (arith, high)) T s h)

-- the header, the checksum with its mark, and the size
pub last_fine : (k : Image) (more : List Change) (new : List ℕ) (change : Change) → is_append change.act ≡ true → 0 < k.size → k.size < length new →
    map_in (flag k.region) new ≡ Some (replay k.pairs (more ++ change ∷ [])) →
    (S : List (List ℕ)) (r : Region) (s : Stands k S more r) → IsAt r s.current (record_of r).size → 4 + length new ≤ length r.data_bytes →
    ((i : ℕ) → i < length new → slice_index r.data_bytes (4 + i) ≡ slice_index new i) →
    Fine k S more r (store_data 0 (length new) ∷ Store Meta 0 (crc new) (Commit change) ∷ store_meta 7 (length new) ∷ [])
unfolding Fine
last_fine k more new change is some longer maps S r s there room bytes = (
  s,
  λ x mix one inside T wide. absurd (omega (arith, one)),
  λ T step quiet.
      let r1 = with_data_word r 0 (length new) in
      let size = length-with_word r.data_bytes 0 (length new) step.inside.0 in
      let above = λ (i : ℕ). above_word r.data_bytes 0 (length new) step.inside.0 (4 + i) (omega arith) in
      let head : header r1 ≡ length new = same_word r.data_bytes 0 (length new) step.inside.0 step.inside.1 in
      let is_new : payload_of r1 (length new) ≡ new = payload_is r1.data_bytes new (omega (arith, size, room)) (λ i lt. above i ∙ bytes i lt) in
      let among : Contains T new = subst (Contains T) (ap (payload_of r1) head ∙ is_new) (step.holds (payload_of r1 (header r1)) (header_among r1 (omega (arith, head, size, room)))) in
      let s1 : Stands k T more r1 = data_stands k S T more r (with_word r.data_bytes 0 (length new)) step.wide s (omega (arith, size)) (λ i lt. above i ∙ s.front i lt)
      (inl (omega (arith, size, there.0), same_payload r.data_bytes r1.data_bytes (record_of r).size there.0 (omega (arith, size)) (λ i lt. above i) ∙ there.1)) in
      let at_head : IsAt r1 new (header r1) = (omega (arith, size, head, room), ap (payload_of r1) head ∙ is_new) in (
        (refl, inl refl),
        subst (λ z. Fine k T z r1 (Store Meta 0 (crc new) (Commit change) ∷ store_meta 7 (length new) ∷ [])) (sym (append-nil more))
            (marked T r1 s1 among at_head (omega (arith, size, room), is_new)),
      ),
)
  where
    marked : (T : List (List ℕ)) (r1 : Region) → Stands k T more r1 → Contains T new → IsAt r1 new (header r1) → IsAt r1 new (length new) → Fine k T more r1 (Store Meta 0 (crc new) (Commit change) ∷ store_meta 7 (length new) ∷ [])
    marked T r1 s1 among at_head at_size = (
      s1,
      tt,
      λ U step quiet.
          let r2 = region_step r1 (Store Meta 0 (crc new) (Commit change)) in
          let other = λ (x : ℕ) (n : x ≢ 0). other_word r1.meta_bytes 0 (crc new) step.inside.0 x n in
          let s2 : Stands k U (more ++ change ∷ []) r2 =
          record {
            current = new;
            among = step.wide new among;
            sum_of = same_word r1.meta_bytes 0 (crc new) step.inside.0 step.inside.1;
            maps = maps;
            grown = inr (some, longer);
            found = inr at_head;
            size_is = omega (arith, other 7 (omega arith), s1.size_is);
            front = s1.front;
            file_is = s1.file_is;
            words = λ x n0 n7. other x n0 ∙ s1.words x n0 n7;
          } in (inl (refl, (change, refl, is)), sized U r2 s2 refl at_size),
    )
      where
        as_size_too : (t : Region) (bytes : List ℕ) (z : ℕ) → z ≡ length new → IsAt t bytes (length new) → IsAt t bytes z
        as_size_too t bytes z f h = subst (IsAt t bytes) (sym f) h

        sized : (U : List (List ℕ)) (r2 : Region) (s2 : Stands k U (more ++ change ∷ []) r2) → s2.current ≡ new → IsAt r2 new (length new) → Fine k U (more ++ change ∷ []) r2 (store_meta 7 (length new) ∷ [])
        sized U r2 s2 e at_size = (
          s2,
          tt,
          λ V step quiet.
              let other = λ (x : ℕ) (n : x ≢ 7). other_word r2.meta_bytes 7 (length new) step.inside.0 x n in
              let now = same_word r2.meta_bytes 7 (length new) step.inside.0 step.inside.1 in (
                inr (refl, refl),
                subst (λ z. Stands k V z (region_step r2 (store_meta 7 (length new)))) (sym (append-nil (more ++ change ∷ [])))
                    (record {
                      current = s2.current;
                      among = step.wide s2.current s2.among;
                      sum_of = other 0 (omega arith) ∙ s2.sum_of;
                      maps = s2.maps;
                      grown = inr (some, omega (arith, longer, ap length e));
                      found = inl (as_size_too (region_step r2 (store_meta 7 (length new))) s2.current (record_of (region_step r2 (store_meta 7 (length new)))).size now (at_size.0, at_size.1 ∙ sym e));
                      size_is = omega (arith, now, longer);
                      front = s2.front;
                      file_is = s2.file_is;
                      words = λ x n0 n7. other x n7 ∙ s2.words x n0 n7;
                    }),
              ),
        )
