-- A death may tear the payload word that a row stores next, since such a store has no mark.
use Rattle.std.proofs.Common.{◌≡◌, ℕ, zero, suc, ◌+◌, ◌/◌, ◌^◌, ◌<◌, ◌≤◌, Bool, true, false, cond, List, [], ◌∷◌, ◌++◌, length, refl, sym, ◌∙◌, subst, arith, ◌||◌, not}
use Rattle.std.specs.Prelude.{Option, Some, None, ⊤, ◌==◌, nat_lt, unwrap_or, IsOk, IsTrue}
use Rattle.std.proofs.lemmas.Bool.Decides.{nat_tests}
use Rattle.expiring_map.specs.Map.{Map}
use Rattle.crc_words.specs.Crc.{crc_from}
use Rattle.lock_rules.specs.Locks.{Locks, holds_exclusive}
use Rattle.std.specs.Int.{byte_at}
use Rattle.meta_record.specs.Words.{torn, torn_byte, word_at}
use Rattle.meta_record.specs.Records.{checked}
use Rattle.meta_record.specs.declared.record.Record.{Record}
use Rattle.meta_record.proofs.WordLemmas.{other_word}
use Rattle.region_words.specs.Region.{Region, IsAccepted, record_of, flag}
use Rattle.region_words.specs.Past.{region_after, locks_after, has_died, with_data_word}
use Rattle.region_words.specs.Rows.{Row, store_data, store_meta, stores_from, payload_stores, close_sizes, confirmed_by_header, confirmed_by_checksum, append_stores, write_back_stores, switch_stores, restore_stores, discard_stores, recover_stores, size_repair_stores, events_of, item_of, mark_of, payload_after, size_after, standing}
use Rattle.region_words.specs.Rows as rows
use Rattle.region_words.specs.Standings.{tail_bytes, words_of}
use Rattle.region_words.specs.Lawful.{IsWordOf, Lawful, Phase, Between, Within, Reaches, IsStep, Advances, MayComeNext, Dies, MayTear, phase_with, map_after}
use Rattle.region_words.specs.Coming.{IsComing}
use Rattle.region_words.specs.Told.{History}
use Rattle.region_words.specs.Share.{ShareState, MayTearAt}
use Rattle.region_words.specs.Owing.{Owes as OwesRow, IsOwing}
use Rattle.region_words.specs.declared.standing.Standing.{Standing}
use Rattle.region_words.specs.declared.event.Side.TheVariants.{Data, Meta}
use Rattle.region_words.specs.declared.event.Mark.{Mark}
use Rattle.region_words.specs.declared.event.Mark.TheVariants.{Plain}
use Rattle.region_words.specs.declared.event.What.{What}
use Rattle.region_words.specs.declared.event.What.TheVariants.{Store, Grow, Lock, Unlock, Died}
use Rattle.region_words.specs.declared.event.TornWord.{TornWord}
use Rattle.region_words.specs.declared.event.Event.{Event}
use Rattle.region_words.proofs.LockOf.{exclusive_is}
use Rattle.region_words.proofs.Regions.{lawful_accepted}
use Rattle.region_words.proofs.Telling.{told_map}
use Rattle.opener.specs.State.{OpenerState}
use Rattle.opener.specs.Deaths.{torn_at, torn_first}
use Rattle.opener.specs.Opener.{Tied, Owes}
use Rattle.opener.specs.Writes.{first_events}
use Rattle.opener.specs.declared.work.Stage.TheVariants as stage
use Rattle.opener.specs.declared.work.Work.{Work}
use Rattle.opener.specs.declared.work.Work.TheVariants.{Idle, Ended, Runs}

-- a store of a payload word has no mark
abbrev IsBare : What → Type 0
IsBare (Store Data word value mark) = 1 ≤ word → mark ≡ Plain
IsBare (Store Meta word value mark) = ⊤
IsBare (Grow size) = ⊤
IsBare (Lock kind) = ⊤
IsBare Unlock = ⊤
IsBare (Died torn) = ⊤

abbrev AreBare : List What → Type 0
AreBare [] = ⊤
AreBare (what ∷ rest) = IsBare what × AreBare rest

words_bare : (w : ℕ) (vs : List ℕ) (rest : List What) → AreBare rest → AreBare (stores_from w vs ++ rest)
words_bare w [] rest h = h
words_bare w (v ∷ vs) rest h = ((λ some. refl), words_bare (w + 1) vs rest h)

-- the mark of a header is none of a payload word
head_bare : (mark : Mark) → 1 ≤ 0 → mark ≡ Plain
head_bare mark some = absurd (omega (arith, some))

-- so it is in each row
append_bare : (s : Standing) (item : List ℕ) (mark : Mark) → AreBare (append_stores s item mark)
append_bare s item mark =
    let size = s.size + length item in
    words_bare (1 + s.size / 4) (words_of (tail_bytes s ++ item)) (store_data 0 size ∷ Store Meta 0 (crc_from s.checksum item) mark ∷ store_meta 7 size ∷ []) (head_bare Plain, (tt, (tt, tt)))

write_back_bare : (s : Standing) (size : Option ℕ) (new : List ℕ) (mark : Mark) → AreBare (write_back_stores s size new mark)
write_back_bare s size new mark = go (nat_lt s.file_size (unwrap_or size 0)) (s.version == 0)
  where
    last : AreBare (payload_stores new ++ confirmed_by_checksum new mark)
    last = words_bare 1 (words_of new) (confirmed_by_checksum new mark) (head_bare Plain, (tt, (tt, (tt, (tt, tt)))))

    go : (b c : Bool) → AreBare (cond b (Grow (unwrap_or size 0) ∷ []) [] ++ store_meta 2 (s.sequence + 1) ∷ cond c (store_meta 1 3 ∷ []) [] ++ payload_stores new ++ confirmed_by_checksum new mark)
    go true true = (tt, (tt, (tt, last)))
    go true false = (tt, (tt, last))
    go false true = (tt, (tt, last))
    go false false = (tt, last)

switch_bare : (s : Standing) (size : Option ℕ) (flags : ℕ) (new : List ℕ) (mark : Mark) → AreBare (switch_stores s size flags new mark)
switch_bare s size flags new mark = go (nat_lt s.file_size (unwrap_or size 0))
  where
    last : AreBare (payload_stores new ++ store_meta 26 flags ∷ confirmed_by_header new mark)
    last = words_bare 1 (words_of new) (store_meta 26 flags ∷ confirmed_by_header new mark) (tt, (tt, (tt, (head_bare mark, (tt, (tt, tt))))))

    go : (b : Bool) →
        AreBare (cond b (Grow (unwrap_or size 0) ∷ []) [] ++ store_meta 2 (s.sequence + 1) ∷ store_meta 1 4 ∷ close_sizes ++ payload_stores new ++ store_meta 26 flags ∷ confirmed_by_header new mark)
    go true = (tt, (tt, (tt, (tt, (head_bare Plain, (tt, last))))))
    go false = (tt, (tt, (tt, (head_bare Plain, (tt, last)))))

recover_bare : (s : Standing) (size : Option ℕ) (new : List ℕ) (mark : Mark) → AreBare (recover_stores s size new mark)
recover_bare s size new mark = go (nat_lt s.file_size (unwrap_or size 0))
  where
    last : AreBare (payload_stores new ++ confirmed_by_header new mark)
    last = words_bare 1 (words_of new) (confirmed_by_header new mark) (tt, (tt, (head_bare mark, (tt, (tt, tt)))))

    go : (b : Bool) → AreBare (store_meta 2 (s.sequence + 1) ∷ close_sizes ++ cond b (Grow (unwrap_or size 0) ∷ []) [] ++ payload_stores new ++ confirmed_by_header new mark)
    go true = (tt, (tt, (head_bare Plain, (tt, (tt, last)))))
    go false = (tt, (tt, (head_bare Plain, (tt, last))))

restore_bare : (s : Standing) (r : Record) (mark : Mark) → AreBare (restore_stores s r mark)
restore_bare s r mark = (tt, (head_bare Plain, (tt, (tt, tt))))

discard_bare : (s : Standing) (mark : Mark) → AreBare (discard_stores s mark)
discard_bare s mark = (tt, (head_bare Plain, (tt, (tt, (tt, (tt, tt))))))

row_bare : (r : Region) (m : Map) (who : ℕ) (row : Row) → AreBare (events_of r m who row)
unfolding events_of
row_bare r m who (rows.Append a) = append_bare (standing r) (item_of (flag r) a) (mark_of r who (rows.Append a))
row_bare r m who (rows.Pack now need) = write_back_bare (standing r) (size_after r m (rows.Pack now need)) (payload_after r m (rows.Pack now need)) (mark_of r who (rows.Pack now need))
row_bare r m who rows.Clear = write_back_bare (standing r) (size_after r m rows.Clear) (payload_after r m rows.Clear) (mark_of r who rows.Clear)
row_bare r m who (rows.Enable now seconds) =
    switch_bare (standing r) (size_after r m (rows.Enable now seconds)) 1 (payload_after r m (rows.Enable now seconds)) (mark_of r who (rows.Enable now seconds))
row_bare r m who (rows.Disable now) = switch_bare (standing r) (size_after r m (rows.Disable now)) 0 (payload_after r m (rows.Disable now)) (mark_of r who (rows.Disable now))
row_bare r m who rows.Restore = restore_bare (standing r) (record_of r) (mark_of r who rows.Restore)
row_bare r m who rows.Discard = discard_bare (standing r) (mark_of r who rows.Discard)
row_bare r m who rows.Recover = recover_bare (standing r) (size_after r m rows.Recover) (payload_after r m rows.Recover) (mark_of r who rows.Recover)
row_bare r m who rows.SizeRepair = (tt, tt)

-- and in what is left of a row that is under way
abbrev PhaseBare : Phase → Type 0
PhaseBare (Between room) = ⊤
PhaseBare (Within row rest) = AreBare rest

come_bare : (r : Region) (m : Map) (who : ℕ) (old : Phase) (row : Row) (events : List What) → PhaseBare old → MayComeNext r m who old row events → AreBare events
come_bare r m who (Between room) row events bare (may, is, ok) = subst AreBare (sym is) (row_bare r m who row)
come_bare r m who (Within under rest) row events bare (same, is) = subst AreBare (sym is) bare

left_bare : (row : Row) (rest : List What) → AreBare rest → PhaseBare (phase_with row rest)
left_bare row [] bare = tt
left_bare row (what ∷ rest) bare = bare

advance_bare : (r : Region) (m : Map) (who : ℕ) (old new : Phase) (what : What) → PhaseBare old → Advances r m who old what new → PhaseBare new
advance_bare r m who old new what bare (row, rest, next, is) = subst PhaseBare (sym is) (left_bare row rest (come_bare r m who old row (what ∷ rest) bare next).1)

cut_bare : (b : Bool) (r : Region) (m : Map) (who : ℕ) (old new : Phase) (torn : Option TornWord) → PhaseBare old → Dies b r m who old torn new → PhaseBare new
cut_bare true r m who old new torn bare cut = subst PhaseBare (sym cut.1) tt
cut_bare false r m who old new torn bare cut = subst PhaseBare (sym cut) bare

step_bare : (r : Region) (m : Map) (locks : Locks) (who : ℕ) (old new : Phase) (what : What) → PhaseBare old → IsStep r m locks who old what new → PhaseBare new
step_bare r m locks who old new (Store side word value mark) bare g = advance_bare r m who old new (Store side word value mark) bare g
step_bare r m locks who old new (Grow size) bare g = advance_bare r m who old new (Grow size) bare g
step_bare r m locks who old new (Lock kind) bare g = subst PhaseBare (sym g) bare
step_bare r m locks who old new Unlock bare g = subst PhaseBare (sym g.1) tt
step_bare r m locks who old new (Died torn) bare g = cut_bare (holds_exclusive locks who) r m who old new torn bare g

phase_bare : (start : Region) (past : List Event) (phase : Phase) → Reaches start past phase → PhaseBare phase
phase_bare start [] phase leads = subst PhaseBare (sym leads) tt
phase_bare start (e ∷ past) phase leads =
    step_bare (region_after start past) (map_after start past) (locks_after past) e.who leads.0 phase e.what (phase_bare start past leads.0 leads.1) leads.2

coming_bare : (start : Region) (past : List Event) (who : ℕ) (row : Row) (word value : ℕ) (mark : Mark) (rest : List What) → 1 ≤ word →
    IsComing start past who row (Store Data word value mark ∷ rest) → mark ≡ Plain
coming_bare start past who row word value mark rest some c =
    (come_bare (region_after start past) (map_after start past) who c.phase row (Store Data word value mark ∷ rest) (phase_bare start past c.phase c.reached) c.next).0 some

-- a torn word is a word
torn_below : (old new bits : ℕ) → torn old new bits < 2 ^ 32
torn_below old new bits = omega (arith, byte 0, byte 1, byte 2, byte 3)
  where
    small : (i x : ℕ) → byte_at i x < 256
    small zero x = omega arith
    small (suc i) x = omega arith

    either : (b : Bool) (x y : ℕ) → x < 256 → y < 256 → cond b x y < 256
    either true x y p q = p
    either false x y p q = q

    byte : (i : ℕ) → torn_byte i old new bits < 256
    byte i = either (byte_at i old == byte_at i new) (byte_at i old) (byte_at i bits) (small i old) (small i bits)

living : (admitted died : Bool) → (not admitted || died) ≡ false → died ≡ false
living true died e = e
living false died e = absurd cc

-- a payload word says nothing of the version and the flags
data_accepted : (r : Region) (word value : ℕ) → 1 ≤ word → IsWordOf r Data word → IsAccepted r → IsAccepted (with_data_word r word value)
data_accepted r word value some inside ok =
    subst (λ h. IsOk (checked (record_of r) h)) (sym (other_word r.data_bytes word value inside 0 (λ none. absurd (omega (arith, some, none))))) ok

-- the death is the next event of the row's holder
death_lawful : (row : Row) (word new bits : ℕ) (mark : Mark) (rest : List What) (s : ShareState) (h : History) → 1 ≤ word → IsOwing row (Store Data word new mark ∷ rest) s →
    OwesRow row (Store Data word new mark ∷ rest) s h →
    let t : TornWord = record { word = word; value = torn (word_at (region_after h.start h.past).data_bytes word) new bits } in
    let e : Event = record { who = s.who; what = Died (Some t) } in
    Lawful h.start (e ∷ h.past)
death_lawful row word new bits mark rest s h some is owes = (
  owes.agrees.lawful,
  record {
    maker = is.maker;
    alive = living (s.admitted s.who) (has_died h.past s.who) (sym owes.agrees.ended ∙ is.alive);
    possible = (mine, (some, owes.storable.0.0, torn_below (word_at r.data_bytes word) new bits));
    accepted = λ ok. data_accepted r word t.value some owes.storable.0.0 (lawful_accepted h.start h.past ok owes.agrees.lawful);
  },
  λ apart. cut (owes.coming apart),
)
  where
    r : Region
    r = region_after h.start h.past

    mine : IsTrue (holds_exclusive (locks_after h.past) s.who)
    mine = exclusive_is (locks_after h.past) s.who (owes.agrees.holds ∙ is.holds)

    t : TornWord
    t = record { word = word; value = torn (word_at r.data_bytes word) new bits }

    cut : IsComing h.start h.past s.who row (Store Data word new mark ∷ rest) → (phase : Phase) × Reaches h.start (record { who = s.who; what = Died (Some t) } ∷ h.past) phase
    cut c =
        let plain = coming_bare h.start h.past s.who row word new mark rest some c in
        let next = subst (λ k. MayComeNext r (map_after h.start h.past) s.who c.phase row (Store Data word new k ∷ rest)) plain c.next in
        let tears : MayTear r (map_after h.start h.past) s.who c.phase (Some t) = (bits, (row, new, rest, next, refl)) in
        (Between None, (c.phase, c.reached, subst (λ b. Dies b r (map_after h.start h.past) s.who c.phase (Some t) (Between None)) (sym mine) (tears, refl)))

first_may : (events : List What) (bits : Option ℕ) (row : Row) (s : ShareState) → IsOwing row events s → MayTearAt (torn_first events bits) s
first_may [] bits row s is = tt
first_may (Store Data word new mark ∷ rest) None row s is = tt
first_may (Store Data word new mark ∷ rest) (Some bits) row s is = go (word == 0) refl
  where
    go : (b : Bool) → (word == 0) ≡ b → MayTearAt (cond b None (Some (record { word = word; new = new; bits = bits }))) s
    go true header = tt
    go false payload =
        let some : 1 ≤ word = grind (arith, nat_tests) in (
          is.holds,
          told_map s.told (OwesRow row (Store Data word new mark ∷ rest) s) _ (λ h owes. death_lawful row word new bits mark rest s h some is owes) is.told,
        )
first_may (Store Meta word new mark ∷ rest) bits row s is = tt
first_may (Grow size ∷ rest) bits row s is = tt
first_may (Lock kind ∷ rest) bits row s is = tt
first_may (Unlock ∷ rest) bits row s is = tt
first_may (Died left ∷ rest) bits row s is = tt

-- whatever an opener is at, its death may tear the word that it stores next
pub may_tear : (o : OpenerState) (bits : Option ℕ) (s : ShareState) → Tied o s → MayTearAt (torn_at o.work bits) s
may_tear o bits s tied = go o.work tied.owes
  where
    go : (work : Work) → Owes o work s → MayTearAt (torn_at work bits) s
    go Idle owes = tt
    go Ended owes = tt
    go (Runs running (stage.Store plan)) owes = first_may (first_events plan) bits owes.row s owes.owing
    go (Runs running stage.PeekChecksum) owes = tt
    go (Runs running (stage.PeekSequence peek)) owes = tt
    go (Runs running (stage.LockShared extent)) owes = tt
    go (Runs running stage.LockExclusive) owes = tt
    go (Runs running (stage.Continue loading)) owes = tt
    go (Runs running (stage.Load loading)) owes = tt
    go (Runs running stage.Size) owes = tt
    go (Runs running (stage.Reserve plan)) owes = tt
    go (Runs running (stage.Unlock how)) owes = tt
    go (Runs running stage.Hold) owes = tt
    go (Runs running stage.Release) owes = tt
