-- As long as the sequence is the kept one, only appends were made, and what was kept of the image stands.
use Rattle.std.proofs.Common.{◌≡◌, ℕ, ◌+◌, ◌/◌, ◌≤◌, Bool, true, false, List, [], ◌∷◌, ◌++◌, length, refl, sym, ap, ◌∙◌, append-nil, subst}
use Rattle.std.specs.Prelude.{Some, None, Option}
use Rattle.std.specs.List.{AllByRecursion}
use Rattle.std.proofs.lemmas.List.Elements.{Contains-append_left, Contains-append_right}
use Rattle.lock_rules.specs.Locks.{Locks, holds_exclusive}
use Rattle.change_log.specs.declared.change.Change.{Change}
use Rattle.region_words.specs.Region.{Region, IsRegion}
use Rattle.region_words.specs.Past.{region_after, region_step, changes_of, change_of, locks_after, with_data_word}
use Rattle.region_words.specs.Apart.{Apart, strings, recorded_payloads, meant_by}
use Rattle.region_words.specs.Rows.{Row}
use Rattle.region_words.specs.Lawful.{Phase, Between, Within, Reaches, Lawful, IsPossible, IsStep, Advances, MayComeNext, MayTear, Dies, phase_with, map_after}
use Rattle.region_words.specs.Outcome.{stores_sequence}
use Rattle.region_words.specs.declared.event.Side.TheVariants.{Data}
use Rattle.region_words.specs.declared.event.Mark.TheVariants.{Plain}
use Rattle.region_words.specs.declared.event.TornWord.{TornWord}
use Rattle.region_words.specs.declared.event.What.{What}
use Rattle.region_words.specs.declared.event.What.TheVariants.{Store, Grow, Lock, Unlock, Died}
use Rattle.region_words.specs.declared.event.Event.{Event}
use Rattle.region_words.proofs.Regions.{lawful_region}
use Rattle.region_words.proofs.Held.{Apart-front}
use Rattle.region_words.proofs.Rest.{at_rest}
use Rattle.region_words.proofs.Sequence.{NoneRaises}
use Rattle.meta_record.specs.Words.{word_at}
use Rattle.region_words.proofs.Bytes.{torn_mix}
use Rattle.region_words.proofs.Stands.{Stands, Fine, Step, Inside, Mild, stands_more, fine_more, stands_first, size_among, fits_means}
use Rattle.region_words.proofs.Stands as stands
use Rattle.region_words.proofs.RowsBegin.{begins_fine}
use Rattle.region_words.specs.Images.{Image, IsResting}

-- so it is where nobody holds exclusive
pub free_resting : (start : Region) (past : List Event) → Lawful start past → (locks_after past).exclusive ≡ None → IsResting start past
free_resting start past l free = λ p lead. (None, at_rest start past p l lead free)

-- none of these events stored the sequence, and each is of an append, a repair of the size, a growth, a lock or a death
abbrev pub OnlyMild : ℕ → List Event → Type 0
OnlyMild n later = AllByRecursion (λ e. Mild n e.what) later

pub candidates_among : (start : Region) (past : List Event) → stands.Within (recorded_payloads (region_after start past)) (strings start past)
candidates_among start [] = λ t c. c
candidates_among start (e ∷ past) =
    let r = region_after start (e ∷ past) in
    λ t c. Contains-append_left (recorded_payloads r ++ meant_by r past e.what) (strings start past) t (Contains-append_left (recorded_payloads r) (meant_by r past e.what) t c)

pub strings_more : (start : Region) (e : Event) (past : List Event) → stands.Within (strings start past) (strings start (e ∷ past))
strings_more start e past =
    let r = region_after start (e ∷ past) in
    λ t c. Contains-append_right (recorded_payloads r ++ meant_by r past e.what) (strings start past) t c

-- what holds in a phase
unfoldable pub InPhase : Image → Region → List Event → List Event → Phase → Type 0
InPhase k start past later (Between room) = Stands k (strings start (later ++ past)) (changes_of later) (region_after start (later ++ past))
InPhase k start past later (Within row rest) = Fine k (strings start (later ++ past)) (changes_of later) (region_after start (later ++ past)) rest

inside_of : (r : Region) (locks : Locks) (who : ℕ) (what : What) → IsPossible r locks who what → Inside r what
inside_of r locks who (Store side word value mark) p = (p.1, p.2)
inside_of r locks who (Grow size) p = p.1
inside_of r locks who (Lock kind) p = tt
inside_of r locks who Unlock p = tt
inside_of r locks who (Died torn) p = tt

module _ (k : Image) (kept_fit : 4 + k.size ≤ length k.region.data_bytes) (start : Region) (start_is : IsRegion start) (past : List Event) where
  abbrev pub now : List Event → Region
  now later = region_after start (later ++ past)

  abbrev pub known : List Event → List (List ℕ)
  known later = strings start (later ++ past)

  step_of : (later : List Event) (e : Event) → Lawful start (e ∷ later ++ past) → Step (known later) (known (e ∷ later)) (now later) e.what
  step_of later e l =
      record {
        wide = strings_more start e (later ++ past);
        holds = candidates_among start (e ∷ later ++ past);
        inside = inside_of (now later) (locks_after (later ++ past)) e.who e.what l.1.possible;
        region = lawful_region start (e ∷ later ++ past) l start_is;
      }

  -- the events to come
  coming : (later : List Event) (who : ℕ) (old : Phase) (row : Row) (events : List What) → Lawful start (later ++ past) → Apart start (later ++ past) →
      MayComeNext (now later) (map_after start (later ++ past)) who old row events → InPhase k start past later old → Fine k (known later) (changes_of later) (now later) events
  unfolding InPhase
  coming later who (Within row rest) next events l apart c h = subst (Fine k (known later) (changes_of later) (now later)) (sym c.1) h
  coming later who (Between room) next events l apart c h =
      subst (Fine k (known later) (changes_of later) (now later)) (sym c.1)
      (begins_fine k kept_fit (known later) (changes_of later) (now later) apart (candidates_among start (later ++ past)) (lawful_region start (later ++ past) l start_is) h
      (map_after start (later ++ past)) who room next c.0)

  after_row : (later : List Event) (row : Row) (rest : List What) → Fine k (known later) (changes_of later) (now later) rest → InPhase k start past later (phase_with row rest)
  unfolding InPhase Fine
  after_row later row [] f = f
  after_row later row (what ∷ rest) f = f

  use_fine : (S T : List (List ℕ)) (more : List Change) (r : Region) (what : What) (rest : List What) → Fine k S more r (what ∷ rest) → Step S T r what → stores_sequence what ≡ false →
      Mild k.size what × Fine k T (more ++ change_of what) (region_step r what) rest
  unfolding Fine
  use_fine S T more r what rest f step quiet = f.2 T step quiet

  advance : (later : List Event) (e : Event) (old new : Phase) → Lawful start (e ∷ later ++ past) → Apart start (later ++ past) → stores_sequence e.what ≡ false →
      Advances (now later) (map_after start (later ++ past)) e.who old e.what new → InPhase k start past later old → InPhase k start past (e ∷ later) new × Mild k.size e.what
  advance later e old new l apart quiet (row, rest, c, is) h =
      let f = coming later e.who old row (e.what ∷ rest) l.0 apart c h in
      let g = use_fine (known later) (known (e ∷ later)) (changes_of later) (now later) e.what rest f (step_of later e l) quiet in
      (subst (InPhase k start past (e ∷ later)) (sym is) (after_row (e ∷ later) row rest g.1), g.0)

  -- an event that changes nothing
  stays : (later : List Event) (e : Event) (phase : Phase) → now (e ∷ later) ≡ now later → change_of e.what ≡ [] → InPhase k start past later phase → InPhase k start past (e ∷ later) phase
  unfolding InPhase
  stays later e (Between room) same none h =
      let more : changes_of (e ∷ later) ≡ changes_of later = ap (λ c. changes_of later ++ c) none ∙ append-nil (changes_of later) in
      subst (λ c. Stands k (known (e ∷ later)) c (now (e ∷ later))) (sym more)
      (subst (Stands k (known (e ∷ later)) (changes_of later)) (sym same)
      (stands_more k (known later) (known (e ∷ later)) (changes_of later) (now later) (strings_more start e (later ++ past)) h))
  stays later e (Within row rest) same none h =
      let more : changes_of (e ∷ later) ≡ changes_of later = ap (λ c. changes_of later ++ c) none ∙ append-nil (changes_of later) in
      subst (λ c. Fine k (known (e ∷ later)) c (now (e ∷ later)) rest) (sym more)
      (subst (λ r. Fine k (known (e ∷ later)) (changes_of later) r rest) (sym same)
      (fine_more k (known later) (known (e ∷ later)) (changes_of later) (now later) rest (strings_more start e (later ++ past)) h))

  stands_in : (later : List Event) (phase : Phase) → InPhase k start past later phase → Stands k (known later) (changes_of later) (now later)
  unfolding InPhase
  stands_in later (Between room) h = h
  stands_in later (Within row rest) h = stands_first k (known later) (changes_of later) (now later) rest h

  between : (later : List Event) (room : Option ℕ) → Stands k (known later) (changes_of later) (now later) → InPhase k start past later (Between room)
  unfolding InPhase
  between later room h = h

  use_torn : (S : List (List ℕ)) (more : List Change) (r : Region) (word value : ℕ) (rest : List What) → Fine k S more r (Store Data word value Plain ∷ rest) → stands.Torn k S more r (Store Data word value Plain)
  unfolding Fine
  use_torn S more r word value rest f = f.1

  tears : (later : List Event) (who : ℕ) (torn : TornWord) (old : Phase) → Lawful start (record { who = who; what = Died (Some torn) } ∷ later ++ past) → Apart start (later ++ past) →
      MayTear (now later) (map_after start (later ++ past)) who old (Some torn) → InPhase k start past later old →
      Stands k (known (record { who = who; what = Died (Some torn) } ∷ later)) (changes_of later) (with_data_word (now later) torn.word torn.value) × (1 + k.size / 4 ≤ torn.word)
  tears later who torn old l apart (bits, (row, new, rest, c, is)) h =
      let e : Event = record { who = who; what = Died (Some torn) } in
      let f = coming later who old row (Store Data torn.word new Plain ∷ rest) l.0 apart c h in
      let p = l.1.possible in
      use_torn (known later) (changes_of later) (now later) torn.word new rest f torn.value (torn_mix (word_at (now later).data_bytes torn.word) new bits torn.value is) p.1.0 p.1.1 (known (e ∷ later)) (strings_more start e (later ++ past))

  cuts : (b : Bool) (later : List Event) (who : ℕ) (torn : Option TornWord) (old new : Phase) → holds_exclusive (locks_after (later ++ past)) who ≡ b →
      Lawful start (record { who = who; what = Died torn } ∷ later ++ past) → Apart start (later ++ past) →
      Dies b (now later) (map_after start (later ++ past)) who old torn new → InPhase k start past later old →
      InPhase k start past (record { who = who; what = Died torn } ∷ later) new × Mild k.size (Died torn)
  cuts true later who None old new is l apart (t, e) h =
      let died : Event = record { who = who; what = Died None } in
      (subst (InPhase k start past (died ∷ later)) (sym e) (stays later died (Between None) refl refl (between later None (stands_in later old h))), tt)
  cuts true later who (Some torn) old new is l apart (t, e) h =
      let died : Event = record { who = who; what = Died (Some torn) } in
      let g = tears later who torn old l apart t h in (
        subst (InPhase k start past (died ∷ later)) (sym e)
            (between (died ∷ later) None (subst (λ c. Stands k (known (died ∷ later)) c (now (died ∷ later))) (sym (append-nil (changes_of later))) g.0)),
        g.1,
      )
  cuts false later who None old new is l apart e h =
      let died : Event = record { who = who; what = Died None } in
      (subst (InPhase k start past (died ∷ later)) (sym e) (stays later died old refl refl h), tt)
  cuts false later who (Some torn) old new is l apart e h = let holding = l.1.possible.0 in absurd cc

  one_more : (later : List Event) (who : ℕ) (what : What) (old new : Phase) → Lawful start (record { who = who; what = what } ∷ later ++ past) → Apart start (later ++ past) →
      stores_sequence what ≡ false → IsStep (now later) (map_after start (later ++ past)) (locks_after (later ++ past)) who old what new → InPhase k start past later old →
      InPhase k start past (record { who = who; what = what } ∷ later) new × Mild k.size what
  one_more later who (Store side word value mark) old new l apart quiet g h = advance later (record { who = who; what = Store side word value mark }) old new l apart quiet g h
  one_more later who (Grow size) old new l apart quiet g h = advance later (record { who = who; what = Grow size }) old new l apart quiet g h
  one_more later who (Lock kind) old new l apart quiet g h =
      let e : Event = record { who = who; what = Lock kind } in
      (subst (InPhase k start past (e ∷ later)) (sym g) (stays later e old refl refl h), tt)
  one_more later who Unlock old new l apart quiet g h =
      let e : Event = record { who = who; what = Unlock } in
      (subst (InPhase k start past (e ∷ later)) (sym g.1) (stays later e (Between None) refl refl (between later None (stands_in later old h))), tt)
  one_more later who (Died torn) old new l apart quiet g h = cuts (holds_exclusive (locks_after (later ++ past)) who) later who torn old new refl l apart g h

  -- along any run, in each phase
  pub along : (later : List Event) (phase : Phase) → ((p : Phase) → Reaches start past p → InPhase k start past [] p) → Lawful start (later ++ past) → Apart start (later ++ past) →
      Reaches start (later ++ past) phase → NoneRaises later → InPhase k start past later phase × OnlyMild k.size later
  along [] phase begin l apart g quiet = (begin phase g, tt)
  along (e ∷ later) phase begin l apart g quiet =
      let front = Apart-front start e (later ++ past) apart in
      let before = along later g.0 begin l.0 front g.1 quiet.1 in
      let step = one_more later e.who e.what g.0 phase l front quiet.0 g.2 before.0 in
      (step.0, (step.1, before.1))

  pub stands_along : (later : List Event) (phase : Phase) → IsResting start past → Stands k (strings start past) [] (region_after start past) →
      Lawful start (later ++ past) → Apart start (later ++ past) → Reaches start (later ++ past) phase → NoneRaises later →
      Stands k (strings start (later ++ past)) (changes_of later) (region_after start (later ++ past)) × OnlyMild k.size later
  stands_along later phase resting first l apart g quiet =
      let all = along later phase (λ p lead. let r = resting p lead in subst (InPhase k start past []) (sym r.1) (between [] r.0 first)) l apart g quiet in
      (stands_in later phase all.0, all.1)
