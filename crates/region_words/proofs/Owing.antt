-- A row goes on over any share.
use Rattle.std.proofs.Common.{◌≡◌, ℕ, Bool, true, false, List, [], ◌∷◌, ◌++◌, sym, ◌∙◌, subst, ap, arith, ◌||◌, not}
use Rattle.std.specs.Prelude.{Some, IsTrue}
use Rattle.lock_rules.specs.Locks.{Locks, holds_exclusive}
use Rattle.lock_rules.specs.declared.table.LockKind.TheVariants.{Exclusive}
use Rattle.region_words.specs.Region.{Region}
use Rattle.region_words.specs.Past.{region_after, locks_after, has_died, NoneOf}
use Rattle.region_words.specs.Rows.{Row}
use Rattle.region_words.specs.Apart.{Apart}
use Rattle.region_words.specs.Lawful.{Lawful, IsPermitted, IsPossible}
use Rattle.region_words.specs.Local.{event_of, lock_after}
use Rattle.region_words.specs.Coming.{IsStoring}
use Rattle.region_words.specs.Told.{History}
use Rattle.region_words.specs.Share.{ShareState, Agrees, Grows, Goes, IsTurnedAway, MayMake, stored}
use Rattle.region_words.specs.Owing.{IsStorable, AreStorable, AreWithin, Comes, Owes, IsOwing}
use Rattle.region_words.specs.declared.event.What.{What}
use Rattle.region_words.specs.declared.event.What.TheVariants.{Store, Grow, Lock, Unlock, Died}
use Rattle.region_words.specs.declared.event.Event.{Event}
use Rattle.region_words.proofs.Held.{held, Apart-front}
use Rattle.region_words.proofs.ReadLaws.{apart_front}
use Rattle.region_words.proofs.Regions.{lawful_accepted}
use Rattle.region_words.proofs.LockOf.{exclusive_holds, exclusive_is}
use Rattle.region_words.proofs.Later.{reaches_later}
use Rattle.region_words.proofs.Coming.{reaches_end, next_lawful, coming_next, coming_later}
use Rattle.region_words.proofs.Telling.{told_map, told_step, grows_to, grows_from}

storing : (r : Region) (who : ℕ) (what : What) → IsStorable r who what → IsStoring what
storing r who (Store side word value mark) s = tt
storing r who (Grow size) s = tt
storing r who (Lock kind) s = absurd s
storing r who Unlock s = absurd s
storing r who (Died torn) s = absurd s

possible : (r : Region) (locks : Locks) (who : ℕ) (what : What) → IsStorable r who what → IsTrue (holds_exclusive locks who) → IsPossible r locks who what
possible r locks who (Store side word value mark) s mine = (mine, s.0, s.1, s.2, s.3)
possible r locks who (Grow size) s mine = (mine, s.0, s.1, s.2)
possible r locks who (Lock kind) s mine = absurd s
possible r locks who Unlock s mine = absurd s
possible r locks who (Died torn) s mine = absurd s

comes_next : (start : Region) (past : List Event) (who : ℕ) (row : Row) (what : What) (rest : List What) → IsStoring what → Comes start past who row (what ∷ rest) →
    Comes start (event_of who what ∷ past) who row rest
comes_next start past who row what [] is c = reaches_end start past who row what is c
comes_next start past who row what (second ∷ rest) is c = coming_next start past who row what second rest is c

comes_later : (start : Region) (others past : List Event) (who : ℕ) (row : Row) (events : List What) → Lawful start (others ++ past) → NoneOf who others →
    lock_after past who ≡ Some Exclusive → Comes start past who row events → Comes start (others ++ past) who row events
comes_later start others past who row [] l n mine c = reaches_later start others past who _ l n mine c
comes_later start others past who row (what ∷ rest) l n mine c = coming_later start others past who row (what ∷ rest) l n mine c

living : (admitted died : Bool) → (not admitted || died) ≡ false → died ≡ false
living true died e = e
living false died e = absurd cc

permitted : (row : Row) (first : What) (rest : List What) (s : ShareState) → IsOwing row (first ∷ rest) s → (h : History) → Owes row (first ∷ rest) s h → IsPermitted h.start h.past (event_of s.who first)
permitted row first rest s is h o =
    record {
      maker = is.maker;
      alive = living (s.admitted s.who) (has_died h.past s.who) (sym o.agrees.ended ∙ is.alive);
      possible = possible (region_after h.start h.past) (locks_after h.past) s.who first o.storable.0 (exclusive_is (locks_after h.past) s.who (o.agrees.holds ∙ is.holds));
      accepted = λ ok. o.storable.1 (lawful_accepted h.start h.past ok o.agrees.lawful);
    }

-- the next event may be made
pub may_make_next : (row : Row) (first : What) (rest : List What) (s : ShareState) → IsOwing row (first ∷ rest) s → MayMake first s
may_make_next row first rest s is =
    told_map s.told (Owes row (first ∷ rest) s) (λ h. Lawful h.start (event_of s.who first ∷ h.past))
    (λ h o. next_lawful h.start h.past s.who row first rest (storing (region_after h.start h.past) s.who first o.storable.0) o.agrees.lawful (permitted row first rest s is h o) o.coming) is.told

-- what others did leaves what is owed
owes_later : (row : Row) (events : List What) (s : ShareState) (h : History) (others : List Event) → s.holds ≡ Some Exclusive → Owes row events s h → Lawful h.start (others ++ h.past) → NoneOf s.who others →
    AreStorable (region_after h.start (others ++ h.past)) s.who events × (Apart h.start (others ++ h.past) → Comes h.start (others ++ h.past) s.who row events)
owes_later row events s h others mine o l n =
    let lock = o.agrees.holds ∙ mine in
    let same = held h.start others h.past s.who l (exclusive_holds (locks_after h.past) s.who lock) n in (
      subst (λ r. AreStorable r s.who events) (sym same.0) o.storable,
      λ apart. comes_later h.start others h.past s.who row events l n lock (o.coming (apart_front h.start others h.past apart)),
    )

-- after it the rest is owed
owes_next : (row : Row) (first : What) (rest : List What) (old new : ShareState) → new.who ≡ old.who → old.holds ≡ Some Exclusive → (h k : History) →
    Owes row (first ∷ rest) old h → Grows old.who old.alone (first ∷ []) h k → Agrees new k → Owes row rest new k
owes_next row first rest old new who mine h k o g sound =
    let lawful = grows_from old.who old.alone (first ∷ []) h k g Lawful sound.lawful in
    let later = owes_later row (first ∷ rest) old h g.others mine o lawful.0 g.by_others in
    let is = storing (region_after h.start (g.others ++ h.past)) old.who first later.0.0 in
    let e = event_of old.who first in
    record {
      agrees = sound;
      storable = subst (λ w. AreStorable (region_after k.start k.past) w rest) (sym who)
          (grows_to old.who old.alone (first ∷ []) h k g (λ start past. AreStorable (region_after start past) old.who rest) later.0.2);
      coming = subst (λ w. Apart k.start k.past → Comes k.start k.past w row rest) (sym who)
          (grows_to old.who old.alone (first ∷ []) h k g (λ start past. Apart start past → Comes start past old.who row rest)
          (λ apart. comes_next h.start (g.others ++ h.past) old.who row first rest is (later.1 (Apart-front h.start e (g.others ++ h.past) apart))));
    }

pub owing_next : (row : Row) (first : What) (rest : List What) (old new : ShareState) → IsOwing row (first ∷ rest) old → Goes (stored first old) old new → IsOwing row rest new
owing_next row first rest old new is goes =
    record {
      alive = goes.after.ended ∙ is.alive;
      holds = goes.after.holds ∙ is.holds;
      maker = goes.after.sound.maker;
      places = let p = is.places in let q = ap new.reserved goes.after.same.who ∙ goes.after.places in omega (arith, p, q);
      room = subst (λ n. AreWithin n rest) (sym (ap new.room goes.after.same.who ∙ goes.after.room)) is.room.1;
      told = told_step old.told new.told (Owes row (first ∷ rest) old) (Agrees new) (Owes row rest new) (Grows old.who old.alone (first ∷ []))
          (λ h k. owes_next row first rest old new goes.after.same.who is.holds h k) is.told goes.after.told goes.after.sound.told;
    }

-- where it was another's turn, the same is owed
owes_still : (row : Row) (events : List What) (old new : ShareState) → new.who ≡ old.who → old.holds ≡ Some Exclusive → (h k : History) →
    Owes row events old h → Grows old.who old.alone [] h k → Agrees new k → Owes row events new k
owes_still row events old new who mine h k o g sound =
    let lawful = grows_from old.who old.alone [] h k g Lawful sound.lawful in
    let later = owes_later row events old h g.others mine o lawful g.by_others in
    record {
      agrees = sound;
      storable = subst (λ w. AreStorable (region_after k.start k.past) w events) (sym who)
          (grows_to old.who old.alone [] h k g (λ start past. AreStorable (region_after start past) old.who events) later.0);
      coming = subst (λ w. Apart k.start k.past → Comes k.start k.past w row events) (sym who)
          (grows_to old.who old.alone [] h k g (λ start past. Apart start past → Comes start past old.who row events) later.1);
    }

pub owing_turned : (row : Row) (events : List What) (old new : ShareState) → IsOwing row events old → IsTurnedAway old new → IsOwing row events new
owing_turned row events old new is turned =
    record {
      alive = turned.after.ended ∙ is.alive;
      holds = turned.after.holds ∙ is.holds;
      maker = turned.after.sound.maker;
      places = let p = is.places in let q = ap new.reserved turned.after.same.who ∙ turned.after.places in omega (arith, p, q);
      room = subst (λ n. AreWithin n events) (sym (ap new.room turned.after.same.who ∙ turned.after.room)) is.room;
      told = told_step old.told new.told (Owes row events old) (Agrees new) (Owes row events new) (Grows old.who old.alone [])
          (λ h k. owes_still row events old new turned.after.same.who is.holds h k) is.told turned.after.told turned.after.sound.told;
    }
