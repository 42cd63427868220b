-- A history goes on, and an opener changes nothing in it.
use Rattle.std.proofs.Common.{◌≡◌, ◌≢◌, ℕ, List, [], ◌∷◌, ◌++◌, refl, sym, ap, ◌∙◌, subst, append-nil, append_assoc}
use Rattle.std.proofs.lemmas.List.Elements.{All-nil, All-append}
use Rattle.std.specs.Prelude.{Option, Some, None}
use Rattle.change_log.specs.Settled.{IsSettled, NoneBy}
use Rattle.change_log.specs.declared.change.Change.{Change}
use Rattle.change_log.specs.declared.call.Answer.{Answer}
use Rattle.change_log.proofs.Settled.{stays_settled}
use Rattle.opener.specs.Settles.{AreSettled, IsSettledBy}
use Rattle.opener.specs.State.{OpenerState}
use Rattle.opener.specs.declared.work.Work.TheVariants.{Idle}
use Rattle.opener.proofs.Settles.{first_settles, none_by_others}
use Rattle.region_words.specs.Apart.{Apart}
use Rattle.region_words.specs.Lawful.{Lawful}
use Rattle.region_words.specs.Past.{changes_of}
use Rattle.region_words.specs.Region.{Region, IsAccepted, base}
use Rattle.region_words.specs.Share.{After, Agrees, Grows, IsSameShare, Left, ShareState, made_by}
use Rattle.region_words.specs.Told.{History, OnBoth, OnTold}
use Rattle.region_words.specs.declared.event.Event.{Event}
use Rattle.region_words.proofs.ReadLaws.{apart_front, changes_more}
use Rattle.race_core.specs.Worker.{HasChangedNothing, IsSettledAt, RestsFor}

pub rests_still : (who : ℕ) (a : Option History) → OnBoth a a (RestsFor who)
rests_still who None = tt
rests_still who (Some h) = record { start = refl; later = []; past = refl; others = All-nil (λ (c : Change). c.maker ≢ who) }

-- first so, and then so
both : (who : ℕ) (x y z : History) → RestsFor who x y → RestsFor who y z → RestsFor who x z
both who x y z p q =
    record {
      start = q.start ∙ p.start;
      later = q.later ++ p.later;
      past = q.past ∙ ap (λ l. q.later ++ l) p.past ∙ sym (append_assoc q.later p.later x.past);
      others = subst (NoneBy who) (sym (changes_more q.later p.later)) (All-append (λ (c : Change). c.maker ≢ who) (changes_of p.later) (changes_of q.later) p.others q.others);
    }

pub rests_join : (who : ℕ) (a b d : Option History) → OnBoth a b (RestsFor who) → OnBoth b d (RestsFor who) → OnBoth a d (RestsFor who)
rests_join who None None None p q = tt
rests_join who None None (Some z) p q = q
rests_join who None (Some y) d p q = absurd p
rests_join who (Some x) None d p q = absurd p
rests_join who (Some x) (Some y) None p q = q
rests_join who (Some x) (Some y) (Some z) p q = both who x y z p q

lawful_front : (start : Region) (front past : List Event) → Lawful start (front ++ past) → Lawful start past
lawful_front start [] past l = l
lawful_front start (e ∷ front) past l = lawful_front start front past l.0

-- a call on a share whose own events mark no change
pub rests_after : (left : Left) (s t : ShareState) → After left s t → changes_of (made_by s.who left.own) ≡ [] → OnBoth s.told t.told (RestsFor s.who)
rests_after left s t after unmarked = go s.told t.told after.told after.sound.told
  where
    rests : (x y : History) → Grows s.who s.alone left.own x y → Agrees t y → RestsFor s.who x y
    rests x y grows agrees =
        let own = made_by s.who left.own in
        let lawful : Lawful y.start (own ++ (grows.others ++ x.past)) = subst (Lawful y.start) grows.past agrees.lawful in
        let theirs : NoneBy s.who (changes_of grows.others) = none_by_others y.start grows.others x.past s.who (lawful_front y.start own (grows.others ++ x.past) lawful) grows.by_others in
        record {
          start = grows.start;
          later = own ++ grows.others;
          past = grows.past ∙ sym (append_assoc own grows.others x.past);
          others = subst (NoneBy s.who) (sym (changes_more own grows.others ∙ ap (λ l. changes_of grows.others ++ l) unmarked ∙ append-nil (changes_of grows.others))) theirs;
        }

    go : (a b : Option History) → OnBoth a b (Grows s.who s.alone left.own) → OnTold b (Agrees t) → OnBoth a b (RestsFor s.who)
    go None None grows agrees = tt
    go None (Some y) grows agrees = grows
    go (Some x) None grows agrees = grows
    go (Some x) (Some y) grows agrees = rests x y grows agrees

-- what was settled stays so
settled_on : (who : ℕ) (own : List Answer) (h k : History) → RestsFor who h k → IsSettledAt who own h → IsSettledAt who own k
settled_on who own h k rests settled = λ ok apart.
    let there : Apart k.start (rests.later ++ h.past) = subst (Apart k.start) rests.past apart in
    let was = settled (subst IsAccepted rests.start ok) (subst (λ r. Apart r h.past) rests.start (apart_front k.start rests.later h.past there)) in
    let now = stays_settled who (base h.start) (changes_of h.past) (changes_of rests.later) own was rests.others in
    subst (λ r. IsSettled who (base r) (changes_of k.past) own) (sym rests.start)
    (subst (λ l. IsSettled who (base h.start) l own) (sym (ap changes_of rests.past ∙ changes_more rests.later h.past)) now)

pub settled_then : (who : ℕ) (own : List Answer) (a b : Option History) → OnBoth a b (RestsFor who) → OnTold a (IsSettledAt who own) → OnTold b (IsSettledAt who own)
settled_then who own None None rests settled = tt
settled_then who own None (Some k) rests settled = absurd rests
settled_then who own (Some h) None rests settled = tt
settled_then who own (Some h) (Some k) rests settled = settled_on who own h k rests settled

-- an opener without a call is settled
idle_at : (o : OpenerState) (own : List Answer) (h : History) → o.work ≡ Idle → AreSettled o own h → IsSettledAt o.who own h
idle_at o own h idle settled = λ ok apart.
    let so = subst (λ w. IsSettledBy o.who w h.start h.past own) idle (settled ok apart) in
    subst (λ l. IsSettled o.who (base h.start) l own) (sym (so.are ∙ ap (λ l. so.before ++ l) so.of_call ∙ append-nil so.before)) so.settled

pub idle_settled : (o : OpenerState) (own : List Answer) (a : Option History) → o.work ≡ Idle → OnTold a (AreSettled o own) → OnTold a (IsSettledAt o.who own)
idle_settled o own None idle settled = tt
idle_settled o own (Some h) idle settled = idle_at o own h idle settled

-- and so at a share that stayed the same
pub rests_on : (was s t : ShareState) → IsSameShare was s → OnBoth was.told s.told (RestsFor was.who) → OnBoth s.told t.told (RestsFor s.who) → OnBoth was.told t.told (RestsFor was.who)
rests_on was s t same before now = rests_join was.who was.told s.told t.told before (subst (λ w. OnBoth s.told t.told (RestsFor w)) same.who now)

-- an opener that changed nothing is settled
pub first_told : (o : OpenerState) (a : Option History) → o.work ≡ Idle → OnTold a (HasChangedNothing o.who) → OnTold a (AreSettled o [])
first_told o None idle none = tt
first_told o (Some h) idle none = first_settles o h idle none
