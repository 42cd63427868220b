-- A call is stopped for an image that isn't whole only where an opener has died, checksums don't tell payloads apart, or the start shows none.
use Rattle.std.proofs.Common.{◌≡◌, ◌≢◌, ℕ, List, [], ◌++◌, refl, sym, ap, ◌∙◌, inl, inr, subst, append_assoc}
use Rattle.std.specs.Prelude.{Option, Some, None, Ok, Err, IfSome, IsOk, Result}
use Rattle.meta_record.specs.declared.record.RecordFault.{RecordFault}
use Rattle.meta_record.specs.declared.shown.Shown.{Shown}
use Rattle.meta_record.specs.declared.shown.Shown.TheVariants.{Whole}
use Rattle.opener.specs.Opener.{HasReason, HasStopped, Tied, stop_found}
use Rattle.opener.specs.State.{OpenerState}
use Rattle.opener.specs.declared.calls.Stop.{Stop}
use Rattle.opener.specs.declared.calls.Stop.TheVariants as stop
use Rattle.opener.specs.declared.work.Running.{Running as Call}
use Rattle.opener.specs.declared.work.Stage.{Stage}
use Rattle.opener.specs.declared.work.Work.{Work}
use Rattle.opener.specs.declared.work.Work.TheVariants.{Runs}
use Rattle.region_words.specs.Apart.{Apart}
use Rattle.region_words.specs.Local.{Seated, seat_state}
use Rattle.region_words.specs.Outcome.{AtRest}
use Rattle.region_words.specs.Past.{region_after}
use Rattle.region_words.specs.Region.{Region, IsAccepted, shown}
use Rattle.region_words.specs.declared.event.Event.{Event}
use Rattle.region_words.proofs.Regions.{lawful_accepted}
use Rattle.mmkv_top.specs.Progress.{FoundSaw, SawNoImage, StopSaw}
use Rattle.region_words.proofs.WholeAtRest.{whole_at_rest}

-- what holds of the thing in an option, if any
if_some : {A : Type 0} {P Q : A → Type 0} (o : Option A) → ((x : A) → o ≡ Some x → P x → Q x) → IfSome o P → IfSome o Q
if_some None f h = tt
if_some (Some x) f h = f x refl h

-- a stop is found for what was shown then, and the same later
saw_later : (start : Region) (more past : List Event) → SawNoImage start past → SawNoImage start (more ++ past)
saw_later start more past w =
    record { later = more ++ w.later; earlier = w.earlier; is = append_assoc more w.later w.earlier ∙ ap (λ l. more ++ l) w.is; not_whole = w.not_whole; apart = w.apart }

stop_later : (why : Stop) (start : Region) (more past : List Event) → StopSaw why start past → StopSaw why start (more ++ past)
stop_later (stop.NotWhole seen) start more past h = saw_later start more past h
stop_later (stop.Version n) start more past h = h
stop_later (stop.Flags n) start more past h = h
stop_later stop.Fault start more past h = h
stop_later stop.Memory start more past h = tt
stop_later stop.JournalFull start more past h = tt
stop_later (stop.Full need) start more past h = tt
stop_later stop.SequenceEnd start more past h = tt
stop_later stop.ExpiryOff start more past h = tt
stop_later stop.ExpiryRange start more past h = tt
stop_later stop.AlreadyOn start more past h = tt
stop_later stop.AlreadyOff start more past h = tt

pub saw_still : (work : Work) (start : Region) (more past : List Event) → FoundSaw work start past → FoundSaw work start (more ++ past)
saw_still work start more past h = if_some (stop_found work) (λ why is. stop_later why start more past) h

-- no record is refused in an accepted region
not_refused : (c : Result (Unit {0}) RecordFault) (why : RecordFault) → IsOk c → c ≡ Err why → ⊥
not_refused (Ok u) why ok is = absurd cc
not_refused (Err fault) why ok is = absurd cc

-- What a step finds, or comes to.
module _ (o : OpenerState) (s t : Seated) (tied : Tied o (seat_state t)) (ok : IsAccepted t.region.start) where
  saw_none : (seen : Shown) → shown (region_after t.region.start t.region.past) ≡ seen → ((n : ℕ) → seen ≢ Whole n) → (Apart t.region.start t.region.past → AtRest t.region.start t.region.past) →
      SawNoImage t.region.start t.region.past
  saw_none seen shows broken calm =
      record {
        later = [];
        earlier = t.region.past;
        is = refl;
        not_whole = λ n whole. broken n (sym shows ∙ whole);
        apart = λ n began live apart.
            let rest = calm apart in
            let whole = whole_at_rest t.region.start tied.told.agrees.region ok t.region.past rest.0 n tied.told.agrees.lawful apart live rest.1 began in
            broken whole.0 (sym shows ∙ whole.1);
      }

  stop_saw : (c : Call) (at : Stage) (why : Stop) → s.region.failing.listed ≡ [] → HasReason (Runs c at) why (seat_state s) (seat_state t) → StopSaw why t.region.start t.region.past
  stop_saw c at (stop.NotWhole seen) steady h = saw_none seen h.2.0 h.2.1 h.2.2
  stop_saw c at (stop.Version n) steady h = not_refused _ _ (lawful_accepted t.region.start t.region.past ok tied.told.agrees.lawful) h.2
  stop_saw c at (stop.Flags n) steady h = not_refused _ _ (lawful_accepted t.region.start t.region.past ok tied.told.agrees.lawful) h.2
  stop_saw c at stop.Fault steady h = h.due.0 steady
  stop_saw c at stop.Memory steady h = tt
  stop_saw c at stop.JournalFull steady h = tt
  stop_saw c at (stop.Full need) steady h = tt
  stop_saw c at stop.SequenceEnd steady h = tt
  stop_saw c at stop.ExpiryOff steady h = tt
  stop_saw c at stop.ExpiryRange steady h = tt
  stop_saw c at stop.AlreadyOn steady h = tt
  stop_saw c at stop.AlreadyOff steady h = tt

  -- it is stopped for what it finds, or for what was found before
  pub stopped_saw : (c : Call) (at : Stage) (found : Option Stop) (why : Stop) → s.region.failing.listed ≡ [] → IfSome found (λ w. StopSaw w t.region.start t.region.past) →
      HasStopped found (Runs c at) why (seat_state s) (seat_state t) → StopSaw why t.region.start t.region.past
  stopped_saw c at None why steady saw h = stop_saw c at why steady h
  stopped_saw c at (Some found) why steady saw (inl same) = subst (λ w. StopSaw w t.region.start t.region.past) (sym same) saw
  stopped_saw c at (Some found) why steady saw (inr (fault, fails)) = absurd (fails.due.0 steady)

-- it goes on, and has found a stop or not
pub going_saw : (o : OpenerState) (s t : Seated) (c : Call) (at : Stage) → Tied o (seat_state t) → IsAccepted t.region.start → s.region.failing.listed ≡ [] →
    IfSome (stop_found o.work) (λ why. HasReason (Runs c at) why (seat_state s) (seat_state t)) → FoundSaw o.work t.region.start t.region.past
going_saw o s t c at tied ok steady h = if_some (stop_found o.work) (λ why is reason. stop_saw o s t tied ok c at why steady reason) h
