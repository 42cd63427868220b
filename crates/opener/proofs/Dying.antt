-- An opener that died has ended, and what it answered stays settled.
use Rattle.std.proofs.Common.{◌≢◌, List, [], ◌∷◌, ◌++◌, append-nil, refl, sym, ap, ◌∙◌, subst, lit≤}
use Rattle.std.specs.Prelude.{Option, Some, None, ⊤}
use Rattle.std.proofs.lemmas.List.Elements.{All-nil}
use Rattle.change_log.specs.Settled.{AreBegun}
use Rattle.change_log.specs.declared.call.Answer.{Answer}
use Rattle.change_log.specs.declared.call.Call.TheVariants.{Sync}
use Rattle.change_log.specs.declared.change.Change.{Change}
use Rattle.region_words.specs.Apart.{Apart}
use Rattle.region_words.specs.Lawful.{Lawful}
use Rattle.region_words.specs.Past.{NoneOf, changes_of}
use Rattle.region_words.specs.Region.{IsAccepted}
use Rattle.region_words.specs.Share.{ShareState, Dies, Fails, Goes, Grows, died, made_by}
use Rattle.region_words.specs.Told.{History, OnBoth, OnTold}
use Rattle.region_words.specs.declared.event.Event.{Event}
use Rattle.region_words.specs.declared.event.TornWord.{TornWord}
use Rattle.region_words.specs.declared.event.What.TheVariants.{Died}
use Rattle.region_words.specs.declared.stops.TornStore.{TornStore}
use Rattle.region_words.proofs.ReadLaws.{apart_front, lawful_front}
use Rattle.region_words.proofs.Telling.{grows_from, grows_to}
use Rattle.opener.specs.State.{OpenerState}
use Rattle.opener.specs.Opener.{Knows, Tied}
use Rattle.opener.specs.Quick.{ended_as}
use Rattle.opener.specs.Settles.{AreSettled, IsCutOff, IsSettledBy}
use Rattle.opener.specs.declared.work.Work.{Work}
use Rattle.opener.specs.declared.work.Work.TheVariants.{Idle, Ended, Runs}
use Rattle.opener.proofs.Added.{made_first}
use Rattle.opener.proofs.Carry.{none_reserved, tied_after}
use Rattle.opener.proofs.Settles.{lock_is, stays_by}
use Rattle.opener.proofs.Stopped.{failed_tied, nothing_told}

pub died_tied : (o : OpenerState) (left : Option TornWord) (s t : ShareState) → Tied o s → Goes (died left s) s t → Tied (ended_as o.who) t
died_tied o left s t tied goes =
    tied_after o (ended_as o.who) s t (died left s) (λ start past. ⊤) tied goes.after refl refl refl (lit≤ tt) tt refl (none_reserved s t (died left s) goes.after refl) (nothing_told t.told)
    (λ start past region lawful lock facts e. record { image = tt; rests = λ held. absurd cc; work = tt })

-- the death behind what others did cuts the running call off, or a call that was none
module _ (o : OpenerState) (torn : Option TornWord) (s : ShareState) (h k : History) (own : List Answer) (tied : Tied o s) (knew : Knows o s h) (lawful_now : Lawful k.start k.past)
    (g : Grows s.who s.alone (Died torn ∷ []) h k) where
  abbrev between : List Event
  between = g.others ++ h.past

  abbrev now : List Event
  now = made_by s.who (Died torn ∷ []) ++ between

  cut_off : (work : Work) → IsSettledBy o.who work h.start between own → IsCutOff o.who h.start now own
  cut_off Idle so =
      record {
        call = Sync;
        now = 0;
        before = so.before;
        made = so.made;
        more = [];
        are = append-nil (changes_of between) ∙ so.are ∙ ap (λ l. so.before ++ l) (sym (append-nil so.made));
        settled = so.settled;
        begun = subst (AreBegun o.who Sync 0) (sym so.of_call) ([], refl);
        others = All-nil (λ (c : Change). c.maker ≢ o.who);
      }
  cut_off Ended cut =
      record {
        call = cut.call;
        now = cut.now;
        before = cut.before;
        made = cut.made;
        more = cut.more;
        are = append-nil (changes_of between) ∙ cut.are;
        settled = cut.settled;
        begun = cut.begun;
        others = cut.others;
      }
  cut_off (Runs running at) so =
      record {
        call = running.call;
        now = running.now;
        before = so.before;
        made = so.made;
        more = [];
        are = append-nil (changes_of between) ∙ so.are ∙ ap (λ l. so.before ++ l) (sym (append-nil so.made));
        settled = so.settled;
        begun = made_first o.who running at so.made so.of_call;
        others = All-nil (λ (c : Change). c.maker ≢ o.who);
      }

  journal_settles : AreSettled o own h → AreSettled (ended_as o.who) own k
  journal_settles settled =
      grows_to s.who s.alone (Died torn ∷ []) h k g (λ start past. IsAccepted start → Apart start past → IsSettledBy o.who Ended start past own)
      (λ ok apart.
      let lawful : Lawful h.start between = lawful_front h.start (made_by s.who (Died torn ∷ [])) between (grows_from s.who s.alone (Died torn ∷ []) h k g Lawful lawful_now) in
      let theirs : NoneOf o.who g.others = subst (λ w. NoneOf w g.others) tied.who g.by_others in
      let apart_before : Apart h.start between = apart_front h.start (made_by s.who (Died torn ∷ [])) between apart in
      cut_off o.work
      (stays_by o h.start g.others h.past own lawful theirs o.work tied.at (lock_is o s h tied knew) (settled ok (apart_front h.start g.others h.past apart_before))))

settles_by : (o : OpenerState) (torn : Option TornWord) (s t : ShareState) → Tied o s → Tied (ended_as o.who) t → OnBoth s.told t.told (Grows s.who s.alone (Died torn ∷ [])) → (own : List Answer) →
    OnTold s.told (AreSettled o own) → OnTold t.told (AreSettled (ended_as o.who) own)
settles_by o torn s t tied over grows own settled = go s.told t.told tied.told over.told grows settled
  where
    go : (a b : Option History) → OnTold a (Knows o s) → OnTold b (Knows (ended_as o.who) t) → OnBoth a b (Grows s.who s.alone (Died torn ∷ [])) → OnTold a (AreSettled o own) →
        OnTold b (AreSettled (ended_as o.who) own)
    go None None knew knows g settled = tt
    go None (Some k) knew knows g settled = absurd g
    go (Some h) None knew knows g settled = absurd g
    go (Some h) (Some k) knew knows g settled = journal_settles o torn s h k own tied knew knows.agrees.lawful g settled

pub death_settles : (o : OpenerState) (by : Option TornStore) (s t : ShareState) → Tied o s → Dies by s t → (own : List Answer) → OnTold s.told (AreSettled o own) → OnTold t.told (AreSettled (ended_as o.who) own)
death_settles o by s t tied dies own settled = settles_by o dies.left s t tied (died_tied o dies.left s t tied dies.goes) dies.goes.after.told own settled

pub fault_settles : (o : OpenerState) (s t : ShareState) → Tied o s → Fails s t → (own : List Answer) → OnTold s.told (AreSettled o own) → OnTold t.told (AreSettled (ended_as o.who) own)
fault_settles o s t tied fails own settled = settles_by o None s t tied (failed_tied o s t tied fails) fails.after.told own settled
