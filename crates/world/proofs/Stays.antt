-- What one opener knows of the region stays so while another makes a call.
use Rattle.std.proofs.Common.{◌≡◌, ◌≢◌, ℕ, ◌≤◌, not, ◌||◌, List, [], ◌∷◌, ◌++◌, length, refl, sym, ◌∙◌, subst, ap, inl, inr}
use Rattle.std.specs.Prelude.{Option, Some, None}
use Rattle.change_log.specs.EachCaller.{answers_of}
use Rattle.change_log.specs.declared.call.Answer.{Answer}
use Rattle.lock_rules.specs.declared.table.LockKind.{LockKind}
use Rattle.lock_rules.specs.declared.table.LockKind.TheVariants.{Exclusive}
use Rattle.region_words.specs.Apart.{Apart}
use Rattle.region_words.specs.Lawful.{Between, Lawful, room_of}
use Rattle.region_words.specs.Local.{Local, account_of, lock_after, reserved_in}
use Rattle.region_words.specs.Owing.{AreStorable, AreWithin, Comes, IsOwing}
use Rattle.region_words.specs.Past.{NoneOf, changes_of, has_died, region_after}
use Rattle.region_words.specs.Region.{Region}
use Rattle.region_words.specs.Rows.{Row}
use Rattle.region_words.specs.Share.{Agrees, ShareState, made_by}
use Rattle.region_words.specs.Told.{History}
use Rattle.region_words.specs.declared.event.Event.{Event}
use Rattle.region_words.specs.declared.event.What.{What}
use Rattle.region_words.proofs.Coming.{coming_later}
use Rattle.region_words.proofs.Later.{died_others, lock_others, reaches_later}
use Rattle.region_words.proofs.ReadLaws.{apart_front}
use Rattle.opener.specs.Opener.{Facts, MakesOne, Owes, Tied}
use Rattle.opener.specs.Settles.{AreSettled}
use Rattle.opener.specs.State.{OpenerState}
use Rattle.opener.specs.Writes.{OwesPlan, first_events}
use Rattle.opener.specs.declared.plan.Plan.{Plan}
use Rattle.opener.specs.declared.work.Running.{Running}
use Rattle.opener.specs.declared.work.Stage.TheVariants.{PeekChecksum, PeekSequence, LockShared, LockExclusive, Continue, Load, Size, Reserve, Store, Unlock, Hold, Release}
use Rattle.opener.specs.declared.work.Work.{Work}
use Rattle.opener.specs.declared.work.Work.TheVariants.{Idle, Ended, Runs}
use Rattle.opener.proofs.Carry.{carry, exclusive_some, still_held}
use Rattle.opener.proofs.Settles.{others_settle}
use Rattle.world.specs.World.{OpenerIs, history_of, share_of}

-- others made these events, and left this opener its places
pub record Stays (who : ℕ) (l k : Local) : Type 0 where
  pub start : k.start ≡ l.start
  pub others : List Event
  pub theirs : NoneOf who others
  pub past : k.past ≡ others ++ l.past
  pub admitted : (account_of k.accounts who).admitted ≡ (account_of l.accounts who).admitted
  pub reserved : reserved_in k who ≡ reserved_in l who
  pub room : (account_of k.accounts who).room ≡ (account_of l.accounts who).room

-- what the shares of two openers say of the region is the same
pub agrees_with : (l : Local) (who other : ℕ) → Agrees (share_of l who) (history_of l) → Agrees (share_of l other) (history_of l)
agrees_with l who other a = record { region = a.region; lawful = a.lawful; holds = refl; ended = refl; few = a.few }

none_made : (maker who : ℕ) (own : List What) → maker ≢ who → NoneOf who (made_by maker own)
none_made maker who [] n = tt
none_made maker who (what ∷ own) n = (n, none_made maker who own n)

-- a call of another
pub stays_by : (maker who : ℕ) (l k : Local) → maker ≢ who → MakesOne (share_of l maker) (share_of k maker) → Stays who l k
stays_by maker who l k n (inl same) =
    let history : history_of k ≡ history_of l = (let told = ap (λ (s : ShareState). s.told) same in cc) in
    record {
      start = ap (λ (h : History). h.start) history;
      others = [];
      theirs = tt;
      past = ap (λ (h : History). h.past) history;
      admitted = ap (λ (s : ShareState). s.admitted who) same;
      reserved = ap (λ (s : ShareState). s.reserved who) same;
      room = ap (λ (s : ShareState). s.room who) same;
    }
stays_by maker who l k n (inr (left, after, few)) =
    let g = after.told in
    let other : who ≢ maker = λ e. n (sym e) in
    record {
      start = g.start;
      others = made_by maker left.own;
      theirs = none_made maker who left.own n;
      past = g.past ∙ ap (λ others. made_by maker left.own ++ (others ++ l.past)) (g.none refl);
      admitted = after.same.admitted who;
      reserved = after.same.reserved who other;
      room = after.same.room who other;
    }

module _ (who : ℕ) (l k : Local) (stays : Stays who l k) (agrees : Agrees (share_of k who) (history_of k)) where
  -- what holds of these events behind the past holds of the region as it is
  there : (P : Region → List Event → Type 0) → P l.start (stays.others ++ l.past) → P k.start k.past
  there P p = subst (λ r. P r k.past) (sym stays.start) (subst (λ past. P l.start past) (sym stays.past) p)

  back : (P : Region → List Event → Type 0) → P k.start k.past → P l.start (stays.others ++ l.past)
  back P p = subst (λ past. P l.start past) stays.past (subst (λ r. P r k.past) stays.start p)

  lawful : Lawful l.start (stays.others ++ l.past)
  lawful = back Lawful agrees.lawful

  lock_same : lock_after k.past who ≡ lock_after l.past who
  lock_same = ap (λ past. lock_after past who) stays.past ∙ lock_others l.start stays.others l.past who lawful stays.theirs

  ended_same : (share_of k who).ended ≡ (share_of l who).ended
  ended_same =
      ap (λ b. not b || has_died k.past who) stays.admitted
      ∙ ap (λ d. not (account_of l.accounts who).admitted || d) (ap (λ past. has_died past who) stays.past ∙ died_others stays.others l.past who stays.theirs)

  comes_later : (row : Row) (events : List What) → lock_after l.past who ≡ Some Exclusive → Comes l.start l.past who row events → Comes l.start (stays.others ++ l.past) who row events
  comes_later row [] mine comes = reaches_later l.start stays.others l.past who (Between (room_of row)) lawful stays.theirs mine comes
  comes_later row (what ∷ rest) mine comes = coming_later l.start stays.others l.past who row (what ∷ rest) lawful stays.theirs mine comes

  owing_later : (row : Row) (events : List What) → IsOwing row events (share_of l who) → IsOwing row events (share_of k who)
  owing_later row events owing =
      let held = still_held l.start stays.others l.past who (Some Exclusive) lawful stays.theirs owing.holds (exclusive_some (Some Exclusive) refl) in
      record {
        alive = ended_same ∙ owing.alive;
        holds = lock_same ∙ owing.holds;
        maker = owing.maker;
        places = subst (λ n. length events ≤ n) (sym stays.reserved) owing.places;
        room = subst (λ n. AreWithin n events) (sym stays.room) owing.room;
        told = record {
          agrees = agrees;
          storable = there (λ start past. AreStorable (region_after start past) who events)
              (subst (λ r. AreStorable r who events) (sym held.0) owing.told.storable);
          coming = λ apart. there (λ start past. Comes start past who row events)
              (comes_later row events owing.holds (owing.told.coming (apart_front l.start stays.others l.past (back Apart apart))));
        };
      }

  plan_later : (mine : ℕ) (running : Running) (plan : Plan) → OwesPlan mine running plan (share_of l who) → OwesPlan mine running plan (share_of k who)
  plan_later mine running plan owes =
      record { row = owes.row; row_is = owes.row_is; owing = owing_later owes.row (first_events plan) owes.owing; places = stays.reserved ∙ owes.places }

  owes_later : (o : OpenerState) (work : Work) → Owes o work (share_of l who) → Owes o work (share_of k who)
  owes_later o Idle owes = stays.reserved ∙ owes
  owes_later o Ended owes = stays.reserved ∙ owes
  owes_later o (Runs running PeekChecksum) owes = stays.reserved ∙ owes
  owes_later o (Runs running (PeekSequence peek)) owes = stays.reserved ∙ owes
  owes_later o (Runs running (LockShared extent)) owes = stays.reserved ∙ owes
  owes_later o (Runs running LockExclusive) owes = stays.reserved ∙ owes
  owes_later o (Runs running (Continue loading)) owes = stays.reserved ∙ owes
  owes_later o (Runs running (Load loading)) owes = stays.reserved ∙ owes
  owes_later o (Runs running Size) owes = stays.reserved ∙ owes
  owes_later o (Runs running (Reserve plan)) owes = stays.reserved ∙ owes
  owes_later o (Runs running (Store plan)) owes = plan_later o.who running plan owes
  owes_later o (Runs running (Unlock how)) owes = stays.reserved ∙ owes
  owes_later o (Runs running Hold) owes = stays.reserved ∙ owes
  owes_later o (Runs running Release) owes = stays.reserved ∙ owes

  pub tied_later : (o : OpenerState) → Tied o (share_of l who) → Tied o (share_of k who)
  tied_later o tied =
      let others : NoneOf o.who stays.others = subst (λ w. NoneOf w stays.others) tied.who stays.theirs in
      let mine = ap (lock_after l.past) (sym tied.who) ∙ tied.holds in
      record {
        who = tied.who;
        maker = tied.maker;
        ended = ended_same ∙ tied.ended;
        holds = lock_same ∙ tied.holds;
        deep = tied.deep;
        sound = tied.sound;
        at = tied.at;
        owes = owes_later o o.work tied.owes;
        told = record {
          agrees = agrees;
          facts = there (Facts o) (carry o l.start stays.others l.past lawful others tied.at mine tied.told.facts);
        };
      }

  pub settled_later : (o : OpenerState) (own : List Answer) → Tied o (share_of l who) → AreSettled o own (history_of l) → AreSettled o own (history_of k)
  settled_later o own tied settled =
      let others : NoneOf o.who stays.others = subst (λ w. NoneOf w stays.others) tied.who stays.theirs in
      there (λ start past. AreSettled o own (record { start = start; past = past }))
      (others_settle o (share_of l who) (history_of l) stays.others own tied refl lawful others settled)

-- while an opener holds the lock, others change nothing
pub held_while : (who : ℕ) (l k : Local) → Stays who l k → Agrees (share_of k who) (history_of k) → (lock : Option LockKind) → lock_after l.past who ≡ lock → lock ≢ None →
    (region_after k.start k.past ≡ region_after l.start l.past) × (changes_of k.past ≡ changes_of l.past)
held_while who l k stays agrees lock mine some =
    let held = still_held l.start stays.others l.past who lock (lawful who l k stays agrees) stays.theirs mine some in
    (there who l k stays agrees (λ start past. region_after start past ≡ region_after l.start l.past) held.0, ap changes_of stays.past ∙ held.1)

-- an opener whose answers are as before
pub opener_later : (l k : Local) (answers more : List Answer) (who : ℕ) (o : OpenerState) → Stays who l k → Agrees (share_of k who) (history_of k) → answers_of who more ≡ answers_of who answers →
    OpenerIs l answers who o → OpenerIs k more who o
opener_later l k answers more who o stays agrees same is =
    record {
      number = is.number;
      tied = tied_later who l k stays agrees o is.tied;
      settled = subst (λ own. AreSettled o own (history_of k)) (sym same) (settled_later who l k stays agrees o (answers_of who answers) is.tied is.settled);
      counted = is.counted;
    }
