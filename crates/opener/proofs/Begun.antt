-- An opener that begins a call is tied to its share as before.
use Rattle.std.proofs.Common.{◌≡◌, ℕ, ◌<◌, ◌≤◌, ◌^◌, arith, Bool, true, false, cond, List, length, refl, sym, ◌∙◌, subst, ap}
use Rattle.std.specs.Prelude.{Option, Some, None, nat_le, nat_lt, ◌==◌, ◌||◌}
use Rattle.std.proofs.lemmas.Bool.Decides.{nat_tests}
use Rattle.change_log.specs.declared.call.Call.{Call}
use Rattle.change_log.specs.declared.call.Call.TheVariants as call
use Rattle.lock_rules.specs.declared.table.LockKind.TheVariants.{Exclusive}
use Rattle.region_words.specs.Region.{Region}
use Rattle.region_words.specs.Past.{region_after, changes_of}
use Rattle.region_words.specs.Rows.{AreBytes, IsKey}
use Rattle.region_words.specs.Told.{changes_told}
use Rattle.region_words.specs.Share.{ShareState}
use Rattle.region_words.specs.declared.event.Event.{Event}
use Rattle.region_words.proofs.Telling.{told_and}
use Rattle.loader.specs.declared.loaded.Image.{Image}
use Rattle.opener.specs.State.{OpenerState}
use Rattle.opener.specs.Calls.{IsPlain, is_write}
use Rattle.opener.specs.Plans.{CanWrite}
use Rattle.opener.specs.Begins.{HasBytes, IsFirst, IsFirstPlain, begun_at, call_refusal, key_refusal, pair_refusal, refusal, refusal_at}
use Rattle.opener.specs.Ends.{Notices, Reads, ReadsBy, lock_by}
use Rattle.opener.specs.Opener.{Tied, Knows, StageIs, IsAt, Owes, is_storing, running_as, lock_in, is_ended}
use Rattle.opener.specs.declared.calls.Refused.TheVariants as why
use Rattle.opener.specs.declared.work.Running.{Running}
use Rattle.opener.specs.declared.work.Stage.{Stage}
use Rattle.opener.specs.declared.work.Work.{Work}
use Rattle.opener.specs.declared.work.Work.TheVariants.{Idle, Ended, Runs}
use Rattle.opener.proofs.Carry.{changes_are, exclusive_if}

-- what is to be known of a first stage
pub record MayFirst (o : OpenerState) (running : Running) (next : Stage) : Type 0 where
  pub at : IsAt o (Runs running next)
  pub calm : is_storing (Runs running next) ≡ false
  pub owes : (s : ShareState) → s.reserved s.who ≡ 0 → Owes o (Runs running next) s
  pub told : (start : Region) (past : List Event) → StageIs o running next start past

none_held : (holds : ℕ) → (holds == 0) ≡ true → holds ≡ 0
none_held holds e = grind (arith, nat_tests)

some_held : (holds : ℕ) → (holds == 0) ≡ false → 0 < holds
some_held holds e = grind (arith, nat_tests)

may_release : (holds : ℕ) → cond (holds == 0) (Some why.NotHeld) None ≡ None → 0 < holds
may_release holds e = go (holds == 0) refl e
  where
    go : (b : Bool) → (holds == 0) ≡ b → cond b (Some why.NotHeld) None ≡ None → 0 < holds
    go true t e = absurd cc
    go false t e = some_held holds t

not_deep : (holds : ℕ) → cond (nat_le 1000 holds) (Some why.TooDeep) None ≡ None → holds < 1000
not_deep holds e = go (nat_le 1000 holds) refl e
  where
    go : (b : Bool) → nat_le 1000 holds ≡ b → cond b (Some why.TooDeep) None ≡ None → holds < 1000
    go true t e = absurd cc
    go false t e = grind (arith, nat_tests)

-- a key that isn't refused, and a pair
good_key : (key : List ℕ) → AreBytes key → key_refusal key ≡ None → IsKey key
good_key key bytes e = go (length key == 0) refl (nat_lt (2 ^ 27) (length key)) refl e
  where
    go : (a : Bool) → (length key == 0) ≡ a → (b : Bool) → nat_lt (2 ^ 27) (length key) ≡ b → cond a (Some why.EmptyKey) (cond b (Some why.TooLong) None) ≡ None → IsKey key
    go true ea b eb e = absurd cc
    go false ea true eb e = absurd cc
    go false ea false eb e = (some_held (length key) ea, grind (arith, nat_tests), bytes)

good_pair : (key value : List ℕ) → AreBytes key → AreBytes value → pair_refusal key value ≡ None → IsKey key × (0 < length value) × (length value ≤ 2 ^ 27) × AreBytes value
good_pair key value kb vb e =
    go (length key == 0) refl (length value == 0) refl (nat_lt (2 ^ 27) (length key)) refl (nat_lt (2 ^ 27) (length value)) refl e
  where
    go : (a : Bool) → (length key == 0) ≡ a → (b : Bool) → (length value == 0) ≡ b → (c : Bool) → nat_lt (2 ^ 27) (length key) ≡ c → (d : Bool) → nat_lt (2 ^ 27) (length value) ≡ d →
        cond a (Some why.EmptyKey) (cond b (Some why.EmptyValue) (cond (c || d) (Some why.TooLong) None)) ≡ None →
        IsKey key × (0 < length value) × (length value ≤ 2 ^ 27) × AreBytes value
    go true ea b eb c ec d ed e = absurd cc
    go false ea true eb c ec d ed e = absurd cc
    go false ea false eb true ec d ed e = absurd cc
    go false ea false eb false ec true ed e = absurd cc
    go false ea false eb false ec false ed e = ((some_held (length key) ea, grind (arith, nat_tests), kb), some_held (length value) eb, grind (arith, nat_tests), vb)

-- what is known of a plain call that isn't refused
module _ (o : OpenerState) (now changes : ℕ) (next : Stage) where
  may_read : (asked : Call) → IsPlain asked → (is_write asked ≡ true → 0 < o.holds) → Reads o.holds None next → MayFirst o (begun_at asked now changes) next
  may_read asked plain write reads = go (o.holds == 0) refl reads
    where
      go : (b : Bool) → (o.holds == 0) ≡ b → ReadsBy (cond b None (Some Exclusive)) next → MayFirst o (begun_at asked now changes) next
      go true e is =
          subst (MayFirst o (begun_at asked now changes)) (sym is)
          (record { at = ((λ some. refl), (plain, no_write (is_write asked) refl), (none_held o.holds e, refl, tt)); calm = refl; owes = λ s none. none; told = λ start past. tt })
        where
          no_write : (w : Bool) → is_write asked ≡ w → is_write asked ≡ false
          no_write true f = absurd (omega (arith, none_held o.holds e, write f))
          no_write false f = f
      go false e is =
          let mine : lock_by o.holds None ≡ Some Exclusive = exclusive_if o.holds None (some_held o.holds e) in
          subst (MayFirst o (begun_at asked now changes)) (sym is.1)
          (record {
            at = ((λ some. refl), plain, (is.2.going, (λ none. let both = sym mine ∙ none in absurd cc), (λ w. mine)));
            calm = refl;
            owes = λ s none. none;
            told = λ start past. is.2.told (region_after start past);
          })

  may_notice : (asked : Call) → IsPlain asked → (is_write asked ≡ true → 0 < o.holds) → (image : Option Image) → o.image ≡ image → Notices image o.holds None next →
      MayFirst o (begun_at asked now changes) next
  may_notice asked plain write None e is = may_read asked plain write is
  may_notice asked plain write (Some i) e is =
      subst (MayFirst o (begun_at asked now changes)) (sym is)
      (record {
        at = ((λ some. refl), plain, ((λ none. let both = sym e ∙ none in absurd cc), (λ w. exclusive_if o.holds None (write w)), (λ read. refl)));
        calm = refl;
        owes = λ s none. none;
        told = λ start past. tt;
      })

  may_write : (asked : Call) → IsPlain asked → CanWrite asked → is_write asked ≡ true → IsFirstPlain (o.holds == 0) o.image o.holds next → MayFirst o (begun_at asked now changes) next
  may_write asked plain can write is = go (o.holds == 0) refl is
    where
      go : (b : Bool) → (o.holds == 0) ≡ b → IsFirstPlain b o.image o.holds next → MayFirst o (begun_at asked now changes) next
      go true e is =
          subst (MayFirst o (begun_at asked now changes)) (sym is)
          (record { at = ((λ some. refl), can, (none_held o.holds e, refl)); calm = refl; owes = λ s none. none; told = λ start past. tt })
      go false e is = may_notice asked plain (λ w. some_held o.holds e) o.image refl is

  pub may_first : (asked : Call) → HasBytes asked → call_refusal asked o.holds ≡ None → IsFirst o.image o.holds asked next → MayFirst o (begun_at asked now changes) next
  may_first (call.Get key) bytes none first = may_notice (call.Get key) tt (λ w. absurd cc) o.image refl first
  may_first (call.Put key value seconds) bytes none first =
      let good = good_pair key value bytes.0 bytes.1 none in
      may_write (call.Put key value seconds) good good refl first
  may_first (call.Remove key) bytes none first =
      may_write (call.Remove key) (good_key key bytes none) (good_key key bytes none) refl first
  may_first call.Clear bytes none first = may_write call.Clear tt tt refl first
  may_first call.Keys bytes none first = may_notice call.Keys tt (λ w. absurd cc) o.image refl first
  may_first call.Count bytes none first = may_notice call.Count tt (λ w. absurd cc) o.image refl first
  may_first (call.Enable seconds) bytes none first = may_write (call.Enable seconds) tt tt refl first
  may_first call.Disable bytes none first = may_write call.Disable tt tt refl first
  may_first call.Hold bytes none first =
      subst (MayFirst o (begun_at call.Hold now changes)) (sym first)
      (record { at = ((λ some. refl), refl, (not_deep o.holds none, refl)); calm = refl; owes = λ s none. none; told = λ start past. tt })
  may_first call.Release bytes none first =
      subst (MayFirst o (begun_at call.Release now changes)) (sym first)
      (record { at = ((λ some. refl), refl, may_release o.holds none); calm = refl; owes = λ s none. none; told = λ start past. tt })
  may_first call.Sync bytes none first = may_notice call.Sync tt (λ w. absurd cc) o.image refl first

-- only an idle opener begins
pub is_idle : (o : OpenerState) (asked : Call) → refusal o asked ≡ None → (o.work ≡ Idle) × (call_refusal asked o.holds ≡ None)
is_idle o asked e = go o.work refl e
  where
    go : (w : Work) → o.work ≡ w → refusal_at w asked o.holds ≡ None → (o.work ≡ Idle) × (call_refusal asked o.holds ≡ None)
    go Idle is e = (is, e)
    go Ended is e = absurd cc
    go (Runs running next) is e = absurd cc

pub begun_tied : (o new : OpenerState) (asked : Call) (now changes : ℕ) (s : ShareState) → Tied o s → HasBytes asked → refusal o asked ≡ None → changes ≡ changes_told s.told →
    (next : Stage) → IsFirst o.image o.holds asked next → new ≡ running_as o (begun_at asked now changes) next → Tied new s
begun_tied o new asked now changes s tied bytes none count next first is =
    let idle = is_idle o asked none in
    let may = may_first o now changes next asked bytes idle.1 first in
    subst (λ (n : OpenerState). Tied n s) (sym is)
    (record {
      who = tied.who;
      maker = tied.maker;
      ended = tied.ended ∙ ap is_ended idle.0;
      holds = tied.holds ∙ ap (lock_in o.holds) idle.0;
      deep = tied.deep;
      sound = tied.sound;
      at = may.at;
      owes = may.owes s (subst (λ w. Owes o w s) idle.0 tied.owes);
      told = told_and s.told (Knows o s) (λ h. changes ≡ length (changes_of h.past)) (Knows (running_as o (begun_at asked now changes) next) s)
          (λ h k e. record {
            agrees = k.agrees;
            facts = record {
              image = k.facts.image;
              rests = λ held calm. k.facts.rests (ap (lock_in o.holds) idle.0 ∙ held) (ap is_storing idle.0);
              work = (omega (arith, e), may.told h.start h.past);
            };
          })
          tied.told (changes_are s.told changes count);
    })
