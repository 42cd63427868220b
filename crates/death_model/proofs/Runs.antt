-- A run one event further.
use Rattle.std.proofs.Common.{◌≡◌, ℕ, zero, suc, Bool, true, false, List, [], ◌∷◌, ◌++◌, refl, sym, ap, ◌∙◌, subst}
use Rattle.std.specs.Prelude.{Option, Some, None}
use Rattle.region_words.specs.Region.{Region}
use Rattle.region_words.specs.Past.{region_after, region_step}
use Rattle.region_words.specs.Apart.{Apart, last_word, meant_by, recorded_payloads, strings}
use Rattle.region_words.specs.declared.event.Side.TheVariants.{Data, Meta}
use Rattle.region_words.specs.declared.event.Mark.TheVariants.{Plain, Commit}
use Rattle.region_words.specs.declared.event.What.{What}
use Rattle.region_words.specs.declared.event.What.TheVariants.{Store, Grow, Lock, Unlock, Died}
use Rattle.region_words.specs.declared.event.Event.{Event}
use Rattle.death_model.specs.FilesInside.{region_in}
use Rattle.death_model.specs.SeenInside.{AreApart, Keeps, Tells, Within, meant, plain_checksum}
use Rattle.death_model.specs.RunInside.{Begins, Follows, IsAfter, word_after}
use Rattle.death_model.specs.declared.run.Run.{Run}
use Rattle.death_model.specs.declared.seen.Seen.{Seen}
use Rattle.death_model.proofs.Lists.{in_either, in_none, within_left, within_right, apart_within}
use Rattle.death_model.proofs.Looks.{keeps_same}

-- the payloads of the three sizes are among all
recorded_among : (start : Region) (past : List Event) → Within (recorded_payloads (region_after start past)) (strings start past)
recorded_among start [] = λ s c. c
recorded_among start (e ∷ past) =
    let r = region_after start (e ∷ past) in
    λ s c. within_left (recorded_payloads r ++ meant_by r past e.what) (strings start past) s (within_left (recorded_payloads r) (meant_by r past e.what) s c)

none : (r : Region) (last : Option ℕ) → [] ≡ meant r last None
none r (Some word) = refl
none r None = refl

meant_is : (r : Region) (past : List Event) (what : What) → meant_by r past what ≡ meant r (last_word past) (plain_checksum what)
meant_is r past (Store Meta zero value Plain) = go (last_word past) refl
  where
    go : (o : Option ℕ) → last_word past ≡ o → meant_by r past (Store Meta zero value Plain) ≡ meant r (last_word past) (Some value)
    go (Some word) e = rw e refl
    go None e = rw e refl
meant_is r past (Store Meta zero value (Commit change)) = none r (last_word past)
meant_is r past (Store Meta (suc word) value mark) = none r (last_word past)
meant_is r past (Store Data word value mark) = none r (last_word past)
meant_is r past (Grow size) = none r (last_word past)
meant_is r past (Lock kind) = none r (last_word past)
meant_is r past Unlock = none r (last_word past)
meant_is r past (Died torn) = none r (last_word past)

-- what is looked at after an event: the three payloads, and those that its checksum is meant for
module _ (old : Run) (e : Event) (now : Region) (step : now ≡ region_step (region_in old.files) e.what) where
  abbrev recorded : List (List ℕ)
  recorded = recorded_payloads now

  abbrev more : List (List ℕ)
  more = meant now old.last_word (plain_checksum e.what)

  module _ (start : Region) (past : List Event) (is : IsAfter old start past) where
    region_now : now ≡ region_after start (e ∷ past)
    region_now = step ∙ ap (λ r. region_step r e.what) is.region_is

    strings_now : strings start (e ∷ past) ≡ (recorded ++ more) ++ strings start past
    strings_now =
        (λ i. (recorded_payloads (sym region_now i) ++ meant_by (sym region_now i) past e.what) ++ strings start past)
        ∙ ap (λ l. (recorded ++ l) ++ strings start past) (meant_is now past e.what ∙ ap (λ w. meant now w (plain_checksum e.what)) (sym is.word_is))

    before : Within (recorded_payloads (region_in old.files)) (strings start past)
    before = subst (λ r. Within (recorded_payloads r) (strings start past)) (sym is.region_is) (recorded_among start past)

    order_to : Within (more ++ (recorded ++ strings start past)) ((recorded ++ more) ++ strings start past)
    order_to =
        in_either more (recorded ++ strings start past) _ (λ s c. within_left (recorded ++ more) (strings start past) s (within_right recorded more s c))
        (in_either recorded (strings start past) _ (λ s c. within_left (recorded ++ more) (strings start past) s (within_left recorded more s c)) (within_right (recorded ++ more) (strings start past)))

    order_from : Within ((recorded ++ more) ++ strings start past) (more ++ (recorded ++ strings start past))
    order_from =
        in_either (recorded ++ more) (strings start past) _ (in_either recorded more _ (λ s c. within_right more (recorded ++ strings start past) s (within_left recorded (strings start past) s c)) (within_left more (recorded ++ strings start past)))
        (λ s c. within_right more (recorded ++ strings start past) s (within_right recorded (strings start past) s c))

  -- all of them were apart
  pub goes_on : (new : Run) (mid : Seen) → region_in new.files ≡ now → new.last_word ≡ word_after e.what old.last_word → Tells (recorded_payloads (region_in old.files)) old.seen mid recorded true → Tells [] mid new.seen more true →
      Follows old new e true
  goes_on new mid files last one two = λ start past is. record {
    region_is = files ∙ region_now start past is;
    word_is = last ∙ ap (word_after e.what) is.word_is;
    keeps =
        subst (Keeps new.seen) (sym (strings_now start past is))
        (keeps_same new.seen (more ++ (recorded ++ strings start past)) ((recorded ++ more) ++ strings start past) (order_to start past is) (order_from start past is)
        (two (recorded ++ strings start past) (λ s c. absurd (in_none s c)) (one (strings start past) (before start past is) is.keeps)));
  }

  -- one of the three wasn't
  pub clashes : (mid : Seen) → Tells (recorded_payloads (region_in old.files)) old.seen mid recorded false → (start : Region) (past : List Event) → IsAfter old start past → Apart start (e ∷ past) → ⊥
  clashes mid one = λ start past is apart.
      one (strings start past) (before start past is) is.keeps
      (apart_within (recorded ++ strings start past) ((recorded ++ more) ++ strings start past) (λ s c. order_to start past is s (within_right more (recorded ++ strings start past) s c)) (subst AreApart (strings_now start past is) apart))

  -- one that the checksum is meant for wasn't
  pub clashes_later : (mid last : Seen) → Tells (recorded_payloads (region_in old.files)) old.seen mid recorded true → Tells [] mid last more false → (start : Region) (past : List Event) → IsAfter old start past → Apart start (e ∷ past) → ⊥
  clashes_later mid last one two = λ start past is apart.
      two (recorded ++ strings start past) (λ s c. absurd (in_none s c)) (one (strings start past) (before start past is) is.keeps)
      (apart_within (more ++ (recorded ++ strings start past)) ((recorded ++ more) ++ strings start past) (order_to start past is) (subst AreApart (strings_now start past is) apart))

-- with what a run begins
pub begins : (run : Run) (seen : Seen) (b : Bool) → run.last_word ≡ None → Keeps seen [] → Tells [] seen run.seen (recorded_payloads (region_in run.files)) b → Begins run (region_in run.files) b
begins run seen true none k t = record { region_is = refl; word_is = none; keeps = keeps_same run.seen (recorded_payloads (region_in run.files) ++ []) (recorded_payloads (region_in run.files)) (in_either (recorded_payloads (region_in run.files)) [] _ (λ s c. c) (λ s c. absurd (in_none s c))) (within_left (recorded_payloads (region_in run.files)) []) (t [] (λ s c. c) k) }
begins run seen false none k t = λ apart. t [] (λ s c. c) k (apart_within (recorded_payloads (region_in run.files) ++ []) (recorded_payloads (region_in run.files)) (in_either (recorded_payloads (region_in run.files)) [] _ (λ s c. c) (λ s c. absurd (in_none s c))) apart)
