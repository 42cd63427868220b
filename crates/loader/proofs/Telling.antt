-- What was loaded so far, as a share tells it.
use Rattle.std.proofs.Common.{◌≡◌, ◌≢◌, ℕ, [], refl, sym, subst, ◌<◌}
use Rattle.std.specs.Prelude.{None}
use Rattle.region_words.specs.Region.{Region, IsRegion, file_size}
use Rattle.region_words.specs.Past.{region_after}
use Rattle.region_words.specs.Told.{OnTold}
use Rattle.region_words.specs.Share.{ShareState, Left, After, Agrees, IsSound, Goes, Grows, loaded}
use Rattle.region_words.proofs.Regions.{lawful_region}
use Rattle.region_words.proofs.Telling.{told_map, told_and, told_step, held_steady}
use Rattle.loader.specs.FirstWords.{size_in}
use Rattle.loader.proofs.Answered.{size-is}
use Rattle.loader.specs.Loads.{Load, HasLoaded, StopsLoading, Refuses, IsRefusedFor, next_answer}
use Rattle.loader.specs.declared.stops.LoadStop.{LoadStop}
use Rattle.loader.specs.declared.stops.LoadStop.TheVariants.{Share, Record, Memory}

-- this is told of the region
abbrev pub IsTold : ShareState → (Region → Type 0) → Type 0
IsTold s Q = OnTold s.told (λ h. Q (region_after h.start h.past))

-- While a lock is held, what is told of the region stays so over a call that makes no event.
pub told_still : (Q : Region → Type 0) (left : Left) (s t : ShareState) → IsSound s → After left s t → left.own ≡ [] → s.holds ≢ None → IsTold s Q → IsTold t Q
told_still Q left s t sound after none holds told =
    let before : OnTold s.told (λ h. Agrees s h × Q (region_after h.start h.past)) =
    told_and s.told (Agrees s) (λ h. Q (region_after h.start h.past)) _ (λ h a q. (a, q)) sound.told told in
    told_step s.told t.told (λ h. Agrees s h × Q (region_after h.start h.past)) (Agrees t) (λ h. Q (region_after h.start h.past)) (Grows s.who s.alone left.own)
    (λ h k b g a. subst Q (sym (held_steady s t h k b.0 a (subst (λ own. Grows s.who s.alone own h k) none g) holds).0) b.1)
    before after.told after.sound.told

-- What was loaded so far stays so while its opener holds a lock, over another's events, a load, and a call that wasn't its turn.
pub loaded_still : (l : Load) (left : Left) (s t : ShareState) → IsSound s → After left s t → left.own ≡ [] → s.holds ≢ None →
    IsTold s (HasLoaded l) → IsTold t (HasLoaded l)
loaded_still l = told_still (HasLoaded l)

-- what follows from the load so far and from the answer
pub told_after : (Q : Region → Type 0) (l : Load) (value : ℕ) (s t : ShareState) → IsSound s → Goes (loaded s) s t → s.holds ≢ None →
    IsTold s (HasLoaded l) → IsTold t (λ r. value ≡ next_answer l r) → ((r : Region) → IsRegion r → HasLoaded l r → value ≡ next_answer l r → Q r) → IsTold t Q
told_after Q l value s t sound goes holds so_far answer follows =
    let still = loaded_still l (loaded s) s t sound goes.after refl holds so_far in
    let region : IsTold t IsRegion = told_map t.told (Agrees t) (λ h. IsRegion (region_after h.start h.past)) (λ h a. lawful_region h.start h.past a.lawful a.region) goes.after.sound.told in
    let both : IsTold t (λ r. IsRegion r × HasLoaded l r) = told_and t.told _ _ _ (λ h p q. (p, q)) region still in
    told_and t.told _ _ _ (λ h p q. follows (region_after h.start h.past) p.0 p.1 q) both answer

-- why an answer was not taken in is why the step was not made
pub stops : (stop : LoadStop) (l : Load) (value : ℕ) (s t : ShareState) → IsSound s → Goes (loaded s) s t → s.holds ≢ None →
    IsTold s (HasLoaded l) → IsTold t (λ r. value ≡ next_answer l r) → Refuses stop l value → StopsLoading stop s t
stops (Share stop) l value s t sound goes holds so_far answer refuses = absurd refuses
stops (Record fault) l value s t sound goes holds so_far answer refuses =
    (goes, told_after (IsRefusedFor fault) l value s t sound goes holds so_far answer (λ r region has is. refuses r has is))
stops Memory l value s t sound goes holds so_far answer refuses = goes

-- the size that was answered is that of the data file
pub size_told : (l : Load) (t : ShareState) → 0 < l.first.made → IsTold t (HasLoaded l) → IsTold t (λ r. size_in l.first ≡ file_size r)
size_told l t begun told =
    told_map t.told (λ h. HasLoaded l (region_after h.start h.past)) _ (λ h has. size-is l.first (region_after h.start h.past) has.first begun) told
