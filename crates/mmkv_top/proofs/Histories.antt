-- What a world answered so far, as the lines that were played tell it.
use Rattle.std.proofs.Common.{◌≡◌, List, subst}
use Rattle.change_log.specs.History.{Legal}
use Rattle.change_log.specs.declared.call.Answer.{Answer}
use Rattle.region_words.specs.Apart.{Apart}
use Rattle.region_words.specs.Lawful.{Lawful}
use Rattle.region_words.specs.Past.{changes_of}
use Rattle.region_words.specs.Region.{IsAccepted, IsRegion, Region, base}
use Rattle.region_words.specs.declared.event.Event.{Event}
use Rattle.region_words.proofs.MainLaw.{main_law}
use Rattle.world.specs.World.{IsSound, WorldState}
use Rattle.world.proofs.Together.{world_is_legal}
use Rattle.script_lang.specs.Parts.{Part, past_of, outcomes_of, answers_in}
use Rattle.script_lang.specs.Journal.{IsHistory, ShowsAtRest}

-- what holds of the world holds of the start, the events and the answers that are its own
pub told : (P : Region → List Event → List Answer → Type 0) (w : WorldState) (start : Region) (past : List Event) (answers : List Answer) → w.region.start ≡ start → w.region.past ≡ past → w.answers ≡ answers →
    P w.region.start w.region.past w.answers → P start past answers
told P w start past answers s p a h = subst (λ x. P x past answers) s (subst (λ x. P w.region.start x answers) p (subst (λ x. P w.region.start w.region.past x) a h))

-- after the lines that are played, changes and answers are one legal history
pub history_of : (start : Region) (parts : List Part) (w : WorldState) → IsSound w → w.region.start ≡ start → w.region.past ≡ past_of parts → w.answers ≡ answers_in (outcomes_of parts) →
    IsHistory start parts
history_of start parts w sound start_is past answers accepted apart =
    told (λ r past answers. Apart r past → Legal (base r) (changes_of past) answers) w start (past_of parts) (answers_in (outcomes_of parts)) start_is past answers
    (λ tells. world_is_legal w.region w.openers w.answers sound tells) apart

-- and the region shows it at rest
pub shown_of : (start : Region) (parts : List Part) (w : WorldState) → IsRegion start → IsSound w → w.region.start ≡ start → w.region.past ≡ past_of parts → w.answers ≡ answers_in (outcomes_of parts) →
    ShowsAtRest start parts
shown_of start parts w region sound start_is past answers =
    main_law start (past_of parts) region
    (told (λ r past answers. IsAccepted r) w start (past_of parts) (answers_in (outcomes_of parts)) start_is past answers sound.accepted)
    (told (λ r past answers. Lawful r past) w start (past_of parts) (answers_in (outcomes_of parts)) start_is past answers sound.lawful)
