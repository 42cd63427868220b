-- What was played is lawful, and its answers are one legal history.
use Rattle.std.proofs.Common.{List}
use Rattle.region_words.specs.Region.{Region}
use Rattle.region_words.specs.Lawful.{Lawful}
use Rattle.world.specs.World.{IsSound}
use Rattle.mmkv_top.specs.State.{PlayState}
use Rattle.script_lang.specs.Parts.{Part, past_of, outcomes_of, answers_in}
use Rattle.script_lang.specs.Played.{Stock}
use Rattle.script_lang.specs.Journal.{IsJournal}
use Rattle.mmkv_top.specs.Progress.{IsAt}
use Rattle.mmkv_top.proofs.Histories.{told}

-- the parts that were played are a lawful journal, in which the answers stand
pub journal_of : (stock left : Stock) (start : Region) (parts : List Part) (p : PlayState) → IsSound p.world → IsAt stock left start parts p → IsJournal stock start parts
journal_of stock left start parts p sound at =
    record {
      each = at.each;
      playable = at.playable;
      held = at.held;
      lawful = told (λ r past answers. Lawful r past) p.world start (past_of parts) (answers_in (outcomes_of parts)) at.start_is at.past at.answers sound.lawful;
      in_time = at.in_time;
      reasoned = at.reasoned;
      torn = at.torn;
      roomy = at.roomy;
      answers = at.answered;
      histories = at.histories;
      shown = at.shown;
      by_words = at.by_words;
    }
