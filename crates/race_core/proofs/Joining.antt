-- What a joined pass says of the journals of both.
use Rattle.std.proofs.Common.{◌≡◌, ℕ, Bool, true, false, List, leb, length, sym, subst}
use Rattle.std.specs.Prelude.{if◌then◌else◌}
use Rattle.opener.proofs.Settles.{none_by_others}
use Rattle.region_words.specs.Lawful.{Lawful}
use Rattle.region_words.specs.Region.{Region}
use Rattle.region_words.specs.declared.event.Event.{Event}
use Rattle.step_desk.specs.Numbers.{Answers, GoesOn}
use Rattle.step_desk.specs.Steps.{longer}
use Rattle.step_desk.specs.declared.view.View.{View}
use Rattle.race_core.specs.Worker.{RestsFor}

pub lawful_longer : (start : Region) (xs ys : List Event) → Lawful start xs → Lawful start ys → Lawful start (longer xs ys)
lawful_longer start xs ys first second = go (leb (length xs) (length ys))
  where
    go : (b : Bool) → Lawful start (if b then ys else xs)
    go true = second
    go false = first

-- a journal that goes on from what a pass has seen has no further change of an opener for which the pass answers
pub goes_rests : (start : Region) (v : View) (journal : List Event) → v.about.start ≡ start → Lawful start journal → GoesOn v journal → (n : ℕ) → Answers v n →
    RestsFor n (record { start = v.about.start; past = v.seen }) (record { start = start; past = journal })
goes_rests start v journal same lawful goes n answers =
    record { start = sym same; later = goes.0; past = goes.1; others = none_by_others start goes.0 v.seen n (subst (Lawful start) goes.1 lawful) (goes.2 n answers) }
