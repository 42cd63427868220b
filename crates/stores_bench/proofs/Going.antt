-- Events are left after a store that says so.
use Rattle.std.proofs.Common.{◌≡◌, ◌≢◌, List, [], sym, ap, ◌∙◌}
use Rattle.region_words.specs.Making.{stored_of}
use Rattle.region_words.specs.declared.event.What.{What}
use Rattle.region_words.specs.declared.next.Stored.{Stored}
use Rattle.region_words.specs.declared.next.Stored.TheVariants.{More, Done}

pub some_left : (events : List What) (stored : Stored) → stored ≡ stored_of events → stored ≡ More → events ≢ []
some_left events stored is more none = let both : More ≡ Done = sym more ∙ is ∙ ap stored_of none in absurd cc
