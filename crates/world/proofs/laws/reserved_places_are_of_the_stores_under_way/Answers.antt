use Rattle.world.proofs.Owed.{left_is_reserved, stores_are_planned}
use Rattle.world.proofs.laws.reserved_places_are_of_the_stores_under_way.Goals as goal

pub returns-clause-left : goal.returns-clause-left
returns-clause-left c = left_is_reserved

pub returns-clause-planned : goal.returns-clause-planned
returns-clause-planned c = stores_are_planned
