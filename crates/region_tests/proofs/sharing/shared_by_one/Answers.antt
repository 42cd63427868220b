use Rattle.std.proofs.Common.{rules, ◌≡◌, true, refl}
use Rattle.region_words.specs.Local.{account_of}
use Rattle.region_tests.proofs.Sharers.{one_left, is_free, is_alive, free_after_death}
use Rattle.region_tests.proofs.sharing.shared_by_one.Goals as goal

pub returns-clause-alive : goal.returns-clause-alive
returns-clause-alive c =
    let past : c.turn_to-2.new.self.region.past ≡ one_left = search rules in
    let who : c.turn_to-2.new.self.who ≡ 3 = search rules in
    let admitted : (account_of c.turn_to-2.new.self.region.accounts 3).admitted ≡ true = search rules in
    is_alive c.turn_to-2.new.self one_left 3 past who admitted refl

pub returns-clause-free : goal.returns-clause-free
returns-clause-free c =
    let past : c.turn_to-2.new.self.region.past ≡ one_left = search rules in
    let who : c.turn_to-2.new.self.who ≡ 3 = search rules in
    is_free c.turn_to-2.new.self one_left 3 past who free_after_death
