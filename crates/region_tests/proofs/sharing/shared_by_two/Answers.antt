use Rattle.std.proofs.Common.{rules, ◌≡◌, []}
use Rattle.region_tests.proofs.Sharers.{one_shares, two_share, is_free, free_at_first, free_beside_one, free_beside_two}
use Rattle.region_tests.proofs.sharing.shared_by_two.Goals as goal

pub shared-requires-clause-free : goal.shared-requires-clause-free
shared-requires-clause-free c = is_free c.in_ok-seat.seat [] 2 c.in_ok-seat.ensures.past c.in_ok-seat.ensures.maker free_at_first

pub shared-requires-2-clause-free : goal.shared-requires-2-clause-free
shared-requires-2-clause-free c =
    let past : c.turn_to.new.self.region.past ≡ one_shares = search rules in
    let who : c.turn_to.new.self.who ≡ 1 = search rules in
    is_free c.turn_to.new.self one_shares 1 past who free_beside_one

pub returns-clause-free : goal.returns-clause-free
returns-clause-free c =
    let past : c.turn_to-2.new.self.region.past ≡ two_share = search rules in
    let who : c.turn_to-2.new.self.who ≡ 3 = search rules in
    is_free c.turn_to-2.new.self two_share 3 past who free_beside_two
