-- A pass may go to another thread, and threads may share a desk.
use denote.RattleType.{RattleType}
use denote.Param.Send.{IsSend, IsSync, Frees, part_keyless, sendable}
use Rattle.std.proofs.Crossing.{crosses}
use Rattle.expiring_map.specs.contracts.bytes.Bytes as bytes
use Rattle.expiring_map.specs.contracts.pair.Pairs as pairs
use Rattle.region_words.specs.contracts.event.Event as event
use Rattle.region_words.specs.contracts.failing.Failing as failing
use Rattle.region_words.specs.contracts.region.LocalRegion as region
use Rattle.lock_rules.specs.contracts.table.LockTable as locks
use Rattle.region_words.specs.contracts.account.Account as account
use Rattle.step_desk.specs.contracts.seat.Pass as pass
use Rattle.step_desk.specs.contracts.table.Desk as desk
use Rattle.step_desk.specs.contracts.view.View as view
use Rattle.step_desk.specs.contracts.plays.Beginning as beginning
use Rattle.step_desk.specs.contracts.plays.DeskRule as rule
use Rattle.step_desk.specs.contracts.plays.DeskRuleTableRuleSlotViewBeginning.TheImpl as rules
use Rattle.atomic_table.specs.contracts.shared.Shared as shared
use Rattle.atomic_table.specs.contracts.send_lease.SendLease as lease
use Rattle.atomic_table.proofs.Rights.{right_send}
use Rattle.std.specs.contracts.alloc.Global as heap
use Rattle.std.specs.contracts.impls.GlobalAllocator.TheImpl.{ghosts}
use denote.Struct.Struct.{Struct}
use denote.Struct.Owning.{shape}
use Rattle.std.specs.contracts.option.Option as option
use Rattle.atomic_table.specs.contracts.shared.Seat as token
use Rattle.atomic_table.proofs.Sent.{seat_keyless, shares_keyless}

pub bytes_send : IsSend bytes.the_row
bytes_send = search (sendable, crosses) depth 20

pairs_send : IsSend pairs.the_row
pairs_send = search (sendable, crosses) depth 20

event_sends : IsSend event.the_row
event_sends = search (sendable, crosses, bytes_send, pairs_send) depth 30 fits 30000

failing_sends : IsSend failing.the_row
failing_sends = search (sendable, crosses) depth 20

locks_send : IsSend locks.the_row
locks_send = search (sendable, crosses) depth 20

account_sends : IsSend account.the_row
account_sends = search (sendable, crosses) depth 20

pub region_sends : IsSend region.the_row
region_sends = search (sendable, crosses, event_sends, failing_sends, locks_send, account_sends) depth 20

slot_sends : IsSend (option.the_row region.the_row)
slot_sends = search (sendable, crosses, region_sends) depth 20

token_sends : IsSend (token.the_row (option.the_row region.the_row) view.the_row)
token_sends = record { owned = λ d vs. ((λ vss. (tt, ((λ uss. (tt, tt)), tt))), seat_keyless (option.the_row region.the_row) slot_sends (view.the_row).coded.code d.table_id d.id d.me); leaving = λ k f vs. tt }

pub pass_sends : IsSend pass.the_row
pass_sends = search (sendable, crosses, token_sends) depth 40 fits 100000

shared_syncs : IsSync (shared.the_row (option.the_row region.the_row) view.the_row beginning.the_row rule.the_row rules.ghosts)
shared_syncs = let fields : IsSync (Struct (shape (shared.the_type (option.the_row region.the_row) view.the_row beginning.the_row rule.the_row rules.ghosts))) = search sendable depth 20 in
    record { shared = λ d b o ν. (fields.shared (d.words, (d.slots, (tt, tt))) b o ν, shares_keyless (option.the_row region.the_row) slot_sends (view.the_row).coded.code d.table_id (rules.ghosts.holds d.key) d.words d.slots ν) }

freed : Frees {D = (heap.the_row).Denot} ghosts ghosts.dealloc_token
freed = search (sendable, crosses) depth 20

lease_syncs : (T : RattleType) → IsSync (lease.the_row T heap.the_row ghosts)
lease_syncs T = record { shared = λ d b o ν q. part_keyless (lease.the_row T heap.the_row ghosts) (right_send T heap.the_row ghosts freed) q d b o }

pub desk_syncs : IsSync desk.the_row
desk_syncs = search (sendable, crosses, shared_syncs, lease_syncs) depth 40 fits 100000
