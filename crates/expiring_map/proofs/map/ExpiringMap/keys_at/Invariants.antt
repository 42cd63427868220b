use Rattle.std.proofs.Common.{◌≡◌, ◌++◌}
use Rattle.expiring_map.proofs.Moments.{live_keys}
use Rattle.expiring_map.proofs.map.ExpiringMap.keys_at.Given as goal

abbrev pub invariant-loop-key : goal.invariant-loop-key
invariant-loop-key l = l.keys.items ++ live_keys l.now l.key-iterator ≡ live_keys l.now l.self-inside.kept.entries
