-- The reasons for which a write isn't made.
use Rattle.std.proofs.Common.{ℕ, ◌+◌, ◌^◌, Bool, true, false, cond, List, length, sym, inl, inr, subst}
use Rattle.std.specs.Prelude.{Option, Some, None, Ok, Err, option_map, is_some, not, nat_lt, ◌==◌, ⊤}
use Rattle.std.specs.FinMap as fin
use Rattle.expiring_map.specs.Map.{Map}
use Rattle.expiring_map.specs.Live.{live_part}
use Rattle.kv_pairs.specs.Mapped.{packed_size}
use Rattle.kv_pairs.specs.Growth.{rewrite_size}
use Rattle.change_log.specs.declared.call.Call.{Call}
use Rattle.change_log.specs.declared.call.Call.TheVariants as call
use Rattle.change_log.specs.declared.change.Act.TheVariants as act
use Rattle.region_words.specs.Rows.{item_of}
use Rattle.region_words.specs.declared.standing.Standing.{Standing}
use Rattle.write_back.specs.Rewrites.{file_for}
use Rattle.expiry_switch.specs.Switches.{enable_refusal, disable_refusal}
use Rattle.expiry_switch.specs.declared.switching.SwitchStop.{SwitchStop}
use Rattle.expiry_switch.specs.declared.switching.SwitchStop.TheVariants as switch
use Rattle.opener.specs.Plans.{IsStop, stop_of_switch, rewrite_refusal, item_refusal, put_refusal, refusal_of, expiry_of, fits_behind}
use Rattle.opener.specs.declared.calls.Stop.{Stop}
use Rattle.opener.specs.declared.calls.Stop.TheVariants as why

-- the stops of a write that isn't made
abbrev pub IsOfWrite : Stop → Type 0
IsOfWrite why.Memory = ⊤
IsOfWrite (why.Full need) = ⊤
IsOfWrite why.SequenceEnd = ⊤
IsOfWrite why.ExpiryOff = ⊤
IsOfWrite why.ExpiryRange = ⊤
IsOfWrite why.AlreadyOn = ⊤
IsOfWrite why.AlreadyOff = ⊤
IsOfWrite _ = ⊥

abbrev OnReason : Option Stop → Type 0
OnReason None = ⊤
OnReason (Some stop) = IsOfWrite stop

rewrite_reason : (s : Standing) (m : Map) (need : ℕ) → OnReason (rewrite_refusal s m need)
rewrite_reason s m need = go (not (is_some (file_for s m need))) (s.sequence == 4294967295)
  where
    go : (b c : Bool) → OnReason (cond b (Some (why.Full (rewrite_size (packed_size s.flag m) need))) (cond c (Some why.SequenceEnd) None))
    go true c = tt
    go false true = tt
    go false false = tt

item_reason : (s : Standing) (m : Map) (now need : ℕ) → OnReason (item_refusal s m now need)
item_reason s m now need = go (fits_behind s need)
  where
    go : (b : Bool) → OnReason (cond b None (rewrite_refusal s (live_part m now) need))
    go true = tt
    go false = rewrite_reason s (live_part m now) need

put_reason : (key value : List ℕ) (seconds now : ℕ) (s : Standing) (m : Map) → OnReason (put_refusal key value now s m (expiry_of s.flag now seconds))
put_reason key value seconds now s m = go (seconds == 0) (not s.flag) (nat_lt (now + seconds) (2 ^ 32))
  where
    go : (b c d : Bool) → OnReason (put_refusal key value now s m (cond b (Ok 0) (cond c (Err why.ExpiryOff) (cond d (Ok (now + seconds)) (Err why.ExpiryRange)))))
    go true c d = item_reason s m now (length (item_of s.flag (act.Put key value 0)))
    go false true d = tt
    go false false true = item_reason s m now (length (item_of s.flag (act.Put key value (now + seconds))))
    go false false false = tt

switch_reason : (why : Option SwitchStop) → OnReason (option_map stop_of_switch why)
switch_reason None = tt
switch_reason (Some switch.AlreadyOn) = tt
switch_reason (Some switch.AlreadyOff) = tt
switch_reason (Some switch.ExpiryRange) = tt
switch_reason (Some (switch.Full need)) = tt
switch_reason (Some switch.SequenceEnd) = tt
switch_reason (Some switch.Memory) = tt

reason : (asked : Call) (now : ℕ) (s : Standing) (m : Map) → OnReason (refusal_of asked now s m)
reason (call.Put key value seconds) now s m = put_reason key value seconds now s m
reason (call.Remove key) now s m = item_reason s m now (length (item_of s.flag (act.Remove key)))
reason call.Clear now s m = rewrite_reason s fin.empty 0
reason (call.Get key) now s m = tt
reason call.Keys now s m = tt
reason call.Count now s m = tt
reason (call.Enable seconds) now s m = switch_reason (enable_refusal s m now seconds)
reason call.Disable now s m = switch_reason (disable_refusal s m now)
reason call.Hold now s m = tt
reason call.Release now s m = tt
reason call.Sync now s m = tt

-- a write that isn't planned stops so
pub stop_of_write : (asked : Call) (now : ℕ) (s : Standing) (m : Map) (stop : Stop) → IsStop (refusal_of asked now s m) stop → IsOfWrite stop
stop_of_write asked now s m stop (inl e) = subst IsOfWrite (sym e) tt
stop_of_write asked now s m stop (inr e) = subst OnReason e (reason asked now s m)
