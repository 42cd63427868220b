use Rattle.std.specs.Prelude.{ℕ, ◌+◌, ◌^◌, ◌<◌, ◌≢◌, Bool, true, false, List, [], Option, Some, None, fold, All, ⊤, ◌==◌, if◌then◌else◌}
use Rattle.std.specs.FinMap as fin
use Rattle.expiring_map.specs.Map.{Map, HasContent, value_until, map_of_pairs}
use Rattle.expiring_map.specs.Live.{live_part, with_expiry}
use Rattle.change_log.specs.declared.change.Act.{Act}
use Rattle.change_log.specs.declared.change.Act.TheVariants as act
use Rattle.change_log.specs.declared.change.Change.{Change}
use Rattle.change_log.specs.declared.call.Call.{Call}
use Rattle.change_log.specs.declared.call.Call.TheVariants as call

-- the second at which a pair expires that is written at this moment for so many seconds, 0 for ever
abbrev pub expiry_after : ℕ → ℕ → ℕ
expiry_after now seconds = if seconds == 0 then 0 else now + seconds

-- the map after a change
abbrev pub applied : Map → Act → Map
applied m (act.Put key value expiry) = fin.insert m key (value_until value expiry)
applied m (act.Remove key) = fin.remove m key
applied m act.Clear = fin.empty
applied m (act.Pack now) = live_part m now
applied m (act.Enable now seconds) = with_expiry (expiry_after now seconds) m
applied m (act.Disable now) = with_expiry 0 (live_part m now)
applied m (act.Restored pairs) = map_of_pairs pairs
applied m act.Discarded = fin.empty
applied m (act.Recovered pairs) = map_of_pairs pairs

-- the map after these changes, the first of them first
abbrev pub replay : Map → List Change → Map
replay m changes = fold (λ m c. applied m c.act) m changes

-- the change that a call makes at a moment, where it makes one
abbrev pub act_of : Call → ℕ → Option Act
act_of (call.Put key value seconds) now = Some (act.Put key value (expiry_after now seconds))
act_of (call.Remove key) now = Some (act.Remove key)
act_of call.Clear now = Some act.Clear
act_of (call.Enable seconds) now = Some (act.Enable now seconds)
act_of call.Disable now = Some (act.Disable now)
act_of _ now = None

-- a change that belongs to a call
abbrev pub is_of_call : Act → Bool
is_of_call (act.Put key value expiry) = true
is_of_call (act.Remove key) = true
is_of_call act.Clear = true
is_of_call (act.Enable now seconds) = true
is_of_call (act.Disable now) = true
is_of_call _ = false

-- a change that adds an item to the payload
abbrev pub is_append : Act → Bool
is_append (act.Put key value expiry) = true
is_append (act.Remove key) = true
is_append _ = false

-- the change writes no empty key and no empty value, and no second past 32 bits
abbrev pub IsSound : Act → Type 0
IsSound (act.Put key value expiry) = (key ≢ []) × (value ≢ [])
IsSound (act.Enable now seconds) = now + seconds < 2 ^ 32
IsSound (act.Restored pairs) = All HasContent pairs
IsSound (act.Recovered pairs) = All HasContent pairs
IsSound _ = ⊤

abbrev pub AreSound : List Change → Type 0
AreSound changes = All (λ c. IsSound c.act) changes
