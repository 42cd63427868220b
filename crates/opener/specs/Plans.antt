-- What a write is to store where an image stands, and why it isn't made.
use Rattle.std.specs.Prelude.{◌≡◌, ◌⊎◌, ℕ, ◌+◌, ◌^◌, ◌<◌, ◌≤◌, Bool, true, false, List, Result, Ok, Err, Option, Some, None, length, not, is_some, option_map, nat_lt, nat_le, ◌==◌, ◌&&◌, if◌then◌else◌, ⊤}
use Rattle.std.specs.FinMap as fin
use Rattle.expiring_map.specs.Map.{Map}
use Rattle.expiring_map.specs.Live.{live_part}
use Rattle.kv_pairs.specs.Mapped.{packed_size}
use Rattle.kv_pairs.specs.declared.packed.TheConstants.{LONGEST_FIELD}
use Rattle.kv_pairs.specs.Growth.{rewrite_size}
use Rattle.change_log.specs.Acts.{act_of, applied}
use Rattle.change_log.specs.declared.call.Call.{Call}
use Rattle.change_log.specs.declared.call.Call.TheVariants as call
use Rattle.change_log.specs.declared.change.Act.TheVariants as act
use Rattle.change_log.specs.declared.change.Change.{Change}
use Rattle.region_words.specs.Rows.{item_of, IsKey, AreBytes}
use Rattle.region_words.specs.Making.{Making}
use Rattle.region_words.specs.declared.standing.Standing.{Standing}
use Rattle.loader.specs.Maps.{map_of_image}
use Rattle.loader.specs.declared.loaded.Image.{Image}
use Rattle.appender.specs.Appends.{CanAppend, appending}
use Rattle.write_back.specs.Rewrites.{CanBegin, file_for, rewriting}
use Rattle.write_back.specs.declared.rewriting.RewriteStop.{RewriteStop}
use Rattle.write_back.specs.declared.rewriting.RewriteStop.TheVariants as rewrite
use Rattle.expiry_switch.specs.Switches.{disabling, disable_refusal, enabling, enable_refusal}
use Rattle.expiry_switch.specs.declared.switching.SwitchStop.{SwitchStop}
use Rattle.expiry_switch.specs.declared.switching.SwitchStop.TheVariants as switch
use Rattle.opener.specs.declared.calls.Stop.{Stop}
use Rattle.opener.specs.declared.calls.Stop.TheVariants as why
use Rattle.opener.specs.declared.plan.Plan.{Plan}
use Rattle.opener.specs.declared.plan.Plan.TheVariants.{Append, Rewrite}

-- a call that changes the map, with a key and a value that a store can hold
abbrev pub CanWrite : Call → Type 0
CanWrite (call.Put key value seconds) = IsKey key × (0 < length value) × (length value ≤ LONGEST_FIELD) × AreBytes value
CanWrite (call.Remove key) = IsKey key
CanWrite call.Clear = ⊤
CanWrite (call.Enable seconds) = ⊤
CanWrite call.Disable = ⊤
CanWrite _ = ⊥

-- the second at which a pair expires that is put now, or why it isn't put
abbrev pub expiry_of : Bool → ℕ → ℕ → Result ℕ Stop
expiry_of flag now seconds =
    if seconds == 0 then Ok 0
    else (if not flag then Err why.ExpiryOff
    else (if nat_lt (now + seconds) (2 ^ 32) then Ok (now + seconds) else Err why.ExpiryRange))

-- so many bytes fit the file behind a payload that isn't empty
abbrev pub fits_behind : Standing → ℕ → Bool
fits_behind s need = nat_lt 0 s.size && nat_le (4 + s.size + need) s.file_size

-- the stop of a write whose map isn't written anew
abbrev pub stop_of : RewriteStop → Stop
stop_of (rewrite.Full need) = why.Full need
stop_of rewrite.SequenceEnd = why.SequenceEnd
stop_of rewrite.Memory = why.Memory

-- the stop of a switch that isn't made
abbrev pub stop_of_switch : SwitchStop → Stop
stop_of_switch switch.AlreadyOn = why.AlreadyOn
stop_of_switch switch.AlreadyOff = why.AlreadyOff
stop_of_switch switch.ExpiryRange = why.ExpiryRange
stop_of_switch (switch.Full need) = why.Full need
stop_of_switch switch.SequenceEnd = why.SequenceEnd
stop_of_switch switch.Memory = why.Memory

-- why a map isn't written anew, with room for so many bytes
abbrev pub rewrite_refusal : Standing → Map → ℕ → Option Stop
rewrite_refusal s m need =
    if not (is_some (file_for s m need)) then Some (why.Full (rewrite_size (packed_size s.flag m) need))
    else (if s.sequence == 4294967295 then Some why.SequenceEnd else None)

-- why an item isn't appended: only where the live pairs can't be written anew before it
abbrev pub item_refusal : Standing → Map → ℕ → ℕ → Option Stop
item_refusal s m now need = if fits_behind s need then None else rewrite_refusal s (live_part m now) need

-- why a pair isn't put: because of its expiry, else of its item
abbrev pub put_refusal : List ℕ → List ℕ → ℕ → Standing → Map → Result ℕ Stop → Option Stop
put_refusal key value now s m (Err stop) = Some stop
put_refusal key value now s m (Ok expiry) = item_refusal s m now (length (item_of s.flag (act.Put key value expiry)))

-- the first reason for which a write isn't made at a moment, where this image stands
abbrev pub refusal_of : Call → ℕ → Standing → Map → Option Stop
refusal_of (call.Put key value seconds) now s m = put_refusal key value now s m (expiry_of s.flag now seconds)
refusal_of (call.Remove key) now s m = item_refusal s m now (length (item_of s.flag (act.Remove key)))
refusal_of call.Clear now s m = rewrite_refusal s fin.empty 0
refusal_of (call.Enable seconds) now s m = option_map stop_of_switch (enable_refusal s m now seconds)
refusal_of call.Disable now s m = option_map stop_of_switch (disable_refusal s m now)
refusal_of _ now s m = None

-- the change's item is appended
pub record IsAppendPlan (change : Change) (i : Image) (plan : Plan) : Type 0 where
  pub fits : fits_behind i.standing (length (item_of i.standing.flag change.act)) ≡ true
  pub can : CanAppend i.standing change
  pub is : plan ≡ Append (appending i.standing change) (applied (map_of_image i) change.act)

-- the live pairs anew, with room for the change's item
abbrev pub packing : Change → ℕ → Image → Making
packing change now i =
    rewriting i.standing (live_part (map_of_image i) now) (record { maker = change.maker; act = act.Pack now }) (length (item_of i.standing.flag change.act))

-- the live pairs are written anew, and then the change's item is appended
pub record IsRoomPlan (change : Change) (now : ℕ) (i : Image) (plan : Plan) : Type 0 where
  pub short : fits_behind i.standing (length (item_of i.standing.flag change.act)) ≡ false
  pub begun : CanBegin i.standing (live_part (map_of_image i) now) (length (item_of i.standing.flag change.act))
  pub can : CanAppend (packing change now i).standing change
  pub is : plan ≡ Rewrite (packing change now i) (Some (appending (packing change now i).standing change)) (applied (live_part (map_of_image i) now) change.act)

abbrev pub IsItemPlan : Change → ℕ → Image → Plan → Type 0
IsItemPlan change now i plan = IsAppendPlan change i plan ⊎ IsRoomPlan change now i plan

-- an empty map is written
pub record IsClearPlan (who : ℕ) (s : Standing) (plan : Plan) : Type 0 where
  pub begun : CanBegin s fin.empty 0
  pub is : plan ≡ Rewrite (rewriting s fin.empty (record { maker = who; act = act.Clear }) 0) None fin.empty

-- the expiry is switched, on or off
pub record IsEnablePlan (who now seconds : ℕ) (i : Image) (plan : Plan) : Type 0 where
  pub begun : enable_refusal i.standing (map_of_image i) now seconds ≡ None
  pub is : plan ≡ Rewrite (enabling i.standing (map_of_image i) who now seconds) None (applied (map_of_image i) (act.Enable now seconds))

pub record IsDisablePlan (who now : ℕ) (i : Image) (plan : Plan) : Type 0 where
  pub begun : disable_refusal i.standing (map_of_image i) now ≡ None
  pub is : plan ≡ Rewrite (disabling i.standing (map_of_image i) who now) None (applied (map_of_image i) (act.Disable now))

-- what a call of this opener stores at a moment, where this image stands
abbrev pub IsPlanOf : ℕ → Call → ℕ → Image → Plan → Type 0
IsPlanOf who call.Clear now i plan = IsClearPlan who i.standing plan
IsPlanOf who (call.Enable seconds) now i plan = IsEnablePlan who now seconds i plan
IsPlanOf who call.Disable now i plan = IsDisablePlan who now i plan
IsPlanOf who asked now i plan = (change : Change) × (act_of asked now ≡ Some change.act) × (change.maker ≡ who) × IsItemPlan change now i plan

-- memory is short, or this is the reason
abbrev pub IsStop : Option Stop → Stop → Type 0
IsStop reason stop = (stop ≡ why.Memory) ⊎ (reason ≡ Some stop)

abbrev pub IsNoRoomPlan : Change → ℕ → Image → Stop → Type 0
IsNoRoomPlan change now i stop = IsStop (rewrite_refusal i.standing (live_part (map_of_image i) now) (length (item_of i.standing.flag change.act))) stop

abbrev pub IsNoItemPlan : Change → ℕ → Image → Stop → Type 0
IsNoItemPlan change now i stop = IsStop (item_refusal i.standing (map_of_image i) now (length (item_of i.standing.flag change.act))) stop

abbrev pub IsNoClearPlan : Standing → Stop → Type 0
IsNoClearPlan s stop = IsStop (rewrite_refusal s fin.empty 0) stop

abbrev pub IsNoEnablePlan : (now seconds : ℕ) → Image → Stop → Type 0
IsNoEnablePlan now seconds i stop = IsStop (option_map stop_of_switch (enable_refusal i.standing (map_of_image i) now seconds)) stop

abbrev pub IsNoDisablePlan : (now : ℕ) → Image → Stop → Type 0
IsNoDisablePlan now i stop = IsStop (option_map stop_of_switch (disable_refusal i.standing (map_of_image i) now)) stop

abbrev pub IsNotPlanned : Call → ℕ → Image → Stop → Type 0
IsNotPlanned asked now i stop = IsStop (refusal_of asked now i.standing (map_of_image i)) stop

-- the events of a row that follows
abbrev pub events_then : Option Making → ℕ
events_then None = 0
events_then (Some k) = length k.events

-- how many events are to come
abbrev pub events_in : Plan → ℕ
events_in (Append k map) = length k.events
events_in (Rewrite k next map) = length k.events + events_then next

-- the size to which they grow the file, 0 where they don't
abbrev pub room_in : Plan → ℕ
room_in (Append k map) = 0
room_in (Rewrite k next map) = k.room
