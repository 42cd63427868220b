-- The events of a switch of the expiry, from what is known of the image, and why it isn't made.
use Rattle.std.specs.Prelude.{◌≡◌, ◌⊎◌, ℕ, ◌+◌, ◌^◌, Bool, true, false, Option, Some, None, unwrap_or, is_some, not, nat_lt, if◌then◌else◌}
use Rattle.expiring_map.specs.Map.{Map}
use Rattle.kv_pairs.specs.Mapped.{packed, packed_size}
use Rattle.kv_pairs.specs.Fits.{FitsIn}
use Rattle.kv_pairs.specs.Growth.{largest, rewrite_size, IsFileSize}
use Rattle.change_log.specs.Acts.{applied}
use Rattle.change_log.specs.declared.change.Act.{Act}
use Rattle.change_log.specs.declared.change.Act.TheVariants as act
use Rattle.change_log.specs.declared.change.Change.{Change}
use Rattle.region_words.specs.Rows.{switch_stores}
use Rattle.region_words.specs.Making.{Making, rewritten_standing, size_by}
use Rattle.region_words.specs.declared.standing.Standing.{Standing}
use Rattle.region_words.specs.declared.event.Mark.TheVariants.{Commit}
use Rattle.expiry_switch.specs.declared.switching.SwitchStop.{SwitchStop}
use Rattle.expiry_switch.specs.declared.switching.SwitchStop.TheVariants as why

-- the map can stand in a data file of a store
pub record CanSwitch (s : Standing) (m : Map) : Type 0 where
  pub file : IsFileSize s.file_size
  pub map : FitsIn s.flag m largest

-- bit 0 of the flags says whether pairs expire
abbrev pub flags_of : Bool → ℕ
flags_of flag = if flag then 1 else 0

-- the size to which the file grows, 0 where it doesn't
abbrev pub room_for : Standing → Option ℕ → ℕ
room_for s size = let wanted = unwrap_or size 0 in if nat_lt s.file_size wanted then wanted else 0

-- the map m that a change leaves, written under this flag in a file of this size; nothing of it is made yet
abbrev pub switching_to : Standing → Bool → Option ℕ → Map → Change → Making
switching_to s flag size m change =
    let new = packed flag m in
    record {
      events = switch_stores s size (flags_of flag) new (Commit change);
      room = room_for s size;
      standing = rewritten_standing s 4 flag size new;
    }

abbrev pub switching : Standing → Bool → Map → Change → Making
switching s flag m change = switching_to s flag (size_by s flag m 0) m change

-- the switch that this act of an opener makes, where the map m stands
abbrev pub switching_by : Standing → Bool → Map → ℕ → Act → Making
switching_by s flag m who a = switching s flag (applied m a) (record { maker = who; act = a })

abbrev pub enabling : Standing → Map → ℕ → (now seconds : ℕ) → Making
enabling s m who now seconds = switching_by s true m who (act.Enable now seconds)

abbrev pub disabling : Standing → Map → ℕ → (now : ℕ) → Making
disabling s m who now = switching_by s false m who (act.Disable now)

-- why a map isn't written under this flag: the greatest file is too small, else the sequence is at its end
abbrev pub pack_refusal : Standing → Bool → Map → Option SwitchStop
pack_refusal s flag m =
    if not (is_some (size_by s flag m 0)) then Some (why.Full (rewrite_size (packed_size flag m) 0))
    else (if not (nat_lt s.sequence 0xffffffff) then Some why.SequenceEnd else None)

-- the first reason for which the expiry isn't switched on, or off, where the map m stands
abbrev pub enable_refusal : Standing → Map → (now seconds : ℕ) → Option SwitchStop
enable_refusal s m now seconds =
    if s.flag then Some why.AlreadyOn
    else (if not (nat_lt (now + seconds) (2 ^ 32)) then Some why.ExpiryRange
    else pack_refusal s true (applied m (act.Enable now seconds)))

abbrev pub disable_refusal : Standing → Map → (now : ℕ) → Option SwitchStop
disable_refusal s m now = if not s.flag then Some why.AlreadyOff else pack_refusal s false (applied m (act.Disable now))

-- this is the reason, or there is none and memory is short
abbrev pub IsStop : Option SwitchStop → SwitchStop → Type 0
IsStop reason stop = (reason ≡ Some stop) ⊎ ((reason ≡ None) × (stop ≡ why.Memory))
