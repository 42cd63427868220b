-- What a call counts.
use Rattle.std.specs.Prelude.{ℕ, ◌+◌, min}
use Rattle.region_words.specs.declared.next.Next.{Next}
use Rattle.region_words.specs.declared.next.Next.TheVariants as next
use Rattle.opener.specs.declared.work.Running.{Running}

-- a count is 32 bits
abbrev pub counted : ℕ → ℕ
counted n = min n 4294967295

-- a store of a row is counted, a growth isn't
abbrev pub with_stored : Next → Running → Running
with_stored (next.Store side word value) running = record running { stores = counted (running.stores + 1) }
with_stored _ running = running
