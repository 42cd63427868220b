-- What a share of real files stands for.
use Rattle.std.specs.Prelude.{ℕ, true, false, Option, Some, None, ◌==◌, if◌then◌else◌}
use base.Stored.{coded_ℕ}
use Rattle.lock_rules.specs.declared.table.LockKind.{LockKind}
use Rattle.lock_rules.specs.declared.table.LockKind.TheVariants.{Exclusive}
use Rattle.region_words.specs.Share.{ShareState}
use Rattle.file_region.specs.declared.ledger.Ledger.{Ledger}

-- what is kept for the holder of this lock
abbrev pub kept_under : Option LockKind → ℕ → ℕ
kept_under (Some Exclusive) n = n
kept_under _ n = 0

-- nothing is held or reserved, and nothing was counted
abbrev pub fresh : Ledger
fresh = record { lock = None; ended = false; places = 0; room = 0; faults = 0; loads = 0; busy = 0 }

-- opener 1, which isn't alone and takes no turns; nothing is told of the files, nor of when a call is to fail
abbrev pub share_state : Ledger → ShareState
share_state l =
    record {
      who = 1;
      told = None;
      holds = l.lock;
      ended = l.ended;
      alone = false;
      turnless = true;
      admitted = λ w. true;
      reserved = λ w. if w == 1 then kept_under l.lock l.places else 0;
      room = λ w. if w == 1 then kept_under l.lock l.room else 0;
      fails = None;
      calls = 0;
      counts = record { faults = l.faults; loads = l.loads; busy = l.busy; turns = 0 };
      tag = coded_ℕ.code 0;
    }
