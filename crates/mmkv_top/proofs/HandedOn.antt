-- A stop without a reason that is printed ends the play.
use Rattle.std.proofs.Common.{◌≡◌, sym, subst}
use Rattle.std.specs.Prelude.{Result, Ok, Err, IfErr, IsErrAnd}
use Rattle.opener.specs.declared.calls.Stop.{Stop}
use Rattle.world.specs.declared.moves.Moved.{Moved}
use Rattle.world.specs.declared.moves.Moved.TheVariants as moved
use Rattle.mmkv_top.specs.declared.halt.Halt.{Halt}
use Rattle.mmkv_top.specs.declared.halt.Halt.TheVariants as halt
use Rattle.mmkv_top.specs.Progress.{HaltsBy, IsHaltOf}

halts_by : (last : Moved) (found : Stop) (why : Halt) → last ≡ moved.Stopped found → IsHaltOf found why → HaltsBy last why
halts_by last found halt.Refused is h = (found, is, h)
halts_by last found halt.Memory is h = tt
halts_by last found halt.JournalFull is h = (found, is, h)
halts_by last found halt.NotWhole is h = (found, is, h)

-- what is handed on
pub hands_on : {A : Type 0} (result : Result A Halt) (last : Moved) (found : Stop) (why : Halt) → IsErrAnd result (λ e. e ≡ why) → last ≡ moved.Stopped found → IsHaltOf found why →
    IfErr result (HaltsBy last)
hands_on (Ok x) last found why same is h = tt
hands_on (Err e) last found why same is h = subst (HaltsBy last) (sym same) (halts_by last found why is h)
