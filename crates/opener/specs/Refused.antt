-- A region whose record is refused.
use Rattle.std.specs.Prelude.{◌≡◌, ◌⊎◌, Option, Some, IfErr, ⊤}
use Rattle.meta_record.specs.Records.{checked}
use Rattle.meta_record.specs.declared.record.RecordFault.{RecordFault}
use Rattle.region_words.specs.Region.{header, record_of}
use Rattle.region_words.specs.Past.{region_after}
use Rattle.region_words.specs.Share.{ShareState}
use Rattle.region_words.specs.Told.{OnTold}
use Rattle.loader.specs.Loads.{loads_of}
use Rattle.opener.specs.Ends.{stop_of}
use Rattle.opener.specs.Opener.{stop_found}
use Rattle.opener.specs.declared.calls.Step.{Step}
use Rattle.opener.specs.declared.calls.Step.TheVariants as step
use Rattle.opener.specs.declared.calls.Stop.{Stop}
use Rattle.opener.specs.declared.calls.Stop.TheVariants as why
use Rattle.opener.specs.declared.work.Stage.{Stage}
use Rattle.opener.specs.declared.work.Stage.TheVariants.{Load}
use Rattle.opener.specs.declared.work.Work.{Work}

-- the stop has the name of this fault, unless memory was short or the share failed
abbrev pub IsNamed : RecordFault → Option Stop → Type 0
IsNamed fault found = (found ≡ Some (stop_of fault)) ⊎ (found ≡ Some why.Memory) ⊎ (found ≡ Some why.Fault)

-- a step that was made stops its call so, at once or once its lock is given up
abbrev pub StopsFor : RecordFault → Step → Work → Type 0
StopsFor fault step.Going new = IsNamed fault (stop_found new)
StopsFor fault step.Again new = ⊤
StopsFor fault (step.Stopped stop) new = IsNamed fault (Some stop)
StopsFor fault _ new = ⊥

-- The tenth load of a region that is told, the last of its record and header, stops the call where the record is refused, with the stop of
-- that name.
abbrev pub StopsWhereRefused : Stage → Step → Work → ShareState → Type 0
StopsWhereRefused (Load loading) result new t =
    loads_of loading ≡ 9 → OnTold t.told (λ h. let r = region_after h.start h.past in IfErr (checked (record_of r) (header r)) (λ fault. StopsFor fault result new))
StopsWhereRefused _ result new t = ⊤
