-- What each command is due to end with.
use Rattle.std.specs.Prelude.{◌≡◌, ℕ, List, [], ◌∷◌, ◌⊎◌, Option, Result, Ok, Err, IsTrue, MatchBool, length, nat_lt, ◌==◌, codes, decimal}
use Rattle.std.specs.List.{list_any}
use Rattle.meta_record.specs.declared.record.RecordFault.{RecordFault}
use Rattle.meta_record.specs.declared.record.RecordFault.TheVariants.{Version, Flags}
use Rattle.meta_record.specs.declared.shown.Shown.{Shown}
use Rattle.meta_record.specs.declared.shown.Shown.TheVariants.{Whole, Damaged}
use Rattle.region_words.specs.Region.{Region, region_of, shown_if_accepted}
use Rattle.region_words.specs.Stores.{Told, Untold, Nothing, Files, filled_up}
use Rattle.region_words.specs.declared.shelf.TheConstants.{LARGEST_DATA, LARGEST_META}
use Rattle.region_words.specs.declared.shelf.Brought.{Brought}
use Rattle.region_words.specs.declared.shelf.ShelfStop.{ShelfStop}
use Rattle.region_words.specs.declared.shelf.ShelfStop.TheVariants.{Failed, Absent, SizeRefused, Memory}
use Rattle.script_lang.specs.Texts.{line, damage_text, region_text}
use Rattle.mmkv_top.specs.declared.ending.Ending.{Ending}
use Rattle.mmkv_top.specs.Ending.{ending, region_fault}
use Rattle.script_lang.specs.Played.{Stock}
use Rattle.mmkv_top.specs.Play.{PlaysInput, not_yet}

-- the two files of a store, as far as they count: whole pages
abbrev pub region_in : List ℕ → List ℕ → Region
region_in body meta = region_of (filled_up body) (filled_up meta)

-- why a record is refused
abbrev pub refused : RecordFault → Ending
refused (Version n) = ending 10 (line (codes "version" ∷ decimal n ∷ []))
refused (Flags n) = ending 10 (line (codes "flags" ∷ decimal n ∷ []))

-- a file that is over its limit
abbrev pub over_limit : ℕ → Ending
over_limit n = ending 14 (line (codes "size" ∷ decimal n ∷ []))

abbrev pub no_store : Ending
no_store = ending 13 (codes "no store\n")

-- the dump of a region that shows this
abbrev pub dump_shown : Region → Shown → Ending
dump_shown r (Damaged d) = ending 6 (line (damage_text d ∷ []))
dump_shown r _ = ending 0 (region_text r)

abbrev pub dump_if_accepted : Region → Result Shown RecordFault → Ending
dump_if_accepted r (Ok s) = dump_shown r s
dump_if_accepted r (Err fault) = refused fault

abbrev pub dump_of : Region → Ending
dump_of r = dump_if_accepted r (shown_if_accepted r)

-- the ending of two files: their lengths are looked at first, that of the data before that of the meta file
abbrev pub OfFiles : (Region → Ending → Type 0) → List ℕ → List ℕ → Ending → Type 0
OfFiles of_region body meta e =
    MatchBool (nat_lt LARGEST_DATA (length body)) (e ≡ over_limit (length body))
    (MatchBool (nat_lt LARGEST_META (length meta)) (e ≡ over_limit (length meta)) (of_region (region_in body meta) e))

-- the status is one of these
abbrev pub IsAmong : List ℕ → ℕ → Type 0
IsAmong statuses status = IsTrue (list_any (λ s. s == status) statuses)

-- the ending by what lies under an ID; where that is untold, its status alone
abbrev pub OfStore : List ℕ → (Region → Ending → Type 0) → Told → Ending → Type 0
OfStore statuses of_region Untold e = IsAmong statuses e.status
OfStore statuses of_region Nothing e = e ≡ no_store
OfStore statuses of_region (Files body meta) e = OfFiles of_region body meta e

abbrev pub dump_statuses : List ℕ
dump_statuses = 0 ∷ 6 ∷ 10 ∷ 13 ∷ 14 ∷ []

abbrev pub IsDumpOf : Region → Ending → Type 0
IsDumpOf r e = e ≡ dump_of r

-- the ending of `dump` by what lies under the ID
abbrev pub IsDump : Told → Ending → Type 0
IsDump = OfStore dump_statuses IsDumpOf

-- the ending that goes with why a shelf brought nothing
abbrev pub IsUnbrought : ShelfStop → Ending → Type 0
IsUnbrought Failed e = e ≡ region_fault
IsUnbrought Absent e = e ≡ no_store
IsUnbrought (SizeRefused n) e = e ≡ over_limit n
IsUnbrought Memory e = ⊥

-- the ending that goes with what a shelf brought
abbrev pub IsEndingOf : (Region → Ending → Type 0) → Result Brought ShelfStop → Ending → Type 0
IsEndingOf of_region (Ok b) e = of_region (region_in b.body b.meta) e
IsEndingOf of_region (Err stop) e = IsUnbrought stop e

abbrev pub read_fault : Ending
read_fault = ending 3 (codes "read fault\n")

-- the play of a region by the bytes left of the input; or the input had a fault
abbrev pub IsInputPlay : Stock → Region → Option (List ℕ) → Option (List ℕ) → Type 0 → Ending → Type 0
IsInputPlay stock r left now rose e = PlaysInput stock r left now e ⊎ ((e ≡ read_fault) × rose)

-- the play of a region that shows this: only a whole image is played on
abbrev pub PlayShown : Result Shown RecordFault → Stock → Region → Option (List ℕ) → Option (List ℕ) → Type 0 → Ending → Type 0
PlayShown (Err fault) stock r left now rose e = e ≡ refused fault
PlayShown (Ok (Whole n)) stock r left now rose e = IsInputPlay stock r left now rose e
PlayShown (Ok _) stock r left now rose e = e ≡ not_yet

-- the play of a region
abbrev pub IsPlayOf : Stock → Option (List ℕ) → Option (List ℕ) → Type 0 → Region → Ending → Type 0
IsPlayOf stock left now rose r e = PlayShown (shown_if_accepted r) stock r left now rose e

abbrev pub play_statuses : List ℕ
play_statuses = 0 ∷ 3 ∷ 9 ∷ 10 ∷ 13 ∷ 14 ∷ 16 ∷ 17 ∷ []

-- the ending of `play` by what lies under the ID, and by the bytes left of the input
abbrev pub IsPlay : Stock → Option (List ℕ) → Option (List ℕ) → Type 0 → Told → Ending → Type 0
IsPlay stock left now rose = OfStore play_statuses (IsPlayOf stock left now rose)
