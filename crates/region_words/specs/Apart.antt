use Rattle.std.specs.Prelude.{◌≡◌, ℕ, zero, ◌-◌, ◌*◌, List, [], ◌∷◌, ◌++◌, Option, Some, None, filter, map, Contains, nat_lt, ◌==◌, if◌then◌else◌}
use Rattle.std.specs.Option.{option_map_or}
use Rattle.crc_words.specs.Crc.{crc}
use Rattle.meta_record.specs.Words.{fits}
use Rattle.region_words.specs.Region.{Region, header, record_of, payload_of}
use Rattle.region_words.specs.Past.{region_after}
use Rattle.region_words.specs.declared.event.Side.TheVariants.{Data, Meta}
use Rattle.region_words.specs.declared.event.Mark.TheVariants.{Plain}
use Rattle.region_words.specs.declared.event.What.{What}
use Rattle.region_words.specs.declared.event.What.TheVariants.{Store}
use Rattle.region_words.specs.declared.event.Event.{Event}

-- the payloads of these sizes, where they fit
abbrev pub payloads_of : Region → List ℕ → List (List ℕ)
payloads_of r sizes = map (payload_of r) (filter (fits r.data_bytes) sizes)

-- the payloads that a region may be taken to show
abbrev pub recorded_payloads : Region → List (List ℕ)
recorded_payloads r = payloads_of r (header r ∷ (record_of r).size ∷ (record_of r).last_size ∷ [])

-- the data word that was stored last
abbrev pub last_word : List Event → Option ℕ
last_word [] = None
last_word (e ∷ past) = word_in e.what (last_word past)
  where
    word_in : What → Option ℕ → Option ℕ
    word_in (Store Data word value mark) earlier = Some word
    word_in _ earlier = earlier

-- the sizes of payloads that end in this data word
abbrev pub ending_in : ℕ → List ℕ
ending_in word = if nat_lt 0 word then (4 * word - 3) ∷ (4 * word - 2) ∷ (4 * word - 1) ∷ (4 * word) ∷ [] else []

-- the payloads that a store of a checksum without a mark may be meant for: they end in the word stored last and have that checksum
abbrev pub meant_by : Region → List Event → What → List (List ℕ)
meant_by r past (Store Meta zero value Plain) =
    filter (λ bytes. crc bytes == value) (payloads_of r (option_map_or ending_in (last_word past) []))
meant_by r past _ = []

-- the payloads at which a checksum is looked at in the course of these events
abbrev pub strings : Region → List Event → List (List ℕ)
strings start [] = recorded_payloads start
strings start (e ∷ past) =
    recorded_payloads (region_after start (e ∷ past)) ++ meant_by (region_after start (e ∷ past)) past e.what ++ strings start past

-- different ones of these payloads have different checksums
abbrev pub Apart : Region → List Event → Type 0
Apart start past =
    (s t : List ℕ) → Contains (strings start past) s → Contains (strings start past) t → crc s ≡ crc t → s ≡ t
