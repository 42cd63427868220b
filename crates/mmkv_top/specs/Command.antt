-- The commands that the words after the program's name give. The first word names the directory.
use Rattle.std.specs.Prelude.{◌≡◌, ℕ, List, [], ◌∷◌, codes}
use Rattle.region_words.specs.Stores.{IsId}
use Rattle.mmkv_top.specs.declared.command.Command.{Command}
use Rattle.mmkv_top.specs.declared.command.Command.TheVariants.{Dump, Play}

-- a command of this name over the store of this ID
abbrev pub IsNamed : List (List ℕ) → List ℕ → List ℕ → Type 0
IsNamed words name id = IsId id × ((dir : List ℕ) × (words ≡ dir ∷ name ∷ id ∷ []))

-- the words give this command
abbrev pub IsCommand : List (List ℕ) → Command → Type 0
IsCommand words (Dump id) = IsNamed words (codes "dump") id.now
IsCommand words (Play id) = IsNamed words (codes "play") id.now

-- the words give no command
pub record IsNoCommand (words : List (List ℕ)) : Type 0 where
  pub no_dump : (id : List ℕ) → IsNamed words (codes "dump") id → ⊥
  pub no_play : (id : List ℕ) → IsNamed words (codes "play") id → ⊥
