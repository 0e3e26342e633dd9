-- What a commit makes of the map of a keeper. Where a keeper cannot tell its map, nothing is said of it.
use Rattle.std.specs.Prelude.{◌≡◌, ◌≤◌, ◌⊎◌, ℕ, Bool, List, length, Option, Some, None, IsTrue, ⊤}
use Rattle.mt_durable.specs.Changes.{change_bytes}
use Rattle.mt_durable.specs.Maps.{Merged}
use Rattle.mt_durable.specs.Reading.{Says}
use Rattle.mt_durable.specs.declared.durable.Entry.{Entry}

-- the bytes are a change
abbrev pub IsChange : List ℕ → Type 0
IsChange bytes = (entries : List Entry) × Says entries bytes

-- These bytes are a change that leads from the one map to the other.
pub record LeadsTo (bytes : List ℕ) (before after : List Entry) : Type 0 where
  pub entries : List Entry
  pub says : Says entries bytes
  pub merged : Merged entries before after

-- the image of the map after the change has at most 65,535 bytes, as an element may
abbrev pub HasRoom : List ℕ → Option (List Entry) → Type 0
HasRoom bytes None = ⊤
HasRoom bytes (Some before) = (after : List Entry) → LeadsTo bytes before after → length (change_bytes after) ≤ 65535

-- the map is the one to which the change leads
abbrev pub Committed : List ℕ → Option (List Entry) → Option (List Entry) → Type 0
Committed bytes None now = ⊤
Committed bytes (Some before) now = (after : List Entry) × LeadsTo bytes before after × (now ≡ Some after)

-- the map after the change is one that a rule admits
abbrev pub IsAdmitted : (List Entry → Bool) → List ℕ → Option (List Entry) → Type 0
IsAdmitted admits bytes None = ⊤
IsAdmitted admits bytes (Some before) = (after : List Entry) → LeadsTo bytes before after → IsTrue (admits after)

abbrev pub WasOrCommitted : List ℕ → Option (List Entry) → Option (List Entry) → Type 0
WasOrCommitted bytes before now = (now ≡ before) ⊎ Committed bytes before now
