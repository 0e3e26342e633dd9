-- Fields that nothing reads.
use Rattle.std.specs.Prelude.{ℕ, Bool, List, [], ◌∷◌, Option, Some, None, not, filter, bytes_eq}
use Rattle.std.specs.List.{list_any}
use Rattle.serde_json.specs.Data.{Data, Members, no_members, member}
use Rattle.serde_json.specs.Find.{as_object}
use Rattle.mt_check.specs.declared.forms.Field.{Field}

-- one of the fields is called so
abbrev pub is_known : List Field → List ℕ → Bool
is_known fields name = list_any (λ (field : Field). bytes_eq field.name.now name) fields

abbrev pub is_other : List Field → List ℕ → Bool
is_other fields name = not (is_known fields name)

-- how the members of an object are called
abbrev pub names_of : Members → List (List ℕ)
names_of no_members = []
names_of (member name d ms) = name ∷ names_of ms

abbrev pub names_if : Option Members → List (List ℕ)
names_if None = []
names_if (Some ms) = names_of ms

-- the names of an object that are none of the fields'
abbrev pub others : List Field → Data → List (List ℕ)
others fields d = filter (is_other fields) (names_if (as_object d))
