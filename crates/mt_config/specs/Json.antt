-- The forms that values of the configuration's JSON have. Each reader gives the value that is meant, or
-- none where the JSON has another form.
use Rattle.std.specs.Prelude.{ℕ, ◌+◌, nat_le, if◌then◌else◌, List, [], ◌∷◌, Option, Some, None, option_map, option_and_then, is_some}
use Rattle.std.specs.Int.{w64, from_be_bytes}
use Rattle.std.specs.Result.{result_ok}
use Rattle.hex.specs.Hex.{decode_of, decode_sized}
use Rattle.serde_json.specs.Data.{Data, Items, no_items, item}
use Rattle.serde_json.specs.Find.{get, as_null, as_str, as_array, as_number, as_u64}

infixl 10 ◌>>=◌
abbrev pub ◌>>=◌ : {A B : Type 0} → Option A → (A → Option B) → Option B
o >>= f = option_and_then f o

-- Single values.

-- the bytes of a hex text, in either case
unfoldable pub octets : Data → Option (List ℕ)
octets d = do
  digits ← as_str d
  result_ok (decode_of digits)

-- so many bytes
unfoldable pub octets_of : ℕ → Data → Option (List ℕ)
octets_of size d = do
  digits ← as_str d
  result_ok (decode_sized digits size)

-- an id of 64 bits: 16 hex digits
unfoldable pub id : Data → Option ℕ
id d = option_map (from_be_bytes w64) (octets_of 8 d)

-- a whole number, up to this one
unfoldable pub number : ℕ → Data → Option ℕ
number most d = do
  found ← option_and_then as_u64 (as_number d)
  if nat_le found most then Some found else None

-- Fields of an object.

-- the field of this name, which must be there
unfoldable pub field : {X : Type 0} → List ℕ → (Data → Option X) → Data → Option X
field name form d = do
  value ← get name d
  form value

abbrev pub unless_null : {X : Type 0} → (Data → Option X) → Option Data → Option (Option X)
unless_null form None = Some None
unless_null form (Some value) = if is_some (as_null value) then Some None else option_map Some (form value)

-- the field of this name, which may be missing or null
unfoldable pub optional : {X : Type 0} → List ℕ → (Data → Option X) → Data → Option (Option X)
optional name form d = unless_null form (get name d)

-- how many items there are
abbrev pub count : Items → ℕ
count no_items = 0
count (item d ds) = count ds + 1

abbrev pub at_most : ℕ → Items → Option Items
at_most most items = if nat_le (count items) most then Some items else None

-- the items of a list that may be missing
abbrev pub listed : ℕ → Option Data → Option Items
listed most None = Some no_items
listed most (Some value) = option_and_then (at_most most) (as_array value)

-- the items of the list of this name, which has none where it is missing, and at most so many
unfoldable pub items_of : List ℕ → ℕ → Data → Option Items
items_of name most d = listed most (get name d)

-- each item has the form
abbrev pub each : {X : Type 0} → (Data → Option X) → Items → Option (List X)
each form no_items = Some []
each form (item d ds) = do
  first ← form d
  others ← each form ds
  Some (first ∷ others)

unfoldable pub list_of : {X : Type 0} → List ℕ → ℕ → (Data → Option X) → Data → Option (List X)
list_of name most form d = do
  items ← items_of name most d
  each form items
