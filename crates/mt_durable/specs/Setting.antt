-- What a map becomes entry by entry.
use Rattle.std.specs.Prelude.{ℕ, suc, Bool, false, List, [], ◌∷◌, drop, if◌then◌else◌}
use Rattle.mt_durable.specs.Keys.{is_before, is_same}
use Rattle.mt_durable.specs.Maps.{has_value}
use Rattle.mt_durable.specs.declared.durable.Entry.{Entry}

-- how many entries stand before a key
abbrev pub count_before : List ℕ → List Entry → ℕ
count_before key [] = 0
count_before key (one ∷ rest) = if is_before one.key key then suc (count_before key rest) else 0

-- the entry in front, if it has a value
abbrev pub in_front : Entry → List Entry → List Entry
in_front entry rest = if has_value entry.value then entry ∷ rest else rest

-- whether the first entry has this key
abbrev pub begins_with : List ℕ → List Entry → Bool
begins_with key [] = false
begins_with key (one ∷ rest) = is_same key one.key

-- without the first entry, if it has this key
abbrev pub without : List ℕ → List Entry → List Entry
without key rest = if begins_with key rest then drop 1 rest else rest

-- an entry in the place of the one of its key
abbrev pub placed : Entry → List Entry → List Entry
placed entry rest = in_front entry (without entry.key rest)

-- the same behind those of lower keys
abbrev pub with_entry : Entry → List Entry → List Entry
with_entry entry [] = in_front entry []
with_entry entry (one ∷ rest) = if is_before one.key entry.key then one ∷ with_entry entry rest else placed entry (one ∷ rest)

-- the entries of a change, one after the other
abbrev pub with_all : List Entry → List Entry → List Entry
with_all [] map = map
with_all (entry ∷ change) map = with_all change (with_entry entry map)
