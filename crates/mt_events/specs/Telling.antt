-- The events that a reader is told, by rising number, as many as fit (Matter Core Specification, section 8.4, Read Interaction).
use Rattle.std.specs.Prelude.{ℕ, ◌-◌, ◌==◌, ◌&&◌, nat_le, nat_lt, Bool, true, List, [], ◌∷◌, ◌++◌, filter, length, sum_by, if◌then◌else◌}
use Rattle.mt_events.specs.Reading.{Asking, is_told, refusals}
use Rattle.mt_events.specs.Rings.{ring_of}
use Rattle.mt_model.specs.messages.Blocks.{item_block}
use Rattle.mt_model.specs.declared.limits.TheConstants.{ITEM_BYTES}
use Rattle.mt_model.specs.declared.messages.message.Happened.{Happened}
use Rattle.mt_model.specs.declared.messages.message.Item.{Item}
use Rattle.mt_model.specs.declared.messages.message.Item.TheVariants.{Event}

-- Order.

-- An event and those behind it, and others, by rising number. What follows for those behind it is told by `merge`.
abbrev pub merged_with : Happened → List Happened → (List Happened → List Happened) → List Happened → List Happened
merged_with x xs merge [] = x ∷ xs
merged_with x xs merge (y ∷ ys) = if nat_lt x.number y.number then x ∷ merge (y ∷ ys) else y ∷ merged_with x xs merge ys

-- two lists of events that each rise, as one
abbrev pub merged : List Happened → List Happened → List Happened
merged [] ys = ys
merged (x ∷ xs) ys = merged_with x xs (merged xs) ys

-- no event has a lower number than the one before it, from this number on
abbrev pub stay_from : ℕ → List Happened → Bool
stay_from number [] = true
stay_from number (e ∷ es) = nat_le number e.number && stay_from e.number es

abbrev pub stay_up : List Happened → Bool
stay_up es = stay_from 0 es

-- what is private to a fabric; whoever has no fabric has nothing private
abbrev pub own_of : ℕ → List (List Happened) → List Happened
own_of fabric rings = if fabric == 0 then [] else ring_of fabric rings

-- all events that a fabric may be told
abbrev pub events_for : ℕ → List (List Happened) → List Happened
events_for fabric rings = merged (ring_of 0 rings) (own_of fabric rings)

-- those that the reader asks for and may see
abbrev pub told_events : Asking → List (List Happened) → List Happened
told_events asking rings = filter (is_told asking) (events_for asking.actor.fabric rings)

-- Room.

abbrev pub size_of : Item → ℕ
size_of item = length (item_block item)

abbrev pub bytes_of : List Item → ℕ
bytes_of items = sum_by size_of items

-- the events from the first on, up to the first that the room does not take
abbrev pub fitting : ℕ → List Happened → List Item
fitting room [] = []
fitting room (e ∷ es) = if nat_le (size_of (Event e)) room then Event e ∷ fitting (room - size_of (Event e)) es else []

-- the events that a report tells, whose items have at most 1,176 bytes
abbrev pub told : Asking → List (List Happened) → List Item
told asking rings = fitting ITEM_BYTES (told_events asking rings)

-- the refused paths, and the events that then fit
abbrev pub answered : Asking → List (List Happened) → List Item
answered asking rings = refusals asking ++ fitting (ITEM_BYTES - bytes_of (refusals asking)) (told_events asking rings)
