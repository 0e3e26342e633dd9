-- What the laws say of the parts of a report.
use Rattle.std.specs.Prelude.{◌≡◌, ◌≢◌, ◌<◌, ◌≤◌, ◌+◌, ◌⊎◌, List, [], ◌∷◌, ◌++◌, length, map, All, ⊤}
use Rattle.std.specs.List.{flat_map}
use Rattle.mt_tlv.specs.Tree.{Tree, array, Elements, none, more}
use Rattle.mt_tlv.specs.View.{tree}
use Rattle.mt_model.specs.messages.Blocks.{item_block}
use Rattle.mt_model.specs.declared.limits.TheConstants.{ITEM_BYTES}
use Rattle.mt_model.specs.declared.messages.message.Index.{Index}
use Rattle.mt_model.specs.declared.messages.message.Index.TheVariants.{Whole, Append}
use Rattle.mt_model.specs.declared.messages.message.Item.{Item}
use Rattle.mt_model.specs.declared.messages.message.Item.TheVariants.{Attribute}
use Rattle.mt_model.specs.declared.messages.message.Payload.{Payload}
use Rattle.mt_im_out.specs.Chunks.{Part, attribute_part, size_of}

-- A payload takes the item.
abbrev pub IsShort : Item → Type 0
IsShort item = length (item_block item) ≤ ITEM_BYTES

-- Together the items have at most so many bytes.
abbrev pub IsWithin : Part → Type 0
IsWithin part = size_of part.attributes + size_of part.events ≤ ITEM_BYTES

-- The items are all of attributes, or all of events.
abbrev pub IsOfOneKind : Part → Type 0
IsOfOneKind part = (part.attributes ≡ []) ⊎ (part.events ≡ [])

-- A payload that has the first items does not take the first of the second.
abbrev pub TakesNoMore : List Item → List Item → Type 0
TakesNoMore begun [] = ⊤
TakesNoMore begun (item ∷ items) = ITEM_BYTES < size_of (begun ++ item ∷ [])

-- No part has room for the attribute with which the next one begins.
abbrev pub AreFull : List Part → Type 0
AreFull [] = ⊤
AreFull (part ∷ []) = ⊤
AreFull (part ∷ next ∷ parts) = TakesNoMore part.attributes next.attributes × AreFull (next ∷ parts)

-- A greedy split of items: no payload is without an item, each has one item or is within its size, and none
-- has room for the first item of the next.
pub record IsGreedySplit (items : List Item) (parts : List (List Item)) : Type 0 where
  pub whole : flat_map (λ part. part) parts ≡ items
  pub begun : All (λ part. part ≢ []) parts
  pub within : All (λ part. (length part ≡ 1) ⊎ (size_of part ≤ ITEM_BYTES)) parts
  pub full : AreFull (map attribute_part parts)

-- A payload has at most 16 bytes beside those of its items: 1 that opens the message, 6 for the subscription,
-- 3 round the array of items, 2 that say that more follows, 3 for the revision and 1 that ends the message.
abbrev pub IsShortPayload : Payload → Type 0
IsShortPayload payload = length payload.bytes ≤ ITEM_BYTES + 16

-- the elements of a container
abbrev pub trees : Elements → List Tree
trees none = []
trees (more tag element elements) = element ∷ trees elements

-- what a value at a path brings to the list that the path names: one element where it is to be appended, and
-- its own elements where it is the list
abbrev pub brought_at : Index → Tree → List Tree
brought_at Append value = value ∷ []
brought_at Whole (array elements) = trees elements
brought_at index value = []

-- what an item brings to the list that its path names
abbrev pub brought : Item → List Tree
brought (Attribute path version value) = brought_at path.index (tree value)
brought item = []
