-- The payloads of a reply, and how the items of a report are put into payloads.
use Rattle.std.specs.Prelude.{ℕ, Bool, true, false, not, ◌&&◌, Option, None, is_none, List, [], ◌∷◌, ◌++◌, filter, map, length, nat_le, if◌then◌else◌}
use Rattle.std.specs.List.{flat_map}
use Rattle.mt_tlv.specs.declared.value.Tag.TheVariants.{Anonymous}
use Rattle.mt_tlv.specs.declared.value.Value.TheVariants as values
use Rattle.mt_tlv.specs.Tree.{Tree, Elements, none, more}
use Rattle.mt_tlv.specs.Narrow.{narrow, narrow_elements}
use Rattle.mt_tlv.specs.View.{value_of}
use Rattle.mt_model.specs.Trees.{untagged}
use Rattle.mt_model.specs.declared.limits.TheConstants.{ITEM_BYTES}
use Rattle.mt_model.specs.declared.messages.message.Index.TheVariants.{Append}
use Rattle.mt_model.specs.declared.messages.message.Item.{Item}
use Rattle.mt_model.specs.declared.messages.message.Item.TheVariants.{Attribute, Refused, Event, EventRefused}
use Rattle.mt_model.specs.declared.messages.message.Path.{Path}
use Rattle.mt_model.specs.declared.messages.message.Payload.{Payload}
use Rattle.mt_model.specs.declared.messages.message.Reply.{Reply}
use Rattle.mt_model.specs.declared.messages.message.Reply.TheVariants as replies
use Rattle.mt_model.specs.declared.messages.opcode.TheConstants.{STATUS_RESPONSE, SUBSCRIBE_RESPONSE, REPORT_DATA, WRITE_RESPONSE, INVOKE_RESPONSE}
use Rattle.mt_model.specs.messages.Blocks.{item_tree}
use Rattle.mt_im.specs.Requests.{command_tree}
use Rattle.mt_im_out.specs.Messages.{status_response_tree, subscribe_response_tree, write_response_tree, command_failure_tree, command_status_tree, invoke_response_tree, report_tree}

-- A list that is too long.

-- how many bytes the blocks of items have together
abbrev pub size_of : List Item → ℕ
size_of items = length (narrow_elements (untagged item_tree items))

-- whether a payload takes the items together
abbrev pub fit : List Item → Bool
fit items = nat_le (size_of items) ITEM_BYTES

-- each element as an item of its own, to be appended to the list at the path
abbrev pub appended : Path → ℕ → Elements → List Item
appended path version none = []
appended path version (more tag element elements) = Attribute (record path { index = Append }) version (value_of element) ∷ appended path version elements

-- where no payload takes the list: the empty list, and then each element
abbrev pub split_list : Path → ℕ → Elements → List Item
split_list path version elements =
    if fit (Attribute path version (values.Array elements) ∷ []) then Attribute path version (values.Array elements) ∷ []
    else Attribute path version (values.Array none) ∷ appended path version elements

-- the items that stand for an item
abbrev pub split_item : Item → List Item
split_item (Attribute path version (values.Array elements)) = split_list path version elements
split_item item = item ∷ []

-- items with the lists split that are too long
abbrev pub split_items : List Item → List Item
split_items items = flat_map split_item items

-- Payloads of items.

-- Greedily: where items stand in a payload already, the next one joins them if a payload takes them
-- together, and otherwise begins the next payload.
unfoldable pub greedy_from : List Item → List Item → List (List Item)
greedy_from begun [] = begun ∷ []
greedy_from begun (item ∷ items) =
    if fit (begun ++ item ∷ []) then greedy_from (begun ++ item ∷ []) items
    else begun ∷ greedy_from (item ∷ []) items

abbrev pub greedy : List Item → List (List Item)
greedy [] = []
greedy (item ∷ items) = greedy_from (item ∷ []) items

abbrev pub is_event : Item → Bool
is_event (Attribute path version value) = false
is_event (Refused path code) = false
is_event (Event event) = true
is_event (EventRefused path code) = true

-- items of attributes, and of events, in their order
abbrev pub attribute_items : List Item → List Item
attribute_items items = filter (λ item. not (is_event item)) items

abbrev pub event_items : List Item → List Item
event_items items = filter is_event items

-- the items of one payload
pub record Part : Type 0 where
  pub attributes : List Item
  pub events : List Item

abbrev pub attribute_part : List Item → Part
attribute_part items = record { attributes = items; events = [] }

-- events stand in one payload of their own, if there are any
abbrev pub event_parts : List Item → List Part
event_parts [] = []
event_parts (item ∷ items) = record { attributes = []; events = item ∷ items } ∷ []

-- there is a payload even where there is no item
abbrev pub at_least_one : List Part → List Part
at_least_one [] = record { attributes = []; events = [] } ∷ []
at_least_one (part ∷ parts) = part ∷ parts

-- first the items of attributes, greedily, then those of events
abbrev pub parts_of : List Item → List Part
parts_of items = at_least_one (map attribute_part (greedy (split_items (attribute_items items))) ++ event_parts (event_items items))

-- The payloads.

-- a message under its opcode
abbrev pub payload : ℕ → Tree → Payload
payload opcode message = record { opcode = opcode; bytes = narrow Anonymous message; deadline = None }

-- the payload of a report that has these items
abbrev pub report_payload : Option ℕ → Part → Bool → Bool → Payload
report_payload subscription part follows suppress = payload REPORT_DATA (report_tree subscription part.attributes part.events follows suppress)

-- all but the last say that more follows; the last one alone may say that no confirmation is wanted
abbrev pub report_payloads : Option ℕ → Bool → List Part → List Payload
report_payloads subscription suppress [] = []
report_payloads subscription suppress (part ∷ []) = report_payload subscription part false suppress ∷ []
report_payloads subscription suppress (part ∷ next ∷ parts) = report_payload subscription part true false ∷ report_payloads subscription suppress (next ∷ parts)

-- a report of a subscription always wants a confirmation
abbrev pub chunks_of : Reply → List Payload
chunks_of (replies.Status code) = payload STATUS_RESPONSE (status_response_tree code) ∷ []
chunks_of (replies.Report subscription items suppress) = report_payloads subscription (suppress && is_none subscription) (parts_of items)
chunks_of (replies.Subscribed id ceiling) = payload SUBSCRIBE_RESPONSE (subscribe_response_tree id ceiling) ∷ []
chunks_of (replies.Written items) = payload WRITE_RESPONSE (write_response_tree items) ∷ []
chunks_of (replies.Invoked command fields) = payload INVOKE_RESPONSE (invoke_response_tree 0 (command_tree command fields)) ∷ []
chunks_of (replies.InvokeStatus command code) = payload INVOKE_RESPONSE (invoke_response_tree 1 (command_status_tree command code)) ∷ []
chunks_of (replies.InvokeClusterStatus command code reason) = payload INVOKE_RESPONSE (invoke_response_tree 1 (command_failure_tree command code reason)) ∷ []
chunks_of replies.Nothing = []
