-- What a SubscribeRequest asks for, what it is answered, and the subscriptions behind it (Matter Core Specification, section 8.5).
use Rattle.std.specs.Prelude.{ℕ, ◌-◌, ◌==◌, ◌&&◌, ◌||◌, nat_lt, Bool, false, List, [], ◌∷◌, ◌++◌, Option, Some, None, is_some, length, unwrap_or, if◌then◌else◌}
use Rattle.std.specs.List.{list_any}
use Rattle.mt_events.specs.Reading.{asking}
use Rattle.mt_events.specs.Telling.{answered}
use Rattle.mt_meta.specs.Places.{is_not_global}
use Rattle.mt_model.specs.messages.Blocks.{names_item}
use Rattle.mt_model.specs.messages.Status.{code_of}
use Rattle.mt_model.specs.declared.messages.message.Item.{Item}
use Rattle.mt_model.specs.declared.messages.message.Item.TheVariants.{Event}
use Rattle.mt_model.specs.declared.messages.message.Path.{Path}
use Rattle.mt_model.specs.declared.messages.message.Reply.{Reply}
use Rattle.mt_model.specs.declared.messages.message.Reply.TheVariants as replies
use Rattle.mt_model.specs.declared.messages.message.Request.{Request}
use Rattle.mt_model.specs.declared.messages.message.Request.TheVariants.{Subscribe}
use Rattle.mt_model.specs.declared.messages.status.Status.TheVariants.{InvalidAction, ResourceExhausted}
use Rattle.mt_model.specs.declared.node.action.Action.{Action}
use Rattle.mt_model.specs.declared.node.action.Action.TheVariants.{Ask}
use Rattle.mt_model.specs.declared.node.state.NodeState.{NodeState}
use Rattle.mt_model.specs.declared.node.state.Version.{Version}
use Rattle.mt_model.specs.declared.tables.access.Actor.{Actor}
use Rattle.mt_read.specs.Reading.{read_answer}
use Rattle.mt_subs.specs.Leaving.{without_node}
use Rattle.mt_subs.specs.Subscriptions.{added, changed, confirmed, is_full, next_id, reported}
use Rattle.mt_subs.specs.declared.subscription.Kept.{Kept}
use Rattle.mt_subs.specs.declared.subscription.Sub.{Sub}
use Rattle.mt_subs.specs.declared.subscription.SubState.{SubState}
use Rattle.mt_machine.specs.Observation.{observation}
use Rattle.mt_machine.specs.Step.{asker, is_late, refusal}
use Rattle.mt_ledger.specs.history.History.{History}
use Rattle.mt_ledger.specs.Ledger.{Ledger}

-- What is wished for, by whoever is taken as asking.
pub record Wish : Type 0 where
  pub sub : Sub
  -- whether the other subscriptions of the same fabric and node stay
  pub keeps : Bool
  -- the least number of an event
  pub minimum : ℕ
  -- data versions that the subscriber has
  pub versions : List Version

abbrev pub wish_of : Actor → Request → Option Wish
wish_of asking (Subscribe keep floor ceiling paths wanted minimum filtered versions) = Some (record {
  sub = record { actor = asking; paths = paths; events = wanted; filtered = filtered; floor = floor; ceiling = ceiling };
  keeps = keep;
  minimum = minimum;
  versions = versions;
})
wish_of asking request = None

-- what comes later than its deadline is no wish
abbrev pub wish_in_time : Actor → Option ℕ → ℕ → Request → Option Wish
wish_in_time asking deadline now request = if is_late deadline now then None else wish_of asking request

abbrev pub wish_asked : Option Actor → Option ℕ → ℕ → Request → Option Wish
wish_asked None deadline now request = None
wish_asked (Some asking) deadline now request = wish_in_time asking deadline now request

abbrev pub wish_in : NodeState → Action → ℕ → Option Wish
wish_in s (Ask actor request deadline) now = wish_asked (asker s actor) deadline now request
wish_in s action now = None

-- The tests, in their order.

-- It names nothing; single items of a list, or of every cluster what not every cluster has; or its floor is above its ceiling.

abbrev pub names_nothing : Sub → Bool
names_nothing sub = length sub.paths == 0 && length sub.events == 0

abbrev pub is_unreadable : List Path → Bool
is_unreadable paths = list_any names_item paths || list_any is_not_global paths

abbrev pub is_malformed : Sub → Bool
is_malformed sub = names_nothing sub || (is_unreadable sub.paths || nat_lt sub.ceiling sub.floor)

-- Then the others of the same fabric and node end, unless they are to stay.
abbrev pub left_by : Wish → SubState → SubState
left_by wish subs = if wish.keeps then subs else without_node wish.sub.actor.fabric wish.sub.actor.node subs

-- Then there must be room for one more of the fabric.
abbrev pub has_no_room : Wish → SubState → Bool
has_no_room wish subs = is_full wish.sub.actor.fabric (left_by wish subs)

-- What a subscriber is told.

-- the attributes of these paths
abbrev pub attributes_for : NodeState → Actor → List Path → Bool → List Version → List Item
attributes_for s actor paths filtered versions = unwrap_or (read_answer (observation actor.fabric s).seen actor paths filtered versions) []

-- the events of the first report
abbrev pub first_events : NodeState → History → Wish → List Item
first_events s h wish = answered (asking s.entries wish.sub.actor wish.minimum wish.sub.events) h.rings

abbrev pub first_items : NodeState → History → Wish → List Item
first_items s h wish = attributes_for s wish.sub.actor wish.sub.paths wish.sub.filtered wish.versions ++ first_events s h wish

-- the number of the last event among items, this one where there is none
abbrev pub last_told : ℕ → List Item → ℕ
last_told number [] = number
last_told number (Event e ∷ items) = last_told e.number items
last_told number (item ∷ items) = last_told number items

-- THE ANSWER to a wish, and the subscriptions behind it.

abbrev pub wish_reply : NodeState → Ledger → Wish → Reply
wish_reply s l wish =
    if is_malformed wish.sub then refusal (code_of InvalidAction)
    else if has_no_room wish l.subs then refusal (code_of ResourceExhausted)
    else replies.Report (Some (next_id wish.sub.actor.fabric l.subs)) (first_items s l.history wish) false

-- A plain actor confirms what it is told at once; over a session that has still to come.
abbrev pub at_once : Actor → Kept → Kept
at_once actor kept = if is_some actor.session then kept else confirmed kept

-- The first report begins one below the least number of an event.
abbrev pub first_told : NodeState → History → ℕ → Wish → Kept → Kept
first_told s h now wish kept = at_once wish.sub.actor (reported now s.changed (last_told (wish.minimum - 1) (first_events s h wish)) kept)

abbrev pub subscribed : NodeState → Ledger → ℕ → Wish → SubState
subscribed s l now wish = changed wish.sub.actor.fabric (next_id wish.sub.actor.fabric l.subs) (first_told s l.history now wish) (added wish.sub.actor.fabric wish.sub (left_by wish l.subs))

abbrev pub behind_wish : NodeState → Ledger → ℕ → Wish → SubState
behind_wish s l now wish =
    if is_malformed wish.sub then l.subs
    else if has_no_room wish l.subs then left_by wish l.subs
    else subscribed s l now wish

abbrev pub behind_wish_if_any : NodeState → Ledger → ℕ → Option Wish → SubState
behind_wish_if_any s l now None = l.subs
behind_wish_if_any s l now (Some wish) = behind_wish s l now wish

-- Once the first report is confirmed the subscription stands, with the ceiling that was asked for.

abbrev pub response_for : ℕ → Reply → Reply
response_for ceiling (replies.Report (Some id) items suppress) = replies.Subscribed id ceiling
response_for ceiling reply = replies.Nothing

abbrev pub response_to : Option Wish → Reply → Reply
response_to None reply = replies.Nothing
response_to (Some wish) reply = response_for wish.sub.ceiling reply

-- so it is where a confirmation comes over a session; later reports bring no response
abbrev pub confirm_reply : ℕ → Option Kept → Reply
confirm_reply id None = replies.Nothing
confirm_reply id (Some kept) = if kept.primed then replies.Nothing else replies.Subscribed id kept.sub.ceiling
