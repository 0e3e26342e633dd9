-- The events of a soak, a long input that two numbers make: where its numbers begin, and how many fabrics
-- the node has. The same numbers make the same events.
use Rattle.std.specs.Prelude.{ℕ, zero, suc, ◌+◌, ◌*◌, ◌/◌, ◌%◌, ◌^◌, ◌==◌, nat_lt, Bool, true, false, ◌&&◌, List, [], ◌∷◌, replicate, slice_index, slice_set, if◌then◌else◌}
use Rattle.mt_tlv.specs.Narrow.{narrow}
use Rattle.mt_tlv.specs.declared.value.Tag.TheVariants.{Anonymous}
use Rattle.mt_model.specs.declared.messages.message.Request.{Request}
use Rattle.mt_model.specs.declared.texts.recording.Event.{Event}
use Rattle.mt_model.specs.declared.texts.recording.Event.TheVariants as events
use Rattle.mt_im.specs.Requests.{opcode_of, request_tree}
use Rattle.mt_soak.specs.declared.turn.Turn.{Turn}
use Rattle.mt_soak.specs.declared.turn.Turn.TheVariants as turns
use Rattle.mt_soak.specs.Requests.{on_off, node_label, bench_list, access_list, endpoint_one, label, bench_items, read_of, write_of, toggle_request, subscription_to}

-- NUMBERS. A number of 64 bits moves on at each draw, and its upper half is drawn.

abbrev pub moved : ℕ → ℕ
moved x = (x * 6364136223846793005 + 1442695040888963407) % 2 ^ 64

abbrev pub upper_half : ℕ → ℕ
upper_half x = x / 2 ^ 32

-- Between two events.
pub record State : Type 0 where
  -- what the last draw left
  pub number : ℕ
  pub fabrics : ℕ
  -- how many events there were
  pub answered : ℕ
  -- how many subscriptions each fabric asked for, by its index
  pub subscribed : List ℕ

unfoldable pub begun : ℕ → ℕ → State
begun begin fabrics = record { number = begin; fabrics = fabrics; answered = 0; subscribed = replicate 256 0 }

-- what is drawn for an event: first for the fabric, then for the turn
abbrev pub first_drawn : State → ℕ
first_drawn state = upper_half (moved state.number)

abbrev pub second_drawn : State → ℕ
second_drawn state = upper_half (moved (moved state.number))

-- EVENTS

-- the fabric on whose turn it is, 0 where there is none
abbrev pub fabric_of : ℕ → ℕ → ℕ
fabric_of fabrics a = if fabrics == 0 then 0 else 1 + a % fabrics

-- what is done; with no fabric there are ticks alone
abbrev pub turn_of : ℕ → ℕ → Turn
turn_of fabrics b =
    if fabrics == 0 then turns.Tick
    else if b % 8 == 0 then turns.ReadOnOff
    else if b % 8 == 1 then turns.Toggle
    else if b % 8 == 2 then turns.WriteLabel
    else if b % 8 == 3 then turns.ReadEndpoint
    else if b % 8 == 4 then turns.ReplaceBench
    else if b % 8 == 5 then turns.ReadAccess
    else if b % 8 == 6 then turns.Subscribe
    else turns.Tick

-- the time of the event of this number, in ms
abbrev pub time_of : ℕ → ℕ
time_of i = 100 * i

-- node 1 of the fabric asks, without CATs
unfoldable pub asks : ℕ → ℕ → Request → Event
asks i fabric request = events.Ask (time_of i) fabric 1 (0 ∷ 0 ∷ 0 ∷ []) (opcode_of request) (narrow Anonymous (request_tree request))

-- a fabric subscribes three times
abbrev pub may_subscribe : ℕ → Bool
may_subscribe asked = nat_lt asked 3

-- and then one of its subscriptions may report
abbrev pub reports : ℕ → ℕ → Event
reports i fabric = events.Report (time_of i) fabric (1 + i % 3)

-- the event of this number, on a fabric's turn, which asked for so many subscriptions before
abbrev pub event_at : Turn → ℕ → ℕ → ℕ → Event
event_at turns.ReadOnOff i fabric asked = asks i fabric (read_of on_off true)
event_at turns.Toggle i fabric asked = asks i fabric toggle_request
event_at turns.WriteLabel i fabric asked = asks i fabric (write_of node_label (label i))
event_at turns.ReadEndpoint i fabric asked = asks i fabric (read_of endpoint_one true)
event_at turns.ReplaceBench i fabric asked = asks i fabric (write_of bench_list (bench_items i))
event_at turns.ReadAccess i fabric asked = asks i fabric (read_of access_list false)
event_at turns.Subscribe i fabric asked = if may_subscribe asked then asks i fabric (subscription_to on_off) else reports i fabric
event_at turns.Tick i fabric asked = events.Tick (time_of i)

abbrev pub is_subscribe : Turn → Bool
is_subscribe turns.Subscribe = true
is_subscribe turn = false

-- THE NEXT EVENT

abbrev pub next_turn : State → Turn
next_turn state = turn_of state.fabrics (second_drawn state)

abbrev pub next_fabric : State → ℕ
next_fabric state = fabric_of state.fabrics (first_drawn state)

abbrev pub next_asked : State → ℕ
next_asked state = slice_index state.subscribed (next_fabric state)

-- events are counted from 1
unfoldable pub event_of : State → Event
event_of state = event_at (next_turn state) (state.answered + 1) (next_fabric state) (next_asked state)

-- how many each fabric asked for, behind a turn of this one, which asked for so many before
abbrev pub subscribed_behind : Turn → ℕ → ℕ → List ℕ → List ℕ
subscribed_behind turn fabric asked subscribed =
    if is_subscribe turn && may_subscribe asked then slice_set subscribed fabric (asked + 1) else subscribed

unfoldable pub behind : State → State
behind state = record {
  number = moved (moved state.number);
  fabrics = state.fabrics;
  answered = state.answered + 1;
  subscribed = subscribed_behind (next_turn state) (next_fabric state) (next_asked state) state.subscribed;
}

-- ALL EVENTS

-- so many events from a state on
abbrev pub events_from : State → ℕ → List Event
events_from state zero = []
events_from state (suc count) = event_of state ∷ events_from (behind state) count

-- behind so many events
abbrev pub behind_all : State → ℕ → State
behind_all state zero = state
behind_all state (suc count) = behind_all (behind state) count

-- the first events that two numbers make
abbrev pub generated : ℕ → ℕ → ℕ → List Event
generated begin fabrics count = events_from (begun begin fabrics) count

-- whether an event is played, and is no stop
abbrev pub is_played : Event → Bool
is_played (events.Stop calls fate) = false
is_played event = true
