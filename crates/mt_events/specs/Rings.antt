-- The rings of events: the first has the latest of those that all may see, and each other one the latest of those that are
-- private to the fabric of its index.
use Rattle.std.specs.Prelude.{◌≡◌, ℕ, ◌≤◌, ◌==◌, ◌&&◌, ◌||◌, not, nat_lt, Bool, true, List, [], ◌∷◌, ◌++◌, length, filter, get_or, replicate, slice_set, if◌then◌else◌}
use Rattle.std.specs.List.{list_all}
use Rattle.circular_buffer.specs.Buffer.{keep_last}
use Rattle.mt_model.specs.declared.limits.TheConstants.{FABRICS, PRIVATE_EVENTS, SHARED_EVENTS}
use Rattle.mt_model.specs.declared.messages.message.Happened.{Happened}

-- how many events the ring of a fabric keeps; that of fabric 0 has those that all may see
abbrev pub capacity_of : ℕ → ℕ
capacity_of fabric = if fabric == 0 then SHARED_EVENTS else PRIVATE_EVENTS

abbrev pub ring_of : ℕ → List (List Happened) → List Happened
ring_of fabric rings = get_or rings fabric []

abbrev pub is_of : ℕ → Happened → Bool
is_of fabric e = e.fabric == fabric

abbrev pub is_below : ℕ → Happened → Bool
is_below number e = nat_lt e.number number

-- each event has a higher number than the one before it, from one above this on
abbrev pub rise_above : ℕ → List Happened → Bool
rise_above number [] = true
rise_above number (e ∷ es) = nat_lt number e.number && rise_above e.number es

abbrev pub rise : List Happened → Bool
rise [] = true
rise (e ∷ es) = rise_above e.number es

-- What holds of the ring of a fabric: its events are that fabric's, they rise, and there are no more than it keeps.
pub record IsRing (fabric : ℕ) (ring : List Happened) : Type 0 where
  pub own : list_all (is_of fabric) ring ≡ true
  pub rises : rise ring ≡ true
  pub within : length ring ≤ capacity_of fabric

-- What holds of all: there is a ring for each fabric that there may be.
pub record AreRings (rings : List (List Happened)) : Type 0 where
  pub all : length rings ≡ 17
  pub each : (fabric : ℕ) → fabric ≤ FABRICS → IsRing fabric (ring_of fabric rings)

-- no event has happened
abbrev pub empty : List (List Happened)
empty = replicate 17 []

-- the number is higher than those of all events that are kept
abbrev pub is_new : ℕ → List (List Happened) → Bool
is_new number rings = list_all (λ ring. list_all (is_below number) ring) rings

-- one more event: it stands last in its ring, whose oldest goes where the ring is full
abbrev pub pushed : Happened → List (List Happened) → List (List Happened)
pushed event rings = slice_set rings event.fabric (keep_last (capacity_of event.fabric) (ring_of event.fabric rings ++ event ∷ []))

-- without what is private to a fabric; what all may see is no fabric's
abbrev pub forgotten : ℕ → List (List Happened) → List (List Happened)
forgotten fabric rings = if fabric == 0 then rings else slice_set rings fabric []

-- The rings and the list of events that they stand for, which nothing keeps: each ring has the latest of its fabric's.

abbrev pub latest : ℕ → List Happened → List Happened
latest fabric events = keep_last (capacity_of fabric) (filter (is_of fabric) events)

pub record StandFor (rings : List (List Happened)) (events : List Happened) : Type 0 where
  pub are : (fabric : ℕ) → fabric ≤ FABRICS → ring_of fabric rings ≡ latest fabric events

-- those that stay where what is private to a fabric is forgotten
abbrev pub is_remembered : ℕ → Happened → Bool
is_remembered fabric e = fabric == 0 || not (e.fabric == fabric)

abbrev pub remembered : ℕ → List Happened → List Happened
remembered fabric events = filter (is_remembered fabric) events
