-- What the node remembers of events: the rings of the latest, and the numbers. The list of all that happened is stored nowhere.
use Rattle.std.specs.Prelude.{◌≡◌, ℕ, ◌≤◌, true, List, [], ◌∷◌, Option, Some, None}
use Rattle.mt_tlv.specs.declared.value.Value.{Value}
use Rattle.mt_tlv.specs.declared.value.Value.TheVariants as values
use Rattle.mt_tlv.specs.Tree.{uint, none, more}
use Rattle.mt_tlv.specs.declared.value.Tag.TheVariants.{Context}
use Rattle.mt_model.specs.declared.messages.message.Happened.{Happened}
use Rattle.mt_model.specs.declared.node.action.NodeStep.{NodeStep}
use Rattle.mt_model.specs.declared.node.action.NodeStep.TheVariants.{Emit}
use Rattle.mt_model.specs.declared.rows.place.Place.{Place}
use Rattle.mt_events.specs.Numbers.{begun, taken}
use Rattle.mt_events.specs.Rings.{AreRings, empty, forgotten, is_new, pushed}
use Rattle.mt_events.specs.declared.numbers.Numbers.{Numbers}

pub record History : Type 0 where
  pub rings : List (List Happened)
  pub numbers : Numbers

-- One more event, under the next number.

abbrev pub happened : ℕ → Place → ℕ → ℕ → ℕ → Value → Happened
happened number place priority now fabric value = record { number = number; place = place; priority = priority; at = now; fabric = fabric; value = value }

abbrev pub with_event : Happened → History → History
with_event event h = record { rings = pushed event h.rings; numbers = taken h.numbers }

-- what tells of an event is recorded, at this time
abbrev pub recorded : ℕ → NodeStep → History → History
recorded now (Emit place priority fabric value) h = with_event (happened h.numbers.next place priority now fabric value) h
recorded now step h = h

abbrev pub recorded_all : ℕ → List NodeStep → History → History
recorded_all now [] h = h
recorded_all now (step ∷ steps) h = recorded_all now steps (recorded now step h)

-- What is private to a fabric that leaves goes with it.
abbrev pub without_left : Option ℕ → History → History
without_left None h = h
without_left (Some fabric) h = record h { rings = forgotten fabric h.rings }

-- The start of a boot, where this ceiling was stored: StartUp with the software version 1 (Matter Core Specification, section 11.1).

abbrev pub start_up : Place
start_up = record { endpoint = 0; cluster = 0x28; leaf = 0 }

-- its priority is that of what is critical
abbrev pub starting : NodeStep
starting = Emit start_up 2 0 (values.Struct (more (Context 0) (uint 1) none))

abbrev pub begun_at : ℕ → History
begun_at ceiling = recorded 0 starting (record { rings = empty; numbers = begun ceiling })

-- that of the first boot
abbrev pub opened : History
opened = begun_at 0

-- What holds of every history: the rings are rings, all that they keep has happened, and the next number is not above the ceiling.
pub record IsHistory (h : History) : Type 0 where
  pub rings : AreRings h.rings
  pub past : is_new h.numbers.next h.rings ≡ true
  pub within : h.numbers.next ≤ h.numbers.ceiling
