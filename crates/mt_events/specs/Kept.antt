-- How the rings are kept: a buffer for each, which has as many places as the ring keeps events.
use Rattle.std.specs.Prelude.{◌≡◌, ℕ, ◌<◌, List, [], length, get_or, map}
use Rattle.circular_buffer.specs.Buffer.{Buffer, buffer}
use Rattle.mt_events.specs.Rings.{AreRings, capacity_of}
use Rattle.mt_model.specs.declared.messages.message.Happened.{Happened}

abbrev pub items_of : List (Buffer Happened) → List (List Happened)
items_of buffers = map (λ (b : Buffer Happened). b.items) buffers

pub record AreKept (buffers : List (Buffer Happened)) : Type 0 where
  pub rings : AreRings (items_of buffers)
  pub places : (fabric : ℕ) → fabric < length buffers → (get_or buffers fabric (buffer [] 0)).capacity ≡ capacity_of fabric
