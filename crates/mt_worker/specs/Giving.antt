-- What an outlet was given, where it can tell.
use Rattle.std.specs.Prelude.{◌≡◌, ℕ, List, [], ◌∷◌, ◌++◌, Option, Some, None, ⊤}
use mathlib.Core.List.{IsPrefix}
use Rattle.mt_model.specs.declared.texts.recording.Sent.{Sent}
use Rattle.mt_model.specs.declared.texts.recording.To.{To}
use Rattle.mt_model.specs.declared.texts.recording.To.TheVariants.{Session, Plain}
use Rattle.mt_outside.specs.declared.network.Parcel.{Parcel}

-- the parcel that a message over a session is
abbrev pub parcel_to : To → List ℕ → List Parcel
parcel_to (Session session peer) bytes = record { to = peer; bytes = bytes } ∷ []
parcel_to (Plain fabric opcode) bytes = []

abbrev pub parcel_in : Sent → List Parcel
parcel_in message = parcel_to message.to message.bytes

abbrev pub parcels_in : List Sent → List Parcel
parcels_in [] = []
parcels_in (message ∷ messages) = parcel_in message ++ parcels_in messages

-- it was given these parcels, in order
abbrev pub Gave : Option (List Parcel) → Option (List Parcel) → List Parcel → Type 0
Gave None after parcels = ⊤
Gave (Some before) after parcels = after ≡ Some (before ++ parcels)

-- it was given the first of these
abbrev pub GavePart : Option (List Parcel) → Option (List Parcel) → List Parcel → Type 0
GavePart before after parcels = (front : List Parcel) × IsPrefix front parcels × Gave before after front
