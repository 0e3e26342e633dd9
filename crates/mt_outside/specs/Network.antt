-- What the calls of an intake and of an outlet tell and do. Where one cannot tell what it holds or was given, nothing is said of that.
use Rattle.std.specs.Prelude.{◌≡◌, ◌≤◌, ℕ, List, [], ◌∷◌, ◌++◌, length, ⊤}
use Rattle.mt_outside.specs.declared.network.Arrival.{Arrival}
use Rattle.mt_outside.specs.declared.network.Arrival.TheVariants as arrivals
use Rattle.mt_outside.specs.declared.network.Parcel.{Parcel}
use Rattle.mt_outside.specs.declared.network.Peer.{Peer}
use Rattle.mt_outside.specs.declared.datagrams.Taken.{Taken}
use Rattle.mt_outside.specs.declared.datagrams.Taken.TheVariants.{Datagram, Quiet, Ended}
use Rattle.mt_outside.specs.declared.datagrams.TheConstants.{DATAGRAM_BYTES, LATEST_NOW}

-- when it came
abbrev pub time_of : Arrival → ℕ
time_of (arrivals.Datagram now from bytes) = now
time_of (arrivals.Quiet now) = now

-- the bytes of the datagram, none where nothing came
abbrev pub bytes_of : Arrival → List ℕ
bytes_of (arrivals.Datagram now from bytes) = bytes
bytes_of (arrivals.Quiet now) = []

-- what is told of an arrival
abbrev pub told : Arrival → Taken
told (arrivals.Datagram now from bytes) = Datagram now from (length bytes)
told (arrivals.Quiet now) = Quiet now

-- what is told where these arrivals are held
abbrev pub first_told : List Arrival → Taken
first_told [] = Ended
first_told (arrival ∷ rest) = told arrival

-- the bytes of the first of these arrivals
abbrev pub bytes_of_first : List Arrival → List ℕ
bytes_of_first [] = []
bytes_of_first (arrival ∷ rest) = bytes_of arrival

-- how many bytes it is told that there are
abbrev pub length_told : Taken → ℕ
length_told (Datagram now from length) = length
length_told (Quiet now) = 0
length_told Ended = 0

-- The time that is told is not before the latest one, is at most the last of all, and is the latest one then. Where the end is told, the latest one stays.
abbrev pub IsTimely : ℕ → ℕ → Taken → Type 0
IsTimely before after (Datagram now from length) = (before ≤ now) × (now ≤ LATEST_NOW) × (after ≡ now)
IsTimely before after (Quiet now) = (before ≤ now) × (now ≤ LATEST_NOW) × (after ≡ now)
IsTimely before after Ended = after ≡ before

-- None is earlier than this time or than the one before it, none is later than the last time, and none has too many bytes.
abbrev pub AreInOrder : ℕ → List Arrival → Type 0
AreInOrder from [] = ⊤
AreInOrder from (arrival ∷ rest) = (from ≤ time_of arrival) × (time_of arrival ≤ LATEST_NOW) × (length (bytes_of arrival) ≤ DATAGRAM_BYTES) × AreInOrder (time_of arrival) rest

-- these parcels, and one more behind them
abbrev pub given_after : List Parcel → Peer → List ℕ → List Parcel
given_after parcels to bytes = parcels ++ record { to = to; bytes = bytes } ∷ []
