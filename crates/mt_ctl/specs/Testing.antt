-- Why a datagram of a node opens, or does not: the tests in their order, and what is sealed in it.
use Rattle.std.specs.Prelude.{◌≡◌, ℕ, ◌==◌, not, Bool, true, false, List, [], ◌∷◌, take, drop, is_some, is_none, unwrap_or, slice_index, Option, Some, None, Result, Ok, Err, if◌then◌else◌}
use Rattle.mt_ccm.specs.Ccm.{Sealed}
use Rattle.mt_frame.specs.declared.header.ProtocolHeader.{ProtocolHeader}
use Rattle.mt_frame.specs.Reading.{message_fault, message_in, message_length, protocol_at, protocol_fault}
use Rattle.mt_model.specs.declared.texts.config.SessionRow.{SessionRow}
use Rattle.mt_model.specs.declared.texts.recording.Sent.{Sent}
use Rattle.mt_session.specs.declared.opening.Dropped.{Dropped}
use Rattle.mt_session.specs.Datagrams.{mirror, nonce, nonce_node}
use Rattle.mt_session.specs.Opening.{Arrival, is_foreign, received, unsealed}
use Rattle.mt_session.specs.Sessions.{arrivals_by, counters}
use Rattle.mt_window.specs.Counters.{seen}
use Rattle.mt_window.specs.declared.window.Seen.{Seen}
use Rattle.mt_window.specs.declared.window.Seen.TheVariants.{Fresh, Duplicate, Old}
use Rattle.mt_ctl.specs.declared.showing.Shown.{Shown}
use Rattle.mt_ctl.specs.declared.showing.Shown.TheVariants.{Opened, Closed}
use Rattle.mt_ctl.specs.Showing.{kind_of}

-- A test of a datagram: the kind of one that fails it, and whether this one does, whatever else is wrong.
pub record Test : Type 0 where
  pub kind : ℕ
  pub fails : Bool

abbrev pub is_duplicate : Seen → Bool
is_duplicate Fresh = false
is_duplicate Duplicate = true
is_duplicate Old = false

abbrev pub is_old : Seen → Bool
is_old Fresh = false
is_old Duplicate = false
is_old Old = true

-- how many bytes the message header has
abbrev pub head_length : List ℕ → ℕ
head_length bytes = message_length (slice_index bytes 0)

-- The tests of a datagram that comes to a session of this row, which let in these counters: the message header, the
-- session's id, the node ids that it names, the seal, the protocol header under it, and the window.
abbrev pub tests : SessionRow → List ℕ → List ℕ → List Test
tests row accepted bytes =
    let header = message_in bytes in
    let plain = unsealed row header.counter (head_length bytes) bytes in
    let window = seen row.counter_in accepted header.counter in
    record { kind = 1; fails = is_some (message_fault bytes) }
    ∷ record { kind = 2; fails = not (header.session == row.session) }
    ∷ record { kind = 6; fails = is_foreign row header }
    ∷ record { kind = 3; fails = is_none plain }
    ∷ record { kind = 1; fails = is_some (protocol_fault (unwrap_or plain [])) }
    ∷ record { kind = 4; fails = is_duplicate window }
    ∷ record { kind = 5; fails = is_old window } ∷ []

-- the kind of the first test that fails
abbrev pub first_failing : List Test → Option ℕ
first_failing [] = None
first_failing (test ∷ others) = if test.fails then Some test.kind else first_failing others

-- the kind of a datagram by what a session answers to it, None where it opens
abbrev pub closed_by : Result Arrival Dropped → Option ℕ
closed_by (Ok arrival) = None
closed_by (Err dropped) = Some (kind_of dropped)

-- In the datagram a message with this header and payload is sealed, under the key and the nonce of what the node with
-- this row sends.
pub record IsSealedIn (row : SessionRow) (bytes : List ℕ) (header : ProtocolHeader) (payload : List ℕ) : Type 0 where
  pub plain : List ℕ
  pub len : ℕ
  pub is_sealed : Sealed row.key_out (nonce (message_in bytes).counter (nonce_node row.auth row.own_node))
      (take (head_length bytes) bytes) plain (drop (head_length bytes) bytes)
  pub is_header : protocol_at plain ≡ Ok (header, len)
  pub is_payload : payload ≡ drop len plain

-- What an item tells of a datagram, behind the counters that were let in before: either a message that is sealed in it,
-- which passes all tests, or the kind of the first test that it fails; and when it was sent.
abbrev pub IsToldOf : SessionRow → List ℕ → Sent → Shown → Type 0
IsToldOf row accepted message (Opened ms header payload) =
    (ms ≡ message.ms) × IsSealedIn row message.bytes header payload × (first_failing (tests (mirror row) accepted message.bytes) ≡ None)
IsToldOf row accepted message (Closed ms kind) = (ms ≡ message.ms) × (first_failing (tests (mirror row) accepted message.bytes) ≡ Some kind)

-- An item for each datagram, in their order, which tells of it behind what the other side let in before.
abbrev pub AreToldOf : SessionRow → List Arrival → List Sent → List Shown → Type 0
AreToldOf row arrivals [] [] = Unit {0}
AreToldOf row arrivals [] (item ∷ items) = ⊥
AreToldOf row arrivals (message ∷ sent) [] = ⊥
AreToldOf row arrivals (message ∷ sent) (item ∷ items) =
    IsToldOf row (counters arrivals) message item
    × AreToldOf row (arrivals_by arrivals (received (mirror row) (counters arrivals) message.bytes)) sent items
