-- The one spelling of each header, as a function of the header, and what writing it leaves.
use Rattle.std.specs.Prelude.{◌≡◌, ◌≢◌, ℕ, ◌^◌, ◌<◌, ◌≤◌, List, [], ◌∷◌, ◌++◌, length, drop, Option, Some, None, IfSome, Result, Ok, Err}
use Rattle.byteorder.specs.Endian.{little_bytes}
use Rattle.mt_frame.specs.declared.fault.FrameFault.{FrameFault}
use Rattle.mt_frame.specs.declared.fault.FrameFault.TheVariants.{NoRoom}
use Rattle.mt_frame.specs.declared.header.MessageHeader.{MessageHeader}
use Rattle.mt_frame.specs.declared.header.ProtocolHeader.{ProtocolHeader}
use Rattle.mt_frame.specs.Spelling.{message_flags, exchange_flags}

-- a number that may be left out
abbrev pub optional_bytes : ℕ → Option ℕ → List ℕ
optional_bytes count None = []
optional_bytes count (Some n) = little_bytes count n

-- the bytes of a message header
abbrev pub message_bytes : MessageHeader → List ℕ
message_bytes header =
    message_flags header ∷ (little_bytes 2 header.session ++ (0 ∷ (little_bytes 4 header.counter
    ++ (optional_bytes 8 header.source ++ optional_bytes 8 header.destination))))

-- the bytes of a protocol header
abbrev pub protocol_bytes : ProtocolHeader → List ℕ
protocol_bytes header =
    exchange_flags header ∷ (header.opcode ∷ (little_bytes 2 header.exchange ++ (little_bytes 2 header.protocol
    ++ (optional_bytes 2 header.vendor ++ optional_bytes 4 header.acknowledged))))

-- A message header that has a spelling.
pub record IsMessage (header : MessageHeader) : Type 0 where
  pub is_secured : header.session ≢ 0
  pub session : header.session < 2 ^ 16
  pub counter : header.counter < 2 ^ 32
  pub source : IfSome header.source (λ n. n < 2 ^ 64)
  pub destination : IfSome header.destination (λ n. n < 2 ^ 64)

-- A protocol header that has a spelling.
pub record IsProtocol (header : ProtocolHeader) : Type 0 where
  pub opcode : header.opcode < 2 ^ 8
  pub exchange : header.exchange < 2 ^ 16
  pub protocol : header.protocol < 2 ^ 16
  pub vendor : IfSome header.vendor (λ n. n < 2 ^ 16)
  pub acknowledged : IfSome header.acknowledged (λ n. n < 2 ^ 32)

-- IsPut spelling result old new: where there is room the spelling stands at the front, the rest is as before
-- and the answer is its length; otherwise the answer is NoRoom, and all is as before.
abbrev pub IsPut : List ℕ → Result ℕ FrameFault → List ℕ → List ℕ → Type 0
IsPut spelling (Ok n) old new = (n ≡ length spelling) × (length spelling ≤ length old) × (new ≡ spelling ++ drop n old)
IsPut spelling (Err fault) old new = (fault ≡ NoRoom) × (length old < length spelling) × (new ≡ old)
