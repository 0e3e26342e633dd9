-- Which events a line can tell.
use Rattle.std.specs.Prelude.{◌≡◌, ◌≢◌, ◌≤◌, ◌<◌, ◌^◌, ℕ, ◌%◌, ◌-◌, true, List, ◌++◌, length, replicate, All}
use Rattle.hex.specs.Hex.{IsBytes}
use Rattle.mt_outside.specs.declared.network.Peer.{Peer}
use Rattle.mt_model.specs.declared.limits.TheConstants.{LAST_TIME, PAYLOAD_BYTES, RECEIVED_BYTES, LAST_CALLS, LAST_FABRIC}
use Rattle.mt_model.specs.declared.texts.recording.Event.{Event}
use Rattle.mt_model.specs.declared.texts.recording.Event.TheVariants.{Ask, Datagram, Tick, Report, Resend, Stop}
use Rattle.mt_model.specs.declared.texts.recording.Sent.{Sent}
use Rattle.mt_model.specs.declared.texts.recording.To.{To}
use Rattle.mt_model.specs.declared.texts.recording.To.TheVariants.{Plain, Session}
use Rattle.mt_files.specs.Event.{may_ask}

-- up to three CATs, each with a version, and then zeros
pub record AreCats (cats : List ℕ) : Type 0 where
  pub given : List ℕ
  pub few : length given ≤ 3
  pub padded : cats ≡ given ++ replicate (3 - length given) 0
  pub versions : All (λ cat. cat % 65536 ≢ 0) given

pub record AskForm (ms fabric node : ℕ) (cats payload : List ℕ) : Type 0 where
  pub time : ms ≤ LAST_TIME
  pub index : fabric ≤ LAST_FABRIC
  pub actor : may_ask fabric node cats ≡ true
  pub tags : AreCats cats
  pub size : length payload ≤ PAYLOAD_BYTES

-- the event is within the ranges of the format
abbrev pub HasForm : Event → Type 0
HasForm (Ask ms fabric node cats opcode payload) = AskForm ms fabric node cats payload
HasForm (Datagram ms peer bytes) = (ms ≤ LAST_TIME) × (length bytes ≤ RECEIVED_BYTES)
HasForm (Tick ms) = ms ≤ LAST_TIME
HasForm (Report ms fabric subscription) = (ms ≤ LAST_TIME) × (fabric ≤ LAST_FABRIC) × (1 ≤ subscription)
HasForm (Resend ms session) = (ms ≤ LAST_TIME) × (1 ≤ session)
HasForm (Stop calls fate) = calls ≤ LAST_CALLS

-- what is sent to whom is within the ranges of the format
abbrev pub HasToForm : To → List ℕ → Type 0
HasToForm (Session session peer) bytes = length bytes ≤ RECEIVED_BYTES
HasToForm (Plain fabric opcode) bytes = (fabric ≤ LAST_FABRIC) × (length bytes ≤ PAYLOAD_BYTES)

-- the message is within the ranges of the format
abbrev pub HasSentForm : Sent → Type 0
HasSentForm message = (message.ms ≤ LAST_TIME) × HasToForm message.to message.bytes

-- Every value of the types is within these ranges. A law over all events has to say so.

pub record IsPeer (peer : Peer) : Type 0 where
  pub long : length peer.ip ≡ 16
  pub bytes : IsBytes peer.ip
  pub port : peer.port < 2 ^ 16

pub record IsAsk (ms fabric node : ℕ) (cats : List ℕ) (opcode : ℕ) (payload : List ℕ) : Type 0 where
  pub time : ms < 2 ^ 64
  pub index : fabric < 2 ^ 8
  pub id : node < 2 ^ 64
  pub tags : All (λ cat. cat < 2 ^ 32) cats
  pub code : opcode < 2 ^ 8
  pub bytes : IsBytes payload

abbrev pub IsEvent : Event → Type 0
IsEvent (Ask ms fabric node cats opcode payload) = IsAsk ms fabric node cats opcode payload
IsEvent (Datagram ms peer bytes) = (ms < 2 ^ 64) × IsPeer peer × IsBytes bytes
IsEvent (Tick ms) = ms < 2 ^ 64
IsEvent (Report ms fabric subscription) = (ms < 2 ^ 64) × (fabric < 2 ^ 8) × (subscription < 2 ^ 32)
IsEvent (Resend ms session) = (ms < 2 ^ 64) × (session < 2 ^ 16)
IsEvent (Stop calls fate) = calls < 2 ^ 64

abbrev pub IsTo : To → Type 0
IsTo (Session session peer) = IsPeer peer
IsTo (Plain fabric opcode) = (fabric < 2 ^ 8) × (opcode < 2 ^ 8)

abbrev pub IsSent : Sent → Type 0
IsSent message = (message.ms < 2 ^ 64) × IsTo message.to × IsBytes message.bytes
