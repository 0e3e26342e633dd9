-- How a message header and a protocol header are spelled, by their tables of fields
-- (Matter Core Specification, section 4.4, Message Frame Format).
use Rattle.std.specs.Prelude.{◌≡◌, ◌≢◌, ℕ, ◌+◌, ◌<◌, List, ◌∷◌, ◌++◌, is_some}
use Rattle.mt_frame.specs.declared.header.MessageHeader.{MessageHeader}
use Rattle.mt_frame.specs.declared.header.ProtocolHeader.{ProtocolHeader}
use Rattle.mt_frame.specs.Fields.{flag, IsNumber, IsOptional}

-- The Message Flags of version 0: S, bit 2, where there is a source, and DSIZ, bits 0 and 1, which is 1
-- where there is a destination node id and 0 where there is none.
abbrev pub message_flags : MessageHeader → ℕ
message_flags header = flag 2 (is_some header.source) + flag 0 (is_some header.destination)

-- MessageSpells header bytes: Message Flags, Session ID, Security Flags, Message Counter, source node id
-- and destination node id, in this order. A unicast session has type 0, so its Security Flags are 0 where
-- no flag is set; session 0 is the unsecured one, and has no header here.
pub record MessageSpells (header : MessageHeader) (bytes : List ℕ) : Type 0 where
  pub session : List ℕ
  pub counter : List ℕ
  pub source : List ℕ
  pub destination : List ℕ
  pub order : bytes ≡ message_flags header ∷ (session ++ (0 ∷ (counter ++ (source ++ destination))))
  pub is_session : IsNumber 2 header.session session
  pub is_secured : header.session ≢ 0
  pub is_counter : IsNumber 4 header.counter counter
  pub is_source : IsOptional 8 header.source source
  pub is_destination : IsOptional 8 header.destination destination

-- The Exchange Flags: I is bit 0, A bit 1, R bit 2 and V bit 4. A is set where there is an acknowledged
-- counter, and V where there is a vendor.
abbrev pub exchange_flags : ProtocolHeader → ℕ
exchange_flags header =
    flag 0 header.initiator + flag 1 (is_some header.acknowledged) + flag 2 header.reliable + flag 4 (is_some header.vendor)

-- ProtocolSpells header bytes: Exchange Flags, Protocol Opcode, Exchange ID, Protocol ID, Protocol Vendor
-- ID and Acknowledged Message Counter, in this order.
pub record ProtocolSpells (header : ProtocolHeader) (bytes : List ℕ) : Type 0 where
  pub exchange : List ℕ
  pub protocol : List ℕ
  pub vendor : List ℕ
  pub acknowledged : List ℕ
  pub order : bytes ≡ exchange_flags header ∷ (header.opcode ∷ (exchange ++ (protocol ++ (vendor ++ acknowledged))))
  pub is_opcode : header.opcode < 256
  pub is_exchange : IsNumber 2 header.exchange exchange
  pub is_protocol : IsNumber 2 header.protocol protocol
  pub is_vendor : IsOptional 2 header.vendor vendor
  pub is_acknowledged : IsOptional 4 header.acknowledged acknowledged
