-- Reading a header from the first byte on, with the first fault in the order of the format
-- (Matter Core Specification, section 4.4, Message Frame Format).
use Rattle.std.specs.Prelude.{ℕ, ◌+◌, ◌/◌, ◌%◌, ◌==◌, ◌||◌, nat_lt, Bool, List, length, drop, Option, Some, None, Result, Ok, Err, slice_index, if◌then◌else◌}
use Rattle.byteorder.specs.Endian.{little_number}
use Rattle.mt_frame.specs.declared.fault.FrameFault.{FrameFault}
use Rattle.mt_frame.specs.declared.fault.FrameFault.TheVariants.{Short, Version, Reserved, Group, Private, Extended, Unsecured, Control}
use Rattle.mt_frame.specs.declared.header.MessageHeader.{MessageHeader}
use Rattle.mt_frame.specs.declared.header.ProtocolHeader.{ProtocolHeader}
use Rattle.mt_frame.specs.Fields.{is_set}

-- what is answered where this is the first fault, if there is one
abbrev pub unless : {A : Type 0} → Option FrameFault → A → Result A FrameFault
unless None answer = Ok answer
unless (Some fault) answer = Err fault

-- the first fault of a header of this length in bytes of this length, whose flags may have a fault before
abbrev pub fault_or_short : Option FrameFault → ℕ → ℕ → Option FrameFault
fault_or_short (Some fault) there needed = Some fault
fault_or_short None there needed = if nat_lt there needed then Some Short else None

-- a number that is there or not
abbrev pub number_where : Bool → ℕ → List ℕ → Option ℕ
number_where there count bytes = if there then Some (little_number count bytes) else None

-- how many bytes a field takes that is there or not
abbrev pub width_where : Bool → ℕ → ℕ
width_where there count = if there then count else 0

-- ---- the message header: Message Flags in byte 0, Session ID in bytes 1 and 2, Security Flags in byte 3,
-- ---- Message Counter in bytes 4 to 7

-- S, by which there is a source
abbrev pub has_source : ℕ → Bool
has_source flags = is_set flags 2

-- DSIZ is 1, by which there is a destination node id
abbrev pub has_destination : ℕ → Bool
has_destination flags = flags % 4 == 1

-- how many bytes a header with these Message Flags takes
abbrev pub message_length : ℕ → ℕ
message_length flags = 8 + width_where (has_source flags) 8 + width_where (has_destination flags) 8

-- A reserved bit is set, DSIZ is 3, or the session type is 2 or 3.
abbrev pub has_reserved : ℕ → ℕ → Bool
has_reserved flags security =
    is_set flags 3 || is_set security 2 || is_set security 3 || is_set security 4 || flags % 4 == 3 || is_set security 1

-- A group message: the session type is 1, or the destination is a group id.
abbrev pub is_group : ℕ → ℕ → Bool
is_group flags security = security % 4 == 1 || flags % 4 == 2

-- what is wrong first in the Message Flags, the Security Flags and the Session ID
unfoldable pub flags_fault : ℕ → ℕ → ℕ → Option FrameFault
flags_fault flags security session =
    if nat_lt 0 (flags / 16) then Some Version
    else if has_reserved flags security then Some Reserved
    else if is_group flags security then Some Group
    else if is_set security 7 then Some Private
    else if is_set security 6 then Some Control
    else if is_set security 5 then Some Extended
    else if session == 0 then Some Unsecured
    else None

-- what is wrong first in the bytes
abbrev pub message_fault : List ℕ → Option FrameFault
message_fault bytes =
    if nat_lt (length bytes) 8 then Some Short
    else fault_or_short (flags_fault (slice_index bytes 0) (slice_index bytes 3) (little_number 2 (drop 1 bytes)))
    (length bytes) (message_length (slice_index bytes 0))

-- the fields, each where it stands: the source behind the fixed fields, the destination behind the source
abbrev pub message_in : List ℕ → MessageHeader
message_in bytes =
    let flags = slice_index bytes 0 in
    let optional = drop 8 bytes in
    record {
      session = little_number 2 (drop 1 bytes);
      counter = little_number 4 (drop 4 bytes);
      source = number_where (has_source flags) 8 optional;
      destination = number_where (has_destination flags) 8 (drop (width_where (has_source flags) 8) optional);
    }

-- the header at the front and its length, or the first fault
abbrev pub message_at : List ℕ → Result (MessageHeader × ℕ) FrameFault
message_at bytes = unless (message_fault bytes) (message_in bytes, message_length (slice_index bytes 0))

-- ---- the protocol header: Exchange Flags in byte 0, Protocol Opcode in byte 1, Exchange ID in bytes 2 and
-- ---- 3, Protocol ID in bytes 4 and 5

-- V, by which there is a vendor
abbrev pub has_vendor : ℕ → Bool
has_vendor flags = is_set flags 4

-- A, by which there is an acknowledged counter
abbrev pub has_acknowledged : ℕ → Bool
has_acknowledged flags = is_set flags 1

-- how many bytes a header with these Exchange Flags takes
abbrev pub protocol_length : ℕ → ℕ
protocol_length flags = 6 + width_where (has_vendor flags) 2 + width_where (has_acknowledged flags) 4

-- what is wrong first in the Exchange Flags: bits 5 to 7 are reserved, and bit 3 is SX, an extension
unfoldable pub exchange_fault : ℕ → Option FrameFault
exchange_fault flags =
    if nat_lt 0 (flags / 32) then Some Reserved
    else if is_set flags 3 then Some Extended
    else None

-- what is wrong first in the bytes
abbrev pub protocol_fault : List ℕ → Option FrameFault
protocol_fault bytes =
    if nat_lt (length bytes) 6 then Some Short
    else fault_or_short (exchange_fault (slice_index bytes 0)) (length bytes) (protocol_length (slice_index bytes 0))

-- the fields, each where it stands: the vendor behind the fixed fields, the acknowledged counter behind the vendor
abbrev pub protocol_in : List ℕ → ProtocolHeader
protocol_in bytes =
    let flags = slice_index bytes 0 in
    let optional = drop 6 bytes in
    record {
      initiator = is_set flags 0;
      reliable = is_set flags 2;
      opcode = slice_index bytes 1;
      exchange = little_number 2 (drop 2 bytes);
      protocol = little_number 2 (drop 4 bytes);
      vendor = number_where (has_vendor flags) 2 optional;
      acknowledged = number_where (has_acknowledged flags) 4 (drop (width_where (has_vendor flags) 2) optional);
    }

-- the header at the front and its length, or the first fault
abbrev pub protocol_at : List ℕ → Result (ProtocolHeader × ℕ) FrameFault
protocol_at bytes = unless (protocol_fault bytes) (protocol_in bytes, protocol_length (slice_index bytes 0))
