-- The datagram that a session sends (Matter Core Specification, section 4.7, Message Security): the message
-- header, and behind it the protocol header and the payload, sealed.
use Rattle.std.specs.Prelude.{ℕ, ◌+◌, ◌-◌, nat_lt, List, ◌∷◌, ◌++◌, length, take, drop, bytes_eq, Option, Some, None, if◌then◌else◌}
use Rattle.byteorder.specs.Endian.{little_bytes}
use Rattle.mt_ccm.specs.Ccm.{masked, masked_tag}
use Rattle.mt_frame.specs.declared.header.MessageHeader.{MessageHeader}
use Rattle.mt_frame.specs.declared.header.ProtocolHeader.{ProtocolHeader}
use Rattle.mt_frame.specs.Writing.{message_bytes, protocol_bytes}
use Rattle.mt_model.specs.declared.tables.access.Auth.{Auth}
use Rattle.mt_model.specs.declared.tables.access.Auth.TheVariants.{Pase, Case, Group}
use Rattle.mt_model.specs.declared.texts.config.SessionRow.{SessionRow}

-- the node id that a nonce names: on CASE the sender's operational id, and on PASE none, which is 0
abbrev pub nonce_node : Auth → ℕ → ℕ
nonce_node Case node = node
nonce_node Pase node = 0
nonce_node Group node = 0

-- The Security Flags of a unicast session, the Message Counter and the sender's node id.
abbrev pub nonce : ℕ → ℕ → List ℕ
nonce counter node = 0 ∷ (little_bytes 4 counter ++ little_bytes 8 node)

-- the header of a sent message: the peer's id of the session, and no node ids
abbrev pub sent_header : SessionRow → ℕ → MessageHeader
sent_header row counter = record { session = row.peer_session; counter = counter; source = None; destination = None }

-- a plaintext under the seal: masked, and its masked tag (NIST SP 800-38C, 6.1)
unfoldable pub sealed : List ℕ → List ℕ → List ℕ → List ℕ → List ℕ
sealed key nonce aad plain = masked key nonce plain ++ masked_tag key nonce aad plain

-- the plaintext that is sealed to these bytes, where there is one (NIST SP 800-38C, 6.2)
unfoldable pub opened : List ℕ → List ℕ → List ℕ → List ℕ → Option (List ℕ)
opened key nonce aad bytes =
    let count = length bytes - 16 in
    let plain = masked key nonce (take count bytes) in
    if nat_lt (length bytes) 16 then None
    else if bytes_eq (drop count bytes) (masked_tag key nonce aad plain) then Some plain
    else None

-- the datagram of a message under this counter; the message header is the associated data of the seal
abbrev pub datagram : SessionRow → ℕ → ProtocolHeader → List ℕ → List ℕ
datagram row counter header payload =
    let head = message_bytes (sent_header row counter) in
    head ++ sealed row.key_out (nonce counter (nonce_node row.auth row.own_node)) head (protocol_bytes header ++ payload)

-- how many bytes it has: 8 of the message header, the protocol header, the payload and 16 of the tag
abbrev pub datagram_length : ProtocolHeader → List ℕ → ℕ
datagram_length header payload = 8 + length (protocol_bytes header) + length payload + 16

-- The row of the other side: the ids, nodes, keys and counters of the two sides are exchanged.
abbrev pub mirror : SessionRow → SessionRow
mirror row = record row {
  session = row.peer_session;
  peer_session = row.session;
  own_node = row.peer_node;
  peer_node = row.own_node;
  key_in = row.key_out;
  key_out = row.key_in;
  counter_in = row.counter_out;
  counter_out = row.counter_in;
}
