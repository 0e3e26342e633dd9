-- What is sealed passes each test of the mirror.
use Rattle.std.proofs.Common.{◌≡◌, ℕ, List, ◌++◌, length, Some, Ok, refl, sym, ◌∙◌}
use Rattle.std.proofs.lemmas.List.{drop_at, take_at}
use Rattle.mt_frame.specs.declared.header.ProtocolHeader.{ProtocolHeader}
use Rattle.mt_frame.specs.Reading.{message_at, protocol_at}
use Rattle.mt_frame.specs.Writing.{message_bytes, protocol_bytes}
use Rattle.mt_model.specs.declared.texts.config.SessionRow.{SessionRow}
use Rattle.mt_window.specs.Counters.{seen}
use Rattle.mt_window.specs.declared.window.Seen.TheVariants.{Fresh}
use Rattle.mt_session.specs.Datagrams.{datagram, mirror, nonce, nonce_node, opened, sealed, sent_header}
use Rattle.mt_session.specs.Opening.{received, unsealed}
use Rattle.mt_session.proofs.Answered.{framed_by, opens_by}
use Rattle.mt_session.proofs.Seals.{opened-sealed}
use Rattle.mt_session.proofs.laws.mirror_opens_what_is_sealed.Goals as goal

let_in : (row : SessionRow) (accepted : List ℕ) (counter : ℕ) (header : ProtocolHeader) (payload : List ℕ)
    → message_at (datagram row counter header payload) ≡ Ok (sent_header row counter, 8)
    → protocol_at (protocol_bytes header ++ payload) ≡ Ok (header, length (protocol_bytes header))
    → seen row.counter_out accepted counter ≡ Fresh
    → received (mirror row) accepted (datagram row counter header payload) ≡ Ok (record { counter = counter; header = header; payload = payload })
let_in row accepted counter header payload read framed fresh =
    let head : List ℕ = message_bytes (sent_header row counter) in
    let plain : List ℕ = protocol_bytes header ++ payload in
    let mark : List ℕ = nonce counter (nonce_node row.auth row.own_node) in
    let behind : List ℕ = sealed row.key_out mark head plain in
    let is : unsealed (mirror row) counter 8 (datagram row counter header payload) ≡ Some plain =
    (λ i. opened row.key_out mark (take_at head behind 8 refl i) (drop_at head behind 8 refl i)) ∙ opened-sealed row.key_out mark head plain in
    let answer : ProtocolHeader × ℕ = (header, length (protocol_bytes header)) in
    sym (opens_by accepted (datagram row counter header payload) (sent_header row counter, 8) (sym read) (mirror row) (mirror row) refl refl refl plain is)
    ∙ sym (framed_by (mirror row) accepted counter plain answer Fresh (sym framed) (sym fresh))
    ∙ (λ i. Ok (record { counter = counter; header = header; payload = drop_at (protocol_bytes header) payload (length (protocol_bytes header)) refl i }))

pub returns : goal.returns
returns c = λ row accepted counter header payload good framed fresh.
    let_in row accepted counter header payload (c.written_headers_are_read.ensures.message (sent_header row counter) _ good)
    (c.written_headers_are_read.ensures.protocol header payload framed) fresh
