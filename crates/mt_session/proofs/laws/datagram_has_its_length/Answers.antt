-- The parts of a datagram add up.
use Rattle.std.proofs.Common.{◌≡◌, ℕ, List, ◌+◌, ◌++◌, length, ap, refl, arith}
use Rattle.std.proofs.lemmas.List.{length-append}
use Rattle.mt_frame.specs.Writing.{message_bytes, protocol_bytes}
use Rattle.mt_session.specs.Datagrams.{nonce, nonce_node, sealed, sent_header}
use Rattle.mt_session.proofs.Seals.{length-sealed}
use Rattle.mt_session.proofs.laws.datagram_has_its_length.Goals as goal

added : (head sealing plain first second : List ℕ) → length head ≡ 8 → length sealing ≡ length plain + 16 → plain ≡ first ++ second
    → length (head ++ sealing) ≡ 8 + length first + length second + 16
added head sealing plain first second eight long is =
    omega (arith, length-append head sealing, eight, long, ap length is, length-append first second)

pub returns : goal.returns
returns c = λ row counter header payload.
    let head : List ℕ = message_bytes (sent_header row counter) in
    let plain : List ℕ = protocol_bytes header ++ payload in
    let mark : List ℕ = nonce counter (nonce_node row.auth row.own_node) in
    added head (sealed row.key_out mark head plain) plain (protocol_bytes header) payload refl (length-sealed row.key_out mark head plain) refl
