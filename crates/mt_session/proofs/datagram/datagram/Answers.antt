-- What is sealed behind the message header is the protocol header and the payload.
use Rattle.std.proofs.Common.{◌≡◌, ℕ, List, ◌++◌, length, replicate, ap, ◌∙◌, arith}
use Rattle.std.proofs.lemmas.List.{append_assoc}
use Rattle.mt_frame.specs.Writing.{protocol_bytes}
use Rattle.mt_session.specs.Datagrams.{nonce, sealed}
use Rattle.mt_session.proofs.Seals.{written_over}
use Rattle.mt_session.proofs.datagram.datagram.Goals as goal

regrouped : (head protocol payload zeros : List ℕ) → ((head ++ protocol) ++ payload) ++ zeros ≡ (head ++ (protocol ++ payload)) ++ zeros
regrouped head protocol payload zeros = ap (λ (xs : List ℕ). xs ++ zeros) (append_assoc head protocol payload)

pub returns : goal.returns
returns c =
    let plain : List ℕ = protocol_bytes c.args.header.now ++ c.args.payload.now in
    let before : c.deref_mut.result.now ≡ (c.message_head-head.result ++ plain) ++ replicate 16 0 =
    c.deref_mut.ensures.value ∙ c.in_ok-bytes.ensures
    ∙ regrouped c.message_head-head.result (protocol_bytes c.args.header.now) c.args.payload.now (replicate 16 0) in
    let named : c.nonce-nonce.result ≡ nonce c.args.counter c.nonce_node.result = c.nonce-nonce.ensures in
    let node = c.nonce_node.ensures in
    let same : length c.seal_behind.new.bytes ≡ length c.in_ok-bytes.bytes.items = omega (arith, ap length c.deref_mut.ensures.value) in
    c.from_vec.ensures
    ∙ written_over c.seal_behind.new.bytes c.in_ok-bytes.bytes.items c.in_ok-bytes.bytes.len same (omega arith)
    ∙ c.seal_behind.ensures plain before
    ∙ (λ i. c.message_head-head.ensures i ++ sealed (c.requires.key i) ((named ∙ ap (nonce c.args.counter) node) i) (c.message_head-head.ensures i) plain)
