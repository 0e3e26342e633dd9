-- The tests of a datagram, over what was let in before.
use Rattle.std.proofs.Common.{◌≡◌, Some, None, false, take, ap, sym, ◌∙◌, arith}
use Rattle.mt_session.proofs.Answered.{opens_by, drops_by, header_short}
use Rattle.mt_session.specs.Datagrams.{nonce, opened}
use Rattle.mt_session.specs.Opening.{is_foreign, unsealed}
use Rattle.mt_session.specs.Sessions.{counters}
use Rattle.mt_session.proofs.kept.Session.unseal.Goals as goal

pub open-requires-clause-aad : goal.open-requires-clause-aad
open-requires-clause-aad c =
    omega (arith, header_short c.args.datagram.now c.in-Ok.found c.in-Ok.ensures.exact, c.split_at_mut-head.ensures.front_len)

pub returns-in-Some-clause-answer : goal.returns-in-Some-clause-answer
returns-in-Some-clause-answer c = λ row arrivals messages s.
    let home : is_foreign c.args.self.now.row c.in-Ok.found.0 ≡ false = sym c.is_foreign.ensures ∙ c.if-is_foreign.false in
    let named : c.nonce-nonce.result ≡ nonce c.in-Ok.found.0.counter c.nonce_node.result = c.nonce-nonce.ensures in
    let node = c.nonce_node.ensures in
    let key : c.args.self.now.cipher_in ≡ c.args.self.now.row.key_in = c.args.self.now.opens_by_key in
    let is : unsealed c.args.self.now.row c.in-Ok.found.0.counter c.in-Ok.found.1 c.args.datagram.now ≡ Some (take c.in-Some.count c.open.new.bytes) =
    (λ i. opened (sym key i) (sym (named ∙ ap (nonce c.in-Ok.found.0.counter) node) i) (sym c.split_at_mut-head.ensures.front i) (sym c.split_at_mut-head.ensures.back i))
    ∙ c.in-Some.ensures.plain in
    c.let_in.ensures.answer row arrivals messages s
    ∙ opens_by (counters arrivals) c.args.datagram.now c.in-Ok.found c.in-Ok.ensures.exact c.args.self.now.row row s.is_row c.if-header-self.false home _ is

pub returns-in-None-clause-answer : goal.returns-in-None-clause-answer
returns-in-None-clause-answer c = λ row arrivals messages s.
    let home : is_foreign c.args.self.now.row c.in-Ok.found.0 ≡ false = sym c.is_foreign.ensures ∙ c.if-is_foreign.false in
    let named : c.nonce-nonce.result ≡ nonce c.in-Ok.found.0.counter c.nonce_node.result = c.nonce-nonce.ensures in
    let node = c.nonce_node.ensures in
    let key : c.args.self.now.cipher_in ≡ c.args.self.now.row.key_in = c.args.self.now.opens_by_key in
    let is : unsealed c.args.self.now.row c.in-Ok.found.0.counter c.in-Ok.found.1 c.args.datagram.now ≡ None =
    (λ i. opened (sym key i) (sym (named ∙ ap (nonce c.in-Ok.found.0.counter) node) i) (sym c.split_at_mut-head.ensures.front i) (sym c.split_at_mut-head.ensures.back i))
    ∙ c.in-None.ensures.none in
    drops_by (counters arrivals) c.args.datagram.now c.in-Ok.found c.in-Ok.ensures.exact c.args.self.now.row row s.is_row c.if-header-self.false home is
