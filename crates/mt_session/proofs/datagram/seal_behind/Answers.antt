-- What stands behind the message header is sealed, and the header stays.
use Rattle.std.proofs.Common.{◌≡◌, ℕ, List, ◌++◌, length, take, ap, ◌∙◌, arith}
use Rattle.std.proofs.lemmas.List.{append-nil}
use Rattle.mt_session.proofs.Seals.{behind_is, none_behind, rest_of}
use Rattle.mt_session.proofs.datagram.seal_behind.Goals as goal

pub returns : goal.returns
returns c = λ plain whole.
    let eight : length c.args.head.now ≡ 8 = omega arith in
    ap (λ (xs : List ℕ). take 8 c.args.bytes.now ++ (c.seal.new.buf ++ xs)) (none_behind 8 c.args.bytes.now)
    ∙ ap (λ (xs : List ℕ). take 8 c.args.bytes.now ++ xs) (append-nil c.seal.new.buf)
    ∙ behind_is c.args.cipher.now c.args.nonce.now c.args.head.now c.args.bytes.now c.seal.new.buf eight plain _ (rest_of 8 c.args.bytes.now) c.seal.ensures whole
