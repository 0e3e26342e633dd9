-- The plaintext that the cipher finds is the one that is sealed.
use Rattle.std.proofs.Common.{◌≡◌, ℕ, List, take, Option, Some, None, IfSome, IfNone}
use Rattle.mt_session.specs.Datagrams.{opened}
use Rattle.mt_session.proofs.Seals.{opened-is, opened-none}
use Rattle.mt_session.proofs.datagram.open.Goals as goal
use Rattle.mt_ccm.specs.Ccm.{Sealed}

plain_by : (key nonce aad old new : List ℕ) (found : Option ℕ) → IfSome found (λ n. Sealed key nonce aad (take n new) old)
    → IfSome found (λ n. opened key nonce aad old ≡ Some (take n new))
plain_by key nonce aad old new (Some n) is = opened-is key nonce aad (take n new) old is
plain_by key nonce aad old new None is = is

none_by : (key nonce aad old : List ℕ) (found : Option ℕ) → IfNone found ((plain : List ℕ) → Sealed key nonce aad plain old → ⊥)
    → IfNone found (opened key nonce aad old ≡ None)
none_by key nonce aad old (Some n) is = is
none_by key nonce aad old None is = opened-none key nonce aad old is

pub returns-clause-plain : goal.returns-clause-plain
returns-clause-plain c = plain_by c.args.cipher.now c.args.nonce.now c.args.aad.now c.args.bytes.now c.unseal.new.buf c.unseal.result c.unseal.ensures.opened

pub returns-clause-none : goal.returns-clause-none
returns-clause-none c = none_by c.args.cipher.now c.args.nonce.now c.args.aad.now c.args.bytes.now c.unseal.result c.unseal.ensures.refused
