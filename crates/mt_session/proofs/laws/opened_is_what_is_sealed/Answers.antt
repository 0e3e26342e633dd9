-- What is opened is what is sealed.
use Rattle.mt_session.proofs.Seals.{opened-is, opened-only}
use Rattle.mt_session.proofs.laws.opened_is_what_is_sealed.Goals as goal

pub returns : goal.returns
returns c = λ key nonce aad plain bytes. (opened-only key nonce aad plain bytes, opened-is key nonce aad plain bytes)
