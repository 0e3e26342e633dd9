use Rattle.mt_ccm.proofs.SealFacts.{one_plaintext}
use Rattle.mt_ccm.proofs.laws.bytes_have_one_plaintext.Goals as goal

pub returns : goal.returns
returns c = one_plaintext c.args.key.now c.args.nonce.now c.args.aad.now
