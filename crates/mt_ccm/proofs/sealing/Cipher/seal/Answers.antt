use Rattle.std.proofs.Common.{ℕ, ◌-◌, List, length, take, refl, arith}
use Rattle.mt_ccm.proofs.ScheduleFacts.{schedule_of}
use Rattle.mt_ccm.proofs.SealFacts.{sealed_is}
use Rattle.mt_ccm.specs.Words.{IsScheduleOf}
use Rattle.mt_ccm.proofs.sealing.Cipher.seal.Goals as goal

pub returns : goal.returns
returns c =
    let key : List ℕ = c.args.self.now in
    let old : List ℕ = c.args.buf.now in
    let n : ℕ = length old - 16 in
    let held : IsScheduleOf key c.self.inside.words = schedule_of key c.self.inside.words c.self.view_is c.self.invariant in
    sealed_is key c.args.nonce.now c.args.aad.now old c.seal_text-tag.new.bytes (take n old) c.seal_text-tag.result c.put_tag.new.bytes n
    (omega arith) refl (c.seal_text-tag.ensures.text key held) (c.seal_text-tag.ensures.tag key held) c.put_tag.ensures
