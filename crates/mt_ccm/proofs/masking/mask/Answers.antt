use Rattle.std.proofs.Common.{ℕ, ◌*◌, ◌/◌, ◌%◌, refl, ap, ◌∙◌, arith}
use Rattle.mt_ccm.specs.Aes.{cipher}
use Rattle.mt_ccm.proofs.MaskFacts.{mask_is, stream_added}
use Rattle.mt_ccm.proofs.masking.mask.Goals as goal

pub turns-preserved : goal.turns-preserved
turns-preserved c = record {
  within = λ key held k low.
      stream_added key c.args.nonce.now c.args.bytes.now c.turns.bytes c.add_stream.new.bytes c.enciphered-stream.result (16 * c.turns.i) 16 c.turns.i
      refl (omega arith) (c.enciphered-stream.ensures key held ∙ ap (cipher key) c.counter.ensures) c.add_stream.ensures.within c.add_stream.ensures.before
      (c.turns.invariant.within key held) c.turns.invariant.after k (omega arith);
  after = λ k ge. c.add_stream.ensures.after k (omega arith) ∙ c.turns.invariant.after k (omega arith);
}

pub returns : goal.returns
returns c = λ key held.
    let whole : ℕ = c.args.count / 16 in
    mask_is key c.args.nonce.now c.args.bytes.now c.add_stream-2.new.bytes c.args.count c.requires.room (omega arith)
    (λ k low. stream_added key c.args.nonce.now c.args.bytes.now c.turns.bytes c.add_stream-2.new.bytes c.enciphered-stream-2.result (16 * whole)
    (c.args.count % 16) whole refl (omega arith) (c.enciphered-stream-2.ensures key held ∙ ap (cipher key) c.counter-2.ensures)
    c.add_stream-2.ensures.within c.add_stream-2.ensures.before (λ m lt. c.turns.invariant.within key held m (omega arith))
    (λ m ge. c.turns.invariant.after m (omega arith)) k (omega arith))
    (λ k ge. c.add_stream-2.ensures.after k (omega arith) ∙ c.turns.invariant.after k (omega arith))

pub returns-then-count-eq0 : goal.returns-then-count-eq0
returns-then-count-eq0 c = λ key held.
    mask_is key c.args.nonce.now c.args.bytes.now c.turns.bytes c.args.count c.requires.room (omega arith)
    (λ k low. c.turns.invariant.within key held k (omega arith)) (λ k ge. c.turns.invariant.after k (omega arith))
