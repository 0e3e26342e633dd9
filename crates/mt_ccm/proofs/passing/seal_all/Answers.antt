use Rattle.std.proofs.Common.{◌≡◌, ℕ, ◌+◌, ◌-◌, ◌*◌, ◌/◌, ◌%◌, List, length, take, drop, refl, sym, ap, ◌∙◌, arith}
use Rattle.std.proofs.lemmas.List.{get_or-take, length-take-le, take_rest}
use Rattle.mt_ccm.specs.Aes.{cipher}
use Rattle.mt_ccm.specs.Ccm.{counter_block}
use Rattle.mt_ccm.specs.Steps.{chained_all}
use Rattle.mt_ccm.specs.Words.{block_at}
use Rattle.mt_ccm.proofs.MaskFacts.{length-cipher, mask_is, stream_added}
use Rattle.mt_ccm.proofs.PassFacts.{block_added, text_end, text_last, text_turn}
use Rattle.mt_ccm.proofs.passing.seal_all.Goals as goal

pub turns-preserved : goal.turns-preserved
turns-preserved c =
    let old : List ℕ = c.args.bytes.now in
    let now : List ℕ = c.turns.bytes in
    let i : ℕ = c.turns.i in
    let nonce : List ℕ = c.args.nonce.now in
    let size : length (take c.args.count old) ≡ c.args.count = length-take-le c.args.count old c.requires.room in
    record {
      within = λ key held k low.
          stream_added key nonce old now c.seal_block-next.new.bytes (cipher key (counter_block nonce (i + 1))) (16 * i) 16 i
          refl (omega arith) refl
          (block_added now c.seal_block-next.new.bytes (cipher key (counter_block nonce (i + 1))) (16 * i) (omega arith)
          (length-cipher key (counter_block nonce (i + 1))) (c.seal_block-next.ensures.masked key held))
          c.seal_block-next.ensures.before (c.turns.invariant.within key held) c.turns.invariant.after k (omega arith);
      after = λ k ge. c.seal_block-next.ensures.after k (omega arith) ∙ c.turns.invariant.after k (omega arith);
      rest = λ key held.
          text_turn key (take c.args.count old) now (block_at c.turns.state 0) (block_at c.seal_block-next.result 0) i
          (omega arith) (omega arith)
          (λ k ge low. c.turns.invariant.after k ge ∙ sym (get_or-take c.args.count old k 0 (omega arith)))
          (c.seal_block-next.ensures.chained key held)
          ∙ c.turns.invariant.rest key held;
    }

pub returns-then-count-eq0-clause-text : goal.returns-then-count-eq0-clause-text
returns-then-count-eq0-clause-text c = λ key held.
    mask_is key c.args.nonce.now c.args.bytes.now c.turns.bytes c.args.count c.requires.room (omega arith)
    (λ k low. c.turns.invariant.within key held k (omega arith)) (λ k ge. c.turns.invariant.after k (omega arith))

pub returns-then-count-eq0-clause-chained : goal.returns-then-count-eq0-clause-chained
returns-then-count-eq0-clause-chained c = λ key held.
    let size : length (take c.args.count c.args.bytes.now) ≡ c.args.count = length-take-le c.args.count c.args.bytes.now c.requires.room in
    text_end key (take c.args.count c.args.bytes.now) (block_at c.turns.state 0) c.turns.i (omega arith)
    ∙ c.turns.invariant.rest key held

pub returns-clause-text : goal.returns-clause-text
returns-clause-text c = λ key held.
    let old : List ℕ = c.args.bytes.now in
    let nonce : List ℕ = c.args.nonce.now in
    let whole : ℕ = c.args.count / 16 in
    mask_is key nonce old c.mask_rest.new.bytes c.args.count c.requires.room (omega arith)
    (λ k low. stream_added key nonce old c.turns.bytes c.mask_rest.new.bytes (cipher key (counter_block nonce (whole + 1))) (16 * whole)
    (c.args.count % 16) whole refl (omega arith) refl (c.mask_rest.ensures.within key held)
    c.mask_rest.ensures.before (λ m lt. c.turns.invariant.within key held m (omega arith))
    (λ m ge. c.turns.invariant.after m (omega arith)) k (omega arith))
    (λ k ge. c.mask_rest.ensures.after k (omega arith) ∙ c.turns.invariant.after k (omega arith))

pub returns-clause-chained : goal.returns-clause-chained
returns-clause-chained c = λ key held.
    let old : List ℕ = c.args.bytes.now in
    let count : ℕ = c.args.count in
    let at : ℕ = 16 * (count / 16) in
    let text : List ℕ = take count old in
    let buffer : List ℕ = take count c.turns.bytes in
    let size : length text ≡ count = length-take-le count old c.requires.room in
    let there : length buffer ≡ count = length-take-le count c.turns.bytes (omega arith) in
    let place : at ≡ 16 * c.turns.i = omega arith in
    text_last key text buffer (block_at c.turns.state 0) (block_at c.chained_rest-next.result 0) (take (length buffer - at) (drop at buffer)) at
    (omega arith) (omega arith) (there ∙ sym size)
    (λ k ge low. get_or-take count c.turns.bytes k 0 (omega arith) ∙ c.turns.invariant.after k (omega arith) ∙ sym (get_or-take count old k 0 (omega arith)))
    (take_rest buffer at) (c.chained_rest-next.ensures key held)
    ∙ ap (λ (n : ℕ). chained_all key (block_at c.turns.state 0) (drop n text)) place ∙ c.turns.invariant.rest key held
