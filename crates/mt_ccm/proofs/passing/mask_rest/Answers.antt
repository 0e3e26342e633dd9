use Rattle.std.proofs.Common.{ap, ◌∙◌, List, ℕ, ◌+◌, ◌*◌, bit_xor, slice_index}
use Rattle.mt_ccm.specs.Aes.{cipher}
use Rattle.mt_ccm.proofs.passing.mask_rest.Goals as goal

pub returns-clause-within : goal.returns-clause-within
returns-clause-within c = λ key held k low.
    c.add_stream.ensures.within k low
    ∙ ap (λ (s : List ℕ). bit_xor (slice_index c.args.bytes.now (16 * c.args.place + k)) (slice_index s k))
    (c.enciphered-stream.ensures key held ∙ ap (cipher key) c.counter.ensures)
