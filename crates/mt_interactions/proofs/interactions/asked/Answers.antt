use Rattle.std.proofs.Common.{◌≡◌, false, sym, ◌∙◌, rules}
use Rattle.mt_im.specs.Limits.{IsRequestIn, IsWithinLimits}
use Rattle.mt_im.specs.Reading.{request_in}
use Rattle.mt_interactions.specs.Plan.{is_want_of_memory}
use Rattle.mt_interactions.proofs.Planned.{comes_to, if_ok}
use Rattle.mt_interactions.proofs.interactions.asked.Goals as goal

pub returns-clause-asks : goal.returns-clause-asks
returns-clause-asks c =
    let asked = c.decode-asked.result in
    let sure : is_want_of_memory asked ≡ false = sym c.is_want_of_memory.ensures ∙ search rules in
    sym (comes_to asked (request_in c.args.opcode c.args.payload.now) c.decode-asked.ensures.exact sure)

pub returns-clause-within : goal.returns-clause-within
returns-clause-within c = if_ok c.decode-asked.result (λ request. IsRequestIn c.args.opcode request c.args.payload.now) IsWithinLimits (λ request read. read.within) c.decode-asked.ensures.found
