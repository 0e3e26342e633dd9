use Rattle.std.proofs.Common.{◌≡◌, ◌∙◌, sym}
use Rattle.mt_machine.specs.Effects.{after_all}
use Rattle.mt_node.proofs.effects.make.Goals as goal

pub returns-clause-made : goal.returns-clause-made
returns-clause-made c = λ asking.
    let s = c.args.state.now in
    let entries : c.moved-entries.result.items ≡ s.entries = c.moved-entries.ensures.items ∙ c.into_vec.ensures ∙ c.replace-entries.ensures.value in
    (λ i. record s { rows = c.make_steps.new.rows; entries = c.from_vec.ensures i })
    ∙ sym (c.make_steps.ensures.made asking s)
    ∙ (λ i. after_all asking c.args.steps (record s { rows = s.rows; entries = entries i }))
