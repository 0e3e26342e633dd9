use Rattle.std.proofs.Common.{rules, ◌≡◌, ◌∙◌, sym, length}
use Rattle.mt_lasting.proofs.Differing.{none_said, steps_tell}
use Rattle.mt_lasting.proofs.steps.entries_by_steps.Goals as goal

pub returns-then-is_empty : goal.returns-then-is_empty
returns-then-is_empty c = λ ceiling.
    let zero : length c.args.steps.now ≡ 0 = search rules in
    c.new-entries.ensures.items ∙ sym (none_said c.args.state.now ceiling c.args.steps.now zero)

pub returns : goal.returns
returns c = λ ceiling.
    steps_tell c.args.state.now ceiling c.args.steps.now c.requires.steps _ _ _ c.new-entries.ensures.items (c.in_ok-push_singles.ensures ceiling) (c.in_ok-push_items.ensures ceiling)
