use Rattle.std.proofs.Common.{◌≡◌, OnOk, ◌∙◌, ap, rules, subst, sym, true}
use Rattle.mt_failsafe.specs.Notes.{may_note_added}
use Rattle.mt_model.specs.declared.node.state.NodeState.{NodeState}
use Rattle.mt_steps.specs.Table.{index_for, with_joined}
use Rattle.mt_steps.proofs.Joining.{joined_not, joined_under}
use Rattle.mt_steps.proofs.fabrics.add_fabric.Goals as goal

pub returns-in-Some-clause-made : goal.returns-in-Some-clause-made
returns-in-Some-clause-made c =
    let s = c.args.state.now in
    let fabric = c.args.fabric in
    let copied = c.in_ok-fabrics.ensures in
    let may : may_note_added s.armed ≡ true = search rules in
    subst (λ (x : NodeState). OnOk c.join.result (c.join.new.state ≡ x))
    (joined_under c.args.asking fabric c.in_ok-joining.joining c.in-Some.index c.put_fabric.new.fabrics s may
    (sym c.in-Some.is ∙ c.in_ok-index.ensures.index ∙ ap (index_for fabric) copied)
    (c.in_ok-index.ensures.table ∙ ap (with_joined fabric) copied)
    c.in_ok-joining.ensures)
    c.join.ensures.made

pub returns-clause-made : goal.returns-clause-made
returns-clause-made c =
    let s = c.args.state.now in
    let may : may_note_added s.armed ≡ true = search rules in
    joined_not c.args.asking c.args.fabric s may (sym c.in-None.is ∙ c.in_ok-index.ensures.index ∙ ap (index_for c.args.fabric) c.in_ok-fabrics.ensures)
