use Rattle.std.proofs.Common.{◌+◌, refl, subst, sym, Option}
use Rattle.std.specs.Prelude.{IfSome}
use Rattle.mt_model.specs.declared.node.state.NodeState.{NodeState}
use Rattle.mt_machine.specs.State.{IsValid}
use Rattle.mt_regained.specs.Begun.{IsValidWhereRolled}
use Rattle.mt_regained.proofs.opening.next_boot.Goals as goal

-- a new node's
pub returns-then-is_empty-clause-valid : goal.returns-then-is_empty-clause-valid
returns-then-is_empty-clause-valid c =
    let config = c.args.config.now in
    subst IsValidWhereRolled (sym c.in_ok-opened.ensures) (λ unarmed boots. c.states_are_valid.ensures.opens 1 config.fabrics config.entries config.sessions refl config.fabrics_are_valid config.entries_are_valid)

-- that of one of which something was kept
pub returns-clause-valid : goal.returns-clause-valid
returns-clause-valid c =
    let kept = c.in-Some.kept in
    let valid : IsValid kept = subst (λ (found : Option NodeState). IfSome found IsValid) c.in-Some.is c.in_ok-kept.ensures.valid in
    subst IsValidWhereRolled (sym c.in_ok-begun_with.ensures) (λ unarmed boots. c.states_are_valid.ensures.begins (kept.boot + 1) c.as_slice-2.result.now kept boots valid unarmed)
