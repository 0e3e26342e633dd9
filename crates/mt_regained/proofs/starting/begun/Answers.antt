use Rattle.std.proofs.Common.{◌≡◌, ◌∙◌, ◌+◌, ap, subst, sym, arith, Some}
use Rattle.mt_durable.specs.Setting.{with_all}
use Rattle.mt_model.specs.declared.node.state.NodeState.{NodeState}
use Rattle.mt_machine.specs.Opened.{begun_with}
use Rattle.mt_machine.specs.State.{IsValid}
use Rattle.mt_lasting.specs.Contents.{durable}
use Rattle.mt_regained.specs.Begun.{first_change}
use Rattle.mt_regained.specs.Laws.{IsKeptIn}
use Rattle.mt_regained.specs.Regained.{state_of}
use Rattle.mt_regained.proofs.Beginning.{Begins, begins, rolled_is_kept}
use Rattle.mt_regained.proofs.starting.begun.Goals as goal

pub state_of-requires : goal.state_of-requires
state_of-requires c =
    let map = c.args.map.now in
    let kept = c.in-Some.kept in
    c.states_are_regained.ensures.valid map kept (rolled_is_kept map kept (rw (sym c.as_slice.ensures.value) c.keys_are_of_bytes.ensures) c.as_slice.ensures.ascend c.as_slice.ensures.whole (sym c.in_ok-kept.ensures ∙ c.in-Some.is) c.requires.rolled)

pub overflow_add-boot : goal.overflow_add-boot
overflow_add-boot c =
    let config = c.args.config.now in
    let map = c.args.map.now in
    let kept = c.in-Some.kept in
    let is : IsKeptIn map kept = rolled_is_kept map kept (rw (sym c.as_slice.ensures.value) c.keys_are_of_bytes.ensures) c.as_slice.ensures.ascend c.as_slice.ensures.whole (sym c.in_ok-kept.ensures ∙ c.in-Some.is) c.requires.rolled in
    let its : Begins config map kept = begins c.durable_maps_are_kept.ensures c.states_are_regained.ensures.valid c.expiries_spare_others.ensures.valid c.states_are_valid.ensures.begins config map kept is c.requires in
    let boots = ap (λ (s : NodeState). s.boot) c.in_ok-state.ensures in
    omega (arith, its.boot, boots)

-- clause by clause, of the state that was made
pub returns : goal.returns
returns c =
    let config = c.args.config.now in
    let map = c.args.map.now in
    let kept = c.in-Some.kept in
    let is : IsKeptIn map kept = rolled_is_kept map kept (rw (sym c.as_slice.ensures.value) c.keys_are_of_bytes.ensures) c.as_slice.ensures.ascend c.as_slice.ensures.whole (sym c.in_ok-kept.ensures ∙ c.in-Some.is) c.requires.rolled in
    let its : Begins config map kept = begins c.durable_maps_are_kept.ensures c.states_are_regained.ensures.valid c.expiries_spare_others.ensures.valid c.states_are_valid.ensures.begins config map kept is c.requires in
    let made : begun_with ((state_of kept).boot + 1) config.sessions (state_of kept) ≡ c.in_ok-begun.begun =
    sym (c.in_ok-begun.ensures ∙ (λ i. begun_with ((c.in_ok-state.ensures i).boot + 1) (c.as_slice-2.ensures i) (c.in_ok-state.ensures i))) in
    record {
      state = its.state ∙ ap Some made;
      ceiling = c.unwrap_or-ceiling.ensures ∙ its.ceiling;
      valid = subst IsValid made its.valid;
      leads = λ next. subst (λ (s : NodeState). with_all (first_change s.boot next) map ≡ durable s next) made (its.leads next);
    }
