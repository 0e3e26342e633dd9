use Rattle.std.proofs.Common.{◌≡◌, ℕ, ◌+◌, ◌≤◌, ◌∷◌, List, true, ap, arith, ◌∙◌, rules, subst, sym, vec_capacity, vec_len}
use Rattle.std.specs.Global.{Vec}
use Rattle.std.specs.List.{list_all, sum_by}
use Rattle.std.specs.Vec.Iter.{into_iter_items}
use Rattle.std.proofs.lemmas.Bool.{and_parts}
use Rattle.std.proofs.lemmas.List.Sums.{sum_by-cons}
use Rattle.mt_model.specs.declared.node.action.NodeStep.{NodeStep}
use Rattle.mt_model.specs.declared.rows.place.Row.{Row}
use Rattle.mt_machine.specs.Effects.{after_all, is_setting_step}
use Rattle.mt_node.specs.Plan.{HaveRoom, IsRoomFor, entries_in, rows_behind}
use Rattle.mt_node.proofs.effects.make_steps.Goals as goal

pub make_step-requires-clause-setting : goal.make_step-requires-clause-setting
make_step-requires-clause-setting c =
    let all : list_all is_setting_step (c.in-Some.step ∷ into_iter_items c.next.new.self) ≡ true = subst (λ (l : List NodeStep). list_all is_setting_step l ≡ true) c.in-Some.ensures.steps.0 c.loop-step.invariant.settings in
    (and_parts (is_setting_step c.in-Some.step) (list_all is_setting_step (into_iter_items c.next.new.self)) all).0

pub loop-step-preserved : goal.loop-step-preserved
loop-step-preserved c =
    let at = c.loop-step in
    let step = c.in-Some.step in
    let rest = into_iter_items c.next.new.self in
    let is = c.in-Some.ensures.steps.0 in
    let settings : list_all is_setting_step (step ∷ rest) ≡ true = subst (λ (l : List NodeStep). list_all is_setting_step l ≡ true) is at.invariant.settings in
    let room : IsRoomFor at.rows step c.in-Some-next.room × HaveRoom (rows_behind step at.rows) rest (into_iter_items c.next-in-loop-step.new.self) =
    subst (λ (both : List NodeStep × List (Vec Row)). HaveRoom at.rows both.0 both.1) (λ i. (is i, c.in-Some-next.ensures.items i)) at.invariant.rows in
    let entries : vec_len at.entries + (entries_in step + sum_by entries_in rest) ≤ vec_capacity at.entries = subst (λ (n : ℕ). vec_len at.entries + n ≤ vec_capacity at.entries) (ap (sum_by entries_in) is ∙ sum_by-cons entries_in step rest) at.invariant.entries in
    record {
      made = λ asking s. at.invariant.made asking s
          ∙ ap (λ (l : List NodeStep). after_all asking l (record s { rows = at.rows; entries = at.entries.items })) is
          ∙ ap (after_all asking rest) (c.make_step.ensures.made asking s);
      settings = (and_parts (is_setting_step step) (list_all is_setting_step rest) settings).1;
      entries_ascend = c.make_step.ensures.entries_ascend;
      rows = subst (λ (rows : List Row). HaveRoom rows rest (into_iter_items c.next-in-loop-step.new.self)) (sym c.make_step.ensures.rows) room.1;
      entries = omega (arith, c.make_step.ensures.entries, c.make_step.ensures.entries_capacity);
      counted = search rules;
    }
