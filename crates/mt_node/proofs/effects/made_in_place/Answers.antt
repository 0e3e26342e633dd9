use Rattle.std.proofs.Common.{◌≡◌, ◌+◌, ◌∙◌, ap, arith, length, List, None, refl, subst, sym, true}
use Rattle.std.specs.List.{list_all, sum_by}
use Rattle.std.specs.Option.{option_and_then}
use Rattle.mt_model.specs.declared.node.action.NodeStep.{NodeStep}
use Rattle.mt_model.specs.declared.rows.place.Place.{Place}
use Rattle.mt_model.specs.declared.rows.place.Row.{Row}
use Rattle.mt_model.specs.declared.tables.access.Actor.{Actor}
use Rattle.mt_machine.specs.Changes.{changed_at, differing}
use Rattle.mt_machine.specs.Effects.{after_all, events_in, is_setting_step}
use Rattle.mt_machine.specs.Step.{at_time}
use Rattle.mt_machine.specs.Taking.{may_take_all}
use Rattle.mt_regained.specs.mt_lasting.Changes.{change_between}
use Rattle.mt_node.specs.Configured.{ConfiguredNode}
use Rattle.mt_node.specs.Plan.{HaveRoom, entries_in}
use Rattle.mt_node.proofs.Applied.{anyones_steps, needed_at_most}
use Rattle.mt_node.proofs.effects.made_in_place.Goals as goal

pub change_set-requires-clause-steps : goal.change_set-requires-clause-steps
change_set-requires-clause-steps c = subst (λ (l : List NodeStep). list_all is_setting_step l ≡ true) (sym c.as_slice-steps.ensures) c.requires.steps

pub change_set-requires-clause-taken : goal.change_set-requires-clause-taken
change_set-requires-clause-taken c =
    let s = c.args.node.now.state in
    subst (λ (l : List NodeStep). may_take_all None l s ≡ true) (sym c.as_slice-steps.ensures)
    (c.only_what_lasts_changes.ensures.taken s c.args.asking c.args.answered.steps c.args.now c.requires.steps c.requires.taken)

pub returns : goal.returns
returns c =
    let s = c.args.node.now.state in
    let asking = c.args.asking in
    let steps = c.args.answered.steps in
    let timed = at_time c.args.now s in
    let same : c.as_slice-steps.result.now ≡ steps = c.as_slice-steps.ensures in
    let there : c.node.inside.state ≡ s = ap (λ (kept : ConfiguredNode). kept.state) c.node.view_is in
    let entries : c.in-Some.entries ≡ length s.entries + sum_by entries_in steps = c.in-Some.ensures ∙ (λ i. length (there i).entries + sum_by entries_in (same i)) in
    let session = option_and_then (λ (actor : Actor). actor.session) asking in
    record {
      reply = refl;
      told = c.in_ok-told.ensures ∙ ap events_in same ∙ sym (c.actions_tell_their_own.ensures.setting asking steps s c.args.now c.requires.steps);
      aside = (λ i. record { session = c.session_of.ensures i; closed = c.new.ensures i; gone = None }) ∙ sym (c.actions_set_values.ensures.nothing_ends session asking steps s c.args.now c.requires.steps);
      state =
          let differ = c.in_ok-places.ensures asking c.args.now (subst (λ (l : List NodeStep). list_all is_setting_step l ≡ true) (sym same) c.requires.steps) in
          ap (changed_at c.in_ok-places.places timed) (sym (anyones_steps asking steps timed c.requires.steps))
          ∙ ap (λ (places : List Place). changed_at places timed (after_all asking steps timed)) (differ ∙ (λ i. differing timed (after_all asking (same i) timed)));
      change = λ ceiling.
          c.in_ok-change.ensures c.in_ok-places.places c.args.now ceiling
          ∙ ap (λ (l : List NodeStep). change_between s ceiling (changed_at c.in_ok-places.places timed (after_all None l timed)) ceiling) same;
      ready = (
        c.requires.steps,
        record {
          rows = subst (λ (both : List Row × List NodeStep). HaveRoom both.0 both.1 c.in_ok-rows_rooms.rows_rooms.items) (λ i. ((there i).rows, same i)) c.in_ok-rows_rooms.ensures;
          no_entries = c.in_ok-with_capacity.ensures.items;
          entries = omega (arith, needed_at_most entries_in (length s.entries) steps, c.in_ok-with_capacity.ensures.exact, entries);
        },
      );
    }
