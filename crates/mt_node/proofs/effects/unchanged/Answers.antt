use Rattle.std.proofs.Common.{◌≡◌, ◌∙◌, List, None, ap, refl, subst, sym, true}
use Rattle.std.specs.List.{list_all}
use Rattle.std.specs.Option.{option_and_then}
use Rattle.mt_model.specs.declared.node.action.NodeStep.{NodeStep}
use Rattle.mt_model.specs.declared.tables.access.Actor.{Actor}
use Rattle.mt_machine.specs.Effects.{events_in, is_setting_step}
use Rattle.mt_machine.specs.Step.{at_time}
use Rattle.mt_node.specs.Plan.{entries_in}
use Rattle.mt_node.proofs.Applied.{none_changes, none_have_room, none_made, none_needed}
use Rattle.mt_node.proofs.effects.unchanged.Goals as goal

pub returns : goal.returns
returns c = λ s.
    let asking = c.args.asking in
    let steps = c.args.answered.steps in
    let settings : list_all is_setting_step steps ≡ true = subst (λ (l : List NodeStep). list_all is_setting_step l ≡ true) (sym c.requires) refl in
    let session = option_and_then (λ (actor : Actor). actor.session) asking in
    record {
      reply = refl;
      told = c.new-2.ensures ∙ ap events_in (sym c.requires) ∙ sym (c.actions_tell_their_own.ensures.setting asking steps s c.args.now settings);
      aside = (λ i. record { session = c.session_of.ensures i; closed = c.new.ensures i; gone = None }) ∙ sym (c.actions_set_values.ensures.nothing_ends session asking steps s c.args.now settings);
      state = none_made c.actions_set_values.ensures.settled c.actions_set_values.ensures.nowhere asking steps c.new-3.result (at_time c.args.now s) c.requires c.new-3.ensures;
      change = λ ceiling. c.no_change.ensures ∙ none_changes c.only_what_lasts_changes.ensures.nothing steps c.new-3.result s c.args.now ceiling c.requires c.new-3.ensures;
      ready = (
        settings,
        record {
          rows = none_have_room s.rows steps _ c.requires;
          no_entries = c.new-5.ensures.items;
          entries = none_needed entries_in _ _ steps c.requires;
        },
      );
    }
