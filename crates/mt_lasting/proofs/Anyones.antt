-- Steps that set values hang neither on who asked nor on the time.
use Rattle.std.proofs.Common.{◌≡◌, ◌∙◌, refl, sym, ap, ℕ, Bool, true, List, [], ◌∷◌, Option, None}
use Rattle.std.proofs.lemmas.Bool.{and_parts}
use Rattle.std.specs.List.{list_all}
use Rattle.std.specs.Prelude.{◌&&◌}
use Rattle.mt_model.specs.declared.node.action.NodeStep.{NodeStep}
use Rattle.mt_model.specs.declared.node.state.NodeState.{NodeState}
use Rattle.mt_model.specs.declared.tables.access.Actor.{Actor}
use Rattle.mt_machine.specs.Changes.{changed_at}
use Rattle.mt_machine.specs.Effects.{after, after_all, is_setting_step}
use Rattle.mt_machine.specs.Settings.{setting_cases}
use Rattle.mt_machine.specs.Step.{at_time}
use Rattle.mt_machine.specs.Taking.{may_take, may_take_all}
use Rattle.mt_lasting.specs.Contents.{what_lasts}
use Rattle.mt_lasting.specs.Laws.{AnyonesStepsAreTaken, AnyonesStepsChangeTheSame}
use Rattle.mt_lasting.proofs.Alone.{alone}

module _ (asking : Option Actor) (now : ℕ) where
  step_later : (step : NodeStep) (s : NodeState) → is_setting_step step ≡ true → after asking step (at_time now s) ≡ at_time now (after None step s)
  step_later step s =
      setting_cases (λ (step : NodeStep). after asking step (at_time now s) ≡ at_time now (after None step s)) (λ place whose values stored. refl) (λ whose all own. refl)
      (λ place priority whose value. refl) step

  all_later : (steps : List NodeStep) (s : NodeState) → list_all is_setting_step steps ≡ true → after_all asking steps (at_time now s) ≡ at_time now (after_all None steps s)
  all_later [] s settings = refl
  all_later (step ∷ steps) s settings =
      let both = and_parts (is_setting_step step) (list_all is_setting_step steps) settings in
      ap (after_all asking steps) (step_later step s both.0) ∙ all_later steps (after None step s) both.1

  taken_alike : (steps : List NodeStep) (s : NodeState) → list_all is_setting_step steps ≡ true → may_take_all None steps s ≡ may_take_all asking steps (at_time now s)
  taken_alike [] s settings = refl
  taken_alike (step ∷ steps) s settings =
      let both = and_parts (is_setting_step step) (list_all is_setting_step steps) settings in
      ap (λ (b : Bool). may_take s step && b) (taken_alike steps (after None step s) both.1)
      ∙ ap (λ (t : NodeState). may_take s step && may_take_all asking steps t) (sym (step_later step s both.0))

pub anyones_change : AnyonesStepsChangeTheSame
anyones_change s asking steps places now ceiling settings =
    alone s (changed_at places s (after_all asking steps (at_time now s))) (after_all None steps s) ceiling ceiling
    (ap (λ (t : NodeState). what_lasts (changed_at places s t)) (all_later asking now steps s settings))

pub anyones_taken : AnyonesStepsAreTaken
anyones_taken s asking steps now settings taken = taken_alike asking now steps s settings ∙ taken
