-- The state behind an outcome, and the room that its steps need.
use Rattle.std.proofs.Common.{◌≡◌, ℕ, ◌+◌, ◌≤◌, true, List, [], ◌∷◌, Option, None, sym, ap, ◌∙◌, subst, arith, refl}
use Rattle.std.proofs.lemmas.Bool.{and_parts}
use Rattle.std.specs.Global.{Vec}
use Rattle.std.specs.List.{list_all, sum_by}
use Rattle.mt_model.specs.declared.tables.access.Actor.{Actor}
use Rattle.mt_model.specs.declared.node.action.NodeStep.{NodeStep}
use Rattle.mt_model.specs.declared.node.state.NodeState.{NodeState}
use Rattle.mt_model.specs.declared.rows.place.Place.{Place}
use Rattle.mt_model.specs.declared.rows.place.Row.{Row}
use Rattle.mt_machine.specs.Changes.{changed_at}
use Rattle.mt_machine.specs.Effects.{after, after_all, is_setting_step}
use Rattle.mt_machine.specs.Laws.{ChangesNowhere, StaysSettled}
use Rattle.mt_machine.specs.Settings.{setting_cases}
use Rattle.mt_machine.specs.Step.{after_steps, at_time}
use Rattle.mt_regained.specs.mt_lasting.Changes.{change_between}
use Rattle.mt_regained.specs.mt_lasting.Contents.{what_lasts}
use Rattle.mt_regained.specs.mt_lasting.Laws.{NothingElseChanges}
use Rattle.mt_node.specs.Plan.{HaveRoom, needed}

-- Steps that set values make the same, whoever asks.

anyones_step : (asking : Option Actor) (step : NodeStep) (s : NodeState) → is_setting_step step ≡ true → after asking step s ≡ after None step s
anyones_step asking step s =
    setting_cases (λ (one : NodeStep). after asking one s ≡ after None one s) (λ at whose values stored. refl) (λ whose new all. refl) (λ at priority whom value. refl) step

pub anyones_steps : (asking : Option Actor) (steps : List NodeStep) (s : NodeState) → list_all is_setting_step steps ≡ true → after_all asking steps s ≡ after_all None steps s
anyones_steps asking [] s settings = refl
anyones_steps asking (step ∷ steps) s settings =
    let both = and_parts (is_setting_step step) (list_all is_setting_step steps) settings in
    anyones_steps asking steps (after asking step s) both.1 ∙ ap (after_all None steps) (anyones_step asking step s both.0)

-- where no step is made, nothing differs
pub none_made : StaysSettled → ChangesNowhere → (asking : Option Actor) (steps : List NodeStep) (places : List Place) (s : NodeState) → steps ≡ [] → places ≡ []
    → changed_at places s (after_all None steps s) ≡ after_steps asking steps s
none_made settled unchanged asking steps places s none nowhere =
    (λ i. changed_at (nowhere i) s (after_all None (none i) s))
    ∙ unchanged s ∙ sym (settled s)
    ∙ (λ i. after_steps asking (sym none i) s)

-- and nothing changes that lasts
pub none_changes : NothingElseChanges → (steps : List NodeStep) (places : List Place) (s : NodeState) (now ceiling : ℕ) → steps ≡ [] → places ≡ []
    → [] ≡ change_between s ceiling (changed_at places (at_time now s) (after_all None steps (at_time now s))) ceiling
none_changes nothing steps places s now ceiling none nowhere =
    sym (nothing s (changed_at places (at_time now s) (after_all None steps (at_time now s))) ceiling
    (λ i. what_lasts (changed_at (sym nowhere i) (at_time now s) (after_all None (sym none i) (at_time now s)))))

-- Room.

pub none_have_room : (rows : List Row) (steps : List NodeStep) (rooms : List (Vec Row)) → steps ≡ [] → HaveRoom rows steps rooms
none_have_room rows steps rooms none = subst (λ (l : List NodeStep). HaveRoom rows l rooms) (sym none) tt

pub none_needed : (count : NodeStep → ℕ) (there room : ℕ) (steps : List NodeStep) → steps ≡ [] → needed count there steps ≤ room
none_needed count there room steps none = subst (λ (l : List NodeStep). needed count there l ≤ room) (sym none) (omega arith)

pub needed_at_most : (count : NodeStep → ℕ) (there : ℕ) (steps : List NodeStep) → needed count there steps ≤ there + sum_by count steps
needed_at_most count there [] = omega arith
needed_at_most count there (step ∷ steps) = omega arith

pub needed_at_least : (count : NodeStep → ℕ) (there : ℕ) (steps : List NodeStep) → (steps ≡ [] → ⊥) → there + sum_by count steps ≤ needed count there steps
needed_at_least count there [] some = absurd (some refl)
needed_at_least count there (step ∷ steps) some = omega arith
