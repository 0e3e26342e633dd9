-- What an action does besides: without steps it sets the time alone, and none ends anything.
use Rattle.std.proofs.Common.{◌≡◌, ◌↔◌, ℕ, ◌==◌, ◌&&◌, ◌||◌, not, Bool, true, false, List, [], ◌∷◌, ◌++◌, Option, None, append_assoc, arith, refl, ap, ◌∙◌, subst, if◌then◌else◌}
use Rattle.std.specs.List.{find, list_all}
use Rattle.std.specs.Option.{option_map}
use Rattle.std.proofs.lemmas.Bool.{and_parts}
use Rattle.std.proofs.lemmas.List.Folds.{list_any-append}
use Rattle.mt_fabrics.specs.Table.{has_index}
use Rattle.mt_model.specs.rows.Same.{are_same_rows}
use Rattle.mt_model.specs.declared.rows.place.Row.{Row}
use Rattle.mt_model.specs.declared.tables.access.Actor.{Actor}
use Rattle.mt_model.specs.declared.node.action.Action.{Action}
use Rattle.mt_model.specs.declared.node.action.NodeStep.{NodeStep}
use Rattle.mt_model.specs.declared.tables.fabric.Fabric.{Fabric}
use Rattle.mt_model.specs.declared.node.state.NodeSession.{NodeSession}
use Rattle.mt_model.specs.declared.node.state.NodeState.{NodeState}
use Rattle.mt_model.specs.declared.node.state.Standing.{Standing}
use Rattle.mt_model.specs.declared.node.state.Standing.TheVariants.{Waits, Live, Ended}
use Rattle.mt_machine.specs.Environment.{Environment}
use Rattle.mt_machine.specs.Effects.{after, after_all, is_setting_step}
use Rattle.mt_machine.specs.Settings.{setting_cases}
use Rattle.mt_machine.specs.State.{is_among}
use Rattle.mt_machine.specs.Step.{after_action, after_steps, aside_between, asker_of, at_time, closed_between, gone_between, is_live, steps_of}
use Rattle.mt_machine.proofs.Settled.{settled-same}

pub sets_time : ((rows others : List Row) → (are_same_rows rows others ≡ true) ↔ (rows ≡ others)) → (given : Environment) (s : NodeState) (action : Action) (now : ℕ) → steps_of given s action now ≡ [] → after_action given s action now ≡ record s { clock = now }
sets_time same given s action now none =
    ap (λ (steps : List NodeStep). after_steps (asker_of s action) steps (at_time now s)) none ∙ settled-same same (at_time now s)

-- Nothing ends where nothing changes.

none_closed : (session : NodeSession) (standing : Standing) (closed : List ℕ) → closed ≡ [] → (if is_live standing && not (is_live standing) then session.session ∷ closed else closed) ≡ []
none_closed session Waits closed none = none
none_closed session (Live fabric) closed none = none
none_closed session Ended closed none = none

closed_none : (sessions : List NodeSession) → closed_between sessions sessions ≡ []
closed_none [] = refl
closed_none (session ∷ sessions) = none_closed session session.standing (closed_between sessions sessions) (closed_none sessions)

same_number : (n : ℕ) → (n == n) ≡ true
same_number n = grind arith

or_true : (b : Bool) → (b || true) ≡ true
or_true true = refl
or_true false = refl

-- those of a list's end are among all
among_all : (front fabrics : List Fabric) → find (λ (fabric : Fabric). not (is_among (front ++ fabrics) fabric.index)) fabrics ≡ None
among_all front [] = refl
among_all front (fabric ∷ fabrics) =
    let there : is_among (front ++ fabric ∷ fabrics) fabric.index ≡ true = list_any-append (has_index fabric.index) front (fabric ∷ fabrics) ∙ rw (same_number fabric.index) (or_true (is_among front fabric.index)) in
    let again : find (λ (f : Fabric). not (is_among ((front ++ fabric ∷ []) ++ fabrics) f.index)) fabrics ≡ None = among_all (front ++ fabric ∷ []) fabrics in
    let same : (front ++ fabric ∷ []) ++ fabrics ≡ front ++ fabric ∷ fabrics = append_assoc front (fabric ∷ []) fabrics in
    rw there (subst (λ (all : List Fabric). find (λ (f : Fabric). not (is_among all f.index)) fabrics ≡ None) same again)

pub gone_none : (fabrics : List Fabric) → gone_between fabrics fabrics ≡ None
gone_none fabrics = ap (option_map (λ (fabric : Fabric). fabric.index)) (among_all [] fabrics)

-- What sets rows and entries ends no session, and takes no fabric away.

set_alone : (asker : Option Actor) (step : NodeStep) (s : NodeState) → is_setting_step step ≡ true
    → after asker step s ≡ record s { rows = (after asker step s).rows; entries = (after asker step s).entries }
set_alone asker step s =
    setting_cases (λ (step : NodeStep). after asker step s ≡ record s { rows = (after asker step s).rows; entries = (after asker step s).entries })
    (λ place whose values stored. refl) (λ whose entries all. refl) (λ place priority whose value. refl) step

sessions-stay : (asker : Option Actor) (steps : List NodeStep) (s : NodeState) → list_all is_setting_step steps ≡ true → (after_all asker steps s).sessions ≡ s.sessions
sessions-stay asker [] s sets = refl
sessions-stay asker (step ∷ steps) s sets =
    let both = and_parts (is_setting_step step) (list_all is_setting_step steps) sets in
    sessions-stay asker steps (after asker step s) both.1 ∙ ap (λ (t : NodeState). t.sessions) (set_alone asker step s both.0)

pub fabrics-stay : (asker : Option Actor) (steps : List NodeStep) (s : NodeState) → list_all is_setting_step steps ≡ true → (after_all asker steps s).fabrics ≡ s.fabrics
fabrics-stay asker [] s sets = refl
fabrics-stay asker (step ∷ steps) s sets =
    let both = and_parts (is_setting_step step) (list_all is_setting_step steps) sets in
    fabrics-stay asker steps (after asker step s) both.1 ∙ ap (λ (t : NodeState). t.fabrics) (set_alone asker step s both.0)

pub ends_nothing : (session : Option ℕ) (asker : Option Actor) (steps : List NodeStep) (s : NodeState) (now : ℕ) → list_all is_setting_step steps ≡ true
    → aside_between session s (after_steps asker steps (at_time now s)) ≡ record { session = session; closed = []; gone = None }
ends_nothing session asker steps s now sets = λ i. record {
  session = session;
  closed = (ap (closed_between s.sessions) (sessions-stay asker steps (at_time now s) sets) ∙ closed_none s.sessions) i;
  gone = (ap (gone_between s.fabrics) (fabrics-stay asker steps (at_time now s) sets) ∙ gone_none s.fabrics) i;
}
