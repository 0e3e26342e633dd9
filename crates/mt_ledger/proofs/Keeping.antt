-- What an action leaves of the events of fabrics that don't ask, and where nothing is told.
use Rattle.std.proofs.Common.{◌≡◌, ℕ, ◌==◌, is_some, if◌then◌else◌, Bool, true, false, List, [], ◌∷◌, ◌++◌, Option, Some, None, Result, Ok, Err, refl, ap, sym, ◌∙◌}
use Rattle.std.specs.List.{list_all}
use Rattle.std.proofs.lemmas.Bool.{both_ways, cond-false, eqb-false}
use Rattle.mt_failsafe.specs.Notes.{was_added}
use Rattle.mt_im.specs.declared.fault.ImFault.{ImFault}
use Rattle.mt_model.specs.Optional.{is_that}
use Rattle.mt_model.specs.declared.messages.message.Request.{Request}
use Rattle.mt_model.specs.declared.node.action.Action.TheVariants as actions
use Rattle.mt_model.specs.declared.node.action.NodeStep.{NodeStep}
use Rattle.mt_model.specs.declared.node.action.NodeStep.TheVariants as steps
use Rattle.mt_model.specs.declared.node.state.NodeState.{NodeState}
use Rattle.mt_model.specs.declared.tables.access.Actor.{Actor}
use Rattle.mt_model.specs.declared.tables.network.Armed.{Armed}
use Rattle.mt_admin.specs.Windows.{closed, has_ended, number_at, window_end}
use Rattle.mt_machine.specs.Effects.{events_in}
use Rattle.mt_machine.specs.Environment.{Environment}
use Rattle.mt_machine.specs.Lines.{action_of}
use Rattle.mt_machine.specs.Rollback.{added_in, is_due}
use Rattle.mt_machine.specs.Step.{after_action, after_steps, asked_steps, asker, asker_of, at_time, gone_between, rows_of_nobody, steps_of, tick_steps}
use Rattle.mt_machine.specs.Telling.{is_told_as, joined_between, leaving_events, told_between}
use Rattle.mt_machine.specs.Touching.{StaysThere}
use Rattle.mt_ledger.specs.history.Behind.{history_behind}
use Rattle.mt_ledger.specs.history.History.{History, recorded_all, without_left}
use Rattle.mt_ledger.specs.history.Isolation.{own_events}
use Rattle.mt_ledger.proofs.Recording.{fabric_for, own_apart, own_left}
use Rattle.mt_ledger.proofs.EventsTold.{events_told, none_gone, not_gone, own_told}

-- Where nothing is told.

abbrev behind : ℕ → Option Actor → List NodeStep → NodeState → History → History
behind now asking made s h =
    let after = after_steps asking made (at_time now s) in
    recorded_all now (told_between asking made s after) (without_left (gone_between s.fabrics after.fabrics) h)

pub nothing_told : (now : ℕ) (s : NodeState) (h : History) → behind now None [] s h ≡ h
nothing_told now s h = λ i. recorded_all now (leaving_events [] (none_gone s.fabrics i)) (without_left (none_gone s.fabrics i) h)

pub nobody_tells : (given : Environment) (s : NodeState) (h : History) (actor : Actor) (asked : Result Request ImFault) (deadline : Option ℕ) (now : ℕ) → asker s actor ≡ None → history_behind given s (action_of actor deadline asked) now h ≡ h
nobody_tells given s h actor (Ok request) deadline now none = ap (λ (asking : Option Actor). behind now asking (asked_steps given s request deadline now asking) s h) none ∙ nothing_told now s h
nobody_tells given s h actor (Err fault) deadline now none = nothing_told now s h

-- A fabric that neither joins nor leaves, and for which nobody asks, keeps its events.
pub keeps_events : (fabric now : ℕ) (asking : Option Actor) (made : List NodeStep) (before after : NodeState) (h : History) → list_all (is_told_as asking) made ≡ true → ((fabric == 0) ≡ false → fabric ≡ fabric_for asking → ⊥)
    → is_that fabric (gone_between before.fabrics after.fabrics) ≡ false → (is_some asking ≡ true → is_that fabric (joined_between before.fabrics after.fabrics) ≡ false)
    → own_events fabric (recorded_all now (told_between asking made before after) (without_left (gone_between before.fabrics after.fabrics) h)) ≡ own_events fabric h
keeps_events fabric now asking made before after h told apart stays joins_not =
    let gone = gone_between before.fabrics after.fabrics in
    own_told fabric now asking made before after (without_left gone h) joins_not
    ∙ own_apart fabric asking now (events_in made) (without_left gone h) (events_told asking made told) apart
    ∙ own_left fabric gone h
    ∙ cond-false (is_that fabric gone) [] (own_events fabric h) stays

-- whoever asks by an action is the actor that is taken as asking, or nobody
apart_from : (fabric : ℕ) (s : NodeState) (actor asking : Actor) (deadline : Option ℕ) → asker s actor ≡ Some asking → (fabric ≡ asking.fabric → ⊥) → (asked : Result Request ImFault)
    → (fabric == 0) ≡ false → fabric ≡ fabric_for (asker_of s (action_of actor deadline asked)) → ⊥
apart_from fabric s actor asking deadline is apart (Ok request) somebody same = apart (same ∙ ap fabric_for is)
apart_from fabric s actor asking deadline is apart (Err fault) somebody same = eqb-false fabric 0 somebody same

pub keeps_others : (given : Environment) (fabric : ℕ) (s : NodeState) (h : History) (actor asking : Actor) (asked : Result Request ImFault) (deadline : Option ℕ) (now : ℕ)
    → list_all (is_told_as (asker_of s (action_of actor deadline asked))) (steps_of given s (action_of actor deadline asked) now) ≡ true
    → asker s actor ≡ Some asking → (fabric ≡ asking.fabric → ⊥) → StaysThere fabric s (after_action given s (action_of actor deadline asked) now)
    → own_events fabric (history_behind given s (action_of actor deadline asked) now h) ≡ own_events fabric h
keeps_others given fabric s h actor asking asked deadline now told is apart there =
    let action = action_of actor deadline asked in
    let after = after_action given s action now in
    keeps_events fabric now (asker_of s action) (steps_of given s action now) s after h told (apart_from fabric s actor asking deadline is apart asked)
    (not_gone s.fabrics after.fabrics fabric there.member)
    (λ some. not_gone after.fabrics s.fabrics fabric (sym there.member))

-- A time step tells that a fabric leaves, and nothing else.

due_told : (due ended : Bool) → list_all (is_told_as None) ((if due then steps.Expire ∷ [] else []) ++ (if ended then closed else [])) ≡ true
due_told true true = refl
due_told true false = refl
due_told false true = refl
due_told false false = refl

pub ticks_told : (s : NodeState) (now : ℕ) → list_all (is_told_as None) (tick_steps s now) ≡ true
ticks_told s now = due_told (is_due s.armed now) (has_ended now (number_at (rows_of_nobody s) window_end))

not_added : (fabric : ℕ) (armed : Option Armed) (due : Bool) → was_added fabric armed ≡ false → is_that fabric (if due then added_in armed else None) ≡ false
not_added fabric None true added = refl
not_added fabric (Some armed) true added = added
not_added fabric armed false added = refl

pub ticks_spare : (given : Environment) (fabric : ℕ) (s : NodeState) (h : History) (now : ℕ) → gone_between s.fabrics (after_action given s actions.Expire now).fabrics ≡ (if is_due s.armed now then added_in s.armed else None) → was_added fabric s.armed ≡ false
    → own_events fabric (history_behind given s actions.Expire now h) ≡ own_events fabric h
ticks_spare given fabric s h now gone added =
    keeps_events fabric now None (tick_steps s now) s (after_action given s actions.Expire now) h (ticks_told s now)
    (λ somebody same. eqb-false fabric 0 somebody same)
    (ap (λ (g : Option ℕ). is_that fabric g) gone ∙ not_added fabric s.armed (is_due s.armed now) added)
    (λ some. absurd (both_ways false refl some))
