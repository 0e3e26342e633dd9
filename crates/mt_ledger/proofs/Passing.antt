-- Where nobody asks, and where time alone passes, the ledger stays as it is.
use Rattle.std.proofs.Common.{◌≡◌, ℕ, [], Option, None, Result, Ok, Err, refl, ap, ◌∙◌}
use Rattle.mt_im.specs.declared.fault.ImFault.{ImFault}
use Rattle.mt_model.specs.declared.messages.message.Request.{Request}
use Rattle.mt_model.specs.declared.node.action.Action.{Action}
use Rattle.mt_model.specs.declared.node.action.Action.TheVariants.{Nothing}
use Rattle.mt_model.specs.declared.node.state.NodeState.{NodeState}
use Rattle.mt_model.specs.declared.tables.access.Actor.{Actor}
use Rattle.mt_subs.specs.Leaving.{left_in}
use Rattle.mt_machine.specs.Environment.{Environment}
use Rattle.mt_machine.specs.Laws as laws
use Rattle.mt_machine.specs.Lines.{action_of}
use Rattle.mt_machine.specs.Step.{after_action, asked_steps, asker, steps_of}
use Rattle.mt_ledger.specs.history.Laws as histories
use Rattle.mt_ledger.specs.Behind.{acts, ledger_behind}
use Rattle.mt_ledger.specs.Ledger.{IsLedger, Ledger}
use Rattle.mt_ledger.specs.Subscribing.{Wish, behind_wish_if_any}
use Rattle.mt_ledger.proofs.Standing.{all_there}
use Rattle.mt_ledger.proofs.Wishes.{nobody_wishes}

-- Where no step is made all subscribers are there still.
all_stay : laws.SetsTheTime → (given : Environment) (s : NodeState) (l : Ledger) (action : Action) (now : ℕ) → IsLedger s l → steps_of given s action now ≡ [] → left_in (after_action given s action now) l.subs ≡ l.subs
all_stay sets given s l action now is none = ap (λ (t : NodeState). left_in t l.subs) (sets given s action now none) ∙ all_there s l.subs is.there

pub time_passes : laws.SetsTheTime → histories.TimeTellsNothing → (given : Environment) (s : NodeState) (l : Ledger) (now : ℕ) → IsLedger s l → ledger_behind given s (acts Nothing) now l ≡ l
time_passes sets no_events given s l now is = λ i. record { history = no_events given s l.history now i; subs = all_stay sets given s l Nothing now is refl i }

no_steps : (given : Environment) (s : NodeState) (actor : Actor) (asked : Result Request ImFault) (deadline : Option ℕ) (now : ℕ) → asker s actor ≡ None → steps_of given s (action_of actor deadline asked) now ≡ []
no_steps given s actor (Ok request) deadline now none = ap (λ (whom : Option Actor). asked_steps given s request deadline now whom) none
no_steps given s actor (Err fault) deadline now none = refl

pub nobody_changes : laws.SetsTheTime → histories.NobodyTells → (given : Environment) (s : NodeState) (l : Ledger) (actor : Actor) (asked : Result Request ImFault) (deadline : Option ℕ) (now : ℕ) → IsLedger s l → asker s actor ≡ None
    → ledger_behind given s (acts (action_of actor deadline asked)) now l ≡ l
nobody_changes sets nobody_tells given s l actor asked deadline now is none =
    let action = action_of actor deadline asked in
    let subs = ap (λ (wish : Option Wish). left_in (after_action given s action now) (behind_wish_if_any s l now wish)) (nobody_wishes s actor deadline now asked none)
    ∙ all_stay sets given s l action now is (no_steps given s actor asked deadline now none) in
    λ i. record { history = nobody_tells given s l.history actor asked deadline now none i; subs = subs i }
