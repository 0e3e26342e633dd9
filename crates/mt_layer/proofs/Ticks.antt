-- A time step is what the deed of an expiry makes of the deadlines of plain actors.
use Rattle.std.proofs.Common.{◌≡◌, ℕ, Bool, true, false, List, [], ◌∷◌, Option, Some, None, refl, ap, sym, ◌∙◌, filter, not, if◌then◌else◌}
use Rattle.mt_model.specs.tables.Leaving.{stays}
use Rattle.mt_model.specs.declared.node.action.Action.TheVariants.{Expire}
use Rattle.mt_model.specs.declared.node.action.PlainDeadline.{PlainDeadline}
use Rattle.mt_model.specs.declared.node.state.NodeState.{NodeState}
use Rattle.mt_model.specs.declared.tables.network.Armed.{Armed}
use Rattle.mt_shared.specs.mt_machine.Environment.{Environment}
use Rattle.mt_shared.specs.mt_machine.Laws.{TakesTheAddedAway, TicksTakeOne}
use Rattle.mt_shared.specs.mt_machine.Leaving.{has_left}
use Rattle.mt_shared.specs.mt_machine.Lines.{behind_action, deadlines_of_those_left, next_tick}
use Rattle.mt_shared.specs.mt_machine.Rollback.{added_in, deadlines_left, is_due}
use Rattle.mt_shared.specs.mt_machine.State.{IsValid, State}
use Rattle.mt_shared.specs.mt_machine.Step.{after_action, gone_between}

contradiction : {A : Type 0} → false ≡ true → A
contradiction is = absurd (cc)

alike_filters : (p q : PlainDeadline → Bool) → ((d : PlainDeadline) → p d ≡ q d) → (ds : List PlainDeadline) → filter p ds ≡ filter q ds
alike_filters p q same [] = refl
alike_filters p q same (d ∷ ds) = λ i. if same d i then d ∷ alike_filters p q same ds i else alike_filters p q same ds i

all_stay : (ds : List PlainDeadline) → filter (λ (d : PlainDeadline). stays None d.fabric) ds ≡ ds
all_stay [] = refl
all_stay (d ∷ ds) = ap (λ (l : List PlainDeadline). d ∷ l) (all_stay ds)

-- what is left where this fabric goes, if one does
abbrev left : Option ℕ → List PlainDeadline → List PlainDeadline
left gone ds = filter (λ (d : PlainDeadline). stays gone d.fabric) ds

due_left : (armed : Option Armed) (now : ℕ) (ds : List PlainDeadline) (due : Bool) → is_due armed now ≡ due → (if due then deadlines_left armed ds else ds) ≡ left (if due then added_in armed else None) ds
due_left None now ds true is = contradiction is
due_left (Some armed) now ds true is = refl
due_left armed now ds false is = sym (all_stay ds)

pub tick_is : TakesTheAddedAway → TicksTakeOne → (given : Environment) (s : State) (ms : ℕ) → IsValid s.node → next_tick given s ms ≡ behind_action given s Expire ms
tick_is takes one given s ms valid =
    let now : NodeState = after_action given s.node Expire ms in
    let ds : List PlainDeadline = s.deadlines in
    let gone : gone_between s.node.fabrics now.fabrics ≡ (if is_due s.node.armed ms then added_in s.node.armed else None) = takes given s.node ms valid in
    let deadlines : (if is_due s.node.armed ms then deadlines_left s.node.armed ds else ds) ≡ deadlines_of_those_left s.node now ds =
    due_left s.node.armed ms ds (is_due s.node.armed ms) refl
    ∙ ap (λ (o : Option ℕ). left o ds) (sym gone)
    ∙ sym (alike_filters (λ d. not (has_left s.node now d.fabric)) (λ d. stays (gone_between s.node.fabrics now.fabrics) d.fabric) (λ d. ap not (one given s.node ms d.fabric)) ds) in
    λ i. record { node = now; deadlines = deadlines i }
