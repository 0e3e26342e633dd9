-- What an action leaves of a fabric's own events on its veil.
use Rattle.std.proofs.Common.{◌≡◌, ℕ, ◌==◌, ◌&&◌, not, is_some, if◌then◌else◌, Bool, true, false, List, [], ◌∷◌, ◌++◌, Option, Some, None, Result, filter, refl, ap, sym, ◌∙◌, inl, inr}
use Rattle.std.specs.List.{list_any}
use Rattle.std.proofs.lemmas.Bool.{both_ways, cases_Bool, or_cases}
use Rattle.mt_fabrics.specs.Table.{has_index}
use Rattle.mt_im.specs.declared.fault.ImFault.{ImFault}
use Rattle.mt_model.specs.Optional.{is_that}
use Rattle.mt_model.specs.declared.messages.message.Request.{Request}
use Rattle.mt_model.specs.declared.node.action.Action.TheVariants.{Expire}
use Rattle.mt_model.specs.declared.node.action.NodeStep.{NodeStep}
use Rattle.mt_model.specs.declared.node.action.NodeStep.TheVariants as steps
use Rattle.mt_model.specs.declared.node.state.NodeState.{NodeState}
use Rattle.mt_model.specs.declared.tables.access.Actor.{Actor}
use Rattle.mt_opcreds.specs.Laws.{KeepsRules}
use Rattle.mt_admin.specs.Windows.{closed, has_ended, number_at, window_end}
use Rattle.mt_machine.specs.Effects.{events_in}
use Rattle.mt_machine.specs.Environment.{Environment}
use Rattle.mt_machine.specs.Isolation.{Own, OwnOfWhole, own, veil}
use Rattle.mt_machine.specs.Laws as laws
use Rattle.mt_machine.specs.Leaving.{has_left}
use Rattle.mt_machine.specs.Lines.{action_of}
use Rattle.mt_machine.specs.Rollback.{is_due}
use Rattle.mt_machine.specs.State.{IsValid, is_member}
use Rattle.mt_machine.specs.Step.{after_action, asker, asker_of, gone_between, rows_of_nobody, steps_of, tick_steps}
use Rattle.mt_machine.specs.Telling.{joined_between, told_between}
use Rattle.mt_ledger.specs.history.Behind.{history_behind}
use Rattle.mt_ledger.specs.history.History.{History, IsHistory, recorded_all, without_left}
use Rattle.mt_ledger.specs.history.Isolation.{own_events, veiled_history}
use Rattle.mt_ledger.proofs.Recording.{Alike, all_alike, left_alike}
use Rattle.mt_ledger.proofs.Rings.{nobodys, own_again, veiled_many}
use Rattle.mt_ledger.proofs.EventsTold.{gone_left, own_told}

-- Whether a fabric is in the table, its own part says.

any_filter : {X : Type 0} (p : X → Bool) (xs : List X) → list_any p (filter p xs) ≡ list_any p xs
any_filter p [] = refl
any_filter p (x ∷ xs) = elim (cases_Bool (p x)) [
  | inl passes ↦ rw (passes, passes) refl
  | inr fails ↦ rw (fails) (any_filter p xs)
]

member_same : (fabric : ℕ) (s t : NodeState) → own fabric s ≡ own fabric t → is_member fabric s ≡ is_member fabric t
member_same fabric s t same = sym (any_filter (has_index fabric) s.fabrics) ∙ ap (λ (o : Own). list_any (has_index fabric) o.fabrics) same ∙ any_filter (has_index fabric) t.fabrics

left_same : (fabric : ℕ) (s t now other : NodeState) → own fabric s ≡ own fabric t → own fabric now ≡ own fabric other → has_left s now fabric ≡ has_left t other fabric
left_same fabric s t now other before behind = λ i. member_same fabric s t before i && not (member_same fabric now other behind i)

-- a fabric of the table does not join it
joins_not : (fabric : ℕ) (before after : NodeState) → is_member fabric before ≡ true → is_that fabric (joined_between before.fabrics after.fabrics) ≡ false
joins_not fabric before after there = elim (cases_Bool (is_that fabric (joined_between before.fabrics after.fabrics))) [
  | inl joins ↦ absurd (both_ways (is_member fabric before) (gone_left after.fabrics before.fabrics fabric joins).1 there)
  | inr stays ↦ stays
]

module _ (fabric now : ℕ) (h : History) (is : IsHistory h) where
  -- the veil has the fabric's events alike
  veiled_alike : Alike fabric (veiled_history fabric h) h
  veiled_alike = record {
    own = own_again fabric h is;
    next = refl;
    many = veiled_many fabric (own_events fabric h) _ ∙ sym is.rings.all;
  }

  -- Where the events of the steps are the same, and the fabric leaves both or neither, it has the same events behind.
  left_on_veil : (asking other : Option Actor) (made again : List NodeStep) (before after veiled veiled_after : NodeState)
      → (is_some asking ≡ true → is_that fabric (joined_between before.fabrics after.fabrics) ≡ false) → (is_some other ≡ true → is_that fabric (joined_between veiled.fabrics veiled_after.fabrics) ≡ false)
      → events_in again ≡ events_in made → is_that fabric (gone_between veiled.fabrics veiled_after.fabrics) ≡ is_that fabric (gone_between before.fabrics after.fabrics)
      → own_events fabric (recorded_all now (told_between other again veiled veiled_after) (without_left (gone_between veiled.fabrics veiled_after.fabrics) (veiled_history fabric h)))
      ≡ own_events fabric (recorded_all now (told_between asking made before after) (without_left (gone_between before.fabrics after.fabrics) h))
  left_on_veil asking other made again before after veiled veiled_after stays veil_stays same gone =
      let left = without_left (gone_between before.fabrics after.fabrics) h in
      let veiled_left = without_left (gone_between veiled.fabrics veiled_after.fabrics) (veiled_history fabric h) in
      own_told fabric now other again veiled veiled_after veiled_left veil_stays
      ∙ ap (λ (l : List NodeStep). own_events fabric (recorded_all now l veiled_left)) same
      ∙ (all_alike fabric now (events_in made) veiled_left left (left_alike fabric (gone_between veiled.fabrics veiled_after.fabrics) (gone_between before.fabrics after.fabrics) (veiled_history fabric h) h gone veiled_alike)).own
      ∙ sym (own_told fabric now asking made before after left stays)

-- What an actor asks.
module _ (keeps_own : laws.KeepsItsOwnPart) (leaves_own : laws.ActionsLeaveTheOwnOnTheVeil) (one_leaves : laws.OneLeaves) (one_on_veil : laws.OneLeavesOnTheVeil) (steps_same : laws.StepsOnTheVeil) (known : laws.AskersAreKnown)
    (given : Environment) (s : NodeState) (h : History) (actor asking : Actor) (asked : Result Request ImFault) (deadline : Option ℕ) (now : ℕ) (rules : KeepsRules given.judged) (valid : IsValid s) (is : IsHistory h)
    (on_state : asker s actor ≡ Some asking) (on_veil : asker (veil asking.fabric s) actor ≡ Some asking) where
  abbrev fabric : ℕ
  fabric = asking.fabric

  abbrev veiled : NodeState
  veiled = veil asking.fabric s

  abbrev after : NodeState
  after = after_action given s (action_of actor deadline asked) now

  abbrev veiled_after : NodeState
  veiled_after = after_action given veiled (action_of actor deadline asked) now

  own_behind : own fabric veiled_after ≡ own fabric after
  own_behind = ap (λ (o : OwnOfWhole). o.node) (leaves_own given (record { node = s; deadlines = [] }) actor asking asked deadline now rules valid on_state on_veil)

  gone_same : is_that fabric (gone_between veiled.fabrics veiled_after.fabrics) ≡ is_that fabric (gone_between s.fabrics after.fabrics)
  gone_same =
      sym (one_on_veil given s actor asking asked deadline now fabric rules valid on_state on_veil)
      ∙ left_same fabric veiled s veiled_after after (keeps_own fabric s valid) own_behind
      ∙ one_leaves given s (action_of actor deadline asked) now fabric rules valid

  of_member : is_member fabric s ≡ true → own_events fabric (history_behind given veiled (action_of actor deadline asked) now (veiled_history fabric h)) ≡ own_events fabric (history_behind given s (action_of actor deadline asked) now h)
  of_member there =
      let action = action_of actor deadline asked in
      left_on_veil fabric now h is (asker_of s action) (asker_of veiled action) (steps_of given s action now) (steps_of given veiled action now) s after veiled veiled_after
      (λ some. joins_not fabric s after there)
      (λ some. joins_not fabric veiled veiled_after (member_same fabric veiled s (keeps_own fabric s valid) ∙ there))
      (ap events_in (steps_same given s actor asking asked deadline now valid on_state on_veil))
      gone_same

  pub leaves_events : own_events fabric (history_behind given veiled (action_of actor deadline asked) now (veiled_history fabric h)) ≡ own_events fabric (history_behind given s (action_of actor deadline asked) now h)
  leaves_events = elim (or_cases (fabric == 0) (is_member fabric s) (known s actor asking valid on_state)) [
    | inl nobody ↦ nobodys fabric (history_behind given veiled (action_of actor deadline asked) now (veiled_history fabric h)).rings nobody ∙ sym (nobodys fabric (history_behind given s (action_of actor deadline asked) now h).rings nobody)
    | inr there ↦ of_member there
  ]

-- A time step.

no_events : (due ended : Bool) → events_in ((if due then steps.Expire ∷ [] else []) ++ (if ended then closed else [])) ≡ []
no_events true true = refl
no_events true false = refl
no_events false true = refl
no_events false false = refl

none_told : (s : NodeState) (now : ℕ) → events_in (tick_steps s now) ≡ []
none_told s now = no_events (is_due s.armed now) (has_ended now (number_at (rows_of_nobody s) window_end))

pub ticks_leave : laws.KeepsItsOwnPart → laws.TicksOnTheVeil → laws.TicksTakeOne → (given : Environment) (fabric : ℕ) (s : NodeState) (h : History) (now : ℕ) → IsValid s → IsHistory h
    → own_events fabric (history_behind given (veil fabric s) Expire now (veiled_history fabric h)) ≡ own_events fabric (history_behind given s Expire now h)
ticks_leave keeps_own ticks one given fabric s h now valid is =
    let veiled = veil fabric s in
    let after = after_action given s Expire now in
    let veiled_after = after_action given veiled Expire now in
    let behind : own fabric veiled_after ≡ own fabric after = ap (λ (o : OwnOfWhole). o.node) (ticks given fabric (record { node = s; deadlines = [] }) now valid) in
    left_on_veil fabric now h is None None (tick_steps s now) (tick_steps veiled now) s after veiled veiled_after
    (λ some. absurd (both_ways false refl some))
    (λ some. absurd (both_ways false refl some))
    (none_told veiled now ∙ sym (none_told s now))
    (sym (one given veiled now fabric) ∙ left_same fabric veiled s veiled_after after (keeps_own fabric s valid) behind ∙ one given s now fabric)
