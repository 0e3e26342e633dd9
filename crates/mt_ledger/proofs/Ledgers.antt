-- What every ledger keeps, whatever is done.
use Rattle.std.proofs.Common.{◌≡◌, ℕ, ◌<◌, ◌-◌, ◌==◌, ◌||◌, ◌∙◌, ap, filter, is_some, map, if◌then◌else◌, Bool, true, false, List, [], ◌∷◌, Option, Some, None, refl, sym, subst, inl, inr, arith, eqb-true}
use Rattle.std.specs.List.{list_all}
use Rattle.std.proofs.lemmas.Bool.{and_from, and_parts, both_ways, cases_Bool, cond_both, eq-eqb, leb-true, or_cases}
use Rattle.std.proofs.lemmas.List.Folds.{list_all-append}
use Rattle.mt_fabrics.specs.Table.{has_index_up_to}
use Rattle.mt_model.specs.declared.messages.message.Request.{Request}
use Rattle.mt_model.specs.declared.node.action.Action.TheVariants.{Ask, Expire, Nothing}
use Rattle.mt_model.specs.declared.node.state.NodeState.{NodeState}
use Rattle.mt_model.specs.declared.tables.access.Actor.{Actor}
use Rattle.mt_model.specs.declared.tables.fabric.Fabric.{Fabric}
use Rattle.mt_opcreds.specs.Laws.{KeepsRules}
use Rattle.mt_subs.specs.Leaving.{is_by_another, is_none_of, stands_in, staying, without_node}
use Rattle.mt_subs.specs.Subscriptions.{IsSubs, added, changed, changed_at, confirmed, is_full, is_named, next_id, reported}
use Rattle.mt_subs.specs.declared.subscription.Kept.{Kept}
use Rattle.mt_subs.specs.declared.subscription.Sub.{Sub}
use Rattle.mt_subs.specs.declared.subscription.SubState.{SubState}
use Rattle.mt_subs.specs.declared.subscription.Subscription.{Subscription}
use Rattle.mt_machine.specs.Environment.{Environment}
use Rattle.mt_machine.specs.Laws as laws
use Rattle.mt_machine.specs.State.{IsValid, is_among, is_member}
use Rattle.mt_machine.specs.Step.{asker}
use Rattle.mt_ledger.specs.history.Laws as histories
use Rattle.mt_ledger.specs.Behind.{Activity, acts, action_in, confirms, ends, ledger_behind, reports, state_done, subs_done}
use Rattle.mt_ledger.specs.Ledger.{IsLedger, Ledger, is_its_actors}
use Rattle.mt_ledger.specs.Reporting.{Due, behind_report, due_events, due_now, told_now}
use Rattle.mt_ledger.specs.Subscribing.{Wish, at_once, behind_wish, behind_wish_if_any, first_events, first_told, has_no_room, last_told, is_malformed, left_by, subscribed, wish_asked}
use Rattle.mt_ledger.proofs.Filters.{all_left}
use Rattle.mt_ledger.proofs.Wishes.{in_time}

-- Whoever asks is of a fabric that has a next id.

among_low : (fabrics : List Fabric) (fabric : ℕ) → list_all (has_index_up_to 16) fabrics ≡ true → is_among fabrics fabric ≡ true → fabric < 256
among_low [] fabric all there = absurd (both_ways false refl there)
among_low (f ∷ fabrics) fabric all there =
    let both = and_parts (has_index_up_to 16 f) (list_all (has_index_up_to 16) fabrics) all in
    elim (cases_Bool (f.index == fabric)) [
      | inl its ↦ omega (arith, eqb-true f.index fabric its, leb-true f.index 16 both.0)
      | inr other ↦ among_low fabrics fabric both.1 (subst (λ (b : Bool). (b || is_among fabrics fabric) ≡ true) other there)
    ]

asker_low : laws.AskersAreKnown → (s : NodeState) (actor asking : Actor) → IsValid s → asker s actor ≡ Some asking → asking.fabric < 256
asker_low known s actor asking valid is = elim (or_cases (asking.fabric == 0) (is_member asking.fabric s) (known s actor asking valid is)) [
  | inl nobody ↦ omega (arith, eqb-true asking.fabric 0 nobody)
  | inr there ↦ among_low s.fabrics asking.fabric valid.indexes there
]

-- The laws of subscriptions.

abbrev pub AddedAre : Type 0
AddedAre = (fabric : ℕ) (sub : Sub) (subs : SubState) → fabric < 256 → IsSubs subs → is_full fabric subs ≡ false → IsSubs (added fabric sub subs)

abbrev pub ChangedAre : Type 0
ChangedAre = (fabric id : ℕ) (change : Kept → Kept) (subs : SubState) → IsSubs subs → IsSubs (changed fabric id change subs)

abbrev pub StayingAre : Type 0
StayingAre = (stays : Subscription → Bool) (subs : SubState) → IsSubs subs → IsSubs (staying stays subs)

module _ (added_are : AddedAre) (changed_are : ChangedAre) (staying_are : StayingAre) (s : NodeState) (l : Ledger) (now : ℕ) (is : IsSubs l.subs) where
  left_is : (wish : Wish) → IsSubs (left_by wish l.subs)
  left_is wish = elim wish.keeps as (λ (keeps : Bool). IsSubs (if keeps then l.subs else without_node wish.sub.actor.fabric wish.sub.actor.node l.subs)) [
    | true ↦ is
    | false ↦ staying_are (is_by_another wish.sub.actor.fabric wish.sub.actor.node) l.subs is
  ]

  subscribed_is : (wish : Wish) → wish.sub.actor.fabric < 256 → has_no_room wish l.subs ≡ false → IsSubs (subscribed s l now wish)
  subscribed_is wish low room =
      let fabric = wish.sub.actor.fabric in
      changed_are fabric (next_id fabric l.subs) (first_told s l.history now wish) (added fabric wish.sub (left_by wish l.subs)) (added_are fabric wish.sub (left_by wish l.subs) low (left_is wish) room)

  behind_is : (wish : Wish) → wish.sub.actor.fabric < 256 → IsSubs (behind_wish s l now wish)
  behind_is wish low =
      cond_both (is_malformed wish.sub) l.subs (if has_no_room wish l.subs then left_by wish l.subs else subscribed s l now wish) (λ (a : SubState). IsSubs a)
      (λ malformed. is)
      (λ well. cond_both (has_no_room wish l.subs) (left_by wish l.subs) (subscribed s l now wish) (λ (a : SubState). IsSubs a) (λ full. left_is wish) (λ room. subscribed_is wish low room))

  report_is : (fabric id : ℕ) (due : Option Due) → IsSubs (behind_report s l now fabric id due)
  report_is fabric id None = is
  report_is fabric id (Some due) = changed_are fabric id (told_now s l.history now fabric due) l.subs is

  asked_is : laws.AskersAreKnown → IsValid s → (actor : Actor) (request : Request) (deadline : Option ℕ) (whom : Option Actor) → asker s actor ≡ whom → IsSubs (behind_wish_if_any s l now (wish_asked whom deadline now request))
  asked_is known valid actor request deadline None on_state = is
  asked_is known valid actor request deadline (Some asking) on_state =
      in_time asking (λ (wish : Option Wish). IsSubs (behind_wish_if_any s l now wish)) is
      (λ wish its. behind_is wish (subst (λ (a : Actor). a.fabric < 256) (sym its) (asker_low known s actor asking valid on_state)))
      deadline now request

  done_is : laws.AskersAreKnown → IsValid s → (activity : Activity) → IsSubs (subs_done s l now activity)
  done_is known valid (acts (Ask actor request deadline)) = asked_is known valid actor request deadline (asker s actor) refl
  done_is known valid (acts Expire) = is
  done_is known valid (acts Nothing) = is
  done_is known valid (confirms fabric id) = changed_are fabric id confirmed l.subs is
  done_is known valid (ends fabric ids) = staying_are (is_none_of fabric ids) l.subs is
  done_is known valid (reports fabric id) = report_is fabric id (due_now s l now fabric id)

-- Each stands under its actor's fabric.

abbrev AreTheirs : SubState → Type 0
AreTheirs subs = list_all is_its_actors subs.subscriptions ≡ true

abbrev KeepsActors : (Kept → Kept) → Type 0
KeepsActors change = (kept : Kept) → (change kept).sub.actor.fabric ≡ kept.sub.actor.fabric

confirmed_keeps : KeepsActors confirmed
confirmed_keeps kept = refl

told_keeps : (actor : Actor) (now change event : ℕ) → KeepsActors (λ (kept : Kept). at_once actor (reported now change event kept))
told_keeps actor now change event kept =
    cond_both (is_some actor.session) (reported now change event kept) (confirmed (reported now change event kept)) (λ (after : Kept). after.sub.actor.fabric ≡ kept.sub.actor.fabric) (λ still. refl) (λ once. refl)

changed_theirs : (fabric id : ℕ) (change : Kept → Kept) → KeepsActors change → (xs : List Subscription) → list_all is_its_actors xs ≡ true → list_all is_its_actors (map (changed_at fabric id change) xs) ≡ true
changed_theirs fabric id change keeps [] all = refl
changed_theirs fabric id change keeps (x ∷ xs) all =
    let both = and_parts (is_its_actors x) (list_all is_its_actors xs) all in
    and_from _ _
    (cond_both (is_named fabric id x) (record x { kept = change x.kept }) x (λ (y : Subscription). is_its_actors y ≡ true) (λ its. ap (λ (n : ℕ). n == x.fabric) (keeps x.kept) ∙ both.0) (λ other. both.0))
    (changed_theirs fabric id change keeps xs both.1)

staying_theirs : (stays : Subscription → Bool) (xs : List Subscription) → list_all is_its_actors xs ≡ true → list_all is_its_actors (filter stays xs) ≡ true
staying_theirs stays [] all = refl
staying_theirs stays (x ∷ xs) all =
    let both = and_parts (is_its_actors x) (list_all is_its_actors xs) all in
    cond_both (stays x) (x ∷ filter stays xs) (filter stays xs) (λ (l : List Subscription). list_all is_its_actors l ≡ true) (λ stay. and_from _ _ both.0 (staying_theirs stays xs both.1)) (λ goes. staying_theirs stays xs both.1)

added_theirs : (sub : Sub) (subs : SubState) → AreTheirs subs → AreTheirs (added sub.actor.fabric sub subs)
added_theirs sub subs all = list_all-append is_its_actors subs.subscriptions _ ∙ and_from _ _ all (and_from _ _ (eq-eqb sub.actor.fabric sub.actor.fabric refl) refl)

module _ (s : NodeState) (l : Ledger) (now : ℕ) (all : AreTheirs l.subs) where
  left_theirs : (wish : Wish) → AreTheirs (left_by wish l.subs)
  left_theirs wish =
      cond_both wish.keeps l.subs (without_node wish.sub.actor.fabric wish.sub.actor.node l.subs) AreTheirs (λ keeps. all) (λ goes. staying_theirs (is_by_another wish.sub.actor.fabric wish.sub.actor.node) l.subs.subscriptions all)

  behind_theirs : (wish : Wish) → AreTheirs (behind_wish s l now wish)
  behind_theirs wish =
      let fabric = wish.sub.actor.fabric in
      let left = left_by wish l.subs in
      cond_both (is_malformed wish.sub) l.subs (if has_no_room wish l.subs then left else subscribed s l now wish) AreTheirs
      (λ malformed. all)
      (λ well. cond_both (has_no_room wish l.subs) left (subscribed s l now wish) AreTheirs (λ full. left_theirs wish)
      (λ room. changed_theirs fabric (next_id fabric l.subs) (first_told s l.history now wish) (told_keeps wish.sub.actor now s.changed (last_told (wish.minimum - 1) (first_events s l.history wish)))
      (added fabric wish.sub left).subscriptions (added_theirs wish.sub left (left_theirs wish))))

  report_theirs : (fabric id : ℕ) (due : Option Due) → AreTheirs (behind_report s l now fabric id due)
  report_theirs fabric id None = all
  report_theirs fabric id (Some due) =
      changed_theirs fabric id (told_now s l.history now fabric due) (told_keeps due.kept.sub.actor now s.changed (last_told due.kept.event (due_events s l.history fabric due.kept))) l.subs.subscriptions all

  asked_theirs : (request : Request) (deadline : Option ℕ) (whom : Option Actor) → AreTheirs (behind_wish_if_any s l now (wish_asked whom deadline now request))
  asked_theirs request deadline None = all
  asked_theirs request deadline (Some asking) = in_time asking (λ (wish : Option Wish). AreTheirs (behind_wish_if_any s l now wish)) all (λ wish its. behind_theirs wish) deadline now request

  done_theirs : (activity : Activity) → AreTheirs (subs_done s l now activity)
  done_theirs (acts (Ask actor request deadline)) = asked_theirs request deadline (asker s actor)
  done_theirs (acts Expire) = all
  done_theirs (acts Nothing) = all
  done_theirs (confirms fabric id) = changed_theirs fabric id confirmed confirmed_keeps l.subs.subscriptions all
  done_theirs (ends fabric ids) = staying_theirs (is_none_of fabric ids) l.subs.subscriptions all
  done_theirs (reports fabric id) = report_theirs fabric id (due_now s l now fabric id)

pub stays : histories.StaysHistory → laws.AskersAreKnown → AddedAre → ChangedAre → StayingAre → (given : Environment) (s : NodeState) (activity : Activity) (now : ℕ) (l : Ledger) → KeepsRules given.judged → IsValid s → IsLedger s l
    → IsLedger (state_done given s activity now) (ledger_behind given s activity now l)
stays stays_history known added_are changed_are staying_are given s activity now l rules valid is =
    let behind = state_done given s activity now in
    let done = subs_done s l now activity in
    record {
      history = stays_history given s (action_in activity) now l.history rules valid is.history;
      subs = staying_are (stands_in behind) done (done_is added_are changed_are staying_are s l now is.subs known valid activity);
      there = all_left (stands_in behind) done.subscriptions;
      owners = staying_theirs (stands_in behind) done.subscriptions (done_theirs s l now is.owners activity);
    }
