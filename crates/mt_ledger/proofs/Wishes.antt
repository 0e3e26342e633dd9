-- What a wish is answered on the veil, and the subscriptions behind it, there and for other fabrics.
use Rattle.std.proofs.Common.{◌≡◌, ℕ, ◌-◌, if◌then◌else◌, Bool, true, false, List, Option, Some, None, Result, Ok, Err, refl, ap, sym, ◌∙◌, subst}
use Rattle.mt_im.specs.declared.fault.ImFault.{ImFault}
use Rattle.mt_model.specs.messages.Status.{code_of}
use Rattle.mt_model.specs.declared.messages.message.Item.{Item}
use Rattle.mt_model.specs.declared.messages.message.Reply.{Reply}
use Rattle.mt_model.specs.declared.messages.message.Reply.TheVariants as replies
use Rattle.mt_model.specs.declared.messages.message.Request.{Request}
use Rattle.mt_model.specs.declared.messages.message.Request.TheVariants as requests
use Rattle.mt_model.specs.declared.messages.status.Status.TheVariants.{InvalidAction, ResourceExhausted}
use Rattle.mt_model.specs.declared.node.state.NodeState.{NodeState}
use Rattle.mt_model.specs.declared.tables.access.Actor.{Actor}
use Rattle.mt_subs.specs.Leaving.{is_by_another, without_node}
use Rattle.mt_subs.specs.Subscriptions.{added, next_id, reported}
use Rattle.mt_subs.specs.declared.subscription.SubState.{SubState}
use Rattle.mt_machine.specs.Isolation.{veil}
use Rattle.mt_machine.specs.Laws as laws
use Rattle.mt_machine.specs.Lines.{action_of}
use Rattle.mt_machine.specs.State.{IsValid}
use Rattle.mt_machine.specs.Step.{asker, is_late, refusal}
use Rattle.mt_ledger.specs.history.Laws as histories
use Rattle.mt_ledger.specs.Asking.{with_wish}
use Rattle.mt_ledger.specs.Isolation.{veiled_ledger}
use Rattle.mt_ledger.specs.Ledger.{IsLedger, Ledger}
use Rattle.mt_ledger.specs.Subscribing.{Wish, at_once, behind_wish, behind_wish_if_any, first_told, has_no_room, is_malformed, last_told, left_by, subscribed, wish_asked, wish_in, wish_in_time, wish_of, wish_reply}
use Rattle.mt_ledger.proofs.Alike.{Alike, added_alike, added_apart, changed_alike, changed_apart, chosen_alike, full_alike, node_apart, same_alike, staying_alike, then_alike}
use Rattle.mt_ledger.proofs.Told.{first_events_same, first_items_same}

-- A wish is of whoever asks: what holds of no wish and of every one of that actor's, holds of what it asks in time.

module _ (asking : Actor) (P : Option Wish → Type 0) (none : P None) (one : (wish : Wish) → wish.sub.actor ≡ asking → P (Some wish)) where
  of_request : (request : Request) → P (wish_of asking request)
  of_request (requests.Status code) = none
  of_request (requests.Read paths wanted minimum filtered versions) = none
  of_request (requests.Subscribe keep floor ceiling paths wanted minimum filtered versions) = one _ refl
  of_request (requests.Write suppress timed items) = none
  of_request (requests.Invoke suppress timed command fields) = none
  of_request (requests.Timed ms) = none

  pub in_time : (deadline : Option ℕ) (now : ℕ) (request : Request) → P (wish_in_time asking deadline now request)
  in_time deadline now request = elim (is_late deadline now) as (λ (late : Bool). P (if late then None else wish_of asking request)) [ true ↦ none | false ↦ of_request request ]

  -- and of what an action asks
  pub in_action : (s : NodeState) (actor : Actor) (deadline : Option ℕ) (now : ℕ) (asked : Result Request ImFault) → asker s actor ≡ Some asking → P (wish_in s (action_of actor deadline asked) now)
  in_action s actor deadline now (Ok request) is = subst (λ (whom : Option Actor). P (wish_asked whom deadline now request)) (sym is) (in_time deadline now request)
  in_action s actor deadline now (Err fault) is = none

-- nobody wishes for anything
pub nobody_wishes : (s : NodeState) (actor : Actor) (deadline : Option ℕ) (now : ℕ) (asked : Result Request ImFault) → asker s actor ≡ None → wish_in s (action_of actor deadline asked) now ≡ None
nobody_wishes s actor deadline now (Ok request) none = ap (λ (whom : Option Actor). wish_asked whom deadline now request) none
nobody_wishes s actor deadline now (Err fault) none = refl

-- Others of the same node end on the veil as they do.
left_alike : (wish : Wish) (a b : SubState) → Alike wish.sub.actor.fabric a b → Alike wish.sub.actor.fabric (left_by wish a) (left_by wish b)
left_alike wish a b alike =
    let fabric = wish.sub.actor.fabric in
    let node = wish.sub.actor.node in
    chosen_alike fabric wish.keeps wish.keeps a b (without_node fabric node a) (without_node fabric node b) refl alike
    (staying_alike fabric (is_by_another fabric node) (is_by_another fabric node) a b (λ x its. refl) alike)

room_same : (wish : Wish) (a b : SubState) → Alike wish.sub.actor.fabric a b → has_no_room wish a ≡ has_no_room wish b
room_same wish a b alike = full_alike wish.sub.actor.fabric (left_by wish a) (left_by wish b) (left_alike wish a b alike)

-- What a wish comes to, where this is the room, the id, and what is told.
abbrev reply_with : Wish → Bool → ℕ → List Item → Reply
reply_with wish full id items =
    if is_malformed wish.sub then refusal (code_of InvalidAction)
    else if full then refusal (code_of ResourceExhausted)
    else replies.Report (Some id) items false

module _ (sees : laws.SeesTheVeil) (keeps_own : laws.KeepsItsOwnPart) (keeps_events : histories.KeepsItsEvents) (keeps_recent : histories.KeepsRecentEvents) (s : NodeState) (l : Ledger) (valid : IsValid s) (is : IsLedger s l)
    (alike : (fabric : ℕ) → Alike fabric (veiled_ledger fabric l).subs l.subs) where
  wish_same : (wish : Wish) → wish_reply (veil wish.sub.actor.fabric s) (veiled_ledger wish.sub.actor.fabric l) wish ≡ wish_reply s l wish
  wish_same wish =
      let fabric = wish.sub.actor.fabric in
      let items = first_items_same sees keeps_own keeps_events keeps_recent s l.history valid is.history wish in
      λ i. reply_with wish (room_same wish (veiled_ledger fabric l).subs l.subs (alike fabric) i) ((alike fabric).next i) (items i)

  pub reply_same : (asking : Actor) (deadline : Option ℕ) (now : ℕ) (request : Request) (reply other : Reply) → other ≡ reply
      → with_wish (veil asking.fabric s) (veiled_ledger asking.fabric l) (wish_in_time asking deadline now request) other ≡ with_wish s l (wish_in_time asking deadline now request) reply
  reply_same asking deadline now request reply other same =
      in_time asking (λ (wish : Option Wish). with_wish (veil asking.fabric s) (veiled_ledger asking.fabric l) wish other ≡ with_wish s l wish reply) same
      (λ wish its. subst (λ (a : Actor). wish_reply (veil a.fabric s) (veiled_ledger a.fabric l) wish ≡ wish_reply s l wish) its (wish_same wish))
      deadline now request

  told_alike : (now : ℕ) (wish : Wish) → first_told (veil wish.sub.actor.fabric s) (veiled_ledger wish.sub.actor.fabric l).history now wish ≡ first_told s l.history now wish
  told_alike now wish =
      let events = first_events_same sees keeps_own keeps_events keeps_recent s l.history valid is.history wish in
      λ i kept. at_once wish.sub.actor (reported now (valid.newest_counts i) (last_told (wish.minimum - 1) (events i)) kept)

  subscribed_alike : (now : ℕ) (wish : Wish) → Alike wish.sub.actor.fabric (subscribed (veil wish.sub.actor.fabric s) (veiled_ledger wish.sub.actor.fabric l) now wish) (subscribed s l now wish)
  subscribed_alike now wish =
      let fabric = wish.sub.actor.fabric in
      let veiled = (veiled_ledger fabric l).subs in
      changed_alike fabric fabric (next_id fabric veiled) (next_id fabric l.subs)
      (first_told (veil fabric s) (veiled_ledger fabric l).history now wish) (first_told s l.history now wish)
      (added fabric wish.sub (left_by wish veiled)) (added fabric wish.sub (left_by wish l.subs))
      (alike fabric).next (told_alike now wish)
      (added_alike fabric wish.sub (left_by wish veiled) (left_by wish l.subs) (left_alike wish veiled l.subs (alike fabric)))

  behind_alike : (now : ℕ) (wish : Wish) → Alike wish.sub.actor.fabric (behind_wish (veil wish.sub.actor.fabric s) (veiled_ledger wish.sub.actor.fabric l) now wish) (behind_wish s l now wish)
  behind_alike now wish =
      let fabric = wish.sub.actor.fabric in
      let veiled = veiled_ledger fabric l in
      let full = has_no_room wish veiled.subs in
      let full_there = has_no_room wish l.subs in
      let behind = subscribed (veil fabric s) veiled now wish in
      let behind_there = subscribed s l now wish in
      chosen_alike fabric (is_malformed wish.sub) (is_malformed wish.sub) veiled.subs l.subs
      (if full then left_by wish veiled.subs else behind) (if full_there then left_by wish l.subs else behind_there)
      refl (alike fabric)
      (chosen_alike fabric full full_there (left_by wish veiled.subs) (left_by wish l.subs) behind behind_there
      (room_same wish veiled.subs l.subs (alike fabric)) (left_alike wish veiled.subs l.subs (alike fabric)) (subscribed_alike now wish))

  -- the subscriptions behind what an actor asks
  pub asked_alike : (actor asking : Actor) (deadline : Option ℕ) (now : ℕ) (asked : Result Request ImFault) → asker s actor ≡ Some asking → asker (veil asking.fabric s) actor ≡ Some asking
      → Alike asking.fabric (behind_wish_if_any (veil asking.fabric s) (veiled_ledger asking.fabric l) now (wish_in (veil asking.fabric s) (action_of actor deadline asked) now)) (behind_wish_if_any s l now (wish_in s (action_of actor deadline asked) now))
  asked_alike actor asking deadline now asked on_state on_veil =
      let veiled = veil asking.fabric s in
      let action = action_of actor deadline asked in
      subst (λ (wish : Option Wish). Alike asking.fabric (behind_wish_if_any veiled (veiled_ledger asking.fabric l) now wish) (behind_wish_if_any s l now (wish_in s action now)))
      (same_wish (asked))
      (in_action asking (λ (wish : Option Wish). Alike asking.fabric (behind_wish_if_any veiled (veiled_ledger asking.fabric l) now wish) (behind_wish_if_any s l now wish)) (alike asking.fabric)
      (λ wish its. subst (λ (a : Actor). Alike a.fabric (behind_wish (veil a.fabric s) (veiled_ledger a.fabric l) now wish) (behind_wish s l now wish)) its (behind_alike now wish))
      s actor deadline now asked on_state)
    where
      same_wish : (asked : Result Request ImFault) → wish_in s (action_of actor deadline asked) now ≡ wish_in (veil asking.fabric s) (action_of actor deadline asked) now
      same_wish (Ok request) = ap (λ (whom : Option Actor). wish_asked whom deadline now request) (on_state ∙ sym on_veil)
      same_wish (Err fault) = refl

-- For another fabric.

module _ (fabric : ℕ) (s : NodeState) (l : Ledger) (now : ℕ) where
  left_apart : (wish : Wish) → (fabric ≡ wish.sub.actor.fabric → ⊥) → Alike fabric (left_by wish l.subs) l.subs
  left_apart wish apart =
      elim wish.keeps as (λ (keeps : Bool). Alike fabric (if keeps then l.subs else without_node wish.sub.actor.fabric wish.sub.actor.node l.subs) l.subs) [
        | true ↦ same_alike fabric l.subs
        | false ↦ node_apart fabric wish.sub.actor.fabric wish.sub.actor.node l.subs apart
      ]

  subscribed_apart : (wish : Wish) → (fabric ≡ wish.sub.actor.fabric → ⊥) → Alike fabric (subscribed s l now wish) l.subs
  subscribed_apart wish apart =
      let other = wish.sub.actor.fabric in
      let left = left_by wish l.subs in
      let more = added other wish.sub left in
      then_alike fabric (subscribed s l now wish) more l.subs (changed_apart fabric other (next_id other l.subs) (first_told s l.history now wish) more apart)
      (then_alike fabric more left l.subs (added_apart fabric other wish.sub left apart) (left_apart wish apart))

  behind_apart : (wish : Wish) → (fabric ≡ wish.sub.actor.fabric → ⊥) → Alike fabric (behind_wish s l now wish) l.subs
  behind_apart wish apart =
      elim (is_malformed wish.sub) as (λ (malformed : Bool). Alike fabric (if malformed then l.subs else if has_no_room wish l.subs then left_by wish l.subs else subscribed s l now wish) l.subs) [
        | true ↦ same_alike fabric l.subs
        | false ↦
            elim (has_no_room wish l.subs) as (λ (full : Bool). Alike fabric (if full then left_by wish l.subs else subscribed s l now wish) l.subs) [
              | true ↦ left_apart wish apart
              | false ↦ subscribed_apart wish apart
            ]
      ]

  pub asked_apart : (actor asking : Actor) (deadline : Option ℕ) (asked : Result Request ImFault) → asker s actor ≡ Some asking → (fabric ≡ asking.fabric → ⊥)
      → Alike fabric (behind_wish_if_any s l now (wish_in s (action_of actor deadline asked) now)) l.subs
  asked_apart actor asking deadline asked on_state apart =
      in_action asking (λ (wish : Option Wish). Alike fabric (behind_wish_if_any s l now wish) l.subs) (same_alike fabric l.subs)
      (λ wish its. behind_apart wish (λ same. apart (same ∙ ap (λ (a : Actor). a.fabric) its)))
      s actor deadline now asked on_state
