-- Deadlines of plain actors stay few, differ, and are of fabrics of the table.
use Rattle.std.proofs.Common.{◌≡◌, ℕ, ◌+◌, ◌≤◌, ◌==◌, ◌&&◌, ◌||◌, inl, inr, not, nat_le, nat_lt, Bool, true, false, List, [], ◌∷◌, ◌++◌, Option, Some, None, Result, Ok, Err, length, length-append, bytes_eq, filter, refl, sym, ap, ◌∙◌, subst, arith, if◌then◌else◌}
use Rattle.std.proofs.lemmas.Bool.{and_from, and_parts, cases_Bool, cond_both, eqb-true, le-leb, leb-true, ltb-true, or_cases, or_left, or_right}
use Rattle.std.proofs.lemmas.List.Elements.{filter-append}
use Rattle.std.proofs.lemmas.List.Folds.{list_all-append}
use Rattle.std.specs.List.{list_all, list_any}
use Rattle.mt_im.specs.Reading.{request_in}
use Rattle.mt_im.specs.declared.fault.ImFault.{ImFault}
use Rattle.mt_model.specs.declared.limits.TheConstants.{PLAIN_DEADLINES}
use Rattle.mt_model.specs.declared.messages.message.Request.{Request}
use Rattle.mt_model.specs.declared.messages.message.Request.TheVariants as requests
use Rattle.mt_model.specs.declared.node.action.Action.TheVariants as actions
use Rattle.mt_model.specs.declared.node.action.NodeStep.{NodeStep}
use Rattle.mt_model.specs.declared.node.action.NodeStep.TheVariants as steps
use Rattle.mt_model.specs.declared.node.action.PlainDeadline.{PlainDeadline}
use Rattle.mt_model.specs.declared.node.state.NodeState.{NodeState}
use Rattle.mt_model.specs.declared.tables.access.Actor.{Actor}
use Rattle.mt_model.specs.declared.tables.fabric.Fabric.{Fabric}
use Rattle.mt_model.specs.declared.tables.network.Armed.{Armed}
use Rattle.mt_model.specs.declared.texts.recording.Event.TheVariants as events
use Rattle.mt_model.specs.tables.Leaving.{stays}
use Rattle.mt_model.specs.texts.Config.{none_alike}
use Rattle.mt_machine.specs.Deadlines.{ActionsKeepDeadlines, AreDeadlines, PlainLinesKeepDeadlines, have_one_actor, is_known_deadline}
use Rattle.mt_machine.specs.Environment.{Environment}
use Rattle.mt_machine.specs.Isolation.{is_deadline_in}
use Rattle.mt_machine.specs.Leaving.{has_left}
use Rattle.mt_machine.specs.Lines.{action_of, deadline_at, deadline_for, deadline_of, deadlines_after, deadlines_of_those_left, has_room, is_deadline_of, later_by, line_actor, with_deadline, without}
use Rattle.mt_machine.proofs.Times.{fabrics-stay}
use Rattle.mt_machine.proofs.Windows.{windows_set}
use Rattle.mt_machine.specs.Effects.{is_setting_step}
use Rattle.mt_machine.specs.Rollback.{rollback, deadlines_left, fabrics_behind, is_due, rolled_back}
use Rattle.mt_machine.specs.State.{IsValid, State, is_among, is_member}
use Rattle.mt_machine.specs.Step.{after_action, after_steps, asker, at_time, is_late, window_steps}
use Rattle.mt_machine.proofs.Counting.{impossible}
use Rattle.mt_machine.proofs.Expired.{among-behind}
use Rattle.mt_machine.proofs.Rolled.{none-filter}
use Rattle.mt_machine.proofs.Tells.{askers_known}

abbrev Few : List PlainDeadline → Type 0
Few ds = (fabric : ℕ) → nat_le (length (filter (is_deadline_in fabric) ds)) PLAIN_DEADLINES ≡ true

-- the deadlines themselves, with the fabrics beside them
record Stand (fabrics : List Fabric) (ds : List PlainDeadline) : Type 0 where
  few : Few ds
  differ : none_alike have_one_actor ds ≡ true
  known : list_all (is_known_deadline fabrics) ds ≡ true

-- Fewer.

fewer : (p keep : PlainDeadline → Bool) (ds : List PlainDeadline) → length (filter p (filter keep ds)) ≤ length (filter p ds)
fewer p keep [] = omega arith
fewer p keep (d ∷ ds) =
    let rest = fewer p keep ds in
    elim (cases_Bool (keep d)) [
      | inl kept ↦ elim (cases_Bool (p d)) [
        | inl its ↦ rw (kept, its) (omega (arith, rest))
        | inr other ↦ rw (kept, other) rest
      ]
      | inr gone ↦ elim (cases_Bool (p d)) [
        | inl its ↦ rw (gone, its) (omega (arith, rest))
        | inr other ↦ rw (gone, other) rest
      ]
    ]

few_left : (keep : PlainDeadline → Bool) (ds : List PlainDeadline) → Few ds → Few (filter keep ds)
few_left keep ds few fabric =
    let less = fewer (is_deadline_in fabric) keep ds in
    let most = leb-true (length (filter (is_deadline_in fabric) ds)) PLAIN_DEADLINES (few fabric) in
    le-leb (length (filter (is_deadline_in fabric) (filter keep ds))) PLAIN_DEADLINES (omega (arith, less, most))

-- where those that stay are known to other fabrics
stand_left : (fabrics others : List Fabric) (keep : PlainDeadline → Bool) (ds : List PlainDeadline) → ((d : PlainDeadline) → keep d ≡ true → is_known_deadline fabrics d ≡ true → is_known_deadline others d ≡ true)
    → Stand fabrics ds → Stand others (filter keep ds)
stand_left fabrics others keep ds still stand = record {
  few = few_left keep ds stand.few;
  differ = none-filter have_one_actor keep ds stand.differ;
  known = known_left ds stand.known;
}
  where
    known_left : (ds : List PlainDeadline) → list_all (is_known_deadline fabrics) ds ≡ true → list_all (is_known_deadline others) (filter keep ds) ≡ true
    known_left [] all = refl
    known_left (d ∷ ds) all =
        let both = and_parts (is_known_deadline fabrics d) (list_all (is_known_deadline fabrics) ds) all in
        let rest = known_left ds both.1 in
        elim (cases_Bool (keep d)) [
          | inl kept ↦ rw kept (and_from _ _ (still d kept both.0) rest)
          | inr gone ↦ rw gone rest
        ]

-- One more.

module _ (fabrics : List Fabric) (actor : Actor) (known : (actor.fabric == 0 || is_among fabrics actor.fabric) ≡ true) (ds : List PlainDeadline) (stand : Stand fabrics ds) where
  others_stand : Stand fabrics (without actor ds)
  others_stand = stand_left fabrics fabrics (λ (d : PlainDeadline). not (is_deadline_of actor d)) ds (λ d kept is. is) stand

  module _ (until : ℕ) (room : has_room actor ds ≡ true) where
    abbrev new : PlainDeadline
    new = deadline_at actor until

    few_more : Few (without actor ds ++ new ∷ [])
    few_more fabric =
        let left = without actor ds in
        let before = leb-true (length (filter (is_deadline_in fabric) left)) PLAIN_DEADLINES (others_stand.few fabric) in
        let parts = ap length (filter-append (is_deadline_in fabric) left (new ∷ [])) ∙ length-append (filter (is_deadline_in fabric) left) (filter (is_deadline_in fabric) (new ∷ [])) in
        elim (cases_Bool (actor.fabric == fabric)) [
          | inl its ↦
              let fits = ltb-true (length (filter (is_deadline_in actor.fabric) left)) PLAIN_DEADLINES room in
              let same = eqb-true actor.fabric fabric its in
              let here : length (filter (is_deadline_in fabric) left) ≡ length (filter (is_deadline_in actor.fabric) left) = ap (λ (n : ℕ). length (filter (is_deadline_in n) left)) (sym same) in
              let one : length (filter (is_deadline_in fabric) (new ∷ [])) ≡ 1 = ap (λ b. length (if b then new ∷ [] else [])) its in
              le-leb (length (filter (is_deadline_in fabric) (left ++ new ∷ []))) PLAIN_DEADLINES (omega (arith, parts, fits, here, one))
          | inr other ↦
              let none : length (filter (is_deadline_in fabric) (new ∷ [])) ≡ 0 = ap (λ b. length (if b then new ∷ [] else [])) other in
              le-leb (length (filter (is_deadline_in fabric) (left ++ new ∷ []))) PLAIN_DEADLINES (omega (arith, parts, before, none))
        ]

    -- none of the others is of the actor
    apart : (xs : List PlainDeadline) → list_all (λ (d : PlainDeadline). not (is_deadline_of actor d)) xs ≡ true → none_alike have_one_actor xs ≡ true → none_alike have_one_actor (xs ++ new ∷ []) ≡ true
    apart [] others differ = refl
    apart (d ∷ xs) others differ =
        let here = and_parts (not (is_deadline_of actor d)) (list_all (λ (x : PlainDeadline). not (is_deadline_of actor x)) xs) others in
        let both = and_parts (not (list_any (have_one_actor d) xs)) (none_alike have_one_actor xs) differ in
        and_from _ _ (ap not (any_last (have_one_actor d) xs (not-true-of (list_any (have_one_actor d) xs) both.0) (not-true-of (is_deadline_of actor d) here.0))) (apart xs here.1 both.1)
      where
        not-true-of : (b : Bool) → not b ≡ true → b ≡ false
        not-true-of true is = impossible is
        not-true-of false is = refl

        any_last : (p : PlainDeadline → Bool) (xs : List PlainDeadline) → list_any p xs ≡ false → p new ≡ false → list_any p (xs ++ new ∷ []) ≡ false
        any_last p [] none last = rw last refl
        any_last p (x ∷ xs) none last = elim (cases_Bool (p x)) [
          | inl its ↦ impossible (sym none ∙ or_left (p x) (list_any p xs) its)
          | inr other ↦ rw other (any_last p xs (subst (λ b. (b || list_any p xs) ≡ false) other none) last)
        ]

    all_others : (ds : List PlainDeadline) → list_all (λ (d : PlainDeadline). not (is_deadline_of actor d)) (without actor ds) ≡ true
    all_others [] = refl
    all_others (d ∷ ds) = elim (cases_Bool (not (is_deadline_of actor d))) [
      | inl kept ↦ rw kept (and_from _ _ kept (all_others ds))
      | inr gone ↦ rw gone (all_others ds)
    ]

    one_more : Stand fabrics (without actor ds ++ new ∷ [])
    one_more = record {
      few = few_more;
      differ = apart (without actor ds) (all_others ds) others_stand.differ;
      known = list_all-append (is_known_deadline fabrics) (without actor ds) (new ∷ []) ∙ and_from _ _ others_stand.known (and_from _ _ known refl);
    }

  with_stands : (ms : ℕ) (asked : Result Request ImFault) → Stand fabrics (with_deadline actor ds ms asked)
  with_stands ms (Ok (requests.Timed wait)) =
      cond_both (has_room actor ds && not (is_late (deadline_of actor ds) ms)) (without actor ds ++ deadline_at actor (later_by wait ms) ∷ []) (without actor ds) (Stand fabrics)
      (λ both. one_more (later_by wait ms) (and_parts (has_room actor ds) (not (is_late (deadline_of actor ds) ms)) both).0) (λ none. others_stand)
  with_stands ms asked = others_stand

after_stands : (fabrics : List Fabric) (whom : Option Actor) → ((actor : Actor) → whom ≡ Some actor → (actor.fabric == 0 || is_among fabrics actor.fabric) ≡ true)
    → (ds : List PlainDeadline) (ms : ℕ) (asked : Result Request ImFault) → Stand fabrics ds → Stand fabrics (deadlines_after whom ds ms asked)
after_stands fabrics None known ds ms asked stand = stand
after_stands fabrics (Some actor) known ds ms asked stand = with_stands fabrics actor (known actor refl) ds stand ms asked

-- Those of fabrics that leave, go.

not_left : (before now : NodeState) (d : PlainDeadline) → not (has_left before now d.fabric) ≡ true → is_known_deadline before.fabrics d ≡ true → is_known_deadline now.fabrics d ≡ true
not_left before now d stays known = elim (or_cases (d.fabric == 0) (is_among before.fabrics d.fabric) known) [
  | inl none ↦ or_left _ _ none
  | inr there ↦ or_right _ _ (elim (cases_Bool (is_member d.fabric now)) [
    | inl still ↦ still
    | inr gone ↦ impossible (sym (rw (there, gone) refl) ∙ stays)
  ])
]

left_stand : (before now : NodeState) (ds : List PlainDeadline) → Stand before.fabrics ds → Stand now.fabrics (deadlines_of_those_left before now ds)
left_stand before now ds stand = stand_left before.fabrics now.fabrics (λ (d : PlainDeadline). not (has_left before now d.fabric)) ds (not_left before now) stand

-- A time step.

armed_left : (armed : Armed) (fs : List Fabric) (ds : List PlainDeadline) → Stand fs ds → Stand (fabrics_behind armed fs) (deadlines_left (Some armed) ds)
armed_left armed fs ds stand = stand_left fs (fabrics_behind armed fs) (λ (d : PlainDeadline). stays armed.added d.fabric) ds still stand
  where
    still : (d : PlainDeadline) → stays armed.added d.fabric ≡ true → is_known_deadline fs d ≡ true → is_known_deadline (fabrics_behind armed fs) d ≡ true
    still d stay known = elim (or_cases (d.fabric == 0) (is_among fs d.fabric) known) [
      | inl none ↦ or_left _ _ none
      | inr there ↦ or_right _ _ (among-behind armed.added armed.updated armed.saved_credentials d.fabric fs ∙ and_from _ _ stay there)
    ]

rolled_left : (armed : Option Armed) (s : NodeState) (ds : List PlainDeadline) → Stand s.fabrics ds → Stand (rolled_back armed s).fabrics (deadlines_left armed ds)
rolled_left None s ds stand = stand
rolled_left (Some armed) s ds stand = armed_left armed s.fabrics ds stand

ticked_stand : (s : NodeState) (ds : List PlainDeadline) (windows : List NodeStep) → list_all is_setting_step windows ≡ true → (due : Bool) → Stand s.fabrics ds
    → Stand (after_steps None ((if due then steps.Expire ∷ [] else []) ++ windows) s).fabrics (if due then deadlines_left s.armed ds else ds)
ticked_stand s ds windows sets true stand = subst (λ (fs : List Fabric). Stand fs (deadlines_left s.armed ds)) (sym (fabrics-stay None windows (rollback s) sets)) (rolled_left s.armed s ds stand)
ticked_stand s ds windows sets false stand = subst (λ (fs : List Fabric). Stand fs ds) (sym (fabrics-stay None windows s sets)) stand

-- Lines.

stand_of : (s : State) → AreDeadlines s → Stand s.node.fabrics s.deadlines
stand_of s are = record { few = are.few; differ = are.differ; known = are.known }

are_of : (s : State) → Stand s.node.fabrics s.deadlines → AreDeadlines s
are_of s stand = record { few = stand.few; differ = stand.differ; known = stand.known }

pub actions_keep : ActionsKeepDeadlines
actions_keep given s action ms are = are_of _ (left_stand s.node (after_action given s.node action ms) s.deadlines (stand_of s are))

pub lines_keep : PlainLinesKeepDeadlines
lines_keep given s (events.Ask ms fabric node cats opcode payload) valid are =
    let actor = line_actor fabric node cats in
    let asked = request_in opcode payload in
    let now = after_action given s.node (action_of actor (deadline_for s (asker s.node actor)) asked) ms in
    are_of _ (left_stand s.node now (deadlines_after (asker s.node actor) s.deadlines ms asked)
    (after_stands s.node.fabrics (asker s.node actor) (λ asking is. askers_known s.node actor asking valid is) s.deadlines ms asked (stand_of s are)))
lines_keep given s (events.Datagram ms peer bytes) valid are = are
lines_keep given s (events.Tick ms) valid are = are_of _ (ticked_stand (at_time ms s.node) s.deadlines (window_steps s.node ms) (windows_set s.node ms) (is_due s.node.armed ms) (stand_of s are))
lines_keep given s (events.Report ms fabric subscription) valid are = are
lines_keep given s (events.Resend ms session) valid are = are
lines_keep given s (events.Stop calls fate) valid are = are
