-- No action makes a session live again that has ended, or wait again that was live.
use Rattle.std.proofs.Common.{◌≡◌, ℕ, ◌==◌, ◌&&◌, ◌||◌, ◌≤◌, not, inl, inr, Bool, true, false, List, [], ◌∷◌, Option, Some, None, arith, refl, ap, sym, subst, ◌∙◌, map, if◌then◌else◌}
use Rattle.std.proofs.lemmas.Bool.{and_parts, cases_Bool, eqb-true}
use Rattle.std.specs.List.{find, list_any}
use Rattle.std.specs.Prelude.{⊤, is_none}
use Rattle.mt_failsafe.specs.Notes as notes
use Rattle.mt_fabrics.specs.Table.{label_refusal, least_unused}
use Rattle.mt_model.specs.texts.Config.{has_identity, none_alike}
use Rattle.mt_model.specs.declared.node.action.Action.{Action}
use Rattle.mt_model.specs.declared.node.action.NodeStep.{NodeStep}
use Rattle.mt_model.specs.declared.node.action.NodeStep.TheVariants.{SetRow, SetEntries, PutNetwork, RemoveNetwork, ConnectNetwork, MoveNetwork, Arm, Renew, Expire, Complete, AddRoot, Csr, AddFabric, UpdateFabric, RemoveFabric, Label, Emit}
use Rattle.mt_model.specs.declared.node.state.NodeSession.{NodeSession}
use Rattle.mt_model.specs.declared.node.state.NodeState.{NodeState}
use Rattle.mt_model.specs.declared.node.state.Standing.{Standing}
use Rattle.mt_model.specs.declared.node.state.Standing.TheVariants.{Waits, Live, Ended}
use Rattle.mt_model.specs.declared.tables.access.Actor.{Actor}
use Rattle.mt_model.specs.declared.tables.access.Auth.{Auth}
use Rattle.mt_model.specs.declared.tables.access.Auth.TheVariants.{Pase, Case, Group}
use Rattle.mt_model.specs.declared.tables.fabric.Fabric.{Fabric}
use Rattle.mt_model.specs.declared.tables.network.Armed.{Armed}
use Rattle.mt_subs.specs.Leaving.{is_live_as}
use Rattle.mt_shared.specs.mt_machine.Effects.{after, after_all, completed, is_on, joined_as, may_join, may_leave, may_update, session_completed, session_joined, session_without, standing_completed, standing_joined}
use Rattle.mt_shared.specs.mt_machine.Environment.{Environment}
use Rattle.mt_shared.specs.mt_machine.Rollback.{ends, rolled_back, session_behind}
use Rattle.mt_shared.specs.mt_machine.Step.{after_action, asker_of, at_time, closed_between, is_live, steps_of}
use Rattle.mt_shared.specs.mt_runs.Isolation.{have_one_id}
use Rattle.mt_layer.specs.Agreeing.{is_ended, is_over}
use Rattle.mt_layer.specs.Laws.{ClosedHaveEnded, EndedStayEnded}

contradiction : {A : Type 0} → false ≡ true → A
contradiction is = absurd (cc)

-- A session waits, then is live, then has ended.
rank : Standing → ℕ
rank Waits = 0
rank (Live fabric) = 1
rank Ended = 2

record Follows (before now : NodeSession) : Type 0 where
  id : now.session ≡ before.session
  later : rank before.standing ≤ rank now.standing

pub FollowAll : List NodeSession → List NodeSession → Type 0
FollowAll [] [] = ⊤
FollowAll [] (n ∷ now) = ⊥
FollowAll (b ∷ before) [] = ⊥
FollowAll (b ∷ before) (n ∷ now) = Follows b n × FollowAll before now

same : (sessions : List NodeSession) → FollowAll sessions sessions
unfolding FollowAll
same [] = tt
same (session ∷ sessions) = (record { id = refl; later = omega arith }, same sessions)

then_later : (a b c : List NodeSession) → FollowAll a b → FollowAll b c → FollowAll a c
unfolding FollowAll
then_later [] [] [] first second = tt
then_later [] [] (z ∷ c) first second = absurd second
then_later [] (y ∷ b) c first second = absurd first
then_later (x ∷ a) [] c first second = absurd first
then_later (x ∷ a) (y ∷ b) [] first second = absurd second
then_later (x ∷ a) (y ∷ b) (z ∷ c) first second =
    (record { id = second.0.id ∙ first.0.id; later = omega (arith, first.0.later, second.0.later) }, then_later a b c first.1 second.1)

each : (change : NodeSession → NodeSession) → ((session : NodeSession) → Follows session (change session)) → (sessions : List NodeSession) → FollowAll sessions (map change sessions)
unfolding FollowAll
each change one [] = tt
each change one (session ∷ sessions) = (one session, each change one sessions)

-- whichever of two states it is
either : (test : Bool) (t u : NodeState) (sessions : List NodeSession) → FollowAll sessions t.sessions → FollowAll sessions u.sessions → FollowAll sessions (if test then t else u).sessions
either true t u sessions its others = its
either false t u sessions its others = others

-- ONE SESSION behind a step

last_of_all : (standing : Standing) → rank standing ≤ 2
unfolding rank
last_of_all Waits = omega arith
last_of_all (Live fabric) = omega arith
last_of_all Ended = omega arith

ends_if : (test : Bool) (session : NodeSession) → Follows session (if test then record session { standing = Ended } else session)
unfolding rank
ends_if true session = record { id = refl; later = last_of_all session.standing }
ends_if false session = record { id = refl; later = omega arith }

completes : (context : ℕ) (auth : Auth) (standing : Standing) → rank standing ≤ rank (standing_completed context auth standing)
unfolding rank
completes context Pase Waits = omega arith
completes context Pase (Live fabric) = by_test (fabric == context)
  where
    by_test : (its : Bool) → 1 ≤ rank (if its then Ended else Live fabric)
    by_test true = omega arith
    by_test false = omega arith
completes context Pase Ended = omega arith
completes context Case Waits = omega arith
completes context Case (Live fabric) = omega arith
completes context Case Ended = omega arith
completes context Group Waits = omega arith
completes context Group (Live fabric) = omega arith
completes context Group Ended = omega arith

joins : (asks : Bool) (index : ℕ) (fits : Bool) (auth : Auth) (standing : Standing) → rank standing ≤ rank (standing_joined asks index fits auth standing)
unfolding rank
joins asks index true Pase Waits = omega arith
joins asks index false Pase Waits = omega arith
joins true index fits Pase (Live fabric) = omega arith
joins false index fits Pase (Live fabric) = omega arith
joins asks index fits Pase Ended = omega arith
joins asks index true Case Waits = omega arith
joins asks index false Case Waits = omega arith
joins asks index fits Case (Live fabric) = omega arith
joins asks index fits Case Ended = omega arith
joins asks index true Group Waits = omega arith
joins asks index false Group Waits = omega arith
joins asks index fits Group (Live fabric) = omega arith
joins asks index fits Group Ended = omega arith

-- ALL SESSIONS behind an action

rolled : (armed : Option Armed) (s : NodeState) → FollowAll s.sessions (rolled_back armed s).sessions
rolled None s = same s.sessions
rolled (Some armed) s = each (session_behind armed) (λ session. ends_if (ends armed session.auth session.standing) session) s.sessions

complete : (armed : Option Armed) (s : NodeState) → FollowAll s.sessions (completed armed s).sessions
complete None s = same s.sessions
complete (Some armed) s = each (session_completed armed.context) (λ session. record { id = refl; later = completes armed.context session.auth session.standing }) s.sessions

join : (asker : Option Actor) (index : ℕ) (fabric : Fabric) (s : NodeState) → FollowAll s.sessions (joined_as asker index fabric s).sessions
join asker index fabric s =
    each (session_joined asker index fabric)
    (λ session. record { id = refl; later = joins (is_on asker session) index (has_identity session.root_key session.fabric_id fabric) session.auth session.standing }) s.sessions

by_step : (asker : Option Actor) (step : NodeStep) (s : NodeState) → FollowAll s.sessions (after asker step s).sessions
by_step asker (SetRow place fabric values) s = same s.sessions
by_step asker (SetEntries fabric entries) s = same s.sessions
by_step asker (PutNetwork id secret) s = same s.sessions
by_step asker (RemoveNetwork id) s = same s.sessions
by_step asker (ConnectNetwork id) s = same s.sessions
by_step asker (MoveNetwork id index) s = same s.sessions
by_step asker (Arm owner seconds) s = same s.sessions
by_step asker (Renew seconds) s = same s.sessions
by_step asker Expire s = rolled s.armed s
by_step asker Complete s = complete s.armed s
by_step asker (AddRoot cert) s = either (notes.may_note_root s.armed) _ s s.sessions (same s.sessions) (same s.sessions)
by_step asker (Csr nonce update) s = either (notes.may_note_csr update s.armed) _ s s.sessions (same s.sessions) (same s.sessions)
by_step asker (AddFabric fabric) s = either (may_join fabric s) (joined_as asker (least_unused s.fabrics) fabric s) s s.sessions (join asker (least_unused s.fabrics) fabric s) (same s.sessions)
by_step asker (UpdateFabric index given) s = either (may_update index given s) _ s s.sessions (same s.sessions) (same s.sessions)
by_step asker (RemoveFabric index) s =
    either (may_leave index s) _ s s.sessions (each (session_without index) (λ session. ends_if (is_live_as index session.standing) session) s.sessions) (same s.sessions)
by_step asker (Label index label) s = either (is_none (label_refusal index label s.fabrics)) _ s s.sessions (same s.sessions) (same s.sessions)
by_step asker (Emit place priority fabric value) s = same s.sessions

by_steps : (asker : Option Actor) (steps : List NodeStep) (s : NodeState) → FollowAll s.sessions (after_all asker steps s).sessions
by_steps asker [] s = same s.sessions
by_steps asker (step ∷ steps) s = then_later s.sessions (after asker step s).sessions (after_all asker steps (after asker step s)).sessions (by_step asker step s) (by_steps asker steps (after asker step s))

pub all_follow : (given : Environment) (s : NodeState) (action : Action) (now : ℕ) → FollowAll s.sessions (after_action given s action now).sessions
all_follow given s action now = by_steps (asker_of s action) (steps_of given s action now) (at_time now s)

-- WHICH HAVE ENDED

abbrev pub is_named : ℕ → NodeSession → Bool
is_named id session = session.session == id

still_ended : (before now : Standing) → rank before ≤ rank now → is_ended before ≡ true → is_ended now ≡ true
unfolding rank
still_ended Ended Ended later ended = refl
still_ended Ended Waits later ended = absurd (omega (arith, later))
still_ended Ended (Live fabric) later ended = absurd (omega (arith, later))
still_ended Waits now later ended = contradiction ended
still_ended (Live fabric) now later ended = contradiction ended

now_ended : (before now : Standing) → rank before ≤ rank now → (is_live before && not (is_live now)) ≡ true → is_ended now ≡ true
unfolding rank
now_ended Waits now later closes = contradiction closes
now_ended Ended now later closes = contradiction closes
now_ended (Live fabric) Waits later closes = absurd (omega (arith, later))
now_ended (Live fabric) (Live other) later closes = contradiction closes
now_ended (Live fabric) Ended later closes = refl

pub stay_ended : (id : ℕ) (before now : List NodeSession) → FollowAll before now → is_over (find (is_named id) before) ≡ true → is_over (find (is_named id) now) ≡ true
unfolding FollowAll
stay_ended id [] [] follow ended = refl
stay_ended id [] (n ∷ now) follow ended = absurd follow
stay_ended id (b ∷ before) [] follow ended = absurd follow
stay_ended id (b ∷ before) (n ∷ now) follow ended = elim (cases_Bool (b.session == id)) [
  | inl its ↦
      let too : (n.session == id) ≡ true = ap (λ (m : ℕ). m == id) follow.0.id ∙ its in
      let was : is_ended b.standing ≡ true = subst (λ (c : Bool). is_over (if c then Some b else find (is_named id) before) ≡ true) its ended in
      rw too (still_ended b.standing n.standing follow.0.later was)
  | inr other ↦
      let too : (n.session == id) ≡ false = ap (λ (m : ℕ). m == id) follow.0.id ∙ other in
      let was : is_over (find (is_named id) before) ≡ true = subst (λ (c : Bool). is_over (if c then Some b else find (is_named id) before) ≡ true) other ended in
      rw too (stay_ended id before now follow.1 was)
]

-- Behind the first of an id there is no other of that id.

or_parts : (a b : Bool) → (a || b) ≡ false → (a ≡ false) × (b ≡ false)
or_parts false false is = (refl, refl)
or_parts true b is = contradiction (sym is)
or_parts false true is = contradiction (sym is)

not_false : (a : Bool) → not a ≡ true → a ≡ false
not_false false is = refl
not_false true is = contradiction is

turned : (a b : ℕ) → (a == b) ≡ (b == a)
turned a b = grind arith

none_named : (id : ℕ) (session : NodeSession) (sessions : List NodeSession) → (session.session == id) ≡ true → list_any (have_one_id session) sessions ≡ false → list_any (is_named id) sessions ≡ false
none_named id session [] its none = refl
none_named id session (other ∷ others) its none =
    let both = or_parts (session.session == other.session) (list_any (have_one_id session) others) none in
    let apart : (other.session == id) ≡ false = ap (λ n. other.session == n) (sym (eqb-true session.session id its)) ∙ turned other.session session.session ∙ both.0 in
    ap (λ (b : Bool). b || list_any (is_named id) others) apart ∙ none_named id session others its both.1

pub none_behind : (id : ℕ) (session : NodeSession) (sessions : List NodeSession) → none_alike have_one_id (session ∷ sessions) ≡ true → (session.session == id) ≡ true → list_any (is_named id) sessions ≡ false
none_behind id session sessions apart its =
    let both = and_parts (not (list_any (have_one_id session) sessions)) (none_alike have_one_id sessions) apart in
    none_named id session sessions its (not_false (list_any (have_one_id session) sessions) both.0)

pub rest_differ : (session : NodeSession) (sessions : List NodeSession) → none_alike have_one_id (session ∷ sessions) ≡ true → none_alike have_one_id sessions ≡ true
rest_differ session sessions apart = (and_parts (not (list_any (have_one_id session) sessions)) (none_alike have_one_id sessions) apart).1

-- what is named by no session has not closed
none_closed : (id : ℕ) (before now : List NodeSession) → list_any (is_named id) before ≡ false → list_any (λ (n : ℕ). n == id) (closed_between before now) ≡ false
none_closed id [] now none = refl
none_closed id (session ∷ sessions) [] none = refl
none_closed id (session ∷ sessions) (other ∷ others) none =
    let both = or_parts (session.session == id) (list_any (is_named id) sessions) none in
    by_test (is_live session.standing && not (is_live other.standing)) both.0 (none_closed id sessions others both.1)
  where
    by_test : (closes : Bool) → (session.session == id) ≡ false → list_any (λ (n : ℕ). n == id) (closed_between sessions others) ≡ false
        → list_any (λ (n : ℕ). n == id) (if closes then session.session ∷ closed_between sessions others else closed_between sessions others) ≡ false
    by_test true apart none = ap (λ (b : Bool). b || list_any (λ (n : ℕ). n == id) (closed_between sessions others)) apart ∙ none
    by_test false apart none = none

pub closed_ended : (id : ℕ) (before now : List NodeSession) → FollowAll before now → none_alike have_one_id before ≡ true → list_any (λ (n : ℕ). n == id) (closed_between before now) ≡ true → is_over (find (is_named id) now) ≡ true
unfolding FollowAll
closed_ended id [] now follow apart closed = contradiction closed
closed_ended id (b ∷ before) [] follow apart closed = absurd follow
closed_ended id (b ∷ before) (n ∷ now) follow apart closed = elim (cases_Bool (b.session == id)) [
  | inl its ↦
      let too : (n.session == id) ≡ true = ap (λ (m : ℕ). m == id) follow.0.id ∙ its in
      let rest : list_any (λ (m : ℕ). m == id) (closed_between before now) ≡ false = none_closed id before now (none_behind id b before apart its) in
      rw too (now_ended b.standing n.standing follow.0.later (it_closes (is_live b.standing && not (is_live n.standing)) rest closed))
  | inr other ↦
      let too : (n.session == id) ≡ false = ap (λ (m : ℕ). m == id) follow.0.id ∙ other in
      rw too (closed_ended id before now follow.1 (rest_differ b before apart) (among_rest (is_live b.standing && not (is_live n.standing)) other closed))
]
  where
    it_closes : (closes : Bool) → list_any (λ (m : ℕ). m == id) (closed_between before now) ≡ false
        → list_any (λ (m : ℕ). m == id) (if closes then b.session ∷ closed_between before now else closed_between before now) ≡ true → closes ≡ true
    it_closes true none there = refl
    it_closes false none there = contradiction (sym none ∙ there)

    among_rest : (closes : Bool) → (b.session == id) ≡ false
        → list_any (λ (m : ℕ). m == id) (if closes then b.session ∷ closed_between before now else closed_between before now) ≡ true → list_any (λ (m : ℕ). m == id) (closed_between before now) ≡ true
    among_rest true other there = subst (λ (c : Bool). (c || list_any (λ (m : ℕ). m == id) (closed_between before now)) ≡ true) other there
    among_rest false other there = there

pub ended_stay : EndedStayEnded
ended_stay given s action now id ended = stay_ended id s.sessions (after_action given s action now).sessions (all_follow given s action now) ended

pub closed_have_ended : ClosedHaveEnded
closed_have_ended given s action now id apart closed = closed_ended id s.sessions (after_action given s action now).sessions (all_follow given s action now) apart closed
