-- Sessions that are live for a fabric, on its veil and where a state follows another.
use Rattle.std.proofs.Common.{◌≡◌, ℕ, ◌==◌, ◌&&◌, ◌||◌, not, inl, inr, Bool, true, false, List, [], ◌∷◌, Option, Some, None, refl, sym, ap, ◌∙◌, subst, filter, is_some, if◌then◌else◌}
use Rattle.std.proofs.lemmas.Bool.{cases_Bool}
use Rattle.std.specs.List.{find, list_any}
use Rattle.std.specs.Option.{option_and_then}
use Rattle.mt_model.specs.texts.Config.{none_alike}
use Rattle.mt_model.specs.declared.node.state.NodeSession.{NodeSession}
use Rattle.mt_model.specs.declared.node.state.NodeState.{NodeState}
use Rattle.mt_model.specs.declared.node.state.Standing.{Standing}
use Rattle.mt_model.specs.declared.node.state.Standing.TheVariants.{Waits, Live, Ended}
use Rattle.mt_model.specs.declared.tables.access.Actor.{Actor}
use Rattle.mt_subs.specs.Leaving.{is_live_as}
use Rattle.mt_machine.specs.Isolation.{own, veil}
use Rattle.mt_machine.specs.Step.{closed_between, is_live, live_actor, session_actor}
use Rattle.mt_runs.specs.Isolation.{have_one_id}
use Rattle.mt_runs.proofs.Ids.{any_found, found_kept, ids_of, if_kept, is_in, is_named, named_is_in, none_kept, or_parts, rest_differ, split_first}

abbrev pub is_mine : ℕ → NodeSession → Bool
is_mine fabric session = is_live_as fabric session.standing

abbrev actor_of : Option NodeSession → Option Actor
actor_of found = option_and_then (λ (session : NodeSession). live_actor session session.standing) found

-- an actor, where it is of this fabric
abbrev pub if_its : ℕ → Option Actor → Option Actor
if_its fabric None = None
if_its fabric (Some actor) = if actor.fabric == fabric then Some actor else None

if_standing : (fabric : ℕ) (session : NodeSession) (standing : Standing) → actor_of (if is_live_as fabric standing then Some (record session { standing = standing }) else None) ≡ if_its fabric (live_actor session standing)
if_standing fabric session Waits = refl
if_standing fabric session Ended = refl
if_standing fabric session (Live other) = by_test (other == fabric)
  where
    by_test : (its : Bool) → actor_of (if its then Some (record session { standing = Live other }) else None) ≡ (if its then live_actor session (Live other) else None)
    by_test true = refl
    by_test false = refl

if_actor : (fabric : ℕ) (found : Option NodeSession) → actor_of (if_kept (is_mine fabric) found) ≡ if_its fabric (actor_of found)
if_actor fabric None = refl
if_actor fabric (Some session) = if_standing fabric session session.standing

-- On the veil of a fabric a session has its actor where that is of the fabric, and none otherwise.
pub actor_on_veil : (fabric : ℕ) (s : NodeState) (id : ℕ) → none_alike have_one_id s.sessions ≡ true → session_actor (veil fabric s) id ≡ if_its fabric (session_actor s id)
actor_on_veil fabric s id apart = ap actor_of (found_kept (is_mine fabric) id s.sessions apart) ∙ if_actor fabric (find (is_named id) s.sessions)

-- Whether a session is live for a fabric.

abbrev pub is_its : ℕ → Option Actor → Bool
is_its fabric None = false
is_its fabric (Some actor) = actor.fabric == fabric

its_standing : (fabric : ℕ) (session : NodeSession) (standing : Standing) → is_some (if is_live_as fabric standing then Some session else None) ≡ is_its fabric (live_actor session standing)
its_standing fabric session Waits = refl
its_standing fabric session Ended = refl
its_standing fabric session (Live other) = by_test (other == fabric)
  where
    by_test : (its : Bool) → is_some (if its then Some session else None) ≡ its
    by_test true = refl
    by_test false = refl

its_found : (fabric : ℕ) (found : Option NodeSession) → is_some (if_kept (is_mine fabric) found) ≡ is_its fabric (actor_of found)
its_found fabric None = refl
its_found fabric (Some session) = its_standing fabric session session.standing

-- one of a fabric's own sessions has this id exactly where that session is live for it
pub own_named : (fabric : ℕ) (s : NodeState) (id : ℕ) → none_alike have_one_id s.sessions ≡ true → list_any (is_named id) (own fabric s).sessions ≡ is_its fabric (session_actor s id)
own_named fabric s id apart =
    any_found id (filter (is_mine fabric) s.sessions)
    ∙ ap is_some (found_kept (is_mine fabric) id s.sessions apart)
    ∙ its_found fabric (find (is_named id) s.sessions)

-- A session that is live now has not ended.

any_eq : (id : ℕ) (other : ℕ) (ids : List ℕ) → (other == id) ≡ false → list_any (λ (n : ℕ). n == id) ids ≡ false → list_any (λ (n : ℕ). n == id) (other ∷ ids) ≡ false
any_eq id other ids apart none = ap (λ (b : Bool). b || list_any (λ (n : ℕ). n == id) ids) apart ∙ none

-- what is named by no session has not closed
none_closed : (id : ℕ) (before now : List NodeSession) → list_any (is_named id) before ≡ false → list_any (λ (n : ℕ). n == id) (closed_between before now) ≡ false
none_closed id [] now none = refl
none_closed id (session ∷ sessions) [] none = refl
none_closed id (session ∷ sessions) (other ∷ others) none =
    let both = or_parts (session.session == id) (list_any (is_named id) sessions) none in
    let rest = none_closed id sessions others both.1 in
    by_test (is_live session.standing && not (is_live other.standing)) both.0 rest
  where
    by_test : (closes : Bool) → (session.session == id) ≡ false → list_any (λ (n : ℕ). n == id) (closed_between sessions others) ≡ false
        → list_any (λ (n : ℕ). n == id) (if closes then session.session ∷ closed_between sessions others else closed_between sessions others) ≡ false
    by_test true apart none = any_eq id session.session (closed_between sessions others) apart none
    by_test false apart none = none

mine_is_live : (fabric : ℕ) (standing : Standing) → is_live_as fabric standing ≡ true → is_live standing ≡ true
mine_is_live fabric Waits mine = absurd (cc)
mine_is_live fabric Ended mine = absurd (cc)
mine_is_live fabric (Live other) mine = refl

head_id : (n m : ℕ) (ns ms : List ℕ) → n ∷ ns ≡ m ∷ ms → n ≡ m
head_id n m ns ms same = ap (λ (l : List ℕ). first l) same
  where
    first : List ℕ → ℕ
    first [] = 0
    first (k ∷ ks) = k

tail_ids : (n m : ℕ) (ns ms : List ℕ) → n ∷ ns ≡ m ∷ ms → ns ≡ ms
tail_ids n m ns ms same = ap (λ (l : List ℕ). rest l) same
  where
    rest : List ℕ → List ℕ
    rest [] = []
    rest (k ∷ ks) = ks

and_false : (a : Bool) → (a && not true) ≡ false
and_false true = refl
and_false false = refl

pub mine_not_closed : (fabric id : ℕ) (before now : List NodeSession) → ids_of now ≡ ids_of before → none_alike have_one_id before ≡ true → list_any (is_named id) (filter (is_mine fabric) now) ≡ true
    → list_any (λ (n : ℕ). n == id) (closed_between before now) ≡ false
mine_not_closed fabric id [] now same apart there = refl
mine_not_closed fabric id (session ∷ sessions) [] same apart there = refl
mine_not_closed fabric id (session ∷ sessions) (other ∷ others) same apart there =
    let ids : other.session ≡ session.session = head_id other.session session.session (ids_of others) (ids_of sessions) same in
    let rest : ids_of others ≡ ids_of sessions = tail_ids other.session session.session (ids_of others) (ids_of sessions) same in
    elim (cases_Bool (session.session == id)) [
      | inl its ↦
          let none = split_first id session sessions apart its in
          let none_now : list_any (is_named id) others ≡ false = named_is_in id others ∙ ap (is_in id) rest ∙ sym (named_is_in id sessions) ∙ none in
          elim (cases_Bool (is_mine fabric other)) [
            | inl mine ↦
                let still : (is_live session.standing && not (is_live other.standing)) ≡ false = ap (λ (b : Bool). is_live session.standing && not b) (mine_is_live fabric other.standing mine) ∙ and_false (is_live session.standing) in
                rw still (none_closed id sessions others none)
            | inr gone ↦
                let there_not : list_any (is_named id) (filter (is_mine fabric) (other ∷ others)) ≡ false = rw gone (none_kept (is_mine fabric) (is_named id) others none_now) in
                absurd (contradiction (sym there ∙ there_not))
          ]
      | inr apart_id ↦
          let other_apart : (other.session == id) ≡ false = ap (λ n. n == id) ids ∙ apart_id in
          let again = mine_not_closed fabric id sessions others rest (rest_differ session sessions apart) (there_behind other_apart (is_mine fabric other) refl) in
          by_test (is_live session.standing && not (is_live other.standing)) apart_id again
    ]
  where
    contradiction : true ≡ false → ⊥
    contradiction is = absurd (cc)

    there_behind : (other.session == id) ≡ false → (mine : Bool) → is_mine fabric other ≡ mine → list_any (is_named id) (filter (is_mine fabric) others) ≡ true
    there_behind apart_id true is = subst (λ (b : Bool). (b || list_any (is_named id) (filter (is_mine fabric) others)) ≡ true) apart_id (subst (λ (b : Bool). list_any (is_named id) (if b then other ∷ filter (is_mine fabric) others else filter (is_mine fabric) others) ≡ true) is there)
    there_behind apart_id false is = subst (λ (b : Bool). list_any (is_named id) (if b then other ∷ filter (is_mine fabric) others else filter (is_mine fabric) others) ≡ true) is there

    by_test : (closes : Bool) → (session.session == id) ≡ false → list_any (λ (n : ℕ). n == id) (closed_between sessions others) ≡ false
        → list_any (λ (n : ℕ). n == id) (if closes then session.session ∷ closed_between sessions others else closed_between sessions others) ≡ false
    by_test true apart_id none = any_eq id session.session (closed_between sessions others) apart_id none
    by_test false apart_id none = none
