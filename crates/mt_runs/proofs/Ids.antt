-- Lists of sessions whose ids differ.
use Rattle.std.proofs.Common.{◌≡◌, ℕ, ◌==◌, ◌&&◌, ◌||◌, not, inl, inr, Bool, true, false, List, [], ◌∷◌, Option, Some, None, arith, refl, sym, ap, ◌∙◌, filter, is_some, map, if◌then◌else◌}
use Rattle.std.proofs.lemmas.Bool.{and_from, and_parts, cases_Bool, eqb-true}
use Rattle.std.specs.List.{find, list_any}
use Rattle.mt_model.specs.texts.Config.{none_alike}
use Rattle.mt_model.specs.declared.node.state.NodeSession.{NodeSession}
use Rattle.mt_runs.specs.Isolation.{have_one_id}

abbrev pub is_named : ℕ → NodeSession → Bool
is_named id session = session.session == id

abbrev pub ids_of : List NodeSession → List ℕ
ids_of sessions = map (λ (session : NodeSession). session.session) sessions

abbrev pub is_in : ℕ → List ℕ → Bool
is_in id ids = list_any (λ (other : ℕ). other == id) ids

pub named_is_in : (id : ℕ) (sessions : List NodeSession) → list_any (is_named id) sessions ≡ is_in id (ids_of sessions)
named_is_in id [] = refl
named_is_in id (session ∷ sessions) = ap (λ (rest : Bool). (session.session == id) || rest) (named_is_in id sessions)

-- whether ids differ
abbrev differ : List ℕ → Bool
differ [] = true
differ (id ∷ ids) = not (list_any (λ (other : ℕ). id == other) ids) && differ ids

one_differs : (session : NodeSession) (sessions : List NodeSession) → list_any (have_one_id session) sessions ≡ list_any (λ (other : ℕ). session.session == other) (ids_of sessions)
one_differs session [] = refl
one_differs session (other ∷ others) = ap (λ (rest : Bool). (session.session == other.session) || rest) (one_differs session others)

by_ids : (sessions : List NodeSession) → none_alike have_one_id sessions ≡ differ (ids_of sessions)
by_ids [] = refl
by_ids (session ∷ sessions) = λ i. not (one_differs session sessions i) && by_ids sessions i

-- Ids that differ still do where they are the same.
pub differ_still : (before now : List NodeSession) → ids_of now ≡ ids_of before → none_alike have_one_id before ≡ true → none_alike have_one_id now ≡ true
differ_still before now same apart = by_ids now ∙ ap differ same ∙ sym (by_ids before) ∙ apart

-- Behind the first of an id there is no other of that id.
pub or_parts : (a b : Bool) → (a || b) ≡ false → (a ≡ false) × (b ≡ false)
or_parts false false is = (refl, refl)
or_parts true b is = absurd (cc)
or_parts false true is = absurd (cc)

pub not_false : (a : Bool) → not a ≡ true → a ≡ false
not_false false is = refl
not_false true is = absurd (cc)

turned : (a b : ℕ) → (a == b) ≡ (b == a)
turned a b = grind arith

none_named : (id : ℕ) (session : NodeSession) (sessions : List NodeSession) → (session.session == id) ≡ true → list_any (have_one_id session) sessions ≡ false → list_any (is_named id) sessions ≡ false
none_named id session [] its none = refl
none_named id session (other ∷ others) its none =
    let both = or_parts (session.session == other.session) (list_any (have_one_id session) others) none in
    let same : (other.session == id) ≡ false = ap (λ n. other.session == n) (sym (eqb-true session.session id its)) ∙ turned other.session session.session ∙ both.0 in
    ap (λ (b : Bool). b || list_any (is_named id) others) same ∙ none_named id session others its both.1

pub split_first : (id : ℕ) (session : NodeSession) (sessions : List NodeSession) → none_alike have_one_id (session ∷ sessions) ≡ true → (session.session == id) ≡ true → list_any (is_named id) sessions ≡ false
split_first id session sessions apart its =
    let both = and_parts (not (list_any (have_one_id session) sessions)) (none_alike have_one_id sessions) apart in
    none_named id session sessions its (not_false (list_any (have_one_id session) sessions) both.0)

pub rest_differ : (session : NodeSession) (sessions : List NodeSession) → none_alike have_one_id (session ∷ sessions) ≡ true → none_alike have_one_id sessions ≡ true
rest_differ session sessions apart = (and_parts (not (list_any (have_one_id session) sessions)) (none_alike have_one_id sessions) apart).1

-- What is kept of sessions.

module _ (keep : NodeSession → Bool) where
  pub none_kept : (p : NodeSession → Bool) (sessions : List NodeSession) → list_any p sessions ≡ false → list_any p (filter keep sessions) ≡ false
  none_kept p [] none = refl
  none_kept p (session ∷ sessions) none =
      let both = or_parts (p session) (list_any p sessions) none in
      elim (cases_Bool (keep session)) [
        | inl kept ↦ rw kept (ap (λ (b : Bool). b || list_any p (filter keep sessions)) both.0 ∙ none_kept p sessions both.1)
        | inr gone ↦ rw gone (none_kept p sessions both.1)
      ]

  pub kept_differ : (sessions : List NodeSession) → none_alike have_one_id sessions ≡ true → none_alike have_one_id (filter keep sessions) ≡ true
  kept_differ [] apart = refl
  kept_differ (session ∷ sessions) apart =
      let both = and_parts (not (list_any (have_one_id session) sessions)) (none_alike have_one_id sessions) apart in
      elim (cases_Bool (keep session)) [
        | inl kept ↦ rw kept (and_from _ _ (ap not (none_kept (have_one_id session) sessions (not_false (list_any (have_one_id session) sessions) both.0))) (kept_differ sessions both.1))
        | inr gone ↦ rw gone (kept_differ sessions both.1)
      ]

  none_found : (id : ℕ) (sessions : List NodeSession) → list_any (is_named id) sessions ≡ false → find (is_named id) (filter keep sessions) ≡ None
  none_found id [] none = refl
  none_found id (session ∷ sessions) none =
      let both = or_parts (session.session == id) (list_any (is_named id) sessions) none in
      elim (cases_Bool (keep session)) [
        | inl kept ↦ rw (kept, both.0) (none_found id sessions both.1)
        | inr gone ↦ rw gone (none_found id sessions both.1)
      ]

  -- the one of an id, where it is kept
  abbrev pub if_kept : Option NodeSession → Option NodeSession
  if_kept None = None
  if_kept (Some session) = if keep session then Some session else None

  pub found_kept : (id : ℕ) (sessions : List NodeSession) → none_alike have_one_id sessions ≡ true → find (is_named id) (filter keep sessions) ≡ if_kept (find (is_named id) sessions)
  found_kept id [] apart = refl
  found_kept id (session ∷ sessions) apart = elim (cases_Bool (session.session == id)) [
    | inl its ↦
        let none = none_found id sessions (split_first id session sessions apart its) in
        elim (cases_Bool (keep session)) [
          | inl kept ↦ rw (kept, its, kept) refl
          | inr gone ↦ rw (gone, its, gone) none
        ]
    | inr other ↦
        let rest = found_kept id sessions (rest_differ session sessions apart) in
        elim (cases_Bool (keep session)) [
          | inl kept ↦ rw (kept, other) rest
          | inr gone ↦ rw (gone, other) rest
        ]
  ]

-- one is named where it is found
pub any_found : (id : ℕ) (sessions : List NodeSession) → list_any (is_named id) sessions ≡ is_some (find (is_named id) sessions)
any_found id [] = refl
any_found id (session ∷ sessions) = elim (cases_Bool (session.session == id)) [
  | inl its ↦ rw its refl
  | inr other ↦ rw other (any_found id sessions)
]
