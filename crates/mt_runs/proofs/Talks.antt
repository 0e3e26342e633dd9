-- The talks of a fabric's own sessions, and what a line does to talks.
use Rattle.std.proofs.Common.{◌≡◌, ℕ, inl, inr, Bool, true, false, List, [], ◌∷◌, Option, Some, None, refl, sym, ap, ◌∙◌, subst, filter, map, if◌then◌else◌}
use Rattle.std.proofs.lemmas.Bool.{cases_Bool, eqb-true}
use Rattle.std.specs.List.{find, list_any}
use Rattle.mt_model.specs.texts.Config.{none_alike}
use Rattle.mt_model.specs.declared.node.state.NodeSession.{NodeSession}
use Rattle.mt_model.specs.declared.node.state.NodeState.{NodeState}
use Rattle.mt_talk.specs.Talks.{Talk, after_drop}
use Rattle.mt_machine.specs.Isolation.{own}
use Rattle.mt_runs.specs.Isolation.{have_one_id, is_talk_among, talks_among}
use Rattle.mt_runs.specs.Whole.{SessionTalk, has_closed, is_talk_of, let_go, with_talk}
use Rattle.mt_runs.proofs.Ids.{ids_of, is_in, is_named, kept_differ, named_is_in, none_kept}
use Rattle.mt_runs.proofs.Sessions.{is_mine, mine_not_closed}

id_in : ℕ → Option SessionTalk → ℕ
id_in id None = id
id_in id (Some talk) = talk.row.session

found_by : (id : ℕ) (talk : SessionTalk) (rest : Option SessionTalk) (t : SessionTalk) (its : Bool) → is_talk_of id talk ≡ its → (rest ≡ Some t → t.row.session ≡ id) → (if its then Some talk else rest) ≡ Some t → t.row.session ≡ id
unfolding id_in
found_by id talk rest t true is again found = sym (ap (id_in id) found) ∙ eqb-true talk.row.session id is
found_by id talk rest t false is again found = again found

-- the talk that is found is one of that id
pub found_id : (id : ℕ) (talks : List SessionTalk) (t : SessionTalk) → find (is_talk_of id) talks ≡ Some t → t.row.session ≡ id
found_id id [] t found = absurd (cc)
found_id id (talk ∷ talks) t found = found_by id talk (find (is_talk_of id) talks) t (is_talk_of id talk) refl (found_id id talks t) found

contradiction : true ≡ false → ⊥
contradiction is = absurd (cc)

-- What depends on a session's id alone.
module _ (sessions : List NodeSession) where
  abbrev has : ℕ → Bool
  has id = list_any (is_named id) sessions

  has_its : (id : ℕ) (t : SessionTalk) → is_talk_of id t ≡ true → is_talk_among sessions t ≡ has id
  has_its id t its = ap has (eqb-true t.row.session id its)

  -- a talk among them is found among them
  pub found_among : (id : ℕ) (talks : List SessionTalk) → has id ≡ true → find (is_talk_of id) (talks_among sessions talks) ≡ find (is_talk_of id) talks
  found_among id [] there = refl
  found_among id (talk ∷ talks) there = elim (cases_Bool (is_talk_of id talk)) [
    | inl its ↦ rw (has_its id talk its ∙ there, its) refl
    | inr other ↦ elim (cases_Bool (is_talk_among sessions talk)) [
      | inl kept ↦ rw (kept, other) (found_among id talks there)
      | inr gone ↦ rw (gone, other) (found_among id talks there)
    ]
  ]

  -- and one that is not, is not
  pub none_among : (id : ℕ) (talks : List SessionTalk) → has id ≡ false → find (is_talk_of id) (talks_among sessions talks) ≡ None
  none_among id [] none = refl
  none_among id (talk ∷ talks) none = elim (cases_Bool (is_talk_of id talk)) [
    | inl its ↦ rw (has_its id talk its ∙ none) (none_among id talks none)
    | inr other ↦ elim (cases_Bool (is_talk_among sessions talk)) [
      | inl kept ↦ rw (kept, other) (none_among id talks none)
      | inr gone ↦ rw gone (none_among id talks none)
    ]
  ]

  absent_stays : (id : ℕ) (new : Talk) (talks : List SessionTalk) → has id ≡ false → with_talk id new (talks_among sessions talks) ≡ talks_among sessions talks
  absent_stays id new [] none = refl
  absent_stays id new (talk ∷ talks) none = elim (cases_Bool (is_talk_of id talk)) [
    | inl its ↦ rw (has_its id talk its ∙ none) (absent_stays id new talks none)
    | inr other ↦ elim (cases_Bool (is_talk_among sessions talk)) [
      | inl kept ↦ rw (kept, other) (ap (λ (rest : List SessionTalk). talk ∷ rest) (absent_stays id new talks none))
      | inr gone ↦ rw gone (absent_stays id new talks none)
    ]
  ]

  -- a talk is replaced among them as among all
  pub replaced_among : (id : ℕ) (new : Talk) (talks : List SessionTalk) → with_talk id new (talks_among sessions talks) ≡ talks_among sessions (with_talk id new talks)
  replaced_among id new [] = refl
  replaced_among id new (talk ∷ talks) = elim (cases_Bool (is_talk_of id talk)) [
    | inl its ↦ elim (cases_Bool (is_talk_among sessions talk)) [
      | inl kept ↦ rw (kept, its, kept) refl
      | inr gone ↦ rw (gone, its, gone) (absent_stays id new talks (sym (has_its id talk its) ∙ gone))
    ]
    | inr other ↦ elim (cases_Bool (is_talk_among sessions talk)) [
      | inl kept ↦ rw (kept, other, kept) (ap (λ (rest : List SessionTalk). talk ∷ rest) (replaced_among id new talks))
      | inr gone ↦ rw (gone, other, gone) (replaced_among id new talks)
    ]
  ]

  -- that another's talk is replaced changes nothing among them
  pub other_replaced : (id : ℕ) (new : Talk) (talks : List SessionTalk) → has id ≡ false → talks_among sessions (with_talk id new talks) ≡ talks_among sessions talks
  other_replaced id new [] none = refl
  other_replaced id new (talk ∷ talks) none = elim (cases_Bool (is_talk_of id talk)) [
    | inl its ↦ rw (its, has_its id talk its ∙ none) refl
    | inr other ↦ elim (cases_Bool (is_talk_among sessions talk)) [
      | inl kept ↦ rw (other, kept) (ap (λ (rest : List SessionTalk). talk ∷ rest) (other_replaced id new talks none))
      | inr gone ↦ rw (other, gone) (other_replaced id new talks none)
    ]
  ]

  among_let_go : (before now : NodeState) (t : SessionTalk) → is_talk_among sessions (let_go before now t) ≡ is_talk_among sessions t
  among_let_go before now t = by_test (has_closed before now t.row.session)
    where
      by_test : (closed : Bool) → is_talk_among sessions (if closed then record t { talk = after_drop t.talk } else t) ≡ is_talk_among sessions t
      by_test true = refl
      by_test false = refl

  -- where none of them has closed they keep their exchanges
  pub none_let_go : (before now : NodeState) → ((id : ℕ) → has id ≡ true → has_closed before now id ≡ false) → (talks : List SessionTalk) → talks_among sessions (map (let_go before now) talks) ≡ talks_among sessions talks
  none_let_go before now stay [] = refl
  none_let_go before now stay (talk ∷ talks) = elim (cases_Bool (is_talk_among sessions talk)) [
    | inl kept ↦
        let still : let_go before now talk ≡ talk = ap (λ (b : Bool). if b then record talk { talk = after_drop talk.talk } else talk) (stay talk.row.session kept) in
        rw (among_let_go before now talk ∙ kept, kept) (λ i. still i ∷ none_let_go before now stay talks i)
    | inr gone ↦ rw (among_let_go before now talk ∙ gone, gone) (none_let_go before now stay talks)
  ]

-- the talks of fewer sessions are among those of more
pub among_fewer : (few many : List NodeSession) → ((id : ℕ) → list_any (is_named id) few ≡ true → list_any (is_named id) many ≡ true) → (talks : List SessionTalk) → talks_among few (talks_among many talks) ≡ talks_among few talks
among_fewer few many fewer [] = refl
among_fewer few many fewer (talk ∷ talks) = elim (cases_Bool (is_talk_among many talk)) [
  | inl there ↦ elim (cases_Bool (is_talk_among few talk)) [
    | inl kept ↦ rw (there, kept) (ap (λ (rest : List SessionTalk). talk ∷ rest) (among_fewer few many fewer talks))
    | inr gone ↦ rw (there, gone) (among_fewer few many fewer talks)
  ]
  | inr away ↦ elim (cases_Bool (is_talk_among few talk)) [
    | inl kept ↦ absurd (contradiction (sym (fewer talk.row.session kept) ∙ away))
    | inr gone ↦ rw (away, gone) (among_fewer few many fewer talks)
  ]
]

-- What a fabric keeps where a state follows another: the talks of its own sessions, as they were.
pub own_not_let_go : (fabric : ℕ) (before now : NodeState) → ids_of now.sessions ≡ ids_of before.sessions → none_alike have_one_id before.sessions ≡ true → (talks : List SessionTalk)
    → talks_among (own fabric now).sessions (map (let_go before now) talks) ≡ talks_among (own fabric now).sessions talks
own_not_let_go fabric before now same apart talks =
    none_let_go (own fabric now).sessions before now (λ id there. mine_not_closed fabric id before.sessions now.sessions same apart there) talks

any_of_kept : (keep : NodeSession → Bool) (p : NodeSession → Bool) (sessions : List NodeSession) → list_any p (filter keep sessions) ≡ true → list_any p sessions ≡ true
any_of_kept keep p sessions there = by_test (list_any p sessions) refl
  where
    by_test : (any : Bool) → list_any p sessions ≡ any → list_any p sessions ≡ true
    by_test true is = is
    by_test false is = absurd (contradiction (sym there ∙ none_kept keep p sessions is))

-- On the veil a line leaves the talks of a fabric's own sessions as on the state, where it leaves the same sessions.
pub talks_alike : (fabric : ℕ) (s veiled now veiled_now : NodeState) → veiled.sessions ≡ (own fabric s).sessions → none_alike have_one_id s.sessions ≡ true
    → ids_of now.sessions ≡ ids_of s.sessions → ids_of veiled_now.sessions ≡ ids_of veiled.sessions → (own fabric veiled_now).sessions ≡ (own fabric now).sessions → (talks : List SessionTalk)
    → talks_among (own fabric veiled_now).sessions (map (let_go veiled veiled_now) (talks_among (own fabric s).sessions talks)) ≡ talks_among (own fabric now).sessions (map (let_go s now) talks)
talks_alike fabric s veiled now veiled_now its apart same veiled_same alike talks =
    own_not_let_go fabric veiled veiled_now veiled_same (subst (λ (l : List NodeSession). none_alike have_one_id l ≡ true) (sym its) (kept_differ (is_mine fabric) s.sessions apart)) (talks_among (own fabric s).sessions talks)
    ∙ among_fewer (own fabric veiled_now).sessions (own fabric s).sessions fewer talks
    ∙ ap (λ (l : List NodeSession). talks_among l talks) alike
    ∙ sym (own_not_let_go fabric s now same apart talks)
  where
    fewer : (id : ℕ) → list_any (is_named id) (own fabric veiled_now).sessions ≡ true → list_any (is_named id) (own fabric s).sessions ≡ true
    fewer id there =
        named_is_in id (own fabric s).sessions
        ∙ ap (λ (l : List NodeSession). is_in id (ids_of l)) (sym its)
        ∙ ap (is_in id) (sym veiled_same)
        ∙ sym (named_is_in id veiled_now.sessions)
        ∙ any_of_kept (is_mine fabric) (is_named id) veiled_now.sessions there
