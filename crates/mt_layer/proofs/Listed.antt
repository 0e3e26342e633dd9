-- The talk of a session among all, where one is replaced and where sessions that end let go.
use Rattle.std.proofs.Common.{◌≡◌, ◌≢◌, ℕ, suc, ◌==◌, ◌||◌, arith, inl, inr, Bool, true, false, List, [], ◌∷◌, Some, refl, ap, sym, subst, ◌∙◌, length, map, if◌then◌else◌}
use Rattle.std.proofs.lemmas.Bool.{and_parts, cases_Bool, eqb-true, ne_eqb}
use Rattle.std.specs.List.{find, list_all}
use Rattle.mt_model.specs.declared.node.state.NodeState.{NodeState}
use Rattle.mt_model.specs.declared.texts.config.SessionRow.{SessionRow}
use Rattle.mt_talk.specs.Talks.{Talk, after_drop}
use Rattle.mt_shared.specs.mt_runs.Isolation.{is_quiet}
use Rattle.mt_shared.specs.mt_runs.Whole.{SessionTalk, has_closed, is_live, is_talk_of, let_go, with_talk}

contradiction : {A : Type 0} → false ≡ true → A
contradiction is = absurd (cc)

abbrev pub talk_on : SessionRow → Talk → SessionTalk
talk_on row talk = record { row = row; talk = talk }

-- a talk that lets go is of the same session
pub let_go_on : (before now : NodeState) (row : SessionRow) (talk : Talk) → let_go before now (talk_on row talk) ≡ talk_on row (let_go before now (talk_on row talk)).talk
let_go_on before now row talk = by_test (has_closed before now row.session)
  where
    by_test : (closed : Bool) → (if closed then talk_on row (after_drop talk) else talk_on row talk) ≡ talk_on row (if closed then talk_on row (after_drop talk) else talk_on row talk).talk
    by_test true = refl
    by_test false = refl

let_go_id : (before now : NodeState) (id : ℕ) (t : SessionTalk) → is_talk_of id (let_go before now t) ≡ is_talk_of id t
let_go_id before now id t = by_test (has_closed before now t.row.session)
  where
    by_test : (closed : Bool) → is_talk_of id (if closed then record t { talk = after_drop t.talk } else t) ≡ is_talk_of id t
    by_test true = refl
    by_test false = refl

some_same : {A : Type 0} (a b : A) → Some a ≡ Some b → a ≡ b
some_same a b is = cc

pub found_let_go : (before now : NodeState) (id : ℕ) (talks : List SessionTalk) (t : SessionTalk) → find (is_talk_of id) talks ≡ Some t → find (is_talk_of id) (map (let_go before now) talks) ≡ Some (let_go before now t)
found_let_go before now id [] t found = absurd (cc)
found_let_go before now id (x ∷ talks) t found = elim (cases_Bool (is_talk_of id x)) [
  | inl its ↦
      let here : x ≡ t = some_same x t (subst (λ (b : Bool). (if b then Some x else find (is_talk_of id) talks) ≡ Some t) its found) in
      rw (let_go_id before now id x ∙ its) (ap (λ (y : SessionTalk). Some (let_go before now y)) here)
  | inr other ↦
      rw (let_go_id before now id x ∙ other) (found_let_go before now id talks t (subst (λ (b : Bool). (if b then Some x else find (is_talk_of id) talks) ≡ Some t) other found))
]

pub found_with : (id : ℕ) (new : Talk) (talks : List SessionTalk) (t : SessionTalk) → find (is_talk_of id) talks ≡ Some t → find (is_talk_of id) (with_talk id new talks) ≡ Some (record t { talk = new })
found_with id new [] t found = absurd (cc)
found_with id new (x ∷ talks) t found = elim (cases_Bool (is_talk_of id x)) [
  | inl its ↦
      let here : x ≡ t = some_same x t (subst (λ (b : Bool). (if b then Some x else find (is_talk_of id) talks) ≡ Some t) its found) in
      rw (its, its) (ap (λ (y : SessionTalk). Some (record y { talk = new })) here)
  | inr other ↦
      rw (other, other) (found_with id new talks t (subst (λ (b : Bool). (if b then Some x else find (is_talk_of id) talks) ≡ Some t) other found))
]

other_one : (id other : ℕ) (t : SessionTalk) → other ≢ id → is_talk_of id t ≡ true → is_talk_of other t ≡ false
other_one id other t apart its = ne_eqb t.row.session other (λ same. apart (sym same ∙ eqb-true t.row.session id its))

pub found_other : (id other : ℕ) (new : Talk) (talks : List SessionTalk) → other ≢ id → find (is_talk_of other) (with_talk id new talks) ≡ find (is_talk_of other) talks
found_other id other new [] apart = refl
found_other id other new (x ∷ talks) apart = elim (cases_Bool (is_talk_of id x)) [
  | inl its ↦ rw (its, other_one id other x apart its) refl
  | inr not_its ↦ elim (cases_Bool (is_talk_of other x)) [
    | inl here ↦ rw (not_its, here) refl
    | inr there ↦ rw (not_its, there) (found_other id other new talks apart)
  ]
]

-- Over a session that is not live nothing is open.

nothing_there : {A : Type 0} (xs : List A) → (length xs == 0) ≡ true → xs ≡ []
nothing_there [] none = refl
nothing_there (x ∷ xs) none = absurd (no_zero (length xs) (eqb-true (length (x ∷ xs)) 0 none))
  where
    no_zero : (n : ℕ) → suc n ≡ 0 → ⊥
    no_zero n is = absurd (omega (arith, is))

quiet_open : (live : Bool) (t : Talk) → (live || length t.open_ones == 0) ≡ true → live ≡ false → t.open_ones ≡ []
quiet_open true t quiet off = contradiction (sym off)
quiet_open false t quiet off = nothing_there t.open_ones quiet

found_quiet : (s : NodeState) (id : ℕ) (row : SessionRow) (t : Talk) (talks : List SessionTalk) → list_all (is_quiet s) talks ≡ true → find (is_talk_of id) talks ≡ Some (talk_on row t) → is_quiet s (talk_on row t) ≡ true
found_quiet s id row t [] quiet found = absurd (cc)
found_quiet s id row t (x ∷ talks) quiet found =
    let both = and_parts (is_quiet s x) (list_all (is_quiet s) talks) quiet in
    elim (cases_Bool (is_talk_of id x)) [
      | inl its ↦
          let here : x ≡ talk_on row t = some_same x (talk_on row t) (subst (λ (b : Bool). (if b then Some x else find (is_talk_of id) talks) ≡ Some (talk_on row t)) its found) in
          subst (λ (y : SessionTalk). is_quiet s y ≡ true) here both.0
      | inr other ↦ found_quiet s id row t talks both.1 (subst (λ (b : Bool). (if b then Some x else find (is_talk_of id) talks) ≡ Some (talk_on row t)) other found)
    ]

pub quiet_none : (s : NodeState) (id : ℕ) (row : SessionRow) (t : Talk) (talks : List SessionTalk) → list_all (is_quiet s) talks ≡ true → find (is_talk_of id) talks ≡ Some (talk_on row t) → is_live s row.session ≡ false → t.open_ones ≡ []
quiet_none s id row t talks quiet found off = quiet_open (is_live s row.session) t (found_quiet s id row t talks quiet found) off
