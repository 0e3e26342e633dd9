-- What is remembered, where of one session more is shown, or the first ones have let go.
use Rattle.std.proofs.Common.{◌≡◌, ℕ, zero, suc, ◌<◌, ◌≤◌, inl, inr, Bool, true, false, List, [], ◌∷◌, length, get_or, set, Some, None, arith, refl, ap, map, cond, nat_lt, position}
use Rattle.std.specs.List.{position_or_len}
use Rattle.std.proofs.lemmas.Bool.{cases_Bool, ltb-false}
use Rattle.std.proofs.lemmas.List.Quantifiers.{position-Some}
use Rattle.mt_marks.specs.Noted.{noted, noted_talk}
use Rattle.mt_marks.specs.Remembered.{ToldTalk, told_without_ended}
use Rattle.mt_marks.specs.Told.{is_told_of, talk_in, talks_in}
use Rattle.mt_marks.specs.declared.shown.Note.{Note}
use Rattle.mt_marks.specs.declared.told.Told.{Told}

-- A note.

-- the first of its session has more from now on
noted_there : (note : Note) (d : Told) (talks : List Told) (i : ℕ) (new : Told) → i < length talks → is_told_of note.session (get_or talks i d) ≡ true → ((k : ℕ) → k < i → is_told_of note.session (get_or talks k d) ≡ false)
    → talk_in new ≡ noted_talk note (talk_in (get_or talks i d)) → talks_in (set talks i new) ≡ noted note (talks_in talks)
noted_there note d [] i new lt here others said = absurd (omega (arith, lt))
noted_there note d (t ∷ talks) zero new lt here others said = rw here (ap (λ (first : ToldTalk). first ∷ talks_in talks) said)
noted_there note d (t ∷ talks) (suc n) new lt here others said =
    rw (others zero (omega arith)) (ap (λ (rest : List ToldTalk). talk_in t ∷ rest) (noted_there note d talks n new (omega (arith, lt)) here (λ k less. others (suc k) (omega (arith, less))) said))

-- where none is of it, all stays
none_noted : (note : Note) (talks : List Told) → length talks ≤ position_or_len (is_told_of note.session) talks → talks_in talks ≡ noted note (talks_in talks)
none_noted note [] le = refl
none_noted note (t ∷ talks) le = elim (cases_Bool (is_told_of note.session t)) [
  | inl here ↦ absurd (let past = rw here at le in omega (arith, past))
  | inr other ↦ let past = rw other at le in rw other (ap (λ (rest : List ToldTalk). talk_in t ∷ rest) (none_noted note talks (omega (arith, past))))
]

no_place : (b : Bool) (n : ℕ) → cond b (Some n) None ≡ None → b ≡ false
no_place true n e = cc
no_place false n e = refl

pub noted_at : (note : Note) (talks : List Told) (i : ℕ) (d new : Told) → position (is_told_of note.session) talks ≡ Some i → talk_in new ≡ noted_talk note (talk_in (get_or talks i d)) → talks_in (set talks i new) ≡ noted note (talks_in talks)
noted_at note talks i d new place said =
    let at = position-Some (is_told_of note.session) talks i d place in
    noted_there note d talks i new at.0 at.1 at.2 said

-- one that says the same in its place
pub kept_at : (talks : List Told) (i : ℕ) (d new : Told) → talk_in new ≡ talk_in (get_or talks i d) → talks_in (set talks i new) ≡ talks_in talks
kept_at [] i d new same = refl
kept_at (t ∷ talks) zero d new same = ap (λ (told : ToldTalk). told ∷ talks_in talks) same
kept_at (t ∷ talks) (suc i) d new same = ap (λ (rest : List ToldTalk). talk_in t ∷ rest) (kept_at talks i d new same)

pub noted_nowhere : (note : Note) (talks : List Told) → position (is_told_of note.session) talks ≡ None → talks_in talks ≡ noted note (talks_in talks)
noted_nowhere note talks none =
    let past = ltb-false _ _ (no_place (nat_lt (position_or_len (is_told_of note.session) talks) (length talks)) (position_or_len (is_told_of note.session) talks) none) in
    none_noted note talks past

-- Sessions that end.

-- the first ones have let go, and those behind them do
abbrev pub let_go_from : List ℕ → ℕ → List Told → List ToldTalk
let_go_from closed zero talks = map (told_without_ended closed) (talks_in talks)
let_go_from closed (suc n) [] = []
let_go_from closed (suc n) (t ∷ talks) = talk_in t ∷ let_go_from closed n talks

-- one more has
pub one_more : (closed : List ℕ) (n : ℕ) (talks : List Told) (d new : Told) → n < length talks → talk_in new ≡ told_without_ended closed (talk_in (get_or talks n d)) → let_go_from closed (suc n) (set talks n new) ≡ let_go_from closed n talks
one_more closed n [] d new lt step = absurd (omega (arith, lt))
one_more closed zero (t ∷ talks) d new lt step = ap (λ (first : ToldTalk). first ∷ map (told_without_ended closed) (talks_in talks)) step
one_more closed (suc n) (t ∷ talks) d new lt step = ap (λ (rest : List ToldTalk). talk_in t ∷ rest) (one_more closed n talks d new (omega (arith, lt)) step)

pub all_let_go : (closed : List ℕ) (n : ℕ) (talks : List Told) → length talks ≤ n → talks_in talks ≡ let_go_from closed n talks
all_let_go closed zero [] le = refl
all_let_go closed zero (t ∷ talks) le = absurd (omega (arith, le))
all_let_go closed (suc n) [] le = refl
all_let_go closed (suc n) (t ∷ talks) le = ap (λ (rest : List ToldTalk). talk_in t ∷ rest) (all_let_go closed n talks (omega (arith, le)))
