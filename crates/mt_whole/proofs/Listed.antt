-- Talks in their order, and those for which they stand.
use Rattle.std.proofs.Common.{◌≡◌, ℕ, zero, suc, ◌+◌, ◌<◌, ◌≤◌, ◌==◌, ◌&&◌, nat_le, inl, inr, Bool, true, false, List, [], ◌∷◌, ◌++◌, length, drop, get_or, set, Option, Some, None, arith, refl, sym, ap, subst, ◌∙◌, append_assoc, append-nil, filter, map, if◌then◌else◌}
use Rattle.std.proofs.lemmas.List.{drop_all, drop_more}
use Rattle.std.proofs.lemmas.Bool.{and_parts, cases_Bool}
use Rattle.std.specs.List.{find, list_all}
use Rattle.mt_model.specs.declared.limits.TheConstants.{SESSIONS}
use Rattle.mt_model.specs.texts.Config.{are_sessions, have_one_session, is_session, none_alike}
use Rattle.mt_model.specs.declared.texts.config.SessionRow.{SessionRow}
use Rattle.mt_talk.specs.Talks.{IsTalkOf, Talk}
use Rattle.mt_interactions.specs.mt_runs.Whole.{SessionTalk, begun, begun_in, is_of_boot, is_talk_of, with_talk, without_ended}
use Rattle.mt_whole.specs.declared.talks.SessionTalk as code
use Rattle.mt_whole.specs.Talks.{AreTalks, IsFoundAs, IsTalkAt, is_code_of, put}

same_test : (id : ℕ) (talk : code.SessionTalk) (t : SessionTalk) → IsTalkAt talk t → is_code_of id talk ≡ is_talk_of id t
same_test id talk t at = ap (λ n. n == id) at.id

-- what is found of one is found of the other
pub found_as : (id : ℕ) (talks : List code.SessionTalk) (ts : List SessionTalk) → AreTalks talks ts → IsFoundAs (find (is_code_of id) talks) (find (is_talk_of id) ts)
found_as id [] [] are = tt
found_as id [] (t ∷ ts) are = absurd are
found_as id (talk ∷ talks) [] are = absurd are
found_as id (talk ∷ talks) (t ∷ ts) are = elim (cases_Bool (is_talk_of id t)) [
  | inl its ↦ rw (same_test id talk t are.0 ∙ its, its) are.0
  | inr other ↦ rw (same_test id talk t are.0 ∙ other, other) (found_as id talks ts are.1)
]

out : SessionTalk → Option SessionTalk → SessionTalk
out x None = x
out x (Some y) = y

pub some_is : (x y : SessionTalk) → Some x ≡ Some y → x ≡ y
unfolding out
some_is x y same = ap (λ (o : Option SessionTalk). out x o) same

talk_in : SessionTalk → Option SessionTalk → Talk
talk_in x None = x.talk
talk_in x (Some y) = y.talk

-- the one that is found is replaced in both
pub put_as : (new : code.SessionTalk) (found : SessionTalk) (id : ℕ) (talk : Talk) (talks : List code.SessionTalk) (ts : List SessionTalk) → AreTalks talks ts → find (is_talk_of id) ts ≡ Some found → new.id ≡ id → found.row.session ≡ id → IsTalkOf new.talk found.row talk
    → AreTalks (put (Some new) talks) (with_talk id talk ts)
put_as new found id talk [] [] are is named its stands = tt
put_as new found id talk [] (t ∷ ts) are is named its stands = absurd are
put_as new found id talk (one ∷ talks) [] are is named its stands = absurd are
put_as new found id talk (one ∷ talks) (t ∷ ts) are is named its stands =
    let test : (one.id == new.id) ≡ is_talk_of id t = ap (λ n. one.id == n) named ∙ same_test id one t are.0 in
    elim (cases_Bool (is_talk_of id t)) [
      | inl here ↦
          let same : t ≡ found = some_is t found (sym (ap (λ (b : Bool). if b then Some t else find (is_talk_of id) ts) here) ∙ is) in
          rw (test ∙ here, here) (record { id = named ∙ sym its ∙ ap (λ (x : SessionTalk). x.row.session) (sym same); talk = subst (λ (x : SessionTalk). IsTalkOf new.talk x.row talk) (sym same) stands }, are.1)
      | inr other ↦
          rw (test ∙ other, other) (are.0, put_as new found id talk talks ts are.1 (sym (ap (λ (b : Bool). if b then Some t else find (is_talk_of id) ts) other) ∙ is) named its stands)
    ]

-- a talk that is replaced by itself stays
pub with_same : (id : ℕ) (found : SessionTalk) (ts : List SessionTalk) → find (is_talk_of id) ts ≡ Some found → with_talk id found.talk ts ≡ ts
unfolding talk_in
with_same id found [] is = refl
with_same id found (t ∷ ts) is = elim (cases_Bool (is_talk_of id t)) [
  | inl here ↦ rw here (ap (λ (talk : Talk). record t { talk = talk } ∷ ts) (ap (λ (o : Option SessionTalk). talk_in t o) (sym is ∙ ap (λ (b : Bool). if b then Some t else find (is_talk_of id) ts) here)))
  | inr other ↦ rw other (ap (λ (rest : List SessionTalk). t ∷ rest) (with_same id found ts (sym (ap (λ (b : Bool). if b then Some t else find (is_talk_of id) ts) other) ∙ is)))
]

-- Talks of which the first ones have let go.

pub one_more : (n : ℕ) → suc n ≡ n + 1
one_more n = omega arith

abbrev pub first_without : List ℕ → ℕ → List SessionTalk → List SessionTalk
first_without closed zero ts = ts
first_without closed (suc n) [] = []
first_without closed (suc n) (t ∷ ts) = without_ended closed t ∷ first_without closed n ts

pub all_without : (closed : List ℕ) (n : ℕ) (talks : List code.SessionTalk) (ts : List SessionTalk) → AreTalks talks (first_without closed n ts) → length talks ≡ n → AreTalks talks (map (without_ended closed) ts)
all_without closed zero [] [] are all = tt
all_without closed zero [] (t ∷ ts) are all = absurd are
all_without closed zero (talk ∷ talks) ts are all = absurd (omega (arith, all))
all_without closed (suc n) [] ts are all = absurd (omega (arith, all))
all_without closed (suc n) (talk ∷ talks) [] are all = absurd are
all_without closed (suc n) (talk ∷ talks) (t ∷ ts) are all = (are.0, all_without closed n talks ts are.1 (omega (arith, all)))

-- one more has
pub one_more_without : (closed : List ℕ) (n : ℕ) (talks : List code.SessionTalk) (ts : List SessionTalk) (d new : code.SessionTalk) → n < length talks → AreTalks talks (first_without closed n ts)
    → ((t : SessionTalk) → IsTalkAt (get_or talks n d) t → IsTalkAt new (without_ended closed t)) → AreTalks (set talks n new) (first_without closed (suc n) ts)
one_more_without closed zero [] ts d new lt are step = absurd (omega (arith, lt))
one_more_without closed zero (talk ∷ talks) [] d new lt are step = absurd are
one_more_without closed zero (talk ∷ talks) (t ∷ ts) d new lt are step = (step t are.0, are.1)
one_more_without closed (suc n) [] ts d new lt are step = absurd (omega (arith, lt))
one_more_without closed (suc n) (talk ∷ talks) [] d new lt are step = absurd are
one_more_without closed (suc n) (talk ∷ talks) (t ∷ ts) d new lt are step = (are.0, one_more_without closed n talks ts d new (omega (arith, lt)) are.1 step)

-- A talk that is put behind the first ones.

abbrev pub put_from : ℕ → code.SessionTalk → List code.SessionTalk → List code.SessionTalk
put_from zero new talks = put (Some new) talks
put_from (suc n) new [] = []
put_from (suc n) new (talk ∷ talks) = talk ∷ put_from n new talks

pub put_passed : (new d : code.SessionTalk) (n : ℕ) (talks : List code.SessionTalk) → n < length talks → is_code_of new.id (get_or talks n d) ≡ false → put_from (suc n) new talks ≡ put_from n new talks
put_passed new d zero [] lt other = absurd (omega (arith, lt))
put_passed new d zero (talk ∷ talks) lt other = rw other refl
put_passed new d (suc n) [] lt other = absurd (omega (arith, lt))
put_passed new d (suc n) (talk ∷ talks) lt other = ap (λ (rest : List code.SessionTalk). talk ∷ rest) (put_passed new d n talks (omega (arith, lt)) other)

pub put_here : (new d : code.SessionTalk) (n : ℕ) (talks : List code.SessionTalk) → n < length talks → is_code_of new.id (get_or talks n d) ≡ true → set talks n new ≡ put_from n new talks
put_here new d zero [] lt here = absurd (omega (arith, lt))
put_here new d zero (talk ∷ talks) lt here = rw here refl
put_here new d (suc n) [] lt here = absurd (omega (arith, lt))
put_here new d (suc n) (talk ∷ talks) lt here = ap (λ (rest : List code.SessionTalk). talk ∷ rest) (put_here new d n talks (omega (arith, lt)) here)

pub put_nowhere : (new : code.SessionTalk) (n : ℕ) (talks : List code.SessionTalk) → length talks ≤ n → put_from n new talks ≡ talks
put_nowhere new zero [] le = refl
put_nowhere new zero (talk ∷ talks) le = absurd (omega (arith, le))
put_nowhere new (suc n) [] le = refl
put_nowhere new (suc n) (talk ∷ talks) le = ap (λ (rest : List code.SessionTalk). talk ∷ rest) (put_nowhere new n talks (omega (arith, le)))

-- Talks that are begun, row by row.

dropped : (rows : List SessionRow) (i : ℕ) (row : SessionRow) → i < length rows → row ≡ get_or rows i row → drop i rows ≡ row ∷ drop (i + 1) rows
dropped rows i row lt is = drop_more rows i row lt ∙ ap (λ r. r ∷ drop (i + 1) rows) (sym is)

begun_first : (boot : ℕ) (row : SessionRow) (rows : List SessionRow) → is_of_boot boot row ≡ true → begun_in boot (row ∷ rows) ≡ begun row ∷ begun_in boot rows
begun_first boot row rows first = rw first refl

begun_other : (boot : ℕ) (row : SessionRow) (rows : List SessionRow) → is_of_boot boot row ≡ false → begun_in boot (row ∷ rows) ≡ begun_in boot rows
begun_other boot row rows other = rw other refl

-- one more row is of this boot, and its talk is begun; or it is of another
pub one_more_begun : (boot : ℕ) (rows : List SessionRow) (i : ℕ) (row : SessionRow) (talks more : List code.SessionTalk) (new : code.SessionTalk) → i < length rows → row ≡ get_or rows i row → is_of_boot boot row ≡ true → IsTalkAt new (begun row)
    → ((rest : List code.SessionTalk) → AreTalks rest (begun_in boot (drop i rows)) → AreTalks (talks ++ rest) (begun_in boot rows))
    → AreTalks more (begun_in boot (drop (i + 1) rows)) → AreTalks ((talks ++ new ∷ []) ++ more) (begun_in boot rows)
one_more_begun boot rows i row talks more new lt is first at so_far are =
    subst (λ (all : List code.SessionTalk). AreTalks all (begun_in boot rows)) (sym (append_assoc talks (new ∷ []) more))
    (so_far (new ∷ more) (subst (λ (all : List SessionTalk). AreTalks (new ∷ more) all) (sym (ap (begun_in boot) (dropped rows i row lt is) ∙ begun_first boot row (drop (i + 1) rows) first)) (at, are)))

pub none_begun : (boot : ℕ) (rows : List SessionRow) (i : ℕ) (row : SessionRow) (talks more : List code.SessionTalk) → i < length rows → row ≡ get_or rows i row → is_of_boot boot row ≡ false
    → ((rest : List code.SessionTalk) → AreTalks rest (begun_in boot (drop i rows)) → AreTalks (talks ++ rest) (begun_in boot rows))
    → AreTalks more (begun_in boot (drop (i + 1) rows)) → AreTalks (talks ++ more) (begun_in boot rows)
none_begun boot rows i row talks more lt is other so_far are =
    so_far more (subst (λ (all : List SessionTalk). AreTalks more all) (sym (ap (begun_in boot) (dropped rows i row lt is) ∙ begun_other boot row (drop (i + 1) rows) other)) are)

pub no_more_begun : (boot : ℕ) (rows : List SessionRow) (i : ℕ) (talks : List code.SessionTalk) → length rows ≤ i
    → ((rest : List code.SessionTalk) → AreTalks rest (begun_in boot (drop i rows)) → AreTalks (talks ++ rest) (begun_in boot rows)) → AreTalks talks (begun_in boot rows)
no_more_begun boot rows i talks le so_far =
    subst (λ (all : List code.SessionTalk). AreTalks all (begun_in boot rows)) (append-nil talks)
    (so_far [] (subst (λ (rest : List SessionRow). AreTalks [] (begun_in boot rest)) (sym (drop_all i rows le)) tt))

-- the rows of a configuration have what a session wants
pub rows_stand : (sessions : List SessionRow) → are_sessions sessions ≡ true → list_all is_session sessions ≡ true
unfolding are_sessions
rows_stand sessions fit =
    let front = and_parts (nat_le (length sessions) SESSIONS && list_all is_session sessions && none_alike have_one_session sessions && _) _ fit in
    let before = and_parts (nat_le (length sessions) SESSIONS && list_all is_session sessions && none_alike have_one_session sessions) _ front.0 in
    let both = and_parts (nat_le (length sessions) SESSIONS && list_all is_session sessions) (none_alike have_one_session sessions) before.0 in
    (and_parts (nat_le (length sessions) SESSIONS) (list_all is_session sessions) both.0).1
