-- Two calls that make up a whole book stand in it in one order.
use Rattle.std.proofs.Common.{◌≡◌, ℕ, ◌+◌, ◌<◌, ◌⊎◌, List, [], ◌∷◌, ◌++◌, length, sym, refl, ap, ◌∙◌, subst, inl, inr, ⊎_elim, arith, Option, Some, None, IfSome}
use mathlib.Core.List.{IsPrefix}
use Rattle.mt_turn.specs.Counts.{is_it, how_often}
use Rattle.mt_turn.specs.Known.{Known}
use Rattle.mt_turn.specs.History.{IsRecorded, InOneOrder}
use Rattle.mt_turn.proofs.Sums.{is_it-other, total-append}

module _ {E : Type 0} where
  -- one of two entries is the whole book's first and the other its second
  abbrev Stand : List E → List E → List E → E → E → Type 0
  Stand before_x before_y book x y = ((before_x ≡ []) × (before_y ≡ x ∷ []) × (book ≡ x ∷ y ∷ [])) ⊎ ((before_y ≡ []) × (before_x ≡ y ∷ []) × (book ≡ y ∷ x ∷ []))

  abbrev Once : List E → List E → List E → Type 0
  Once before_x before_y book = (k : ℕ) → k < length book → is_it k (length before_x) + is_it k (length before_y) ≡ 1

  two_stand : (before_x before_y book : List E) (x y : E) → IsPrefix (before_x ++ x ∷ []) book → IsPrefix (before_y ++ y ∷ []) book
      → (book ≡ before_x ++ x ∷ []) ⊎ (book ≡ before_y ++ y ∷ []) → Once before_x before_y book → Stand before_x before_y book x y
  two_stand [] [] book x y p q whole once = absurd (let zero_once = once 0 (omega (arith, sym (ap length p.1))) in omega (arith, zero_once))
  two_stand [] (z ∷ []) book x y p q whole once = ⊎_elim
      (λ (h : book ≡ x ∷ []). absurd (omega (arith, ap length h, ap length q.1)))
      (λ (h : book ≡ z ∷ y ∷ []). let same : z ≡ x = cc (p.1, h) in inl (refl, ap (λ e. e ∷ []) same, h ∙ ap (λ e. e ∷ y ∷ []) same)) whole
  two_stand [] (z ∷ z' ∷ zs) book x y p q whole once = absurd (omega (arith, once 1 (omega (arith, sym (ap length q.1))), is_it-other 1 0 (λ e. omega arith), is_it-other 1 (length (z ∷ z' ∷ zs)) (λ e. omega arith)))
  two_stand (w ∷ ws) (z ∷ zs) book x y p q whole once = absurd (omega (arith, once 0 (omega (arith, sym (ap length p.1))), is_it-other 0 (length (w ∷ ws)) (λ e. omega arith), is_it-other 0 (length (z ∷ zs)) (λ e. omega arith)))
  two_stand (w ∷ []) [] book x y p q whole once = ⊎_elim
      (λ (h : book ≡ w ∷ x ∷ []). let same : w ≡ y = cc (q.1, h) in inr (refl, ap (λ e. e ∷ []) same, h ∙ ap (λ e. e ∷ x ∷ []) same))
      (λ (h : book ≡ y ∷ []). absurd (omega (arith, ap length h, ap length p.1))) whole
  two_stand (w ∷ w' ∷ ws) [] book x y p q whole once = absurd (omega (arith, once 1 (omega (arith, sym (ap length p.1))), is_it-other 1 0 (λ e. omega arith), is_it-other 1 (length (w ∷ w' ∷ ws)) (λ e. omega arith)))

module _ {E O C A : Type 0} (is_of : C → E → Type 0) (answer_at : O → List E → A) where
  -- what the law of one turn says of an answer
  abbrev IsOwn : Known E O → Known E O → C → Type 0
  IsOwn old new call = (entry : E) × is_of call entry × IsRecorded old new entry

  abbrev IsThere : Known E O → Known E O → A → Type 0
  IsThere old new a = (origin : O) → old.origin ≡ Some origin → a ≡ answer_at origin new.seen

  one_order : (origin : O) (p p' q q' : Known E O) (first second : C) (a b : A) (book : List E)
      → p.places ≡ [] → q.places ≡ [] → p.origin ≡ Some origin → q.origin ≡ Some origin
      → IsOwn p p' first → IsOwn q q' second → IsThere p p' a → IsThere q q' b
      → (book ≡ p'.seen) ⊎ (book ≡ q'.seen) → IsPrefix p'.seen book → IsPrefix q'.seen book
      → ((k : ℕ) → k < length book → how_often k (p'.places ++ q'.places) ≡ 1)
      → InOneOrder is_of answer_at origin book first second a b
  one_order origin p p' q q' first second a b book no_places no_places' at at' own own' there there' whole begins begins' once =
      let r = own.2 in
      let r' = own'.2 in
      let x : E = own.0 in
      let y : E = own'.0 in
      let mine : p'.places ≡ length r.found ∷ [] = r.place ∙ ap (λ (l : List ℕ). l ++ length r.found ∷ []) no_places in
      let theirs : q'.places ≡ length r'.found ∷ [] = r'.place ∙ ap (λ (l : List ℕ). l ++ length r'.found ∷ []) no_places' in
      let once' : Once r.found r'.found book = λ k within. omega (arith, once k within, total-append (is_it k) p'.places q'.places, ap (how_often k) mine, ap (how_often k) theirs) in
      let stand = two_stand r.found r'.found book x y (subst (λ l. IsPrefix l book) r.seen begins) (subst (λ l. IsPrefix l book) r'.seen begins')
      (⊎_elim (λ h. inl (h ∙ r.seen)) (λ h. inr (h ∙ r'.seen)) whole) once' in
      ⊎_elim
      (λ h. inl record {
        one = x;
        two = y;
        book_is = h.2;
        of_first = own.1;
        of_second = own'.1;
        first_answer = there origin at ∙ ap (answer_at origin) (r.seen ∙ ap (λ (l : List E). l ++ x ∷ []) h.0);
        second_answer = there' origin at' ∙ ap (answer_at origin) (r'.seen ∙ ap (λ (l : List E). l ++ y ∷ []) h.1);
      })
      (λ h. inr record {
        one = y;
        two = x;
        book_is = h.2;
        of_first = own'.1;
        of_second = own.1;
        first_answer = there' origin at' ∙ ap (answer_at origin) (r'.seen ∙ ap (λ (l : List E). l ++ y ∷ []) h.0);
        second_answer = there origin at ∙ ap (answer_at origin) (r.seen ∙ ap (λ (l : List E). l ++ x ∷ []) h.1);
      })
      stand

  -- the same where either may have no answer
  pub both_in_one_order : (origin : O) (p p' q q' : Known E O) (first second : C) (a b : Option A) (book : List E)
      → p.places ≡ [] → q.places ≡ [] → p.origin ≡ Some origin → q.origin ≡ Some origin
      → IfSome a (λ _. IsOwn p p' first) → IfSome b (λ _. IsOwn q q' second) → IfSome a (IsThere p p') → IfSome b (IsThere q q')
      → (book ≡ p'.seen) ⊎ (book ≡ q'.seen) → IsPrefix p'.seen book → IsPrefix q'.seen book
      → ((k : ℕ) → k < length book → how_often k (p'.places ++ q'.places) ≡ 1)
      → IfSome a (λ u. IfSome b (λ v. InOneOrder is_of answer_at origin book first second u v))
  both_in_one_order origin p p' q q' first second (Some a) (Some b) book n n' at at' own own' there there' whole begins begins' once =
      one_order origin p p' q q' first second a b book n n' at at' own own' there there' whole begins begins' once
  both_in_one_order origin p p' q q' first second None b book n n' at at' own own' there there' whole begins begins' once = tt
  both_in_one_order origin p p' q q' first second (Some a) None book n n' at at' own own' there there' whole begins begins' once = tt
