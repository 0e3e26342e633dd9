-- Shares are merged: whoever has the last place has it as its last item; without that, the shares are those of one place less.
use Rattle.std.proofs.Common.{◌≡◌, ◌≢◌, ◌∙◌, ℕ, zero, suc, ◌+◌, ◌<◌, Bool, List, [], ◌∷◌, ◌++◌, set, sym, refl, ap, subst, arith, cond, eq-eqb, ne_eqb, append-nil}
use Rattle.std.specs.Prelude.{filter, map, if◌then◌else◌}
use Rattle.std.proofs.lemmas.List.{map-append}
use Rattle.std.proofs.lemmas.List.Elements.{filter-append}
use mathlib.Core.Logic.{dite}
use mathlib.Core.Option.{some}
use native.Mathlib.Decide.{ℕ_discrete}
use lib.ListN.{get_elem?}
use Rattle.mt_turn.specs.Counts.{is_it, total}
use Rattle.mt_shares.specs.Merging.{AreShares, Each, Merged, RiseFrom, is_of_thread, times_in, upto}
use Rattle.mt_shares.proofs.Lists.{one_of_all, recounted, same_at, set_here, set_other, set_same, some_counts}

is_it_here : (k x : ℕ) → x ≡ k → is_it k x ≡ 1
is_it_here k x same = ap (λ (b : Bool). cond b 1 0) (eq-eqb x k same)

is_it_else : (k x : ℕ) → x ≢ k → is_it k x ≡ 0
is_it_else k x other = ap (λ (b : Bool). cond b 1 0) (ne_eqb x k other)

module _ {A : Type 0} (place : A → ℕ) (thread : A → ℕ) where
  abbrev times : ℕ → List A → ℕ
  times k xs = times_in place thread k xs

  abbrev Rises : ℕ → List A → Type 0
  Rises from xs = RiseFrom place thread from xs

  abbrev AreOf : ℕ → List A → Type 0
  AreOf j xs = Each (λ (x : A). thread x ≡ j) xs

  abbrev of_thread : ℕ → List A → List A
  of_thread j xs = filter (is_of_thread place thread j) xs

  -- ONE LIST

  more_times : (k : ℕ) (xs : List A) (x : A) → times k (xs ++ x ∷ []) ≡ times k xs + is_it k (place x)
  more_times k [] x = omega arith
  more_times k (y ∷ ys) x = omega (arith, more_times k ys x)

  none_at_all : (xs : List A) → ((k : ℕ) → times k xs ≡ 0) → xs ≡ []
  none_at_all [] none = refl
  none_at_all (x ∷ xs) none = let here = is_it_here (place x) (place x) refl in let zero_there = none (place x) in absurd (omega arith)

  -- its last item, and those before it
  record IsLast (xs : List A) (n : ℕ) : Type 0 where
    front : List A
    item : A
    all : xs ≡ front ++ item ∷ []
    at : place item ≡ n

  last_at : (n from : ℕ) (xs : List A) → Rises from xs → ((k : ℕ) → n < k → times k xs ≡ 0) → 0 < times n xs → IsLast xs n
  last_at n from [] rise none more = absurd (omega arith)
  last_at n from (x ∷ xs) rise none more = dite (ℕ_discrete (place x) n)
      (λ same. record { front = []; item = x; all = ap (λ (l : List A). x ∷ l) (no_more xs rise.1 same none); at = same })
      (λ other.
      let not_here = is_it_else n (place x) other in
      let rest = last_at n (suc (place x)) xs rise.1 (λ k beyond. let z = none k beyond in omega arith) (omega arith) in
      record { front = x ∷ rest.front; item = rest.item; all = ap (λ (l : List A). x ∷ l) rest.all; at = rest.at })
    where
      no_more : (xs : List A) → Rises (suc (place x)) xs → place x ≡ n → ((k : ℕ) → n < k → times k (x ∷ xs) ≡ 0) → xs ≡ []
      no_more [] rise same none = refl
      no_more (y ∷ ys) rise same none = let z = none (place y) (omega (arith, rise.0, same)) in let here = is_it_here (place y) (place y) refl in absurd (omega arith)

  front_rises : (from : ℕ) (xs : List A) (x : A) → Rises from (xs ++ x ∷ []) → Rises from xs
  front_rises from [] x rise = tt
  front_rises from (y ∷ ys) x rise = (rise.0, front_rises (suc (place y)) ys x rise.1)

  front_own : (j : ℕ) (xs : List A) (x : A) → AreOf j (xs ++ x ∷ []) → AreOf j xs
  front_own j [] x own = tt
  front_own j (y ∷ ys) x own = (own.0, front_own j ys x own.1)

  last_own : (j : ℕ) (xs : List A) (x : A) → AreOf j (xs ++ x ∷ []) → thread x ≡ j
  last_own j [] x own = own.0
  last_own j (y ∷ ys) x own = last_own j ys x own.1

  one_its : (j : ℕ) (x : A) → thread x ≡ j → of_thread j (x ∷ []) ≡ x ∷ []
  one_its j x same = ap (λ (b : Bool). if b then x ∷ [] else []) (eq-eqb (thread x) j same)

  one_other : (j : ℕ) (x : A) → thread x ≢ j → of_thread j (x ∷ []) ≡ []
  one_other j x other = ap (λ (b : Bool). if b then x ∷ [] else []) (ne_eqb (thread x) j other)

  -- SHARES OF ONE PLACE LESS

  module _ (n : ℕ) (lists : List (List A)) (s : AreShares place thread (suc n) lists) (j : ℕ) (xs : List A) (found : get_elem? lists j ≡ some xs) (l : IsLast xs n) where
    abbrev fewer : List (List A)
    fewer = set lists j l.front

    times_of : (k : ℕ) → times k xs ≡ times k l.front + is_it k n
    times_of k = ap (times k) l.all ∙ more_times k l.front l.item ∙ ap (λ (m : ℕ). times k l.front + is_it k m) l.at

    less_one : (k : ℕ) → total (times k) fewer + is_it k n ≡ total (times k) lists
    less_one k = omega (arith, recounted (times k) lists j xs l.front found, times_of k)

    its : (P : ℕ → List A → Type 0) → P j l.front → ((i : ℕ) (ys : List A) → get_elem? lists i ≡ some ys → P i ys) → (i : ℕ) (ys : List A) → get_elem? fewer i ≡ some ys → P i ys
    its P here others i ys there = dite (ℕ_discrete i j)
        (λ same.
        let its_front : ys ≡ l.front = set_same lists j xs l.front ys found (subst (λ (m : ℕ). get_elem? fewer m ≡ some ys) same there) in
        subst (λ (m : ℕ). P m ys) (sym same) (subst (P j) (sym its_front) here))
        (λ other. others i ys (sym (set_other lists i j l.front other) ∙ there))

    shares_of_fewer : AreShares place thread n fewer
    shares_of_fewer = record {
      once = λ k less. let z = is_it_else k n (λ e. omega arith) in let all = s.once k (omega arith) in omega (arith, less_one k);
      no_other = λ k more. dite (ℕ_discrete n k)
          (λ same. let one = is_it_here k n same in let all = s.once k (omega arith) in omega (arith, less_one k))
          (λ other. let all = s.no_other k (omega arith) in omega (arith, less_one k));
      rise = its (λ (i : ℕ) (ys : List A). Rises 0 ys) (front_rises 0 l.front l.item (subst (Rises 0) l.all (s.rise j xs found))) s.rise;
      own = its (λ (i : ℕ) (ys : List A). AreOf i ys) (front_own j l.front l.item (subst (AreOf j) l.all (s.own j xs found))) s.own;
    }

    is_its : thread l.item ≡ j
    is_its = last_own j l.front l.item (subst (AreOf j) l.all (s.own j xs found))

    one_more : Merged place thread n fewer → Merged place thread (suc n) lists
    one_more m = (m.0 ++ l.item ∷ [], record { places = places; shares = shares })
      where
        places : map place (m.0 ++ l.item ∷ []) ≡ upto (suc n)
        places = map-append place m.0 (l.item ∷ []) ∙ ap (λ (ks : List ℕ). ks ++ place l.item ∷ []) m.1.places ∙ ap (λ (k : ℕ). upto n ++ k ∷ []) l.at

        parted : (i : ℕ) → of_thread i (m.0 ++ l.item ∷ []) ≡ of_thread i m.0 ++ of_thread i (l.item ∷ [])
        parted i = filter-append (is_of_thread place thread i) m.0 (l.item ∷ [])

        shares : (i : ℕ) (ys : List A) → get_elem? lists i ≡ some ys → ys ≡ of_thread i (m.0 ++ l.item ∷ [])
        shares i ys there = dite (ℕ_discrete i j)
            (λ same.
            let its_front : l.front ≡ of_thread i m.0 = m.1.shares i l.front (ap (get_elem? fewer) same ∙ set_here lists j xs l.front found) in
            let is_xs : ys ≡ xs = same_at lists i j xs ys same found there in
            is_xs ∙ l.all ∙ ap (λ (zs : List A). zs ++ l.item ∷ []) its_front ∙ ap (λ (zs : List A). of_thread i m.0 ++ zs) (sym (one_its i l.item (is_its ∙ sym same))) ∙ sym (parted i))
            (λ other.
            let rest : ys ≡ of_thread i m.0 = m.1.shares i ys (set_other lists i j l.front other ∙ there) in
            rest ∙ sym (append-nil (of_thread i m.0)) ∙ ap (λ (zs : List A). of_thread i m.0 ++ zs) (sym (one_other i l.item (λ e. other (sym e ∙ is_its)))) ∙ sym (parted i))

  -- ALL OF THEM

  pub are_merged : (count : ℕ) (lists : List (List A)) → AreShares place thread count lists → Merged place thread count lists
  are_merged zero lists s = (
    [],
    record {
      places = refl;
      shares = λ j xs found. none_at_all xs (λ k. let none = s.no_other k (omega arith) in omega (arith, one_of_all (times k) lists j xs found));
    },
  )
  are_merged (suc n) lists s =
      let one = s.once n (omega arith) in
      let f = some_counts (times n) lists (omega arith) in
      let none : (k : ℕ) → n < k → times k f.1 ≡ 0 = λ k more. let z = s.no_other k (omega arith) in omega (arith, one_of_all (times k) lists f.0 f.1 f.2) in
      let l = last_at n 0 f.1 (s.rise f.0 f.1 f.2) none f.3 in
      one_more n lists s f.0 f.1 f.2 l (are_merged n (set lists f.0 l.front) (shares_of_fewer n lists s f.0 f.1 f.2 l))
