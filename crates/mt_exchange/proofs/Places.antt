-- An exchange at its place among others.
use Rattle.std.proofs.Common.{◌≡◌, ℕ, zero, suc, ◌<◌, ◌≤◌, true, false, nat_lt, List, [], ◌∷◌, ◌++◌, length, get_or, refl, ap, sym, subst, ◌∙◌, arith, eq-eqb}
use Rattle.std.specs.Prelude.{slice_set}
use Rattle.std.specs.List.{insert, remove}
use Rattle.std.proofs.lemmas.Bool.{lt-ltb, le-ltb, ne_eqb, cond-true, cond-false}
use Rattle.mt_exchange.specs.declared.exchange.Key.{Key}
use Rattle.mt_exchange.specs.declared.exchange.Exchange.{Exchange}
use Rattle.std.proofs.lemmas.List.{get_or_read}
use Rattle.mt_exchange.specs.Opened.{exchange_at, is_open, nothing, put, rank}
use Rattle.mt_exchange.specs.Places.{IsAt, IsBefore}

-- what is found at a place
module _ (key : Key) where
  pub exchange_at-there : (xs : List Exchange) (p : ℕ) (d : Exchange) → p < length xs
      → ((k : ℕ) (e : Exchange) → k < p → rank (get_or xs k e).key < rank key) → rank (get_or xs p d).key ≡ rank key
      → exchange_at key xs ≡ get_or xs p d
  exchange_at-there [] p d lt before same = absurd (omega arith)
  exchange_at-there (x ∷ xs) zero d lt before same = cond-false _ _ _ (le-ltb (rank x.key) (rank key) (omega arith)) ∙ cond-true _ _ _ (eq-eqb (rank x.key) (rank key) same)
  exchange_at-there (x ∷ xs) (suc p) d lt before same =
      cond-true _ _ _ (lt-ltb (rank x.key) (rank key) (before zero d (omega arith)))
      ∙ exchange_at-there xs p d (omega arith) (λ k e l. before (suc k) e (omega arith)) same

  pub exchange_at-none : (xs : List Exchange) (p : ℕ) (d : Exchange) → p ≤ length xs
      → ((k : ℕ) (e : Exchange) → k < p → rank (get_or xs k e).key < rank key) → (p < length xs → rank key < rank (get_or xs p d).key)
      → exchange_at key xs ≡ nothing key
  exchange_at-none [] p d le before above = refl
  exchange_at-none (x ∷ xs) zero d le before above =
      let over : rank key < rank x.key = above (omega arith) in
      cond-false _ _ _ (le-ltb (rank x.key) (rank key) (omega arith)) ∙ cond-false _ _ _ (ne_eqb (rank x.key) (rank key) (λ e. absurd (omega (arith, e, over))))
  exchange_at-none (x ∷ xs) (suc p) d le before above =
      cond-true _ _ _ (lt-ltb (rank x.key) (rank key) (before zero d (omega arith)))
      ∙ exchange_at-none xs p d (omega arith) (λ k e l. before (suc k) e (omega arith)) (λ l. above (omega arith))

-- what is put at a place
module _ (x : Exchange) where
  pub put-over : (xs : List Exchange) (p : ℕ) (d y : Exchange) → p < length xs
      → ((k : ℕ) (e : Exchange) → k < p → rank (get_or xs k e).key < rank x.key) → rank (get_or xs p d).key ≡ rank x.key → rank y.key ≡ rank x.key
      → put x (slice_set xs p y) ≡ put x xs
  put-over [] p d y lt before same is = absurd (omega arith)
  put-over (z ∷ xs) zero d y lt before same is =
      cond-false _ _ _ (le-ltb (rank y.key) (rank x.key) (omega arith)) ∙ cond-true _ _ _ (eq-eqb (rank y.key) (rank x.key) is)
      ∙ sym (cond-false _ _ _ (le-ltb (rank z.key) (rank x.key) (omega arith)) ∙ cond-true _ _ _ (eq-eqb (rank z.key) (rank x.key) same))
  put-over (z ∷ xs) (suc p) d y lt before same is =
      let low : nat_lt (rank z.key) (rank x.key) ≡ true = lt-ltb _ _ (before zero d (omega arith)) in
      cond-true _ _ _ low
      ∙ ap (λ (ys : List Exchange). z ∷ ys) (put-over xs p d y (omega arith) (λ k e l. before (suc k) e (omega arith)) same is)
      ∙ sym (cond-true _ _ _ low)

  pub put-set : (xs : List Exchange) (p : ℕ) (d : Exchange) → p < length xs
      → ((k : ℕ) (e : Exchange) → k < p → rank (get_or xs k e).key < rank x.key) → rank (get_or xs p d).key ≡ rank x.key → is_open x ≡ true
      → slice_set xs p x ≡ put x xs
  put-set [] p d lt before same is = absurd (omega arith)
  put-set (z ∷ xs) zero d lt before same is =
      sym (cond-false _ _ _ (le-ltb (rank z.key) (rank x.key) (omega arith)) ∙ cond-true _ _ _ (eq-eqb (rank z.key) (rank x.key) same) ∙ ap (λ (ys : List Exchange). ys ++ xs) (cond-true _ _ _ is))
  put-set (z ∷ xs) (suc p) d lt before same is =
      ap (λ (ys : List Exchange). z ∷ ys) (put-set xs p d (omega arith) (λ k e l. before (suc k) e (omega arith)) same is)
      ∙ sym (cond-true _ _ _ (lt-ltb (rank z.key) (rank x.key) (before zero d (omega arith))))

  pub put-remove : (xs : List Exchange) (p : ℕ) (d : Exchange) → p < length xs
      → ((k : ℕ) (e : Exchange) → k < p → rank (get_or xs k e).key < rank x.key) → rank (get_or xs p d).key ≡ rank x.key → is_open x ≡ false
      → remove xs p ≡ put x xs
  put-remove [] p d lt before same is = absurd (omega arith)
  put-remove (z ∷ xs) zero d lt before same is =
      sym (cond-false _ _ _ (le-ltb (rank z.key) (rank x.key) (omega arith)) ∙ cond-true _ _ _ (eq-eqb (rank z.key) (rank x.key) same) ∙ ap (λ (ys : List Exchange). ys ++ xs) (cond-false _ _ _ is))
  put-remove (z ∷ xs) (suc p) d lt before same is =
      ap (λ (ys : List Exchange). z ∷ ys) (put-remove xs p d (omega arith) (λ k e l. before (suc k) e (omega arith)) same is)
      ∙ sym (cond-true _ _ _ (lt-ltb (rank z.key) (rank x.key) (before zero d (omega arith))))

  pub put-insert : (xs : List Exchange) (p : ℕ) (d : Exchange) → p ≤ length xs
      → ((k : ℕ) (e : Exchange) → k < p → rank (get_or xs k e).key < rank x.key) → (p < length xs → rank x.key < rank (get_or xs p d).key) → is_open x ≡ true
      → insert xs p x ≡ put x xs
  put-insert [] zero d le before above is = sym (cond-true _ _ _ is)
  put-insert [] (suc p) d le before above is = absurd (omega arith)
  put-insert (z ∷ xs) zero d le before above is =
      let over : rank x.key < rank z.key = above (omega arith) in
      sym (cond-false _ _ _ (le-ltb (rank z.key) (rank x.key) (omega arith)) ∙ cond-false _ _ _ (ne_eqb (rank z.key) (rank x.key) (λ e. absurd (omega (arith, e, over))))
      ∙ ap (λ (ys : List Exchange). ys ++ z ∷ xs) (cond-true _ _ _ is))
  put-insert (z ∷ xs) (suc p) d le before above is =
      ap (λ (ys : List Exchange). z ∷ ys) (put-insert xs p d (omega arith) (λ k e l. before (suc k) e (omega arith)) (λ l. above (omega arith)) is)
      ∙ sym (cond-true _ _ _ (lt-ltb (rank z.key) (rank x.key) (before zero d (omega arith))))

  pub put-none : (xs : List Exchange) (p : ℕ) (d : Exchange) → p ≤ length xs
      → ((k : ℕ) (e : Exchange) → k < p → rank (get_or xs k e).key < rank x.key) → (p < length xs → rank x.key < rank (get_or xs p d).key) → is_open x ≡ false
      → xs ≡ put x xs
  put-none [] p d le before above is = sym (cond-false _ _ _ is)
  put-none (z ∷ xs) zero d le before above is =
      let over : rank x.key < rank z.key = above (omega arith) in
      sym (cond-false _ _ _ (le-ltb (rank z.key) (rank x.key) (omega arith)) ∙ cond-false _ _ _ (ne_eqb (rank z.key) (rank x.key) (λ e. absurd (omega (arith, e, over))))
      ∙ ap (λ (ys : List Exchange). ys ++ z ∷ xs) (cond-false _ _ _ is))
  put-none (z ∷ xs) (suc p) d le before above is =
      ap (λ (ys : List Exchange). z ∷ ys) (put-none xs p d (omega arith) (λ k e l. before (suc k) e (omega arith)) (λ l. above (omega arith)) is)
      ∙ sym (cond-true _ _ _ (lt-ltb (rank z.key) (rank x.key) (before zero d (omega arith))))

-- the same, once for a place
pub is_at : (key : Key) (xs : List Exchange) (p : ℕ) (m : Exchange) → p < length xs → m ≡ get_or xs p m
    → ((k : ℕ) (e : Exchange) → k < p → rank (get_or xs k e).key < rank key) → rank (get_or xs p m).key ≡ rank key → IsAt key xs p
is_at key xs p m lt is before same = record {
  within = lt;
  found = λ d. exchange_at-there key xs p d lt before (here d);
  over = λ x y ex ey. put-over x xs p m y lt (below x ex) (here m ∙ sym (ap rank ex)) (ap rank ey ∙ sym (ap rank ex));
  changed = λ x ex. put-set x xs p m lt (below x ex) (here m ∙ sym (ap rank ex));
  removed = λ x ex. put-remove x xs p m lt (below x ex) (here m ∙ sym (ap rank ex));
}
  where
    here : (d : Exchange) → rank (get_or xs p d).key ≡ rank key
    here d = ap (λ (y : Exchange). rank y.key) (sym (get_or_read xs p m lt is d) ∙ is) ∙ same

    below : (x : Exchange) → x.key ≡ key → (k : ℕ) (e : Exchange) → k < p → rank (get_or xs k e).key < rank x.key
    below x ex k e l = let P : Key → Type 0 = λ y. rank (get_or xs k e).key < rank y in subst P (sym ex) (before k e l)

pub is_before : (key : Key) (xs : List Exchange) (p : ℕ) (d : Exchange) → p ≤ length xs
    → ((k : ℕ) (e : Exchange) → k < p → rank (get_or xs k e).key < rank key) → (p < length xs → rank key < rank (get_or xs p d).key) → IsBefore key xs p
is_before key xs p d le before above = record {
  within = le;
  found = exchange_at-none key xs p d le before above;
  inserted = λ x ex. put-insert x xs p d le (below x ex) (over x ex);
  left = λ x ex. put-none x xs p d le (below x ex) (over x ex);
}
  where
    below : (x : Exchange) → x.key ≡ key → (k : ℕ) (e : Exchange) → k < p → rank (get_or xs k e).key < rank x.key
    below x ex k e l = let P : Key → Type 0 = λ y. rank (get_or xs k e).key < rank y in subst P (sym ex) (before k e l)

    over : (x : Exchange) → x.key ≡ key → p < length xs → rank x.key < rank (get_or xs p d).key
    over x ex l = let P : Key → Type 0 = λ y. rank y < rank (get_or xs p d).key in subst P (sym ex) (above l)
