-- The sessions that ended, one more at a time.
use Rattle.std.proofs.Common.{◌≡◌, ℕ, ◌+◌, ◌<◌, ◌≤◌, ◌&&◌, not, true, false, List, [], ◌∷◌, ◌++◌, append_assoc, arith, drop, length, refl, slice_index_or, suc, zero, sym, ap, ◌∙◌}
use Rattle.std.proofs.lemmas.List.{drop_all}
use Rattle.mt_model.specs.declared.node.state.NodeSession.{NodeSession}
use Rattle.mt_machine.specs.Step.{closed_between, is_live}

no_one : (xs : List NodeSession) → closed_between xs [] ≡ []
no_one [] = refl
no_one (x ∷ xs) = refl

-- where a session has ended, it is the next one
ended_at : (i : ℕ) (xs ys : List NodeSession) (x y : NodeSession) → i < length xs → i < length ys → x ≡ slice_index_or xs i x → y ≡ slice_index_or ys i y → (is_live x.standing && not (is_live y.standing)) ≡ true
    → closed_between (drop i xs) (drop i ys) ≡ x.session ∷ closed_between (drop (suc i) xs) (drop (suc i) ys)
ended_at i [] ys x y lt lt' is is' over = absurd (omega (arith, lt))
ended_at i (x' ∷ xs) [] x y lt lt' is is' over = absurd (omega (arith, lt'))
ended_at zero (x' ∷ xs) (y' ∷ ys) x y lt lt' is is' over =
    let there : (is_live x'.standing && not (is_live y'.standing)) ≡ true = (λ j. is_live (sym is j).standing && not (is_live (sym is' j).standing)) ∙ over in
    rw there (ap (λ (z : NodeSession). z.session ∷ closed_between xs ys) (sym is))
ended_at (suc i) (x' ∷ xs) (y' ∷ ys) x y lt lt' is is' over = ended_at i xs ys x y (omega (arith, lt)) (omega (arith, lt')) is is' over

-- otherwise the others alone are to come
goes_on_at : (i : ℕ) (xs ys : List NodeSession) (x y : NodeSession) → i < length xs → i < length ys → x ≡ slice_index_or xs i x → y ≡ slice_index_or ys i y → (is_live x.standing && not (is_live y.standing)) ≡ false
    → closed_between (drop i xs) (drop i ys) ≡ closed_between (drop (suc i) xs) (drop (suc i) ys)
goes_on_at i [] ys x y lt lt' is is' over = absurd (omega (arith, lt))
goes_on_at i (x' ∷ xs) [] x y lt lt' is is' over = absurd (omega (arith, lt'))
goes_on_at zero (x' ∷ xs) (y' ∷ ys) x y lt lt' is is' over =
    let there : (is_live x'.standing && not (is_live y'.standing)) ≡ false = (λ j. is_live (sym is j).standing && not (is_live (sym is' j).standing)) ∙ over in
    rw there refl
goes_on_at (suc i) (x' ∷ xs) (y' ∷ ys) x y lt lt' is is' over = goes_on_at i xs ys x y (omega (arith, lt)) (omega (arith, lt')) is is' over

next_is : (i : ℕ) → suc i ≡ i + 1
next_is i = omega arith

pub ended : (i : ℕ) (xs ys : List NodeSession) (x y : NodeSession) → i < length xs → i < length ys → x ≡ slice_index_or xs i x → y ≡ slice_index_or ys i y → (is_live x.standing && not (is_live y.standing)) ≡ true
    → closed_between (drop i xs) (drop i ys) ≡ x.session ∷ closed_between (drop (i + 1) xs) (drop (i + 1) ys)
ended i xs ys x y lt lt' is is' over = ended_at i xs ys x y lt lt' is is' over ∙ ap (λ n. x.session ∷ closed_between (drop n xs) (drop n ys)) (next_is i)

pub goes_on : (i : ℕ) (xs ys : List NodeSession) (x y : NodeSession) → i < length xs → i < length ys → x ≡ slice_index_or xs i x → y ≡ slice_index_or ys i y → (is_live x.standing && not (is_live y.standing)) ≡ false
    → closed_between (drop i xs) (drop i ys) ≡ closed_between (drop (i + 1) xs) (drop (i + 1) ys)
goes_on i xs ys x y lt lt' is is' over = goes_on_at i xs ys x y lt lt' is is' over ∙ ap (λ n. closed_between (drop n xs) (drop n ys)) (next_is i)

pub none_left : (i : ℕ) (xs ys : List NodeSession) → length ys ≤ i → closed_between (drop i xs) (drop i ys) ≡ closed_between (drop (i + 1) xs) (drop (i + 1) ys)
none_left i xs ys past =
    ap (closed_between (drop i xs)) (drop_all i ys past) ∙ no_one (drop i xs)
    ∙ sym (no_one (drop (i + 1) xs)) ∙ ap (closed_between (drop (i + 1) xs)) (sym (drop_all (i + 1) ys (omega (arith, past))))

pub one_more : (closed closed' : List ℕ) (id : ℕ) (rest here all : List ℕ) → closed' ≡ closed ++ id ∷ [] → here ≡ id ∷ rest → closed ++ here ≡ all → closed' ++ rest ≡ all
one_more closed closed' id rest here all is next so_far =
    ap (λ (l : List ℕ). l ++ rest) is ∙ append_assoc closed (id ∷ []) rest ∙ ap (λ (l : List ℕ). closed ++ l) (sym next) ∙ so_far
