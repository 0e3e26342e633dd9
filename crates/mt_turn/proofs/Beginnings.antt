-- Lists of which one begins another.
use Rattle.std.proofs.Common.{◌≡◌, ◌≤◌, List, [], ◌∷◌, ◌++◌, length, refl, sym, ap, ◌∙◌, arith, append_assoc, length-append, append-nil}
use mathlib.Core.List.{IsPrefix}

module _ {E : Type 0} where
  pub begins_itself : (xs : List E) → IsPrefix xs xs
  begins_itself xs = ([], append-nil xs)

  pub begins_further : (xs ys zs : List E) → IsPrefix xs ys → IsPrefix ys zs → IsPrefix xs zs
  begins_further xs ys zs p q = (p.0 ++ q.0, sym (append_assoc xs p.0 q.0) ∙ (ap (λ w. w ++ q.0) p.1 ∙ q.1))

  pub begins-length : (xs ys : List E) → IsPrefix xs ys → length xs ≤ length ys
  begins-length xs ys p = omega (arith, sym (ap length p.1) ∙ length-append xs p.0)

  -- of two beginnings of one list the shorter begins the longer
  pub two_beginnings : (xs ys zs : List E) → IsPrefix xs zs → IsPrefix ys zs → length xs ≤ length ys → IsPrefix xs ys
  two_beginnings [] ys zs p q le = (ys, refl)
  two_beginnings (x ∷ xs) [] zs p q le = absurd (omega arith)
  two_beginnings (x ∷ xs) (y ∷ ys) [] p q le = absurd (cc (p.1))
  two_beginnings (x ∷ xs) (y ∷ ys) (z ∷ zs) p q le =
      let heads : x ≡ y = cc (p.1, q.1) in
      let rest = two_beginnings xs ys zs (p.0, cc (p.1)) (q.0, cc (q.1)) (omega arith) in
      (rest.0, cc (heads, rest.1))

  -- a beginning that is as long as the whole is the whole
  pub begins_whole : (xs ys : List E) → IsPrefix xs ys → length ys ≤ length xs → xs ≡ ys
  begins_whole [] [] p le = refl
  begins_whole [] (y ∷ ys) p le = absurd (omega arith)
  begins_whole (x ∷ xs) [] p le = absurd (cc (p.1))
  begins_whole (x ∷ xs) (y ∷ ys) p le =
      let rest = begins_whole xs ys (p.0, cc (p.1)) (omega arith) in cc (p.1, rest)
