-- Lists of equal length, element by element, and from the last one on.
use Rattle.std.proofs.Common.{◌≡◌, ◌<◌, ◌∙◌, ℕ, zero, suc, ◌+◌, List, [], ◌∷◌, ◌++◌, Option, Some, map, length, get_or, refl, sym, ap, subst, arith}
use mathlib.Core.Logic.{dite}
use native.Mathlib.Decide.{ℕ_discrete}
use Rattle.std.proofs.lemmas.List.{get_or_append_left, get_or_push, map_push}
use Rattle.std.proofs.lemmas.List.Elements.{All-push, All-same, filter_map-append}
use Rattle.std.specs.List.{All, AllZip, cons_option, filter_map}

module _ {A B : Type 0} (R : A → B → Type 0) where
  pub zip_push : (xs : List A) (ys : List B) (x : A) (y : B) → AllZip R xs ys → R x y → AllZip R (xs ++ x ∷ []) (ys ++ y ∷ [])
  zip_push [] [] x y z r = (r, tt)
  zip_push [] (b ∷ ys) x y z r = absurd z
  zip_push (a ∷ xs) [] x y z r = absurd z
  zip_push (a ∷ xs) (b ∷ ys) x y z r = (z.0, zip_push xs ys x y z.1 r)

  -- of lists that are longer by one
  pub zip_more : (all : List A) (all' : List B) (xs : List A) (ys : List B) (x : A) (y : B) → all ≡ xs ++ x ∷ [] → all' ≡ ys ++ y ∷ [] → AllZip R xs ys → R x y → AllZip R all all'
  zip_more all all' xs ys x y is is' z r = subst (λ (p : List A × List B). AllZip R p.0 p.1) (λ i. (sym is i, sym is' i)) (zip_push xs ys x y z r)

  pub zip_at : (xs : List A) (ys : List B) → AllZip R xs ys → (k : ℕ) (d : A) (e : B) → k < length xs → R (get_or xs k d) (get_or ys k e)
  zip_at [] [] z k d e lt = absurd (omega arith)
  zip_at [] (b ∷ ys) z k d e lt = absurd z
  zip_at (a ∷ xs) [] z k d e lt = absurd z
  zip_at (a ∷ xs) (b ∷ ys) z zero d e lt = z.0
  zip_at (a ∷ xs) (b ∷ ys) z (suc k) d e lt = zip_at xs ys z.1 k d e (omega arith)

-- of two lists, by the place
pub zip_each : {A : Type 0} (R : A → A → Type 0) (xs ys : List A) → length ys ≡ length xs → ((k : ℕ) (d : A) → k < length xs → R (get_or xs k d) (get_or ys k d)) → AllZip R xs ys
zip_each R [] [] len h = tt
zip_each R [] (y ∷ ys) len h = absurd (omega arith)
zip_each R (x ∷ xs) [] len h = absurd (omega arith)
zip_each R (x ∷ xs) (y ∷ ys) len h = (h 0 x (omega arith), zip_each R xs ys (omega arith) (λ k d lt. h (suc k) d (omega arith)))

-- what is the same of the elements at each place
pub map_same : {A C : Type 0} (f : A → C) (xs ys : List A) → length ys ≡ length xs → ((k : ℕ) (d : A) → k < length xs → f (get_or ys k d) ≡ f (get_or xs k d)) → map f ys ≡ map f xs
map_same f [] [] len h = refl
map_same f [] (y ∷ ys) len h = absurd (omega arith)
map_same f (x ∷ xs) [] len h = absurd (omega arith)
map_same f (x ∷ xs) (y ∷ ys) len h = ap2 (h 0 x (omega arith)) (map_same f xs ys (omega arith) (λ k d lt. h (suc k) d (omega arith)))
  where
    ap2 : {C : Type 0} {a b : C} {as' bs : List C} → a ≡ b → as' ≡ bs → a ∷ as' ≡ b ∷ bs
    ap2 p q = cc

-- what holds of each by its place, and of one more
pub each_push : {X : Type 0} (P : ℕ → X → Type 0) (all xs : List X) (x : X) (n : ℕ) → all ≡ xs ++ x ∷ [] → length xs ≡ n → ((k : ℕ) (d : X) → k < n → P k (get_or xs k d)) → P n x → (k : ℕ) (d : X) → k < n + 1 → P k (get_or all k d)
each_push {X} P all xs x n is len each one k d lt = dite (ℕ_discrete k n)
    (λ here. subst (λ (w : ℕ). P w (get_or all k d)) (sym here) (subst (P n) (sym (ap (λ (l : List X). get_or l k d) is ∙ get_or_push xs x d k (len ∙ sym here))) one))
    (λ other.
    let before : k < n = omega arith in
    subst (P k) (sym (ap (λ (l : List X). get_or l k d) is ∙ get_or_append_left xs (x ∷ []) d k (omega arith))) (each k d before))

pub all_more : {X : Type 0} (P : X → Type 0) (all xs : List X) (x : X) → all ≡ xs ++ x ∷ [] → All P xs → P x → All P all
all_more P all xs x is each one = All-same P all (xs ++ x ∷ []) is (All-push P xs x each one)

-- one more that is kept
pub kept_push : {A B : Type 0} (f : A → Option B) (all xs : List A) (x : A) (ys zs : List B) (y : B) → all ≡ xs ++ x ∷ [] → f x ≡ Some y → filter_map f xs ≡ ys → zs ≡ ys ++ y ∷ [] → filter_map f all ≡ zs
kept_push {B = B} f all xs x ys zs y is kept so_far more =
    ap (filter_map f) is ∙ (filter_map-append f xs (x ∷ []) ∙ (ap (λ (o : Option B). filter_map f xs ++ cons_option o []) kept ∙ (ap (λ (l : List B). l ++ y ∷ []) so_far ∙ sym more)))

pub mapped_push : {A B : Type 0} (f : A → B) (all xs : List A) (x : A) (ys zs : List B) → all ≡ xs ++ x ∷ [] → map f xs ≡ ys → zs ≡ ys ++ f x ∷ [] → map f all ≡ zs
mapped_push {B = B} f all xs x ys zs is so_far more = ap (map f) is ∙ (map_push f xs x ∙ (ap (λ (l : List B). l ++ f x ∷ []) so_far ∙ sym more))

-- one function behind another
pub map_map : {A B C : Type 0} (f : B → C) (g : A → B) (xs : List A) → map f (map g xs) ≡ map (λ (x : A). f (g x)) xs
map_map f g [] = refl
map_map {C = C} f g (x ∷ xs) = ap (λ (l : List C). f (g x) ∷ l) (map_map f g xs)
