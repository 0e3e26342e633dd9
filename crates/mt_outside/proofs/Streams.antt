-- What was read and written, call after call.
use Rattle.std.proofs.Common.{◌≡◌, ℕ, ◌+◌, ◌-◌, ◌<◌, List, [], ◌∷◌, ◌++◌, length, take, drop, get_or, Option, Some, None, refl, sym, ap, subst, ◌∙◌, append_assoc, arith, take-add}
use Rattle.std.specs.Prelude.{IfSome}
use Rattle.std.proofs.lemmas.List.{append-nil, drop_more, take-append-drop, length-append, length-drop, take_all, nil_from_length}
use Rattle.mt_outside.specs.Stream.{Gave, GavePart, ReadToEnd, Took, IsProperPrefix, TookLess}

-- What was given.

pub Gave-nil : (a : Option (List ℕ)) → Gave a a []
Gave-nil None = tt
Gave-nil (Some left) = (left, refl, refl)

pub Gave-then : (a b c : Option (List ℕ)) (x y : List ℕ) → Gave a b x → Gave b c y → Gave a c (x ++ y)
Gave-then None b c x y p q = tt
Gave-then (Some left) b c x y p q =
    let here : Gave (Some p.0) c y = subst (λ (o : Option (List ℕ)). Gave o c y) p.2 q in
    (here.0, p.1 ∙ ap (λ (w : List ℕ). x ++ w) here.1 ∙ sym (append_assoc x y here.0), here.2)

-- two pieces, one after the other, are some front
pub GavePart-then : (a b c : Option (List ℕ)) (x y : List ℕ) → Gave a b x → Gave b c y → GavePart a c
GavePart-then a b c x y p q = (x ++ y, Gave-then a b c x y p q)

pub GavePart-nil : (a : Option (List ℕ)) → GavePart a a
GavePart-nil a = ([], Gave-nil a)

-- nothing more was given
pub Gave-same : (a b c : Option (List ℕ)) (x : List ℕ) → Gave a b x → c ≡ b → Gave a c x
Gave-same a b c x p e = rw e p

-- no bytes, and none were left
pub Gave-end : (a b c : Option (List ℕ)) (x y : List ℕ) → Gave a b x → Gave b c y → length y ≡ 0 → IfSome b (λ left. left ≡ []) → ReadToEnd a c x
Gave-end None b c x y p q none end = tt
Gave-end (Some left) b c x y p q none end =
    let here : Gave (Some p.0) c y = subst (λ (o : Option (List ℕ)). Gave o c y) p.2 q in
    let last : p.0 ≡ [] = subst (λ (o : Option (List ℕ)). IfSome o (λ w. w ≡ [])) p.2 end in
    let none_left : here.0 ≡ [] = nil_from_length here.0 (omega (arith, ap length here.1, ap length last, length-append y here.0)) in
    (p.1 ∙ ap (λ (w : List ℕ). x ++ w) last ∙ append-nil x, here.2 ∙ ap Some none_left)

-- more was given than the limit
pub Gave-long : (a b c : Option (List ℕ)) (limit : ℕ) (x y : List ℕ) → Gave a b x → Gave b c y → limit < length x + length y → IfSome a (λ left. limit < length left)
Gave-long None b c limit x y p q lt = tt
Gave-long (Some left) b c limit x y p q lt =
    let here : Gave (Some p.0) c y = subst (λ (o : Option (List ℕ)). Gave o c y) p.2 q in
    omega (arith, ap length p.1, length-append x p.0, ap length here.1, length-append y here.0)

-- what was read to its end was given
pub ReadToEnd-gave : (a b : Option (List ℕ)) (x : List ℕ) → ReadToEnd a b x → Gave a b x
ReadToEnd-gave None b x p = tt
ReadToEnd-gave (Some left) b x p = ([], p.0 ∙ sym (append-nil x), p.1)

-- What was taken.

pub Took-nil : (a : Option (List ℕ)) → Took a a []
Took-nil None = tt
Took-nil (Some w) = ap Some (sym (append-nil w))

pub Took-then : (a b c : Option (List ℕ)) (x y : List ℕ) → Took a b x → Took b c y → Took a c (x ++ y)
Took-then None b c x y p q = tt
Took-then (Some w) b c x y p q =
    let here : Took (Some (w ++ x)) c y = subst (λ (o : Option (List ℕ)). Took o c y) p q in
    here ∙ ap Some (append_assoc w x y)

-- nothing more was taken
pub Took-same : (a b c : Option (List ℕ)) (x : List ℕ) → Took a b x → c ≡ b → Took a c x
Took-same a b c x p e = rw e p

-- Less was taken than was to be.

TookLess-front : (a b : Option (List ℕ)) (x all : List ℕ) → Took a b x → IsProperPrefix x all → TookLess a b all
TookLess-front a b x all p q = (x, q, p)

pub TookLess-more : (a b : Option (List ℕ)) (x y : List ℕ) → TookLess a b x → TookLess a b (x ++ y)
TookLess-more a b x y p =
    TookLess-front a b p.0 (x ++ y) p.2 (p.1.0, p.1.1 ++ y, ap (λ (w : List ℕ). w ++ y) p.1.2 ∙ append_assoc p.0 (p.1.0 ∷ p.1.1) y)

-- less of a text after one that was taken whole
pub TookLess-then : (a b c : Option (List ℕ)) (x y : List ℕ) → Took a b x → TookLess b c y → TookLess a c (x ++ y)
TookLess-then a b c x y p q =
    TookLess-front a c (x ++ q.0) (x ++ y) (Took-then a b c x q.0 p q.2) (q.1.0, q.1.1, ap (λ (w : List ℕ). x ++ w) q.1.2 ∙ sym (append_assoc x q.0 (q.1.0 ∷ q.1.1)))

-- one more piece of what is to be written, the rest of which is spelled as the code slices it
pub Took-next : (a b c : Option (List ℕ)) (at n : ℕ) (bytes : List ℕ) → Took a b (take at bytes) → Took b c (take n (take (length bytes - at) (drop at bytes))) → Took a c (take (at + n) bytes)
Took-next a b c at n bytes p q =
    let whole : take (length bytes - at) (drop at bytes) ≡ drop at bytes = take_all (length bytes - at) (drop at bytes) (simp length-drop (omega arith)) in
    let more : Took b c (take n (drop at bytes)) = subst (λ (x : List ℕ). Took b c (take n x)) whole q in
    rw take-add (Took-then a b c (take at bytes) (take n (drop at bytes)) p more)

-- the sink failed when the first bytes were taken, and there were more
pub Took-stopped : (a b c : Option (List ℕ)) (at : ℕ) (bytes : List ℕ) → at < length bytes → Took a b (take at bytes) → c ≡ b → TookLess a c bytes
Took-stopped a b c at bytes more p e =
    TookLess-front a c (take at bytes) bytes (Took-same a b c (take at bytes) p e) (
      get_or bytes at 0,
      drop (at + 1) bytes,
      sym (take-append-drop at bytes) ∙ ap (λ (w : List ℕ). take at bytes ++ w) (drop_more bytes at 0 more),
    )
