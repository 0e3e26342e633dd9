-- Blocks that are read one after the other.
use Rattle.std.proofs.Common.{◌≡◌, ◌∙◌, sym, subst, ap, ℕ, ◌+◌, ◌<◌, ◌≤◌, max, List, [], ◌∷◌, ◌++◌, Option, Some, None, option_map, Ok, Err, length, drop, get_or, refl, add-one, drop-cons, append_assoc, arith}
use Rattle.std.proofs.lemmas.List.{drop_all, append-nil}
use Rattle.mt_tlv.specs.declared.value.Tag.{Tag}
use Rattle.mt_tlv.specs.declared.value.Value.{Value}
use Rattle.mt_tlv.specs.View.{tree, elements}
use Rattle.mt_tlv.specs.Tree.{Tree}
use Rattle.mt_im.specs.declared.fault.ImFault.TheVariants.{Form}
use Rattle.mt_im.specs.Fields.{greatest}
use Rattle.mt_im.specs.Reading.{form, minimum_of}
use Rattle.mt_im.specs.Blocks.{◌>>=◌, blocks_of}

-- what was read behind what was read before
abbrev pub with_front : {X : Type 0} → List X → Option (List X) → Option (List X)
with_front front None = None
with_front front (Some xs) = Some (front ++ xs)

module _ {X : Type 0} (read : Tree → Option X) where
  -- the blocks from here on are the one here and those behind it
  pub blocks_step : (members : List (Tag × Value)) (i : ℕ) (d : Tag × Value) → i < length members
      → blocks_of read (elements (drop i members)) ≡ (read (tree (get_or members i d).1) >>= λ x. blocks_of read (elements (drop (i + 1) members)) >>= λ xs. Some (x ∷ xs))
  unfolding blocks_of
  blocks_step members i d h = rw (add-one, drop-cons members i d) refl

  with_front-next : (front : List X) (x : X) (rest : Option (List X)) → with_front front (rest >>= λ xs. Some (x ∷ xs)) ≡ with_front (front ++ x ∷ []) rest
  with_front-next front x None = refl
  with_front-next front x (Some xs) = ap Some (sym (append_assoc front (x ∷ []) xs))

  -- a block that is read is one more in front
  pub blocks_next : (front : List X) (members : List (Tag × Value)) (i : ℕ) (m : Tag × Value) (x : X) (all : Option (List X)) → i < length members → m ≡ get_or members i m
      → read (tree m.1) ≡ Some x → with_front front (blocks_of read (elements (drop i members))) ≡ all
      → with_front (front ++ x ∷ []) (blocks_of read (elements (drop (i + 1) members))) ≡ all
  blocks_next front members i m x all h same found here =
      let b : read (tree (get_or members i m).1) ≡ Some x = subst (λ (y : Tag × Value). read (tree y.1) ≡ Some x) same found in
      let e : blocks_of read (elements (drop i members)) ≡ (blocks_of read (elements (drop (i + 1) members)) >>= λ xs. Some (x ∷ xs)) = blocks_step members i m h ∙ rw b refl in
      sym (with_front-next front x (blocks_of read (elements (drop (i + 1) members)))) ∙ sym (ap (with_front front) e) ∙ here

  -- a block that is malformed makes all malformed
  pub blocks_bad : (front : List X) (members : List (Tag × Value)) (i : ℕ) (m : Tag × Value) (all : Option (List X)) → i < length members → m ≡ get_or members i m
      → read (tree m.1) ≡ None → with_front front (blocks_of read (elements (drop i members))) ≡ all → all ≡ None
  blocks_bad front members i m all h same bad here =
      let b : read (tree (get_or members i m).1) ≡ None = subst (λ (y : Tag × Value). read (tree y.1) ≡ None) same bad in
      let e : blocks_of read (elements (drop i members)) ≡ None = blocks_step members i m h ∙ rw b refl in
      sym here ∙ ap (with_front front) e

  -- behind the last block all were read
  pub blocks_end : (front : List X) (members : List (Tag × Value)) (i : ℕ) (all : Option (List X)) → length members ≤ i
      → with_front front (blocks_of read (elements (drop i members))) ≡ all → all ≡ Some front
  unfolding blocks_of
  blocks_end front members i all h here = sym here ∙ rw (drop_all i members h) (ap Some (append-nil front))

-- the greatest of what was read and of what was read before
abbrev pub with_least : ℕ → Option (List ℕ) → Option ℕ
with_least least None = None
with_least least (Some ns) = Some (max least (greatest ns))

with_least-next : (least n : ℕ) (rest : Option (List ℕ)) → with_least least (rest >>= λ ns. Some (n ∷ ns)) ≡ with_least (max n least) rest
with_least-next least n None = refl
with_least-next least n (Some ns) = let e : max least (max n (greatest ns)) ≡ max (max n least) (greatest ns) = omega arith in ap Some e

module _ (read : Tree → Option ℕ) where
  -- a number that is read counts
  pub least_next : (least : ℕ) (members : List (Tag × Value)) (i : ℕ) (m : Tag × Value) (n : ℕ) (all : Option ℕ) → i < length members → m ≡ get_or members i m
      → read (tree m.1) ≡ Some n → with_least least (blocks_of read (elements (drop i members))) ≡ all
      → with_least (max n least) (blocks_of read (elements (drop (i + 1) members))) ≡ all
  least_next least members i m n all h same found here =
      let b : read (tree (get_or members i m).1) ≡ Some n = subst (λ (y : Tag × Value). read (tree y.1) ≡ Some n) same found in
      let e : blocks_of read (elements (drop i members)) ≡ (blocks_of read (elements (drop (i + 1) members)) >>= λ ns. Some (n ∷ ns)) = blocks_step read members i m h ∙ rw b refl in
      sym (with_least-next least n (blocks_of read (elements (drop (i + 1) members)))) ∙ sym (ap (with_least least) e) ∙ here

  -- one that is malformed makes all malformed
  pub least_bad : (least : ℕ) (members : List (Tag × Value)) (i : ℕ) (m : Tag × Value) (all : Option ℕ) → i < length members → m ≡ get_or members i m
      → read (tree m.1) ≡ None → with_least least (blocks_of read (elements (drop i members))) ≡ all → all ≡ None
  least_bad least members i m all h same bad here =
      let b : read (tree (get_or members i m).1) ≡ None = subst (λ (y : Tag × Value). read (tree y.1) ≡ None) same bad in
      let e : blocks_of read (elements (drop i members)) ≡ None = blocks_step read members i m h ∙ rw b refl in
      sym here ∙ ap (with_least least) e

  -- behind the last one all were read
  pub least_end : (least : ℕ) (members : List (Tag × Value)) (i : ℕ) (all : Option ℕ) → length members ≤ i
      → with_least least (blocks_of read (elements (drop i members))) ≡ all → all ≡ Some least
  unfolding blocks_of
  least_end least members i all h here = let e : max least 0 ≡ least = omega arith in sym here ∙ rw (drop_all i members h) (ap Some e)

-- what malformed event filters give
pub minimum_bad : (n : ℕ) (all : Option (List ℕ)) → option_map greatest all ≡ None → minimum_of (form n all) ≡ Err (Form n)
minimum_bad n None h = refl
minimum_bad n (Some ns) h = cc

-- what event filters give
pub minimum_found : (n : ℕ) (all : Option (List ℕ)) (least : ℕ) → option_map greatest all ≡ Some least → minimum_of (form n all) ≡ Ok least
minimum_found n None least h = cc
minimum_found n (Some ns) least h = cc
