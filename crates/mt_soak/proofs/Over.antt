-- A scan over the parts of an element tells of the numbers to which the path leads.
use Rattle.std.proofs.Common.{◌≡◌, ℕ, zero, suc, ◌+◌, ◌-◌, Bool, true, false, ◌==◌, ◌&&◌, List, [], ◌∷◌, ◌++◌, Option, Some, None, drop, refl, ap, sym, ◌∙◌, append_assoc, append-nil, arith}
use Rattle.std.specs.Prelude.{is_none, option_to_list, slice_get, if◌then◌else◌}
use Rattle.mt_tlv.specs.declared.value.Tag.{Tag}
use Rattle.mt_tlv.specs.Tree.{Tree, int, uint, bool, text, octets, null, bits32, bits64, structure, array, list, Elements, none, more}
use Rattle.mt_tlv.specs.Parts.{Piece, scalar, enter, leave}
use Rattle.mt_tlv.specs.Runs.{parts_of, parts_inside}
use Rattle.mt_soak.specs.declared.codes.paths.Step.{Step}
use Rattle.mt_soak.specs.declared.codes.place.At.{At}
use Rattle.mt_soak.specs.Codes.{picks, is_of_structure, number_behind, codes_at, codes_among}
use Rattle.mt_soak.specs.Scan.{all_told, is_on_path}

abbrev at : ℕ → ℕ → At
at k p = record { on_path = k; passed_over = p }

suc_less_one : (n : ℕ) → suc n - 1 ≡ n
suc_less_one n = omega arith

plus_one : (n : ℕ) → n + 1 ≡ suc n
plus_one n = omega arith

suc_not_zero : (n : ℕ) → (suc n == 0) ≡ false
suc_not_zero n = grind arith

-- the steps that are left of a path
none_left : (path : List Step) (k : ℕ) → drop k path ≡ [] → slice_get path k ≡ None
none_left [] k e = refl
none_left (step ∷ path) zero e = cc
none_left (step ∷ path) (suc k) e = none_left path k e

one_left : (path : List Step) (k : ℕ) (step : Step) (steps : List Step) → drop k path ≡ step ∷ steps → (slice_get path k ≡ Some step) × (drop (suc k) path ≡ steps)
one_left [] zero step steps e = cc
one_left [] (suc k) step steps e = cc
one_left (first ∷ path) zero step steps e = (cc, cc)
one_left (first ∷ path) (suc k) step steps e = one_left path k step steps e

module _ (path : List Step) (k : ℕ) where
  at_leave : (p : ℕ) (ys : List Piece) → all_told path (at k (suc p)) (leave ∷ ys) ≡ all_told path (at k p) ys
  at_leave p ys = rw (suc_not_zero p, suc_less_one p) refl

  at_enter : (p : ℕ) (tag : Tag) (type : ℕ) (ys : List Piece) → all_told path (at k (suc p)) (enter tag type ∷ ys) ≡ all_told path (at k (suc p + 1)) ys
  at_enter p tag type ys = rw (suc_not_zero p) refl

  at_number : (p : ℕ) (tag : Tag) (n : ℕ) (ys : List Piece) → all_told path (at k (suc p)) (scalar tag (uint n) ∷ ys) ≡ all_told path (at k (suc p)) ys
  at_number p tag n ys = rw (suc_not_zero p) refl

  -- out of a container that is passed over
  around : (p : ℕ) (es : Elements) (ys : List Piece)
      → all_told path (at k (suc p)) (parts_inside es ++ leave ∷ ys) ≡ all_told path (at k (suc p)) (leave ∷ ys)
      → all_told path (at k (p + 1)) ((parts_inside es ++ leave ∷ []) ++ ys) ≡ all_told path (at k p) ys
  around p es ys inner =
      ap (λ n. all_told path (at k n) ((parts_inside es ++ leave ∷ []) ++ ys)) (plus_one p)
      ∙ ap (all_told path (at k (suc p))) (append_assoc (parts_inside es) (leave ∷ []) ys)
      ∙ inner
      ∙ at_leave p ys

  -- A scan tells of nothing in a container that is passed over.
  mutual
    over : (v : Tree) (p : ℕ) (tag : Tag) (ys : List Piece) → all_told path (at k (suc p)) (parts_of tag v ++ ys) ≡ all_told path (at k (suc p)) ys
    over (int z) p tag ys = refl
    over (uint n) p tag ys = at_number p tag n ys
    over (bool b) p tag ys = refl
    over (text s) p tag ys = refl
    over (octets s) p tag ys = refl
    over null p tag ys = refl
    over (bits32 n) p tag ys = refl
    over (bits64 n) p tag ys = refl
    over (structure es) p tag ys = at_enter p tag 21 ((parts_inside es ++ leave ∷ []) ++ ys) ∙ around (suc p) es ys (over_inside es (suc p) (leave ∷ ys))
    over (array es) p tag ys = at_enter p tag 22 ((parts_inside es ++ leave ∷ []) ++ ys) ∙ around (suc p) es ys (over_inside es (suc p) (leave ∷ ys))
    over (list es) p tag ys = at_enter p tag 23 ((parts_inside es ++ leave ∷ []) ++ ys) ∙ around (suc p) es ys (over_inside es (suc p) (leave ∷ ys))

    over_inside : (es : Elements) (p : ℕ) (ys : List Piece) → all_told path (at k (suc p)) (parts_inside es ++ ys) ≡ all_told path (at k (suc p)) ys
    over_inside none p ys = refl
    over_inside (more tag v es) p ys =
        ap (all_told path (at k (suc p))) (append_assoc (parts_of tag v) (parts_inside es) ys)
        ∙ over v p tag (parts_inside es ++ ys)
        ∙ over_inside es p ys

  passed : (es : Elements) (ys : List Piece) → all_told path (at k (0 + 1)) ((parts_inside es ++ leave ∷ []) ++ ys) ≡ all_told path (at k 0) ys
  passed es ys = around 0 es ys (over_inside es 0 (leave ∷ ys))

quiet : (b : Bool) (ns : List ℕ) → ns ≡ (if b then [] else []) ++ ns
quiet true ns = refl
quiet false ns = refl

number_told : (steps : List Step) (o : Option Step) (b : Bool) (n : ℕ) (ns : List ℕ) → (steps ≡ [] → o ≡ None) → ((step : Step) (rest : List Step) → steps ≡ step ∷ rest → o ≡ Some step)
    → option_to_list (if is_none o && b then Some n else None) ++ ns ≡ (if b then number_behind n steps else []) ++ ns
number_told [] o true n ns e f = rw (e refl) refl
number_told [] o false n ns e f = rw (e refl) refl
number_told (step ∷ steps) o true n ns e f = rw (f step steps refl) refl
number_told (step ∷ steps) o false n ns e f = rw (f step steps refl) refl

pick : Bool → List ℕ → List ℕ
pick b codes = if b then codes else []

-- into a structure, an array and a list, whose next step goes to members of structures or not
into_structure : (ends : ℕ → ℕ → List ℕ) (k : ℕ) (s b : Bool) (codes rest : List ℕ) → ends (k + 1) 0 ≡ codes ++ rest → ends k (0 + 1) ≡ rest
    → (let at' : At = if (if s then true else false) && b then at (k + 1) 0 else at k (0 + 1) in ends at'.on_path at'.passed_over) ≡ (if b then if s then codes else [] else []) ++ rest
into_structure ends k true true codes rest e f = e
into_structure ends k true false codes rest e f = f
into_structure ends k false true codes rest e f = f
into_structure ends k false false codes rest e f = f

into_array : (ends : ℕ → ℕ → List ℕ) (k : ℕ) (s b : Bool) (codes rest : List ℕ) → ends (k + 1) 0 ≡ codes ++ rest → ends k (0 + 1) ≡ rest
    → (let at' : At = if (if s then false else true) && b then at (k + 1) 0 else at k (0 + 1) in ends at'.on_path at'.passed_over) ≡ (if b then if s then [] else codes else []) ++ rest
into_array ends k true true codes rest e f = f
into_array ends k true false codes rest e f = f
into_array ends k false true codes rest e f = e
into_array ends k false false codes rest e f = f

into_list : (ends : ℕ → ℕ → List ℕ) (k : ℕ) (s b : Bool) (rest : List ℕ) → ends k (0 + 1) ≡ rest
    → (let at' : At = if (if s then false else false) && b then at (k + 1) 0 else at k (0 + 1) in ends at'.on_path at'.passed_over) ≡ (if b then [] else []) ++ rest
into_list ends k true true rest f = f
into_list ends k true false rest f = f
into_list ends k false true rest f = f
into_list ends k false false rest f = f

module _ (path : List Step) where
  abbrev ends_in : List Piece → ℕ → ℕ → List ℕ
  ends_in zs k p = all_told path (at k p) zs

  abbrev Inner : ℕ → Elements → List Piece → Type 0
  Inner k es ys = (step : Step) (steps : List Step) → slice_get path k ≡ Some step → drop (suc k) path ≡ steps
      → all_told path (at (suc k) 0) (parts_inside es ++ leave ∷ ys) ≡ codes_among es step steps ++ all_told path (at (suc k) 0) (leave ∷ ys)

  out : (k : ℕ) (es : Elements) (ys : List Piece) (codes : List ℕ) → all_told path (at (suc k) 0) (parts_inside es ++ leave ∷ ys) ≡ codes ++ all_told path (at (suc k) 0) (leave ∷ ys)
      → all_told path (at (k + 1) 0) ((parts_inside es ++ leave ∷ []) ++ ys) ≡ codes ++ all_told path (at k 0) ys
  out k es ys codes inner =
      ap (λ n. all_told path (at n 0) ((parts_inside es ++ leave ∷ []) ++ ys)) (plus_one k)
      ∙ ap (all_told path (at (suc k) 0)) (append_assoc (parts_inside es) (leave ∷ []) ys)
      ∙ inner
      ∙ ap (λ n. codes ++ all_told path (at n 0) ys) (suc_less_one k)

  structure_told : (k : ℕ) (steps : List Step) → drop k path ≡ steps → (tag : Tag) (es : Elements) (ys : List Piece) → Inner k es ys
      → all_told path (at k 0) (parts_of tag (structure es) ++ ys) ≡ (if is_on_path path k tag then codes_at (structure es) steps else []) ++ all_told path (at k 0) ys
  structure_told k [] e tag es ys inner = let n = none_left path k e in rw n (passed path k es ys ∙ quiet (is_on_path path k tag) (all_told path (at k 0) ys))
  structure_told k (step ∷ steps) e tag es ys inner =
      let o = one_left path k step steps e in
      let n : slice_get path k ≡ Some step = o.0 in
      rw n (into_structure (ends_in ((parts_inside es ++ leave ∷ []) ++ ys)) k (is_of_structure step) (is_on_path path k tag) (codes_among es step steps) (all_told path (at k 0) ys)
      (out k es ys (codes_among es step steps) (inner step steps o.0 o.1)) (passed path k es ys))

  array_told : (k : ℕ) (steps : List Step) → drop k path ≡ steps → (tag : Tag) (es : Elements) (ys : List Piece) → Inner k es ys
      → all_told path (at k 0) (parts_of tag (array es) ++ ys) ≡ (if is_on_path path k tag then codes_at (array es) steps else []) ++ all_told path (at k 0) ys
  array_told k [] e tag es ys inner = let n = none_left path k e in rw n (passed path k es ys ∙ quiet (is_on_path path k tag) (all_told path (at k 0) ys))
  array_told k (step ∷ steps) e tag es ys inner =
      let o = one_left path k step steps e in
      let n : slice_get path k ≡ Some step = o.0 in
      rw n (into_array (ends_in ((parts_inside es ++ leave ∷ []) ++ ys)) k (is_of_structure step) (is_on_path path k tag) (codes_among es step steps) (all_told path (at k 0) ys)
      (out k es ys (codes_among es step steps) (inner step steps o.0 o.1)) (passed path k es ys))

  list_told : (k : ℕ) (steps : List Step) → drop k path ≡ steps → (tag : Tag) (es : Elements) (ys : List Piece)
      → all_told path (at k 0) (parts_of tag (list es) ++ ys) ≡ (if is_on_path path k tag then codes_at (list es) steps else []) ++ all_told path (at k 0) ys
  list_told k [] e tag es ys = let n = none_left path k e in rw n (passed path k es ys ∙ quiet (is_on_path path k tag) (all_told path (at k 0) ys))
  list_told k (step ∷ steps) e tag es ys =
      let o = one_left path k step steps e in
      let n : slice_get path k ≡ Some step = o.0 in
      rw n (into_list (ends_in ((parts_inside es ++ leave ∷ []) ++ ys)) k (is_of_structure step) (is_on_path path k tag) (all_told path (at k 0) ys) (passed path k es ys))

  number_here : (n k : ℕ) (steps : List Step) → drop k path ≡ steps → (tag : Tag) (ys : List Piece)
      → all_told path (at k 0) (parts_of tag (uint n) ++ ys) ≡ (if is_on_path path k tag then codes_at (uint n) steps else []) ++ all_told path (at k 0) ys
  number_here n k steps e tag ys = number_told steps (slice_get path k) (is_on_path path k tag) n (all_told path (at k 0) ys)
      (λ f. none_left path k (e ∙ f)) (λ step rest f. (one_left path k step rest (e ∙ f)).0)

  step_here : (k : ℕ) (step : Step) (tag : Tag) → slice_get path k ≡ Some step → is_on_path path (suc k) tag ≡ picks step tag
  step_here k step tag e = rw (suc_not_zero k, suc_less_one k, e) refl

  mutual
    told_of : (v : Tree) (k : ℕ) (steps : List Step) → drop k path ≡ steps → (tag : Tag) (ys : List Piece)
        → all_told path (at k 0) (parts_of tag v ++ ys) ≡ (if is_on_path path k tag then codes_at v steps else []) ++ all_told path (at k 0) ys
    told_of (int z) k steps e tag ys = quiet (is_on_path path k tag) (all_told path (at k 0) ys)
    told_of (uint n) k steps e tag ys = number_here n k steps e tag ys
    told_of (bool b) k steps e tag ys = quiet (is_on_path path k tag) (all_told path (at k 0) ys)
    told_of (text s) k steps e tag ys = quiet (is_on_path path k tag) (all_told path (at k 0) ys)
    told_of (octets s) k steps e tag ys = quiet (is_on_path path k tag) (all_told path (at k 0) ys)
    told_of null k steps e tag ys = quiet (is_on_path path k tag) (all_told path (at k 0) ys)
    told_of (bits32 n) k steps e tag ys = quiet (is_on_path path k tag) (all_told path (at k 0) ys)
    told_of (bits64 n) k steps e tag ys = quiet (is_on_path path k tag) (all_told path (at k 0) ys)
    told_of (structure es) k steps e tag ys = structure_told k steps e tag es ys (λ step rest g d. told_inside es k step rest g d (leave ∷ ys))
    told_of (array es) k steps e tag ys = array_told k steps e tag es ys (λ step rest g d. told_inside es k step rest g d (leave ∷ ys))
    told_of (list es) k steps e tag ys = list_told k steps e tag es ys

    told_inside : (es : Elements) (k : ℕ) (step : Step) (steps : List Step) → slice_get path k ≡ Some step → drop (suc k) path ≡ steps → (ys : List Piece)
        → all_told path (at (suc k) 0) (parts_inside es ++ ys) ≡ codes_among es step steps ++ all_told path (at (suc k) 0) ys
    told_inside none k step steps g d ys = refl
    told_inside (more tag v es) k step steps g d ys =
        ap (all_told path (at (suc k) 0)) (append_assoc (parts_of tag v) (parts_inside es) ys)
        ∙ told_of v (suc k) steps d tag (parts_inside es ++ ys)
        ∙ ap (λ b. (if b then codes_at v steps else []) ++ all_told path (at (suc k) 0) (parts_inside es ++ ys)) (step_here k step tag g)
        ∙ ap (λ ns. (if picks step tag then codes_at v steps else []) ++ ns) (told_inside es k step steps g d ys)
        ∙ sym (append_assoc (if picks step tag then codes_at v steps else []) (codes_among es step steps) (all_told path (at (suc k) 0) ys))

-- Over the parts of a whole element a scan tells of the numbers to which the path leads, in their order.
pub told_over : (path : List Step) (tag : Tag) (v : Tree) → all_told path (at 0 0) (parts_of tag v) ≡ codes_at v path
told_over path tag v =
    ap (all_told path (at 0 0)) (sym (append-nil (parts_of tag v)))
    ∙ told_of path v 0 path refl tag []
    ∙ append-nil (codes_at v path)
