-- The tree that a value stands for: what it is, and nothing of where it lies in memory.
use Rattle.std.specs.Prelude.{◌≡◌, ℕ, zero, suc, ◌+◌, ℤ, pos, negsuc, Bool, true, false, List, [], ◌∷◌, refl}
use Rattle.std.proofs.Common.{ap}
use Rattle.std.specs.Coded.{Coded, code_by}
use base.Stored.{Gv, gnil, gnum, gcons, num}
use denote.Struct.Codes.{itself}
use Rattle.mt_tlv.specs.declared.value.Tag.{Tag}
use Rattle.mt_tlv.specs.declared.value.Tag.TheVariants.{Anonymous, Context, Common, Implicit, Full}

mutual
  pub data Tree : Type 0 where
    int : ℤ → Tree
    uint : ℕ → Tree
    bool : Bool → Tree
    text : List ℕ → Tree
    octets : List ℕ → Tree
    null : Tree
    bits32 : ℕ → Tree
    bits64 : ℕ → Tree
    structure : Elements → Tree
    array : Elements → Tree
    list : Elements → Tree

  -- the members of a container, in their order
  pub data Elements : Type 0 where
    none : Elements
    more : Tag → Tree → Elements → Elements

-- how many elements there are inside, each container among them counted once more
abbrev mutual
  pub tree_size : Tree → ℕ
  tree_size (int z) = 0
  tree_size (uint n) = 0
  tree_size (bool b) = 0
  tree_size (text s) = 0
  tree_size (octets s) = 0
  tree_size null = 0
  tree_size (bits32 n) = 0
  tree_size (bits64 n) = 0
  tree_size (structure es) = suc (elements_size es)
  tree_size (array es) = suc (elements_size es)
  tree_size (list es) = suc (elements_size es)

  pub elements_size : Elements → ℕ
  elements_size none = 0
  elements_size (more t v es) = suc (tree_size v + elements_size es)

-- A tree as a tree of numbers, and back.
abbrev tag_to : Tag → Gv
tag_to Anonymous = gnil
tag_to (Context n) = gnum n
tag_to (Common n) = gcons gnil (gnum n)
tag_to (Implicit n) = gcons (gnum 0) (gnum n)
tag_to (Full v p n) = gcons (gcons (gnum v) (gnum p)) (gnum n)

abbrev tag_from : Gv → Tag
tag_from gnil = Anonymous
tag_from (gnum n) = Context n
tag_from (gcons gnil g) = Common (num g)
tag_from (gcons (gnum k) g) = Implicit (num g)
tag_from (gcons (gcons v p) g) = Full (num v) (num p) (num g)

tag_back : (t : Tag) → tag_from (tag_to t) ≡ t
tag_back Anonymous = refl
tag_back (Context n) = refl
tag_back (Common n) = refl
tag_back (Implicit n) = refl
tag_back (Full v p n) = refl

abbrev int_to : ℤ → Gv
int_to (pos n) = gnum n
int_to (negsuc n) = gcons (gnum n) gnil

abbrev int_from : Gv → ℤ
int_from gnil = pos 0
int_from (gnum n) = pos n
int_from (gcons a b) = negsuc (num a)

int_back : (z : ℤ) → int_from (int_to z) ≡ z
int_back (pos n) = refl
int_back (negsuc n) = refl

abbrev bool_from : Gv → Bool
bool_from gnil = false
bool_from (gnum n) = true
bool_from (gcons a b) = true

abbrev bytes_to : List ℕ → Gv
bytes_to [] = gnil
bytes_to (b ∷ bs) = gcons (gnum b) (bytes_to bs)

abbrev bytes_from : Gv → List ℕ
bytes_from gnil = []
bytes_from (gnum n) = []
bytes_from (gcons a b) = num a ∷ bytes_from b

bytes_back : (bs : List ℕ) → bytes_from (bytes_to bs) ≡ bs
bytes_back [] = refl
bytes_back (b ∷ bs) = ap (λ x. b ∷ x) (bytes_back bs)

abbrev mutual
  tree_to : Tree → Gv
  tree_to (int z) = gcons (gnum 0) (int_to z)
  tree_to (uint n) = gcons (gnum 1) (gnum n)
  tree_to (bool false) = gcons (gnum 2) gnil
  tree_to (bool true) = gcons (gnum 2) (gnum 1)
  tree_to (text s) = gcons (gnum 3) (bytes_to s)
  tree_to (octets s) = gcons (gnum 4) (bytes_to s)
  tree_to null = gnil
  tree_to (bits32 n) = gcons (gnum 5) (gnum n)
  tree_to (bits64 n) = gcons (gnum 6) (gnum n)
  tree_to (structure es) = gcons (gnum 7) (elements_to es)
  tree_to (array es) = gcons (gnum 8) (elements_to es)
  tree_to (list es) = gcons (gnum 9) (elements_to es)

  elements_to : Elements → Gv
  elements_to none = gnil
  elements_to (more t v es) = gcons (tag_to t) (gcons (tree_to v) (elements_to es))

-- the tree of this kind, from what stands behind its kind: read as a leaf, and as members
abbrev tree_of_kind : ℕ → Gv → Elements → Tree
tree_of_kind zero g es = int (int_from g)
tree_of_kind (suc zero) g es = uint (num g)
tree_of_kind (suc (suc zero)) g es = bool (bool_from g)
tree_of_kind (suc (suc (suc zero))) g es = text (bytes_from g)
tree_of_kind (suc (suc (suc (suc zero)))) g es = octets (bytes_from g)
tree_of_kind (suc (suc (suc (suc (suc zero))))) g es = bits32 (num g)
tree_of_kind (suc (suc (suc (suc (suc (suc zero)))))) g es = bits64 (num g)
tree_of_kind (suc (suc (suc (suc (suc (suc (suc zero))))))) g es = structure es
tree_of_kind (suc (suc (suc (suc (suc (suc (suc (suc zero)))))))) g es = array es
tree_of_kind (suc (suc (suc (suc (suc (suc (suc (suc (suc k))))))))) g es = list es

abbrev mutual
  tree_from : Gv → Tree
  tree_from gnil = null
  tree_from (gnum n) = null
  tree_from (gcons kind g) = tree_of_kind (num kind) g (elements_from g)

  elements_from : Gv → Elements
  elements_from gnil = none
  elements_from (gnum n) = none
  elements_from (gcons tag gnil) = none
  elements_from (gcons tag (gnum n)) = none
  elements_from (gcons tag (gcons tree g)) = more (tag_from tag) (tree_from tree) (elements_from g)

mutual
  pub tree_back : (v : Tree) → tree_from (tree_to v) ≡ v
  tree_back (int z) = ap int (int_back z)
  tree_back (uint n) = refl
  tree_back (bool false) = refl
  tree_back (bool true) = refl
  tree_back (text s) = ap text (bytes_back s)
  tree_back (octets s) = ap octets (bytes_back s)
  tree_back null = refl
  tree_back (bits32 n) = refl
  tree_back (bits64 n) = refl
  tree_back (structure es) = ap structure (elements_back es)
  tree_back (array es) = ap array (elements_back es)
  tree_back (list es) = ap list (elements_back es)

  pub elements_back : (es : Elements) → elements_from (elements_to es) ≡ es
  elements_back none = refl
  elements_back (more t v es) = λ i. more (tag_back t i) (tree_back v i) (elements_back es i)

abbrev pub tree_code : Coded Tree
tree_code = code_by Gv itself tree_to tree_from tree_back

abbrev pub elements_code : Coded Elements
elements_code = code_by Gv itself elements_to elements_from elements_back
