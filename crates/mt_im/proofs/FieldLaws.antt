-- What is read from a field is what the field holds, and what it holds is read.
use Rattle.std.proofs.Common.{◌≡◌, ◌≢◌, ◌∙◌, sym, subst, ap, ℕ, ◌^◌, ◌<◌, nat_lt, Bool, true, false, List, [], ◌∷◌, Option, Some, None, inl, inr, refl, if◌then◌else◌}
use Rattle.std.proofs.lemmas.Bool.{eqb-true, eq-eqb, ltb-true, lt-ltb}
use Rattle.mt_tlv.specs.Scalars.{truth_in, unsigned_in}
use Rattle.mt_tlv.specs.declared.value.Tag.{Tag}
use Rattle.mt_tlv.specs.declared.value.Tag.TheVariants.{Anonymous, Context, Common, Implicit, Full}
use Rattle.mt_tlv.specs.Tree.{Tree, uint, bool, structure, array, list, Elements, none, more}
use Rattle.mt_im.specs.Blocks.{◌>>=◌, number_in, list_in, array_in, required_at, number_at, optional_number_in, optional_number_at, optional_truth_in, optional_truth_at, not_true, blocks_of, blocks_in, optional_blocks_in, optional_blocks_at}
use Rattle.mt_model.specs.Trees.{is_context, field_in, structure_in}
use Rattle.mt_im.specs.Fields.{HasNo, HasField, HasNumber, MayHaveNumber, HasTruth, MayHaveTruth, AreBlocks, HasBlocks, MayHaveBlocks}

-- what a chain that gives something has read on the way
pub bind_some : {A B : Type 0} (o : Option A) (f : A → Option B) (y : B) → (o >>= f) ≡ Some y → (x : A) × (o ≡ Some x) × (f x ≡ Some y)
bind_some None f y h = absurd cc
bind_some (Some x) f y h = (x, refl, h)

-- ---- tags

context_true : (n : ℕ) (tag : Tag) → is_context n tag ≡ true → tag ≡ Context n
context_true n Anonymous h = absurd cc
context_true n (Context k) h = ap Context (eqb-true k n h)
context_true n (Common k) h = absurd cc
context_true n (Implicit k) h = absurd cc
context_true n (Full v p k) h = absurd cc

context_is : (n : ℕ) (tag : Tag) → tag ≡ Context n → is_context n tag ≡ true
context_is n tag e = subst (λ (t : Tag). is_context n t ≡ true) (sym e) (eq-eqb n n refl)

context_false : (n : ℕ) (tag : Tag) → is_context n tag ≡ false → tag ≢ Context n
context_false n tag h e = let t : is_context n tag ≡ true = context_is n tag e in cc

not_context : (n : ℕ) (tag : Tag) (b : Bool) → is_context n tag ≡ b → tag ≢ Context n → is_context n tag ≡ false
not_context n tag true h other = absurd (other (context_true n tag h))
not_context n tag false h other = h

-- ---- the first field of a number

found_step : (n : ℕ) (tag : Tag) (w : Tree) (es : Elements) (v : Tree) (b : Bool) → is_context n tag ≡ b → (if b then Some w else field_in n es) ≡ Some v
    → (field_in n es ≡ Some v → HasField n v es) → HasField n v (more tag w es)
found_step n tag w es v true e h rest = inl (context_true n tag e, cc)
found_step n tag w es v false e h rest = inr (context_false n tag e, rest h)

pub field_found : (n : ℕ) (es : Elements) (v : Tree) → field_in n es ≡ Some v → HasField n v es
field_found n none v h = cc
field_found n (more tag w es) v h = found_step n tag w es v (is_context n tag) refl h (field_found n es v)

missing_step : (n : ℕ) (tag : Tag) (w : Tree) (es : Elements) (b : Bool) → is_context n tag ≡ b → (if b then Some w else field_in n es) ≡ None
    → (field_in n es ≡ None → HasNo n es) → HasNo n (more tag w es)
missing_step n tag w es true e h rest = absurd cc
missing_step n tag w es false e h rest = (context_false n tag e, rest h)

pub field_missing : (n : ℕ) (es : Elements) → field_in n es ≡ None → HasNo n es
field_missing n none h = tt
field_missing n (more tag w es) h = missing_step n tag w es (is_context n tag) refl h (field_missing n es)

pub field_only : (n : ℕ) (es : Elements) (v : Tree) → HasField n v es → field_in n es ≡ Some v
field_only n none v h = absurd h
field_only n (more tag w es) v (inl p) = rw (context_is n tag p.0) (ap Some p.1)
field_only n (more tag w es) v (inr p) = rw (not_context n tag (is_context n tag) refl p.0) (field_only n es v p.1)

pub field_none : (n : ℕ) (es : Elements) → HasNo n es → field_in n es ≡ None
field_none n none h = refl
field_none n (more tag w es) h = rw (not_context n tag (is_context n tag) refl h.0) (field_none n es h.1)

-- ---- values

bounded : (bits n k : ℕ) (b : Bool) → nat_lt n (2 ^ bits) ≡ b → (if b then Some n else None) ≡ Some k → (n ≡ k) × (k < 2 ^ bits)
bounded bits n k true e h = let same : n ≡ k = cc in (same, subst (λ (m : ℕ). m < 2 ^ bits) same (ltb-true n (2 ^ bits) e))
bounded bits n k false e h = absurd cc

pub number_found : (bits : ℕ) (v : Tree) (k : ℕ) → number_in bits v ≡ Some k → (v ≡ uint k) × (k < 2 ^ bits)
number_found bits (uint n) k h = let p = bounded bits n k (nat_lt n (2 ^ bits)) refl h in (ap uint p.0, p.1)
number_found bits v k h = absurd cc

pub number_only : (bits k : ℕ) → k < 2 ^ bits → number_in bits (uint k) ≡ Some k
number_only bits k h = rw (lt-ltb k (2 ^ bits) h) refl

pub unsigned_found : (v : Tree) (k : ℕ) → unsigned_in v ≡ Some k → v ≡ uint k
unsigned_found (uint n) k h = cc
unsigned_found v k h = absurd cc

pub truth_found : (v : Tree) (b : Bool) → truth_in v ≡ Some b → v ≡ bool b
truth_found (bool c) b h = cc
truth_found v b h = absurd cc

pub structure_found : (v : Tree) (es : Elements) → structure_in v ≡ Some es → v ≡ structure es
structure_found (structure fs) es h = cc
structure_found v es h = absurd cc

pub list_found : (v : Tree) (es : Elements) → list_in v ≡ Some es → v ≡ list es
list_found (list fs) es h = cc
list_found v es h = absurd cc

pub array_found : (v : Tree) (es : Elements) → array_in v ≡ Some es → v ≡ array es
array_found (array fs) es h = cc
array_found v es h = absurd cc

-- ---- fields that must be there

-- A reader and a relation tell of the same trees.
pub record Ties {X : Type 0} (read : Tree → Option X) (Spells : X → Tree → Type 0) : Type 0 where
  pub found : (v : Tree) (x : X) → read v ≡ Some x → Spells x v
  pub only : (v : Tree) (x : X) → Spells x v → read v ≡ Some x

pub required_found : {X : Type 0} (read : Tree → Option X) (n : ℕ) (es : Elements) (x : X) → required_at read n es ≡ Some x → (v : Tree) × HasField n v es × (read v ≡ Some x)
required_found read n es x h = let p = bind_some (field_in n es) read x h in (p.0, field_found n es p.0 p.1, p.2)

pub required_only : {X : Type 0} (read : Tree → Option X) (n : ℕ) (es : Elements) (v : Tree) → HasField n v es → required_at read n es ≡ read v
required_only read n es v h = rw (field_only n es v h) refl

pub has_number : (bits n : ℕ) (es : Elements) (k : ℕ) → required_at (number_in bits) n es ≡ Some k → HasNumber bits n k es
has_number bits n es k h =
    let p = required_found (number_in bits) n es k h in
    let q = number_found bits p.0 k p.2 in
    (subst (λ (v : Tree). HasField n v es) q.0 p.1, q.1)

pub number_read : (bits n : ℕ) (es : Elements) (k : ℕ) → HasNumber bits n k es → required_at (number_in bits) n es ≡ Some k
number_read bits n es k h = required_only (number_in bits) n es (uint k) h.0 ∙ number_only bits k h.1

pub has_number_at : (bits n : ℕ) (es : Elements) (k : ℕ) → number_at bits n es ≡ Some k → HasNumber bits n k es
unfolding number_at
has_number_at bits n es k h = has_number bits n es k h

pub number_read_at : (bits n : ℕ) (es : Elements) (k : ℕ) → HasNumber bits n k es → number_at bits n es ≡ Some k
unfolding number_at
number_read_at bits n es k h = number_read bits n es k h

pub has_unsigned : (n : ℕ) (es : Elements) (k : ℕ) → required_at unsigned_in n es ≡ Some k → HasField n (uint k) es
has_unsigned n es k h = let p = required_found unsigned_in n es k h in subst (λ (v : Tree). HasField n v es) (unsigned_found p.0 k p.2) p.1

pub has_truth : (n : ℕ) (es : Elements) (b : Bool) → required_at truth_in n es ≡ Some b → HasTruth n b es
has_truth n es b h = let p = required_found truth_in n es b h in subst (λ (v : Tree). HasField n v es) (truth_found p.0 b p.2) p.1

-- ---- fields that may be missing

may_have_step : (bits n : ℕ) (es : Elements) (o : Option ℕ) (there : Option Tree) → field_in n es ≡ there → optional_number_in bits there ≡ Some o → MayHaveNumber bits n o es
may_have_step bits n es None None e h = field_missing n es e
may_have_step bits n es (Some k) None e h = absurd cc
may_have_step bits n es o (Some v) e h =
    let p = bind_some (number_in bits v) (λ k. Some (Some k)) o h in
    let q = number_found bits v p.0 p.1 in
    let same : Some p.0 ≡ o = cc in
    subst (λ (x : Option ℕ). MayHaveNumber bits n x es) same (field_found n es (uint p.0) (e ∙ ap Some q.0), q.1)

pub may_have_number : (bits n : ℕ) (es : Elements) (o : Option ℕ) → optional_number_at bits n es ≡ Some o → MayHaveNumber bits n o es
unfolding optional_number_at
may_have_number bits n es o h = may_have_step bits n es o (field_in n es) refl h

pub optional_number_read : (bits n : ℕ) (es : Elements) (o : Option ℕ) → MayHaveNumber bits n o es → optional_number_at bits n es ≡ Some o
unfolding optional_number_at
optional_number_read bits n es None h = rw (field_none n es h) refl
optional_number_read bits n es (Some k) h = rw (field_only n es (uint k) h.0, number_only bits k h.1) refl

may_be_step : (n : ℕ) (es : Elements) (b : Bool) (there : Option Tree) → field_in n es ≡ there → optional_truth_in there ≡ Some b → MayHaveTruth n b es
may_be_step n es true None e h = absurd cc
may_be_step n es false None e h = inr (field_missing n es e)
may_be_step n es true (Some v) e h = field_found n es (bool true) (e ∙ ap Some (truth_found v true h))
may_be_step n es false (Some v) e h = inl (field_found n es (bool false) (e ∙ ap Some (truth_found v false h)))

pub may_have_truth : (n : ℕ) (es : Elements) (b : Bool) → optional_truth_at n es ≡ Some b → MayHaveTruth n b es
unfolding optional_truth_at
may_have_truth n es b h = may_be_step n es b (field_in n es) refl h

pub optional_truth_read : (n : ℕ) (es : Elements) (b : Bool) → MayHaveTruth n b es → optional_truth_at n es ≡ Some b
unfolding optional_truth_at
optional_truth_read n es true h = rw (field_only n es (bool true) h) refl
optional_truth_read n es false (inl h) = rw (field_only n es (bool false) h) refl
optional_truth_read n es false (inr h) = rw (field_none n es h) refl

pub not_true_found : (o : Option Bool) (u : Unit {0}) → not_true o ≡ Some u → o ≡ Some false
not_true_found None u h = absurd cc
not_true_found (Some true) u h = absurd cc
not_true_found (Some false) u h = refl

pub must_be_false : (n : ℕ) (es : Elements) (u : Unit {0}) → not_true (optional_truth_at n es) ≡ Some u → MayHaveTruth n false es
must_be_false n es u h = may_have_truth n es false (not_true_found (optional_truth_at n es) u h)

pub false_read : (n : ℕ) (es : Elements) → MayHaveTruth n false es → not_true (optional_truth_at n es) ≡ Some tt
false_read n es h = rw (optional_truth_read n es false h) refl

-- ---- arrays of blocks

module _ {X : Type 0} (read : Tree → Option X) (Spells : X → Tree → Type 0) (ties : Ties read Spells) where
  pub are_blocks : (es : Elements) (xs : List X) → blocks_of read es ≡ Some xs → AreBlocks Spells xs es
  unfolding blocks_of
  are_blocks none [] h = tt
  are_blocks none (x ∷ xs) h = absurd cc
  are_blocks (more tag v es) xs h =
      let p = bind_some (read v) (λ x. blocks_of read es >>= λ ys. Some (x ∷ ys)) xs h in
      let q = bind_some (blocks_of read es) (λ ys. Some (p.0 ∷ ys)) xs p.2 in
      let same : p.0 ∷ q.0 ≡ xs = cc in
      subst (λ (ys : List X). AreBlocks Spells ys (more tag v es)) same (ties.found v p.0 p.1, are_blocks es q.0 q.1)

  pub blocks_read : (es : Elements) (xs : List X) → AreBlocks Spells xs es → blocks_of read es ≡ Some xs
  unfolding blocks_of
  blocks_read none [] h = refl
  blocks_read none (x ∷ xs) h = absurd h
  blocks_read (more tag v es) [] h = absurd h
  blocks_read (more tag v es) (x ∷ xs) h = rw (ties.only v x h.0, blocks_read es xs h.1) refl

  has_array : (n : ℕ) (es : Elements) (xs : List X) (v : Tree) → field_in n es ≡ Some v → blocks_in read v ≡ Some xs → HasBlocks n Spells xs es
  has_array n es xs v e h =
      let p = bind_some (array_in v) (blocks_of read) xs h in
      (p.0, field_found n es (array p.0) (e ∙ ap Some (array_found v p.0 p.1)), are_blocks p.0 xs p.2)

  pub has_blocks : (n : ℕ) (es : Elements) (xs : List X) → required_at (blocks_in read) n es ≡ Some xs → HasBlocks n Spells xs es
  has_blocks n es xs h = let p = bind_some (field_in n es) (blocks_in read) xs h in has_array n es xs p.0 p.1 p.2

  pub required_blocks_read : (n : ℕ) (es : Elements) (xs : List X) → HasBlocks n Spells xs es → required_at (blocks_in read) n es ≡ Some xs
  required_blocks_read n es xs h = required_only (blocks_in read) n es (array h.0) h.1 ∙ blocks_read h.0 xs h.2

  may_have_array : (n : ℕ) (es : Elements) (xs : List X) (there : Option Tree) → field_in n es ≡ there → optional_blocks_in read there ≡ Some xs → MayHaveBlocks n Spells xs es
  may_have_array n es xs None e h = inr (field_missing n es e, cc)
  may_have_array n es xs (Some v) e h = inl (has_array n es xs v e h)

  pub may_have_blocks : (n : ℕ) (es : Elements) (xs : List X) → optional_blocks_at read n es ≡ Some xs → MayHaveBlocks n Spells xs es
  may_have_blocks n es xs h = may_have_array n es xs (field_in n es) refl h

  pub optional_blocks_read : (n : ℕ) (es : Elements) (xs : List X) → MayHaveBlocks n Spells xs es → optional_blocks_at read n es ≡ Some xs
  optional_blocks_read n es xs (inl h) = rw (field_only n es (array h.0) h.1) (blocks_read h.0 xs h.2)
  optional_blocks_read n es xs (inr h) = rw (field_none n es h.0) (ap Some (sym h.1))
