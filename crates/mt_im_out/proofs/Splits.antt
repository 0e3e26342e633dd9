-- Which items are split.
use Rattle.std.proofs.Common.{◌≡◌, ℕ, ◌+◌, ◌<◌, ◌≤◌, Bool, true, false, [], ◌∷◌, ◌++◌, length, length-append, refl, ap, subst, ◌∙◌, if◌then◌else◌, arith}
use Rattle.std.specs.Prelude.{nat_le, ◌||◌}
use Rattle.std.specs.List.{flat_map}
use Rattle.std.proofs.lemmas.Bool.{le-leb}
use Rattle.std.proofs.lemmas.Bool.Decides.{nat_tests}
use Rattle.std.proofs.lemmas.List.{append-nil}
use Rattle.mt_tlv.specs.declared.value.Value.TheVariants as values
use Rattle.mt_tlv.specs.Tree.{Tree, Elements, none, more}
use Rattle.mt_tlv.specs.View.{tree, value_of}
use Rattle.mt_model.specs.messages.Blocks.{item_block}
use Rattle.mt_model.specs.declared.limits.TheConstants.{ITEM_BYTES}
use Rattle.mt_model.specs.declared.messages.message.Index.TheVariants.{Whole}
use Rattle.mt_model.specs.declared.messages.message.Item.{Item}
use Rattle.mt_model.specs.declared.messages.message.Item.TheVariants as items
use Rattle.mt_model.specs.declared.messages.message.Path.{Path}
use Rattle.mt_im_out.specs.Chunks.{fit, appended, split_list, split_item}
use Rattle.mt_im_out.specs.Packing.{Packed, blocks_payload, is_empty, joins, put_all}
use Rattle.mt_im_out.specs.Greedy.{trees, brought}

pub fit_alone : (x : Item) → fit (x ∷ []) ≡ nat_le (length (item_block x)) ITEM_BYTES
fit_alone x = ap (λ z. nat_le (length z) ITEM_BYTES) (append-nil (item_block x))

fits : (x : Item) → length (item_block x) ≤ ITEM_BYTES → fit (x ∷ []) ≡ true
fits x h = fit_alone x ∙ le-leb (length (item_block x)) ITEM_BYTES h

too_long : (n : ℕ) → ITEM_BYTES < n → nat_le n ITEM_BYTES ≡ false
too_long n h = grind (arith, nat_tests)

-- an item that is short enough stays
pub short_stays : (x : Item) → length (item_block x) ≤ ITEM_BYTES → split_item x ≡ x ∷ []
short_stays (items.Attribute path version (values.Array es)) h = ap (λ b. if b then items.Attribute path version (values.Array es) ∷ [] else items.Attribute path version (values.Array none) ∷ appended path version es) (fits (items.Attribute path version (values.Array es)) h)
short_stays (items.Attribute path version v) h = refl
short_stays x h = refl

or_true : (b : Bool) → b || true ≡ true
or_true true = refl
or_true false = refl

-- an item joins those of a payload with which it is short enough
abbrev pub AreShort : Packed → Item → Type 0
AreShort p x = length (p.begun ++ item_block x) ≤ ITEM_BYTES

joins_short : (p : Packed) (x : Item) → AreShort p x → joins p.begun (item_block x) ≡ true
joins_short p x h =
    let sum : length p.begun + length (item_block x) ≤ ITEM_BYTES = subst (λ n. n ≤ ITEM_BYTES) (length-append p.begun (item_block x)) h in
    ap (λ b. is_empty p.begun || b) (le-leb (length p.begun + length (item_block x)) ITEM_BYTES sum) ∙ or_true (is_empty p.begun)

pub joins_where_short : (p : Packed) (x : Item) → AreShort p x → put_all p (split_item x) ≡ record p { begun = p.begun ++ item_block x }
joins_where_short p x h =
    let sum : length p.begun + length (item_block x) ≤ ITEM_BYTES = subst (λ n. n ≤ ITEM_BYTES) (length-append p.begun (item_block x)) h in
    ap (λ xs. put_all p xs) (short_stays x (omega (arith, sum)))
    ∙ ap (λ b. if b then record p { begun = p.begun ++ item_block x } else record p { done = p.done ++ blocks_payload p.subscription p.begun [] true false ∷ []; begun = item_block x }) (joins_short p x h)

-- a list that is too long is split
pub long_splits : (path : Path) (version : ℕ) (es : Elements) → ITEM_BYTES < length (item_block (items.Attribute path version (values.Array es)))
    → split_item (items.Attribute path version (values.Array es)) ≡ items.Attribute path version (values.Array none) ∷ appended path version es
long_splits path version es h = ap (λ b. if b then items.Attribute path version (values.Array es) ∷ [] else items.Attribute path version (values.Array none) ∷ appended path version es)
    (fit_alone (items.Attribute path version (values.Array es)) ∙ too_long (length (item_block (items.Attribute path version (values.Array es)))) h)

-- What the items bring that stand for a list, by the law that the tree of a tree's value is the tree.
module _ (tree_value : (t : Tree) → tree (value_of t) ≡ t) where
  brought_by_appended : (path : Path) (version : ℕ) (elements : Elements) → flat_map brought (appended path version elements) ≡ trees elements
  brought_by_appended path version none = refl
  brought_by_appended path version (more tag element elements) = rw (tree_value element) (ap (λ ts. element ∷ ts) (brought_by_appended path version elements))

  pub brought_by_split : (path : Path) (version : ℕ) (elements : Elements) → path.index ≡ Whole → flat_map brought (split_list path version elements) ≡ trees elements
  brought_by_split path version elements e =
      elim (fit (items.Attribute path version (values.Array elements) ∷ [])) as (λ b. flat_map brought (if b then items.Attribute path version (values.Array elements) ∷ [] else items.Attribute path version (values.Array none) ∷ appended path version elements) ≡ trees elements) [
        | true ↦ rw e (append-nil (trees elements))
        | false ↦ rw e (brought_by_appended path version elements)
      ]
