-- Lists of items that are kept: what holds of each holds of all, and there is room for them.
use Rattle.std.proofs.Common.{◌≡◌, ◌∙◌, ◌==◌, ◌&&◌, ◌+◌, ◌-◌, ◌≤◌, ℕ, zero, suc, nat_le, Bool, true, false, List, [], ◌∷◌, ◌++◌, Option, Some, None, Result, Ok, Err, length, length-append, refl, ap, subst, arith, if◌then◌else◌}
use Rattle.std.specs.List.{list_all}
use Rattle.std.proofs.lemmas.Bool.{leb-true, le-leb}
use Rattle.std.proofs.lemmas.List.Folds.{list_all-append}
use Rattle.mt_tlv.specs.Tree.{Tree, Elements, none, more}
use Rattle.mt_tlv.specs.View.{tree}
use Rattle.mt_tlv.specs.declared.value.Tag.TheVariants.{Anonymous, Context, Common, Implicit, Full}
use Rattle.mt_tlv.specs.declared.value.Value.{Value}
use Rattle.mt_tlv.specs.declared.value.Value.TheVariants as values
use Rattle.mt_model.specs.declared.messages.message.Index.{Index}
use Rattle.mt_model.specs.declared.messages.status.Status.{Status}
use Rattle.mt_model.specs.declared.messages.status.Status.TheVariants.{InvalidDataType, ResourceExhausted}
use Rattle.mt_meta.specs.Forms.{all_in, count_in, is_label_item, is_of_kind}
use Rattle.mt_meta.specs.Table.{fields_of}
use Rattle.mt_meta.specs.declared.meta.Kind.TheVariants as kinds
use Rattle.mt_meta.specs.declared.meta.Meta.{Meta}
use Rattle.mt_meta.specs.declared.rows.Field.{Field}
use Rattle.mt_meta.specs.Fields.{all_elements, is_item}
use Rattle.mt_write.specs.Items.{given_items, in_front, kept_each, new_items, with_room}
use Rattle.mt_write.specs.Writing.{array_of, array_with, behind, list_with, members_of, with_items}
use Rattle.mt_write.proofs.KeptForms.{and-both, and-true}

front-ok : {X : Type 0} (one : Result X Status) (rest : Result (List X) Status) (xs : List X) → in_front one rest ≡ Ok xs → (x : X) × (ys : List X) × (one ≡ Ok x) × (rest ≡ Ok ys) × (x ∷ ys ≡ xs)
front-ok (Err status) rest xs h = absurd cc
front-ok (Ok x) (Err status) xs h = absurd cc
front-ok (Ok x) (Ok ys) xs h = (x, ys, refl, refl, cc)

room-step : {X : Type 0} (b : Bool) (y x : X) → ◌≡◌ {A = Result X Status} (if b then Err ResourceExhausted else Ok y) (Ok x) → (Some y ≡ Some x) × (b ≡ false)
room-step true y x h = absurd cc
room-step false y x h = (let e : y ≡ x = cc in ap Some e, refl)

room-ok : {X : Type 0} (room : ℕ) (o : Option X) (x : X) → with_room room o ≡ Ok x → (o ≡ Some x) × ((room == 0) ≡ false)
room-ok room None x h = absurd cc
room-ok room (Some y) x h = room-step (room == 0) y x h

positive : (room : ℕ) → (room == 0) ≡ false → 1 ≤ room
positive zero h = absurd cc
positive (suc n) h = omega arith

module _ {X : Type 0} (keep : Tree → Option X) (q : Tree → Bool) (p : X → Bool) (each : (t : Tree) (x : X) → q t ≡ true → keep t ≡ Some x → p x ≡ true) where
  kept-all : (room : ℕ) (es : Elements) (xs : List X) → all_elements q es ≡ true → kept_each keep room es ≡ Ok xs → list_all p xs ≡ true
  unfolding kept_each
  kept-all room none xs all h = let e : [] ≡ xs = cc in subst (λ ys. list_all p ys ≡ true) e refl
  kept-all room (more tag v es) xs all h =
      let parts = front-ok (with_room room (keep v)) (kept_each keep (room - 1) es) xs h in
      let both = and-both (q v) (all_elements q es) all in
      let one = room-ok room (keep v) parts.0 parts.2 in
      subst (λ ys. list_all p ys ≡ true) parts.4 (and-true (p parts.0) (list_all p parts.1) (each v parts.0 both.0 one.0) (kept-all (room - 1) es parts.1 both.1 parts.3))

kept-count : {X : Type 0} (keep : Tree → Option X) (room : ℕ) (es : Elements) (xs : List X) → kept_each keep room es ≡ Ok xs → length xs ≤ room
unfolding kept_each
kept-count {X} keep room none xs h = let e : [] ≡ xs = cc in subst (λ (ys : List X). length ys ≤ room) e (omega arith)
kept-count {X} keep room (more tag v es) xs h =
    let parts = front-ok (with_room room (keep v)) (kept_each keep (room - 1) es) xs h in
    let one = room-ok room (keep v) parts.0 parts.2 in
    let some : 1 ≤ room = positive room one.1 in
    let rest : length parts.1 ≤ room - 1 = kept-count keep (room - 1) es parts.1 parts.3 in
    let more_of : length (parts.0 ∷ parts.1) ≤ room = omega arith in
    subst (λ (ys : List X). length ys ≤ room) parts.4 more_of

items-step : {X : Type 0} (b : Bool) (r : Result (List X) Status) (xs : List X) → (if b then r else Err InvalidDataType) ≡ Ok xs → (b ≡ true) × (r ≡ Ok xs)
items-step true r xs h = (refl, h)
items-step false r xs h = absurd cc

-- new items are kept, and find room
pub new-all : {X : Type 0} (keep : Tree → Option X) (fields : List Field) (p : X → Bool) (each : (t : Tree) (x : X) → is_item fields t ≡ true → keep t ≡ Some x → p x ≡ true)
    (room : ℕ) (given : Option Elements) (xs : List X) → new_items keep fields room given ≡ Ok xs → (list_all p xs ≡ true) × (length xs ≤ room)
new-all keep fields p each room None xs h = absurd cc
new-all keep fields p each room (Some es) xs h =
    let parts = items-step (all_elements (is_item fields) es) (kept_each keep room es) xs h in
    (kept-all keep (is_item fields) p each room es xs parts.0 parts.1, kept-count keep room es xs parts.1)

behind-ok : {X : Type 0} (there : List X) (items : Result (List X) Status) (xs : List X) → behind there items ≡ Ok xs → (ys : List X) × (items ≡ Ok ys) × (there ++ ys ≡ xs)
behind-ok there (Err status) xs h = absurd cc
behind-ok there (Ok ys) xs h = (ys, refl, cc)

-- what holds of the items that stay, and of each that is kept, holds of all, and they keep the limit
pub list-all : {X : Type 0} (keep : Tree → Option X) (meta : Meta) (p : X → Bool) (each : (t : Tree) (x : X) → is_item (fields_of meta.kind) t ≡ true → keep t ≡ Some x → p x ≡ true)
    (index : Index) (value : Value) (there xs : List X) → list_all p there ≡ true → list_with keep meta index value there ≡ Ok xs
    → (list_all p xs ≡ true) × (length there ≤ meta.limit → length xs ≤ meta.limit)
list-all {X} keep meta p each index value there xs all h =
    let items = new_items keep (fields_of meta.kind) (meta.limit - length there) (given_items index value) in
    let parts = behind-ok there items xs h in
    let ys = parts.0 in
    let new = new-all keep (fields_of meta.kind) p each (meta.limit - length there) (given_items index value) ys parts.1 in
    let both : list_all p (there ++ ys) ≡ true = list_all-append p there ys ∙ and-true (list_all p there) (list_all p ys) all new.0 in
    let count : length (there ++ ys) ≡ length there + length ys = length-append there ys in
    let fits : length ys ≤ meta.limit - length there = new.1 in (
      subst (λ zs. list_all p zs ≡ true) parts.2 both,
      λ room. let whole : length (there ++ ys) ≤ meta.limit = omega arith in subst (λ (zs : List X). length zs ≤ meta.limit) parts.2 whole,
    )

-- A list that is one row.

count-alone : (items : List Value) → count_in (with_items none items) ≡ length items
count-alone [] = refl
count-alone (item ∷ items) = let e : count_in (with_items none items) ≡ length items = count-alone items in omega arith

count-with : (es : Elements) (items : List Value) → count_in (with_items es items) ≡ count_in es + length items
count-with none items = let e : count_in (with_items none items) ≡ length items = count-alone items in omega arith
count-with (more tag v es) items = let e : count_in (with_items es items) ≡ count_in es + length items = count-with es items in omega arith

all-alone : (test : Tree → Bool) (items : List Value) → list_all (λ v. test (tree v)) items ≡ true → all_in test (with_items none items) ≡ true
all-alone test [] all = refl
all-alone test (item ∷ items) all =
    let both = and-both (test (tree item)) (list_all (λ v. test (tree v)) items) all in
    and-true (test (tree item)) (all_in test (with_items none items)) both.0 (all-alone test items both.1)

all-with : (test : Tree → Bool) (es : Elements) (items : List Value) → all_in test es ≡ true → list_all (λ v. test (tree v)) items ≡ true → all_in test (with_items es items) ≡ true
all-with test none items there all = all-alone test items all
all-with test (more Anonymous v es) items there all =
    let both = and-both (test v) (all_in test es) there in
    and-true (test v) (all_in test (with_items es items)) both.0 (all-with test es items both.1 all)
all-with test (more (Context n) v es) items there all = there
all-with test (more (Common n) v es) items there all = there
all-with test (more (Implicit n) v es) items there all = there
all-with test (more (Full a b n) v es) items there all = there

array-ok : (es : Elements) (items : Result (List Value) Status) (xs : List Value) → array_of es items ≡ Ok xs → (ys : List Value) × (items ≡ Ok ys) × (values.Array (with_items es ys) ∷ [] ≡ xs)
array-ok es (Err status) xs h = absurd cc
array-ok es (Ok ys) xs h = (ys, refl, cc)

-- labels keep their form
pub labels-form : (fabric : ℕ) (keep : Tree → Option Value) (meta : Meta) (each : (t : Tree) (x : Value) → is_item (fields_of meta.kind) t ≡ true → keep t ≡ Some x → is_label_item (tree x) ≡ true)
    (index : Index) (value : Value) (there : Elements) (xs : List Value) → nat_le (count_in there) meta.limit ≡ true → all_in is_label_item there ≡ true → array_with keep meta index value there ≡ Ok xs
    → (list_all (is_of_kind kinds.Labels meta.least meta.limit fabric) xs ≡ true) × ((length xs == 1) ≡ true)
labels-form fabric keep meta each index value there xs room form h =
    let items = new_items keep (fields_of meta.kind) (meta.limit - count_in there) (given_items index value) in
    let parts = array-ok there items xs h in
    let ys = parts.0 in
    let new = new-all keep (fields_of meta.kind) (λ v. is_label_item (tree v)) each (meta.limit - count_in there) (given_items index value) ys parts.1 in
    let most : count_in there ≤ meta.limit = leb-true (count_in there) meta.limit room in
    let fits : length ys ≤ meta.limit - count_in there = new.1 in
    let count : count_in (with_items there ys) ≡ count_in there + length ys = count-with there ys in
    let whole : count_in (with_items there ys) ≤ meta.limit = omega arith in
    let one = and-true (nat_le (count_in (with_items there ys)) meta.limit) (all_in is_label_item (with_items there ys)) (le-leb _ _ whole) (all-with is_label_item there ys form new.0) in (
      subst (λ zs. list_all (is_of_kind kinds.Labels meta.least meta.limit fabric) zs ≡ true) parts.2 (and-true (nat_le (count_in (with_items there ys)) meta.limit && all_in is_label_item (with_items there ys)) true one refl),
      subst (λ (zs : List Value). (length zs == 1) ≡ true) parts.2 refl,
    )

pub members-form : (least limit fabric : ℕ) (rows : List Value) → list_all (is_of_kind kinds.Labels least limit fabric) rows ≡ true → (nat_le (count_in (members_of rows)) limit ≡ true) × (all_in is_label_item (members_of rows) ≡ true)
members-form least limit fabric [] all = (le-leb 0 limit (omega arith), refl)
members-form least limit fabric (values.Int z ∷ rows) all = absurd cc
members-form least limit fabric (values.Uint n ∷ rows) all = absurd cc
members-form least limit fabric (values.Bool b ∷ rows) all = absurd cc
members-form least limit fabric (values.Text s ∷ rows) all = absurd cc
members-form least limit fabric (values.Octets s ∷ rows) all = absurd cc
members-form least limit fabric (values.Null ∷ rows) all = absurd cc
members-form least limit fabric (values.Bits32 n ∷ rows) all = absurd cc
members-form least limit fabric (values.Bits64 n ∷ rows) all = absurd cc
members-form least limit fabric (values.Struct es ∷ rows) all = absurd cc
members-form least limit fabric (values.Array es ∷ rows) all =
    let first = and-both (nat_le (count_in es) limit && all_in is_label_item es) (list_all (is_of_kind kinds.Labels least limit fabric) rows) all in
    and-both (nat_le (count_in es) limit) (all_in is_label_item es) first.0
members-form least limit fabric (values.List es ∷ rows) all = absurd cc
