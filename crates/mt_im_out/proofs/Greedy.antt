-- What greedy payloads have, and that they are within their size and full.
use Rattle.std.proofs.Common.{◌≡◌, ℕ, ◌<◌, ◌≤◌, true, false, List, [], ◌∷◌, ◌++◌, length, map, refl, sym, ◌∙◌, ap, subst, inl, inr, append_assoc, if◌then◌else◌, arith}
use Rattle.std.specs.Prelude.{nat_le, All}
use Rattle.std.specs.List.{flat_map}
use Rattle.std.proofs.lemmas.Bool.{leb-true}
use Rattle.std.proofs.lemmas.Bool.Decides.{nat_tests}
use Rattle.std.proofs.lemmas.List.{append-nil}
use Rattle.std.proofs.lemmas.List.Concat.{flat_map-append}
use Rattle.std.proofs.lemmas.List.Elements.{All-nil, All-cons, All-head, All-tail, All-append, All-weaker}
use Rattle.mt_model.specs.declared.limits.TheConstants.{ITEM_BYTES}
use Rattle.mt_model.specs.declared.messages.message.Item.{Item}
use Rattle.mt_im_out.specs.Chunks.{fit, size_of, greedy_from, greedy, attribute_items, event_items, split_items, Part, attribute_part, event_parts, at_least_one, parts_of}
use Rattle.mt_im_out.specs.Greedy.{IsShort, IsWithin, IsOfOneKind, AreFull}
use Rattle.mt_im_out.proofs.Bodies.{bytes_one}

-- The items.

abbrev pub joined : List (List Item) → List Item
joined xss = flat_map (λ xs. xs) xss

from_joined : (begun xs : List Item) → joined (greedy_from begun xs) ≡ begun ++ xs
unfolding greedy_from
from_joined begun [] = refl
from_joined begun (x ∷ xs) =
    elim (fit (begun ++ x ∷ [])) as (λ b. joined (if b then greedy_from (begun ++ x ∷ []) xs else begun ∷ greedy_from (x ∷ []) xs) ≡ begun ++ x ∷ xs) [
      | true ↦ from_joined (begun ++ x ∷ []) xs ∙ append_assoc begun (x ∷ []) xs
      | false ↦ ap (λ z. begun ++ z) (from_joined (x ∷ []) xs)
    ]

pub greedy_joined : (xs : List Item) → joined (greedy xs) ≡ xs
greedy_joined [] = refl
greedy_joined (x ∷ xs) = from_joined (x ∷ []) xs

abbrev attributes_in : List Part → List Item
attributes_in parts = flat_map (λ (part : Part). part.attributes) parts

abbrev events_in : List Part → List Item
events_in parts = flat_map (λ (part : Part). part.events) parts

attributes_of_parts : (xss : List (List Item)) → attributes_in (map attribute_part xss) ≡ joined xss
attributes_of_parts [] = refl
attributes_of_parts (xs ∷ xss) = ap (λ z. xs ++ z) (attributes_of_parts xss)

events_of_parts : (xss : List (List Item)) → events_in (map attribute_part xss) ≡ []
events_of_parts [] = refl
events_of_parts (xs ∷ xss) = events_of_parts xss

attributes_of_events : (es : List Item) → attributes_in (event_parts es) ≡ []
attributes_of_events [] = refl
attributes_of_events (e ∷ es) = refl

events_of_events : (es : List Item) → events_in (event_parts es) ≡ es
events_of_events [] = refl
events_of_events (e ∷ es) = append-nil (e ∷ es)

attributes_of_one : (parts : List Part) → attributes_in (at_least_one parts) ≡ attributes_in parts
attributes_of_one [] = refl
attributes_of_one (part ∷ parts) = refl

events_of_one : (parts : List Part) → events_in (at_least_one parts) ≡ events_in parts
events_of_one [] = refl
events_of_one (part ∷ parts) = refl

pub attributes_are : (items : List Item) → attributes_in (parts_of items) ≡ split_items (attribute_items items)
attributes_are items =
    let xs = split_items (attribute_items items) in
    let es = event_items items in
    attributes_of_one (map attribute_part (greedy xs) ++ event_parts es)
    ∙ flat_map-append (λ (part : Part). part.attributes) (map attribute_part (greedy xs)) (event_parts es)
    ∙ ap (λ z. attributes_in (map attribute_part (greedy xs)) ++ z) (attributes_of_events es)
    ∙ append-nil (attributes_in (map attribute_part (greedy xs)))
    ∙ attributes_of_parts (greedy xs)
    ∙ greedy_joined xs

pub events_are : (items : List Item) → events_in (parts_of items) ≡ event_items items
events_are items =
    let xs = split_items (attribute_items items) in
    let es = event_items items in
    events_of_one (map attribute_part (greedy xs) ++ event_parts es)
    ∙ flat_map-append (λ (part : Part). part.events) (map attribute_part (greedy xs)) (event_parts es)
    ∙ ap (λ z. z ++ events_in (event_parts es)) (events_of_parts (greedy xs))
    ∙ events_of_events es

-- What holds of each part.

all_one : (P : Part → Type 0) (parts : List Part) → P (record { attributes = []; events = [] }) → All P parts → All P (at_least_one parts)
all_one P [] h hs = All-cons P (record { attributes = []; events = [] }) [] h hs
all_one P (part ∷ parts) h hs = hs

all_parts : (P : Part → Type 0) (xss : List (List Item)) → All (λ xs. P (attribute_part xs)) xss → All P (map attribute_part xss)
all_parts P [] hs = All-nil P
all_parts P (xs ∷ xss) hs = All-cons P (attribute_part xs) (map attribute_part xss) (All-head (λ ys. P (attribute_part ys)) xs xss hs) (all_parts P xss (All-tail (λ ys. P (attribute_part ys)) xs xss hs))

all_events : (P : Part → Type 0) (es : List Item) → P (record { attributes = []; events = es }) → All P (event_parts es)
all_events P [] h = All-nil P
all_events P (e ∷ es) h = All-cons P (record { attributes = []; events = e ∷ es }) [] h (All-nil P)

pub apart : (items : List Item) → All IsOfOneKind (parts_of items)
apart items =
    let xs = split_items (attribute_items items) in
    let es = event_items items in
    all_one IsOfOneKind (map attribute_part (greedy xs) ++ event_parts es) (inl refl)
    (All-append IsOfOneKind (map attribute_part (greedy xs)) (event_parts es)
    (all_parts IsOfOneKind (greedy xs) (λ k d h. inr refl)) (all_events IsOfOneKind es (inl refl)))

-- Within the size.

abbrev IsFew : List Item → Type 0
IsFew xs = size_of xs ≤ ITEM_BYTES

short_is_few : (x : Item) → IsShort x → IsFew (x ∷ [])
short_is_few x h = subst (λ (z : List ℕ). length z ≤ ITEM_BYTES) (sym (bytes_one x)) h

from_within : (begun xs : List Item) → IsFew begun → All IsShort xs → All IsFew (greedy_from begun xs)
unfolding greedy_from
from_within begun [] h hs = All-cons IsFew begun [] h (All-nil IsFew)
from_within begun (x ∷ xs) h hs =
    elim (fit (begun ++ x ∷ [])) as (λ b. fit (begun ++ x ∷ []) ≡ b → All IsFew (if b then greedy_from (begun ++ x ∷ []) xs else begun ∷ greedy_from (x ∷ []) xs)) [
      | true ↦ λ e. from_within (begun ++ x ∷ []) xs (leb-true (size_of (begun ++ x ∷ [])) ITEM_BYTES e) (All-tail IsShort x xs hs)
      | false ↦ λ e. All-cons IsFew begun (greedy_from (x ∷ []) xs) h (from_within (x ∷ []) xs (short_is_few x (All-head IsShort x xs hs)) (All-tail IsShort x xs hs))
    ] refl

greedy_within : (xs : List Item) → All IsShort xs → All IsFew (greedy xs)
greedy_within [] hs = All-nil IsFew
greedy_within (x ∷ xs) hs = from_within (x ∷ []) xs (short_is_few x (All-head IsShort x xs hs)) (All-tail IsShort x xs hs)

few_is_within : (xs : List Item) → IsFew xs → IsWithin (attribute_part xs)
few_is_within xs h = omega (arith, h)

events_within : (es : List Item) → IsFew es → IsWithin (record { attributes = []; events = es })
events_within es h = omega (arith, h)

pub within : (items : List Item) → All IsShort (split_items (attribute_items items)) → size_of (event_items items) ≤ ITEM_BYTES → All IsWithin (parts_of items)
within items hs h =
    let xs = split_items (attribute_items items) in
    let es = event_items items in
    all_one IsWithin (map attribute_part (greedy xs) ++ event_parts es) (omega arith)
    (All-append IsWithin (map attribute_part (greedy xs)) (event_parts es)
    (all_parts IsWithin (greedy xs) (All-weaker IsFew (λ ys. IsWithin (attribute_part ys)) few_is_within (greedy xs) (greedy_within xs hs)))
    (all_events IsWithin es (events_within es h)))

-- Full.

pub too_many : (n : ℕ) → nat_le n ITEM_BYTES ≡ false → ITEM_BYTES < n
too_many n h = grind (arith, nat_tests)

-- the first payload begins with the first item
first_of_parts : (b : Item) (bs xs : List Item) → (rest : List Item) × (others : List (List Item)) × (greedy_from (b ∷ bs) xs ≡ (b ∷ rest) ∷ others)
unfolding greedy_from
first_of_parts b bs [] = (bs, [], refl)
first_of_parts b bs (x ∷ xs) =
    elim (fit ((b ∷ bs) ++ x ∷ [])) as (λ v. (rest : List Item) × (others : List (List Item))
    × ((if v then greedy_from ((b ∷ bs) ++ x ∷ []) xs else (b ∷ bs) ∷ greedy_from (x ∷ []) xs) ≡ (b ∷ rest) ∷ others)) [
      | true ↦ first_of_parts b (bs ++ x ∷ []) xs
      | false ↦ (bs, greedy_from (x ∷ []) xs, refl)
    ]

abbrev pub parts_with : List Item → List (List Item) → List Part
parts_with es xss = map attribute_part xss ++ event_parts es

full_behind : (es begun : List Item) (x : Item) (rest : List Item) (others xss : List (List Item)) → xss ≡ (x ∷ rest) ∷ others
    → ITEM_BYTES < size_of (begun ++ x ∷ []) → AreFull (parts_with es xss) → AreFull (parts_with es (begun ∷ xss))
full_behind es begun x rest others xss e l =
    subst (λ (yss : List (List Item)). AreFull (parts_with es yss) → AreFull (parts_with es (begun ∷ yss))) (sym e) (λ h. (l, h))

from_full : (begun xs es : List Item) → AreFull (parts_with es (greedy_from begun xs))
unfolding greedy_from
from_full begun [] [] = tt
from_full begun [] (e ∷ es) = (tt, tt)
from_full begun (x ∷ xs) es =
    elim (fit (begun ++ x ∷ [])) as (λ b. fit (begun ++ x ∷ []) ≡ b → AreFull (parts_with es (if b then greedy_from (begun ++ x ∷ []) xs else begun ∷ greedy_from (x ∷ []) xs))) [
      | true ↦ λ e. from_full (begun ++ x ∷ []) xs es
      | false ↦ λ e. full_behind es begun x (first_of_parts x [] xs).0 (first_of_parts x [] xs).1 (greedy_from (x ∷ []) xs) (first_of_parts x [] xs).2
          (too_many (size_of (begun ++ x ∷ [])) e) (from_full (x ∷ []) xs es)
    ] refl

full_one : (parts : List Part) → AreFull parts → AreFull (at_least_one parts)
full_one [] h = tt
full_one (part ∷ parts) h = h

pub greedy_full : (xs es : List Item) → AreFull (parts_with es (greedy xs))
greedy_full [] [] = tt
greedy_full [] (e ∷ es) = tt
greedy_full (x ∷ xs) es = from_full (x ∷ []) xs es

pub full : (items : List Item) → AreFull (parts_of items)
full items = full_one (parts_with (event_items items) (greedy (split_items (attribute_items items)))) (greedy_full (split_items (attribute_items items)) (event_items items))
