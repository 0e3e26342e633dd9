-- Greedy payloads are the only ones of their kind.
use Rattle.std.proofs.Common.{◌≡◌, ◌≢◌, ℕ, ◌+◌, ◌<◌, ◌≤◌, true, false, List, [], ◌∷◌, ◌++◌, length, map, refl, sym, ◌∙◌, ap, subst, inl, inr, append_assoc, length-append, if◌then◌else◌, arith}
use Rattle.std.specs.Prelude.{nat_le, All, ◌⊎◌}
use Rattle.std.proofs.lemmas.Bool.{le-leb, leb-true}
use Rattle.std.proofs.lemmas.Bool.Decides.{nat_tests}
use Rattle.std.proofs.lemmas.List.{append-nil}
use Rattle.std.proofs.lemmas.List.Elements.{All-nil, All-cons, All-head, All-tail}
use Rattle.mt_model.specs.declared.limits.TheConstants.{ITEM_BYTES}
use Rattle.mt_model.specs.declared.messages.message.Item.{Item}
use Rattle.mt_im_out.specs.Chunks.{fit, size_of, greedy_from, greedy, attribute_part}
use Rattle.mt_im_out.specs.Greedy.{AreFull, IsGreedySplit}
use Rattle.mt_im_out.proofs.Bodies.{bytes_of, bytes-append}
use Rattle.mt_im_out.proofs.Greedy.{joined, parts_with, greedy_joined, greedy_full}

abbrev IsBegun : List Item → Type 0
IsBegun part = part ≢ []

abbrev IsOneOrFew : List Item → Type 0
IsOneOrFew part = (length part ≡ 1) ⊎ (size_of part ≤ ITEM_BYTES)

-- The greedy split is one.

begun_more : (begun : List Item) (x : Item) → IsBegun (begun ++ x ∷ [])
begun_more [] x = λ e. cc
begun_more (b ∷ bs) x = λ e. cc

from_begun : (begun xs : List Item) → IsBegun begun → All IsBegun (greedy_from begun xs)
unfolding greedy_from
from_begun begun [] h = All-cons IsBegun begun [] h (All-nil IsBegun)
from_begun begun (x ∷ xs) h =
    elim (fit (begun ++ x ∷ [])) as (λ b. All IsBegun (if b then greedy_from (begun ++ x ∷ []) xs else begun ∷ greedy_from (x ∷ []) xs)) [
      | true ↦ from_begun (begun ++ x ∷ []) xs (begun_more begun x)
      | false ↦ All-cons IsBegun begun (greedy_from (x ∷ []) xs) h (from_begun (x ∷ []) xs (begun_more [] x))
    ]

greedy_begun : (xs : List Item) → All IsBegun (greedy xs)
greedy_begun [] = All-nil IsBegun
greedy_begun (x ∷ xs) = from_begun (x ∷ []) xs (begun_more [] x)

from_few : (begun xs : List Item) → IsOneOrFew begun → All IsOneOrFew (greedy_from begun xs)
unfolding greedy_from
from_few begun [] h = All-cons IsOneOrFew begun [] h (All-nil IsOneOrFew)
from_few begun (x ∷ xs) h =
    elim (fit (begun ++ x ∷ [])) as (λ b. fit (begun ++ x ∷ []) ≡ b → All IsOneOrFew (if b then greedy_from (begun ++ x ∷ []) xs else begun ∷ greedy_from (x ∷ []) xs)) [
      | true ↦ λ e. from_few (begun ++ x ∷ []) xs (inr (leb-true (size_of (begun ++ x ∷ [])) ITEM_BYTES e))
      | false ↦ λ e. All-cons IsOneOrFew begun (greedy_from (x ∷ []) xs) h (from_few (x ∷ []) xs (inl refl))
    ] refl

greedy_few : (xs : List Item) → All IsOneOrFew (greedy xs)
greedy_few [] = All-nil IsOneOrFew
greedy_few (x ∷ xs) = from_few (x ∷ []) xs (inl refl)

full_lists : (xss : List (List Item)) → AreFull (parts_with [] xss) → AreFull (map attribute_part xss)
full_lists xss h = subst AreFull (append-nil (map attribute_part xss)) h

pub is_one : (items : List Item) → IsGreedySplit items (greedy items)
is_one items = record { whole = greedy_joined items; begun = greedy_begun items; within = greedy_few items; full = full_lists (greedy items) (greedy_full items []) }

-- There is no other.

-- the front of items has no more bytes than all of them
front_is_few : (xs ys : List Item) → size_of (xs ++ ys) ≤ ITEM_BYTES → size_of xs ≤ ITEM_BYTES
front_is_few xs ys h =
    let whole : size_of (xs ++ ys) ≡ size_of xs + length (bytes_of ys) = ap length (bytes-append xs ys) ∙ length-append (bytes_of xs) (bytes_of ys) in
    omega (arith, h, whole)

-- the items of a part are not one where there are two
few_of_two : (b : Item) (bs : List Item) (x : Item) (xs : List Item) → IsOneOrFew (b ∷ bs ++ x ∷ xs) → size_of (b ∷ bs ++ x ∷ xs) ≤ ITEM_BYTES
few_of_two b bs x xs (inl one) = absurd (omega (arith, one, length-append bs (x ∷ xs)))
few_of_two b bs x xs (inr few) = few

fits : (xs : List Item) → size_of xs ≤ ITEM_BYTES → fit xs ≡ true
fits xs h = le-leb (size_of xs) ITEM_BYTES h

not_fits : (n : ℕ) → ITEM_BYTES < n → nat_le n ITEM_BYTES ≡ false
not_fits n h = grind (arith, nat_tests)

-- a part is filled with its items before what follows is looked at
fill : (b : Item) (bs todo others : List Item) → IsOneOrFew (b ∷ bs ++ todo) → greedy_from (b ∷ bs) (todo ++ others) ≡ greedy_from (b ∷ bs ++ todo) others
unfolding greedy_from
fill b bs [] others few = ap (λ z. greedy_from (b ∷ z) others) (sym (append-nil bs))
fill b bs (x ∷ todo) others few =
    let again : b ∷ bs ++ x ∷ todo ≡ b ∷ (bs ++ x ∷ []) ++ todo = ap (λ z. b ∷ z) (sym (append_assoc bs (x ∷ []) todo)) in
    let small : size_of (b ∷ (bs ++ x ∷ []) ++ todo) ≤ ITEM_BYTES = subst (λ (z : List Item). size_of z ≤ ITEM_BYTES) again (few_of_two b bs x todo few) in
    let joins : fit (b ∷ bs ++ x ∷ []) ≡ true = fits (b ∷ bs ++ x ∷ []) (front_is_few (b ∷ bs ++ x ∷ []) todo small) in
    ap (λ v. if v then greedy_from (b ∷ bs ++ x ∷ []) (todo ++ others) else (b ∷ bs) ∷ greedy_from (x ∷ []) (todo ++ others)) joins
    ∙ fill b (bs ++ x ∷ []) todo others (inr small)
    ∙ ap (λ z. greedy_from z others) (sym again)

-- and then the parts that follow
follow : (b : Item) (bs : List Item) (others : List (List Item)) → AreFull (map attribute_part ((b ∷ bs) ∷ others)) → All IsBegun others → All IsOneOrFew others
    → greedy_from (b ∷ bs) (joined others) ≡ (b ∷ bs) ∷ others
unfolding greedy_from
follow b bs [] full begun few = refl
follow b bs ([] ∷ more) full begun few = absurd (All-head IsBegun [] more begun refl)
follow b bs ((y ∷ ys) ∷ more) full begun few =
    ap (λ v. if v then greedy_from (b ∷ bs ++ y ∷ []) (ys ++ joined more) else (b ∷ bs) ∷ greedy_from (y ∷ []) (ys ++ joined more)) (not_fits (size_of (b ∷ bs ++ y ∷ [])) full.0)
    ∙ ap (λ z. (b ∷ bs) ∷ z)
    (fill y [] ys (joined more) (All-head IsOneOrFew (y ∷ ys) more few)
    ∙ follow y ys more full.1 (All-tail IsBegun (y ∷ ys) more begun) (All-tail IsOneOrFew (y ∷ ys) more few))

greedy_of_joined : (parts : List (List Item)) → AreFull (map attribute_part parts) → All IsBegun parts → All IsOneOrFew parts → greedy (joined parts) ≡ parts
greedy_of_joined [] full begun few = refl
greedy_of_joined ([] ∷ more) full begun few = absurd (All-head IsBegun [] more begun refl)
greedy_of_joined ((b ∷ bs) ∷ more) full begun few =
    fill b [] bs (joined more) (All-head IsOneOrFew (b ∷ bs) more few)
    ∙ follow b bs more full (All-tail IsBegun (b ∷ bs) more begun) (All-tail IsOneOrFew (b ∷ bs) more few)

pub only : (items : List Item) (parts : List (List Item)) → IsGreedySplit items parts → parts ≡ greedy items
only items parts h = sym (greedy_of_joined parts h.full h.begun h.within) ∙ ap greedy h.whole
