-- The whole book is told, where each thread's calls are told by what that thread has seen of it.
use Rattle.std.proofs.Common.{◌≡◌, ◌∙◌, ℕ, zero, suc, ◌+◌, ◌<◌, ◌≤◌, List, [], ◌∷◌, ◌++◌, None, Some, drop, length, map, slice_get, refl, sym, ap, subst, arith, drop_of_length-le}
use mathlib.Core.List.{IsPrefix}
use Rattle.mt_legal.specs.Lines.{told_of}
use Rattle.mt_legal.specs.mt_interactions.Configured.{ConfiguredInteractions}
use Rattle.mt_legal.specs.mt_shares.Merging.{upto}
use Rattle.mt_legal.specs.mt_shares.Threads.{calls_of}
use Rattle.mt_rounds.specs.mt_shared.Entry.{Entry}
use Rattle.mt_rounds.specs.mt_shared.Replay.{next, told}
use Rattle.mt_rounds.specs.mt_worker.Gots.{AreTold, Each, Got, Told, place_of}
use Rattle.mt_served.proofs.Threads.{of_all}

-- WHAT A BEGINNING OF THE BOOK TELLS at a place, the book tells there.

some_is_not_none : {A : Type 0} (a : A) → None ≡ Some a → ⊥
some_is_not_none a same = cc

told_on : (node : ConfiguredInteractions) (seen more : List Entry) (place : ℕ) (t : Told) → slice_get (told node seen) place ≡ Some t → slice_get (told node (seen ++ more)) place ≡ Some t
told_on node [] more place t is = absurd (some_is_not_none t is)
told_on node (entry ∷ seen) more zero t is = is
told_on node (entry ∷ seen) more (suc place) t is = told_on (next node entry) seen more place t is

pub told_longer : (node : ConfiguredInteractions) (seen book : List Entry) (gots : List Got) → IsPrefix seen book → AreTold (told node seen) gots → AreTold (told node book) gots
told_longer node seen book [] begins are = tt
told_longer node seen book (got ∷ gots) begins are =
    (subst (λ (b : List Entry). slice_get (told node b) got.place ≡ Some got.told) begins.1 (told_on node seen begins.0 got.place got.told are.0), told_longer node seen book gots begins are.1)

length_told : (node : ConfiguredInteractions) (book : List Entry) → length (told node book) ≡ length book
length_told node [] = refl
length_told node (entry ∷ book) = ap suc (length_told (next node entry) book)

-- PLACES from one on.

abbrev from_on : ℕ → ℕ → List ℕ
from_on k zero = []
from_on k (suc n) = k ∷ from_on (suc k) n

one_more : (k n : ℕ) → from_on k (suc n) ≡ from_on k n ++ (k + n) ∷ []
one_more k zero = let same : k ≡ k + 0 = omega arith in ap (λ (m : ℕ). m ∷ []) same
one_more k (suc n) = let same : suc k + n ≡ k + suc n = omega arith in ap (λ (ms : List ℕ). k ∷ ms) (one_more (suc k) n ∙ ap (λ (m : ℕ). from_on (suc k) n ++ m ∷ []) same)

from_first : (n : ℕ) → upto n ≡ from_on 0 n
from_first zero = refl
from_first (suc n) = let same : n ≡ 0 + n = omega arith in ap (λ (ms : List ℕ). ms ++ n ∷ []) (from_first n) ∙ ap (λ (m : ℕ). from_on 0 n ++ m ∷ []) same ∙ sym (one_more 0 n)

-- ALL THAT IS TOLD, in the order of the places.

rest_at : (tolds : List Told) (k : ℕ) (t : Told) → slice_get tolds k ≡ Some t → drop k tolds ≡ t ∷ drop (suc k) tolds
rest_at [] k t at = absurd (some_is_not_none t at)
rest_at (x ∷ tolds) zero t at = let same : x ≡ t = cc in ap (λ (y : Told). y ∷ tolds) same
rest_at (x ∷ tolds) (suc k) t at = rest_at tolds k t at

heads : (x y : ℕ) (xs ys : List ℕ) → x ∷ xs ≡ y ∷ ys → x ≡ y
heads x y xs ys same = cc

tails : (x y : ℕ) (xs ys : List ℕ) → x ∷ xs ≡ y ∷ ys → xs ≡ ys
tails x y xs ys same = cc

none_more : {A : Type 0} (x : ℕ) (xs : List ℕ) → x ∷ xs ≡ [] → A
none_more x xs same = absurd (cc)

in_order : (tolds : List Told) (k n : ℕ) (gots : List Got) → AreTold tolds gots → map place_of gots ≡ from_on k n → length tolds ≡ k + n → map told_of gots ≡ drop k tolds
in_order tolds k zero [] are places long = sym (drop_of_length-le tolds (omega (arith, long)))
in_order tolds k zero (got ∷ gots) are places long = none_more got.place (map place_of gots) places
in_order tolds k (suc n) [] are places long = none_more k (from_on (suc k) n) (sym places)
in_order tolds k (suc n) (got ∷ gots) are places long =
    let here : got.place ≡ k = heads got.place k (map place_of gots) (from_on (suc k) n) places in
    let rest : map told_of gots ≡ drop (suc k) tolds = in_order tolds (suc k) n gots are.1 (tails got.place k (map place_of gots) (from_on (suc k) n) places) (omega (arith, long)) in
    ap (λ (ts : List Told). got.told ∷ ts) rest ∙ sym (rest_at tolds k got.told (subst (λ (p : ℕ). slice_get tolds p ≡ Some got.told) here are.0))

pub all_told : (node : ConfiguredInteractions) (book : List Entry) (all : List Got) → AreTold (told node book) all → map place_of all ≡ upto (length book) → map told_of all ≡ told node book
all_told node book all are places = in_order (told node book) 0 (length book) all are (places ∙ from_first (length book)) (omega (arith, length_told node book))

-- EACH THREAD'S ARE TOLD, and so are all.

each_told : (tolds : List Told) (gots : List Got) → AreTold tolds gots → Each (λ (got : Got). slice_get tolds got.place ≡ Some got.told) gots
each_told tolds [] are = tt
each_told tolds (got ∷ gots) are = (are.0, each_told tolds gots are.1)

told_each : (tolds : List Told) (gots : List Got) → Each (λ (got : Got). slice_get tolds got.place ≡ Some got.told) gots → AreTold tolds gots
told_each tolds [] each = tt
told_each tolds (got ∷ gots) each = (each.0, told_each tolds gots each.1)

pub all_are_told : (workers : ℕ) → 0 < workers → (tolds : List Told) (all : List Got) → ((thread : ℕ) → thread ≤ workers → AreTold tolds (calls_of workers thread all)) → AreTold tolds all
all_are_told workers some tolds all each =
    told_each tolds all (of_all workers some (λ (got : Got). slice_get tolds got.place ≡ Some got.told) all (λ thread one. each_told tolds (calls_of workers thread all) (each thread one)))
