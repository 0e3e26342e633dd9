-- The keys of a state are read as themselves, and each comes before those behind it.
use Rattle.std.proofs.Common.{◌≡◌, ℕ, true, false, List, [], ◌∷◌, refl, arith}
use Rattle.std.specs.Prelude.{◌&&◌, ◌==◌, nat_lt, Bool}
use Rattle.std.proofs.lemmas.Bool.{and_from, le-ltb}
use Rattle.std.proofs.lemmas.Bool.Decides.{nat_tests}
use Rattle.mt_durable.specs.Keys.{is_before, is_same}
use Rattle.mt_grammar.specs.declared.keys.Key.{Key}
use Rattle.mt_lasting.specs.Keys.{all_keys, key_bytes}
use Rattle.mt_lasting.specs.Laws.{KeysAreRead}

pub keys_read : KeysAreRead
keys_read = refl

-- whether these bytes come before those of each key
abbrev pub is_below : List ℕ → List Key → Bool
is_below low [] = true
is_below low (key ∷ keys) = is_before low (key_bytes key) && is_below low keys

-- whether each key comes before all behind it
abbrev pub are_ordered : List Key → Bool
are_ordered [] = true
are_ordered (key ∷ keys) = is_below (key_bytes key) keys && are_ordered keys

pub all_ordered : are_ordered all_keys ≡ true
all_ordered = refl

-- The order of bytes.

pub same_itself : (a : List ℕ) → is_same a a ≡ true
same_itself [] = refl
same_itself (x ∷ xs) = and_from (x == x) (is_same xs xs) (grind (arith, nat_tests)) (same_itself xs)

pub not_before_itself : (a : List ℕ) → is_before a a ≡ false
not_before_itself [] = refl
not_before_itself (x ∷ xs) =
    let not_lower : nat_lt x x ≡ false = le-ltb x x (omega arith) in
    let alike : (x == x) ≡ true = grind (arith, nat_tests) in
    rw (not_lower, alike) (not_before_itself xs)

pub before_differs : (a b : List ℕ) → is_before a b ≡ true → is_same a b ≡ false
before_differs a [] before = absurd (grind (arith, before))
before_differs [] (y ∷ ys) before = refl
before_differs (x ∷ xs) (y ∷ ys) before = grind (arith, nat_tests, before_differs xs ys)

pub not_back : (a b : List ℕ) → is_before a b ≡ true → is_before b a ≡ false
not_back a [] before = absurd (grind (arith, before))
not_back [] (y ∷ ys) before = refl
not_back (x ∷ xs) (y ∷ ys) before = grind (arith, nat_tests, not_back xs ys)
