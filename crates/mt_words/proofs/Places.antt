-- The places of positional words, found one after the other.
use Rattle.std.proofs.Common.{◌≡◌, ℕ, ◌+◌, Bool, true, false, eqb, List, [], ◌∷◌, ◌++◌, length, Option, Some, None, refl, ap, sym, arith, codes, append_assoc, length-append}
use Rattle.std.proofs.lemmas.Bool.{ne_eqb}
use Rattle.std.specs.Option.{option_map}
use Rattle.mt_words.specs.Words.{exactly, is_option, is_word, places_from, positional_from}

-- the places of words from this one on, where a word `--` has been passed over or not
abbrev pub left : Bool → ℕ → List (List ℕ) → Option (List ℕ)
left true place words = Some (places_from place words)
left false place words = positional_from place words

-- these places, and those found behind them
abbrev pub behind : List ℕ → Option (List ℕ) → Option (List ℕ)
behind front found = option_map (λ rest. front ++ rest) found

pub none_in_front : (found : Option (List ℕ)) → found ≡ behind [] found
none_in_front None = refl
none_in_front (Some places) = refl

pub dashes_passed : (place : ℕ) (word : List ℕ) (words : List (List ℕ)) → is_word word (codes "--") ≡ true → left false place (word ∷ words) ≡ left true (place + 1) words
dashes_passed place word words dashes = rw dashes refl

pub option_refused : (place : ℕ) (word : List ℕ) (words : List (List ℕ)) → is_word word (codes "--") ≡ false → is_option word ≡ true → left false place (word ∷ words) ≡ None
option_refused place word words other option = rw (other, option) refl

pub name_taken : (place : ℕ) (word : List ℕ) (words : List (List ℕ)) → is_word word (codes "--") ≡ false → is_option word ≡ false
    → left false place (word ∷ words) ≡ option_map (λ places. place ∷ places) (left false (place + 1) words)
name_taken place word words other name = rw (other, name) refl

pub one_more : (front : List ℕ) (place : ℕ) (found : Option (List ℕ)) → behind front (option_map (λ places. place ∷ places) found) ≡ behind (front ++ place ∷ []) found
one_more front place None = refl
one_more front place (Some places) = ap Some (sym (append_assoc front (place ∷ []) places))

pub too_many : (count place : ℕ) (front : List ℕ) (found : Option (List ℕ)) → length front ≡ count → exactly count (behind front (option_map (λ places. place ∷ places) found)) ≡ None
too_many count place front None full = refl
too_many count place front (Some places) full =
    let long : eqb (length (front ++ place ∷ places)) count ≡ false = ne_eqb _ _ (λ e. omega (arith, e, length-append front (place ∷ places))) in
    rw long refl
