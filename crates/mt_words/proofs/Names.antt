-- The names among words, and the words at the places of positional words.
use Rattle.std.proofs.Common.{◌≡◌, ℕ, ◌+◌, List, [], ◌∷◌, ◌++◌, length, Option, Some, None, slice_index_or, drop, refl, ap, ap₂, sym, ◌∙◌, arith, codes, append_assoc, length-append, if◌then◌else◌, option_map, inl, inr}
use Rattle.std.proofs.Math.Seq.{get_or-append_seam}
use Rattle.std.proofs.lemmas.Bool.{cases_Bool}
use Rattle.mt_words.specs.Words.{is_option, is_word, names_of, places_from, positional_from, words_at}

-- the words that are names; a word `--` is none, and all behind it are
abbrev pub names_in : List (List ℕ) → Option (List (List ℕ))
names_in [] = Some []
names_in (word ∷ words) =
    if is_word word (codes "--") then Some words
    else if is_option word then None
    else option_map (λ names. word ∷ names) (names_in words)

at_place : (front : List (List ℕ)) (word : List ℕ) (words : List (List ℕ)) (place : ℕ) → length front ≡ place → slice_index_or (front ++ word ∷ words) place [] ≡ word
at_place front word words place is = rw (← is) (get_or-append_seam front word words [])

further : (front : List (List ℕ)) (word : List ℕ) (place : ℕ) → length front ≡ place → length (front ++ word ∷ []) ≡ place + 1
further front word place is = omega (arith, is, length-append front (word ∷ []))

at_all_places : (front words : List (List ℕ)) (place : ℕ) → length front ≡ place → words_at (front ++ words) (places_from place words) ≡ words
at_all_places front [] place is = refl
at_all_places front (word ∷ words) place is =
    let rest : words_at (front ++ word ∷ words) (places_from (place + 1) words) ≡ words =
    ap (λ all. words_at all (places_from (place + 1) words)) (sym (append_assoc front (word ∷ []) words)) ∙ at_all_places (front ++ word ∷ []) words (place + 1) (further front word place is) in
    ap₂ (λ (first : List ℕ) (others : List (List ℕ)). first ∷ others) (at_place front word words place is) rest

at_one_more : (all : List (List ℕ)) (word : List ℕ) (place : ℕ) (found : Option (List ℕ)) (names : Option (List (List ℕ))) → slice_index_or all place [] ≡ word → option_map (words_at all) found ≡ names
    → option_map (words_at all) (option_map (λ places. place ∷ places) found) ≡ option_map (λ names. word ∷ names) names
at_one_more all word place None names here rest = rw (← rest) refl
at_one_more all word place (Some places) names here rest = rw (← rest, here) refl

at_names : (front words : List (List ℕ)) (place : ℕ) → length front ≡ place → option_map (words_at (front ++ words)) (positional_from place words) ≡ names_in words
at_names front [] place is = refl
at_names front (word ∷ words) place is = by_case (at_names (front ++ word ∷ []) words (place + 1) (further front word place is))
  where
    by_case : option_map (words_at ((front ++ word ∷ []) ++ words)) (positional_from (place + 1) words) ≡ names_in words → option_map (words_at (front ++ word ∷ words)) (positional_from place (word ∷ words)) ≡ names_in (word ∷ words)
    by_case rest = elim (cases_Bool (is_word word (codes "--"))) [
      | inl dashes ↦ rw dashes (ap Some
          (ap (λ all. words_at all (places_from (place + 1) words)) (sym (append_assoc front (word ∷ []) words)) ∙ at_all_places (front ++ word ∷ []) words (place + 1) (further front word place is)))
      | inr other ↦ elim (cases_Bool (is_option word)) [
        | inl option ↦ rw (other, option) refl
        | inr name ↦ rw (other, name)
            (at_one_more (front ++ word ∷ words) word place (positional_from (place + 1) words) (names_in words) (at_place front word words place is)
            (ap (λ all. option_map (words_at all) (positional_from (place + 1) words)) (sym (append_assoc front (word ∷ []) words)) ∙ rest))
      ]
    ]

-- the positional words are the names behind the first word
pub names_of-names : (words : List (List ℕ)) → names_of words ≡ names_in (drop 1 words)
names_of-names [] = refl
names_of-names (first ∷ words) = at_names (first ∷ []) words 1 refl
