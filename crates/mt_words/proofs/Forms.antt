-- What the parser of command lines sees in a word.
use Rattle.std.proofs.Common.{◌≡◌, ◌⊎◌, ℕ, ◌&&◌, Bool, true, false, eqb, List, [], ◌∷◌, ◌++◌, length, append-nil, Option, Some, None, refl, ap, sym, ◌∙◌, arith, codes, inl, inr}
use Rattle.std.proofs.lemmas.Bool.{and_parts, both_ways, eqb-true, lt-ltb}
use Rattle.std.proofs.lemmas.Grind.{not_there}
use Rattle.std.proofs.lemmas.Str.{chars-append, encodes-chars}
use Rattle.std.specs.Char.{encode_utf8}
use Rattle.std.specs.Prelude.{slice_get}
use Rattle.std.specs.Str.{IsUtf8, chars, encode_utf8_all}
use Rattle.clap.specs.Lexer.{long_of, name_and_value, short_of}
use Rattle.clap.specs.Walk.{Text}
use Rattle.mt_words.specs.Words.{is_option, is_word}

-- a name is no flag, long or short
pub name_forms : (word : Text) → is_option word ≡ false → (long_of word ≡ None) × (short_of word ≡ None)
name_forms [] name = (refl, refl)
name_forms (first ∷ []) name = by_case (eqb first 45) refl
  where
    by_case : (t : Bool) → eqb first 45 ≡ t → (long_of (first ∷ []) ≡ None) × (short_of (first ∷ []) ≡ None)
    by_case true e = (rw e refl, rw e refl)
    by_case false e = (rw e refl, rw e refl)
name_forms (first ∷ second ∷ rest) name = by_case (eqb first 45) refl
  where
    by_case : (t : Bool) → eqb first 45 ≡ t → (long_of (first ∷ second ∷ rest) ≡ None) × (short_of (first ∷ second ∷ rest) ≡ None)
    by_case true e =
        let option : is_option (first ∷ second ∷ rest) ≡ true = rw (e, lt-ltb 0 (length (second ∷ rest)) (omega arith)) refl in
        absurd (both_ways _ name option)
    by_case false e = (rw e refl, rw e refl)

-- the word is a bundle of short flags
pub record IsBundle (word : Text) : Type 0 where
  pub first : ℕ
  pub others : Text
  pub not_long : long_of word ≡ None
  pub flags : short_of word ≡ Some (first ∷ others)
  pub is : word ≡ (45 ∷ first ∷ others)

pub record IsLong (word : Text) : Type 0 where
  pub flag : Text × Option Text
  pub is : long_of word ≡ Some flag

-- an option that is not `--` is a long flag, or a bundle of short ones
pub option_forms : (word : Text) → is_word word (codes "--") ≡ false → is_option word ≡ true → IsLong word ⊎ IsBundle word
option_forms [] other option = absurd (both_ways _ refl option)
option_forms (first ∷ []) other option = absurd (both_ways _ (no_longer (eqb first 45)) option)
  where
    no_longer : (t : Bool) → (t && false) ≡ false
    no_longer true = refl
    no_longer false = refl
option_forms (first ∷ second ∷ rest) other option = by_case (eqb second 45) refl
  where
    dash : eqb first 45 ≡ true
    dash = (and_parts (eqb first 45) _ option).0

    by_case : (t : Bool) → eqb second 45 ≡ t → IsLong (first ∷ second ∷ rest) ⊎ IsBundle (first ∷ second ∷ rest)
    by_case true e = longer rest other
      where
        longer : (rest : Text) → is_word (first ∷ second ∷ rest) (codes "--") ≡ false → IsLong (first ∷ second ∷ rest) ⊎ IsBundle (first ∷ second ∷ rest)
        longer [] other =
            let dashes : is_word (first ∷ second ∷ []) (codes "--") ≡ true = rw (dash, e) refl in
            absurd (both_ways _ other dashes)
        longer (third ∷ others) other = inl (record { flag = name_and_value (third ∷ others); is = rw (dash, e) refl })
    by_case false e = inr (record {
      first = second;
      others = rest;
      not_long = rw (dash, e) refl;
      flags = rw (dash, e) refl;
      is = ap (λ c. c ∷ second ∷ rest) (eqb-true first 45 dash);
    })

dash : IsUtf8 (45 ∷ [])
unfolding encode_utf8
dash = (45 ∷ [], (refl, refl))

-- a text that begins with `-` has a character behind it, if anything is there
has_char : (first : ℕ) (others : Text) → ∥ IsUtf8 (45 ∷ first ∷ others) ∥₁ → slice_get (chars (first ∷ others)) 0 ≡ None → ⊥
has_char first others text none = not_there text (λ utf8. shorter utf8 (chars (first ∷ others)) refl none)
  where
    shorter : IsUtf8 (45 ∷ first ∷ others) → (found : List ℕ) → chars (first ∷ others) ≡ found → slice_get found 0 ≡ None → ⊥
    shorter utf8 [] is none =
        let split : chars (45 ∷ first ∷ others) ≡ chars (45 ∷ []) = chars-append (45 ∷ []) (first ∷ others) dash ∙ (ap (λ found. chars (45 ∷ []) ++ found) is ∙ append-nil (chars (45 ∷ []))) in
        let same : (45 ∷ first ∷ others) ≡ (45 ∷ []) = sym (encodes-chars (45 ∷ first ∷ others) utf8) ∙ (ap encode_utf8_all split ∙ encodes-chars (45 ∷ []) dash) in
        let short : length (45 ∷ first ∷ others) ≡ 1 = ap length same in
        absurd (omega arith)
    shorter utf8 (c ∷ found) is none = cc

pub first_char : (first : ℕ) (others : Text) → ∥ IsUtf8 (45 ∷ first ∷ others) ∥₁ → (c : ℕ) × (slice_get (chars (first ∷ others)) 0 ≡ Some c)
first_char first others text = by_case (slice_get (chars (first ∷ others)) 0) refl
  where
    by_case : (found : Option ℕ) → slice_get (chars (first ∷ others)) 0 ≡ found → (c : ℕ) × (slice_get (chars (first ∷ others)) 0 ≡ Some c)
    by_case (Some c) is = (c, is)
    by_case None is = absurd (has_char first others text is)
