-- Words of `serve`, and those that ask for something else.
use Rattle.std.proofs.Common.{◌≡◌, ◌≤◌, ℕ, true, List, [], ◌∷◌, length, get_or, Option, Some, None, IsSome, refl, subst, arith, codes, inl, inr}
use Rattle.std.proofs.lemmas.Bool.{cases_Bool, false≢true}
use Rattle.std.proofs.lemmas.Slice.Eq.{bytes_eq-Decides}
use Rattle.std.specs.Global.{Global}
use Rattle.std.specs.Option.{option_and_then}
use Rattle.std.specs.Prelude.{String, string_bytes}
use Rattle.mt_words.specs.Words.{asked, asked_by, command_of, is_word, names_of, serve_words, words_of}
use Rattle.mt_words.specs.declared.command.Command.TheVariants.{Serve}

pub asks_nothing : (names : Option (List (List ℕ))) → option_and_then (asked_by Serve) names ≡ None
asks_nothing None = refl
asks_nothing (Some names) = refl

pub serve_asks_nothing : (words : List (String Global)) (first : String Global) → 1 ≤ length words → first ≡ get_or words 0 first → command_of (string_bytes first) ≡ Some Serve → asked (words_of words) ≡ None
serve_asks_nothing [] first le is serve = absurd (omega arith)
serve_asks_nothing (word ∷ words) first le is serve =
    let named : command_of (string_bytes word) ≡ Some Serve = subst (λ (w : String Global). command_of (string_bytes w) ≡ Some Serve) is serve in
    rw named (asks_nothing (names_of (words_of (word ∷ words))))

same_word : (word wanted : List ℕ) → is_word word wanted ≡ true → word ≡ wanted
same_word word wanted is = (bytes_eq-Decides word wanted).0 is

-- words that serve begin with `serve`
pub first_word : (first : List ℕ) (words : List (List ℕ)) → IsSome (serve_words (first ∷ words)) → first ≡ codes "serve"
first_word first words some = elim (cases_Bool (is_word first (codes "serve"))) [
  | inl is ↦ same_word first (codes "serve") is
  | inr other ↦ absurd (false≢true (rw other at some))
]
