-- What the words of `serve` ask for.
use Rattle.std.proofs.Common.{◌≡◌, ◌∙◌, refl, sym, ap, Option, Some, None}
use Rattle.std.specs.Option.{option_map}
use Rattle.mt_words.specs.declared.serve.Serve.{Serve}
use Rattle.mt_words.specs.declared.serve.ServeWords.{ServeWords}

-- the words have a form, and ask for this
pub record HasFound (words : Option ServeWords) (asked : Serve) : Type 0 where
  pub found : ServeWords
  pub is : words ≡ Some found
  pub asks : found.asked ≡ asked

same_asked : (a b : Serve) → Some a ≡ Some b → b ≡ a
same_asked a b same = cc

pub has_found : (words : Option ServeWords) (asked : Serve) → Some asked ≡ option_map (λ (found : ServeWords). found.asked) words → HasFound words asked
has_found None asked same = absurd cc
has_found (Some found) asked same = record { found = found; is = refl; asks = same_asked asked found.asked same }

-- and so of each words that are found
pub found_asks : (words : Option ServeWords) (asked : Serve) (found : ServeWords) → Some asked ≡ option_map (λ (one : ServeWords). one.asked) words → words ≡ Some found → asked ≡ found.asked
found_asks words asked found same is = same_asked found.asked asked (ap (option_map (λ (one : ServeWords). one.asked)) (sym is) ∙ sym same)
