use Rattle.std.proofs.Common.{◌≡◌, refl, subst, sym, ℕ, List, [], ◌∷◌, None, IsSome, codes, option_map}
use Rattle.std.proofs.lemmas.Bool.{false≢true}
use Rattle.mt_words.specs.Words.{asked, files_of, names_of, serve_files, serve_words}
use Rattle.mt_words.proofs.Apart.{asks_nothing, first_word}
use Rattle.mt_words.proofs.laws.words_that_serve_name_files.Goals as goal

named : (words : List (List ℕ)) → IsSome (serve_words words) → files_of words ≡ option_map serve_files (serve_words words)
named [] some = absurd (false≢true some)
named (first ∷ words) some = subst (λ (word : List ℕ). files_of (word ∷ words) ≡ option_map serve_files (serve_words (word ∷ words))) (sym (first_word first words some)) refl

apart : (words : List (List ℕ)) → IsSome (serve_words words) → asked words ≡ None
apart [] some = absurd (false≢true some)
apart (first ∷ words) some = subst (λ (word : List ℕ). asked (word ∷ words) ≡ None) (sym (first_word first words some)) (asks_nothing (names_of (codes "serve" ∷ words)))

pub returns-clause-files : goal.returns-clause-files
returns-clause-files c = named

pub returns-clause-alone : goal.returns-clause-alone
returns-clause-alone c = apart
