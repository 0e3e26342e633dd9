use Rattle.std.proofs.Common.{refl, subst, ℕ, List, [], ◌∷◌, Option, Some, None, IsSome, option_map}
use Rattle.std.proofs.lemmas.Bool.{false≢true}
use Rattle.std.specs.Option.{option_and_then}
use Rattle.mt_words.specs.Words.{asked, asked_by, command_of, files_at, files_behind, files_of, names_of, positional_from, words_at}
use Rattle.mt_words.specs.declared.command.Command.{Command}
use Rattle.mt_words.specs.declared.command.Command.TheVariants.{Ask, Compare, Replay, Serve, Settle, Show, Soak}
use Rattle.mt_words.proofs.Apart.{asks_nothing}
use Rattle.mt_words.proofs.laws.words_that_ask_name_files.Goals as goal

at : (command : Command) (places : List ℕ) (words : List (List ℕ)) → IsSome (asked_by command (words_at words places)) → IsSome (files_at command places)
at Replay [] words some = some
at Replay (a ∷ []) words some = some
at Replay (a ∷ b ∷ []) words some = refl
at Replay (a ∷ b ∷ c ∷ places) words some = some
at Soak [] words some = some
at Soak (a ∷ []) words some = some
at Soak (a ∷ b ∷ []) words some = some
at Soak (a ∷ b ∷ c ∷ []) words some = refl
at Soak (a ∷ b ∷ c ∷ d ∷ places) words some = some
at Compare [] words some = some
at Compare (a ∷ []) words some = some
at Compare (a ∷ b ∷ []) words some = some
at Compare (a ∷ b ∷ c ∷ []) words some = some
at Compare (a ∷ b ∷ c ∷ d ∷ []) words some = refl
at Compare (a ∷ b ∷ c ∷ d ∷ e ∷ places) words some = some
at Settle [] words some = some
at Settle (a ∷ []) words some = some
at Settle (a ∷ b ∷ []) words some = refl
at Settle (a ∷ b ∷ c ∷ places) words some = some
at Ask [] words some = some
at Ask (a ∷ []) words some = some
at Ask (a ∷ b ∷ []) words some = some
at Ask (a ∷ b ∷ c ∷ []) words some = refl
at Ask (a ∷ b ∷ c ∷ d ∷ places) words some = some
at Show [] words some = some
at Show (a ∷ []) words some = some
at Show (a ∷ b ∷ []) words some = some
at Show (a ∷ b ∷ c ∷ []) words some = refl
at Show (a ∷ b ∷ c ∷ d ∷ places) words some = some
at Serve places words some = some

by_places : (command : Command) (found : Option (List ℕ)) (words : List (List ℕ)) → IsSome (option_and_then (asked_by command) (option_map (words_at words) found)) → IsSome (option_and_then (files_at command) found)
by_places command None words some = some
by_places command (Some places) words some = at command places words some

by_command : (found : Option Command) (first : List ℕ) (words : List (List ℕ)) → IsSome (option_and_then (λ found. option_and_then (asked_by found) (names_of (first ∷ words))) found)
    → IsSome (option_and_then (λ command. files_behind command words) found)
by_command None first words some = some
by_command (Some Serve) first words some = absurd (false≢true (subst IsSome (asks_nothing (names_of (first ∷ words))) some))
by_command (Some command) first words some = by_places command (positional_from 1 words) (first ∷ words) some

named : (words : List (List ℕ)) → IsSome (asked words) → IsSome (files_of words)
named [] some = some
named (first ∷ words) some = by_command (command_of first) first words some

pub returns : goal.returns
returns c = named
