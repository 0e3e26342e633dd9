-- How the words behind `serve` are gone over, one after the other. No clause of a public call cites it.
use Rattle.std.specs.Prelude.{ℕ, ◌+◌, List, [], ◌∷◌, Option, Some, None, codes, if◌then◌else◌}
use Rattle.std.specs.Option.{option_and_then, option_map}
use Rattle.mt_words.specs.Words.{begins, behind, datagrams_of, is_option, is_word, workers_of}
use Rattle.mt_words.specs.declared.serve.ServeOption.{ServeOption}
use Rattle.mt_words.specs.declared.serve.ServeOption.TheVariants.{Datagrams, Workers}
use Rattle.mt_words.specs.declared.serve.ServeWords.{ServeWords}
use Rattle.mt_words.specs.declared.sorting.Places.{Places}
use Rattle.mt_words.specs.declared.sorting.Places.TheVariants.{Nothing, One, Three, Two}
use Rattle.mt_words.specs.declared.sorting.Found.{Found}
use Rattle.mt_words.specs.declared.sorting.Stage.{Stage}
use Rattle.mt_words.specs.declared.sorting.Stage.TheVariants.{Before, Behind, Waits}

-- before the first word
abbrev pub start : Found
start = record { stage = Before; workers = None; datagrams = None; places = Nothing }

-- there are no more than three places
abbrev pub next_place : ℕ → Places → Option Places
next_place place Nothing = Some (One place)
next_place place (One first) = Some (Two first place)
next_place place (Two first second) = Some (Three first second place)
next_place place (Three first second third) = None

abbrev pub add_place : ℕ → Found → Option Found
add_place place found = option_map (λ places. record found { places = places }) (next_place place found.places)

-- a number, where none is held
abbrev pub first_number : Option ℕ → Option ℕ → Option ℕ
first_number None number = number
first_number (Some held) number = None

abbrev pub add_value : ServeOption → List ℕ → Found → Option Found
add_value Workers value found = option_map (λ number. record found { workers = Some number }) (first_number found.workers (workers_of value))
add_value Datagrams value found = option_map (λ number. record found { datagrams = Some number }) (first_number found.datagrams (datagrams_of value))

-- before `--`, a word that is no option without its value
abbrev pub sorted_word : Found → ℕ → List ℕ → Option Found
sorted_word found place word =
    if begins word (codes "--workers=") then add_value Workers (behind word (codes "--workers=")) found
    else if begins word (codes "--datagrams=") then add_value Datagrams (behind word (codes "--datagrams=")) found
    else if is_option word then None
    else add_place place found

abbrev pub sorted_before : Found → ℕ → List ℕ → Option Found
sorted_before found place word =
    if is_word word (codes "--") then Some (record found { stage = Behind })
    else if is_word word (codes "--workers") then Some (record found { stage = Waits Workers })
    else if is_word word (codes "--datagrams") then Some (record found { stage = Waits Datagrams })
    else sorted_word found place word

abbrev pub sorted_at : Stage → Found → ℕ → List ℕ → Option Found
sorted_at Before found place word = sorted_before found place word
sorted_at (Waits option) found place word = add_value option word (record found { stage = Before })
sorted_at Behind found place word = add_place place found

-- the word at this place, and those before it
abbrev pub sorted : Found → ℕ → List ℕ → Option Found
sorted found place word = sorted_at found.stage found place word

abbrev pub whole : Option ℕ → Option ℕ → Places → Option ServeWords
whole (Some workers) (Some datagrams) (Three config journal bind) = Some (record { asked = record { workers = workers; datagrams = datagrams }; config = config; journal = journal; bind = bind })
whole _ _ _ = None

-- no option may want its value behind the last word
abbrev pub ended_at : Stage → Found → Option ServeWords
ended_at Before found = whole found.workers found.datagrams found.places
ended_at (Waits option) found = None
ended_at Behind found = whole found.workers found.datagrams found.places

abbrev pub ended : Found → Option ServeWords
ended found = ended_at found.stage found

-- what comes of further words, the first of which has this place
abbrev pub comes_to : Found → ℕ → List (List ℕ) → Option ServeWords
comes_to found place [] = ended found
comes_to found place (word ∷ words) = option_and_then (λ next. comes_to next (place + 1) words) (sorted found place word)
