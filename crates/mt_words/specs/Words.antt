-- Which words are a command, which of them name its files, and what they ask for.
use Rattle.std.specs.Prelude.{ℕ, ◌+◌, ◌^◌, ◌-◌, ◌==◌, nat_lt, ◌&&◌, not, Bool, false, List, [], ◌∷◌, Option, Some, None, codes, drop, length, map, nat_eq, string_bytes, String, take, if◌then◌else◌}
use Rattle.std.specs.Cmp.Lexicographic.{pointwise}
use Rattle.std.specs.Global.{Global}
use Rattle.std.specs.List.{slice_index_or}
use Rattle.std.specs.Option.{option_and_then, option_map}
use Rattle.mt_files.specs.Field.{number_between}
use Rattle.mt_words.specs.declared.asked.Asked.{Asked}
use Rattle.mt_words.specs.declared.asked.Asked.TheVariants as asks
use Rattle.mt_words.specs.declared.command.Command.{Command}
use Rattle.mt_words.specs.declared.command.Command.TheVariants.{Ask, Compare, Replay, Serve, Settle, Show, Soak}
use Rattle.mt_words.specs.declared.files.Files.{Files}
use Rattle.mt_words.specs.declared.serve.ServeOption.{ServeOption}
use Rattle.mt_words.specs.declared.serve.ServeOption.TheVariants.{Datagrams, Workers}
use Rattle.mt_words.specs.declared.serve.ServeWords.{ServeWords}

-- Words.

-- the words as bytes
abbrev pub words_of : List (String Global) → List (List ℕ)
words_of words = map string_bytes words

abbrev pub is_word : List ℕ → List ℕ → Bool
is_word word wanted = pointwise nat_eq word wanted

-- whether a word begins with this front
abbrev pub begins : List ℕ → List ℕ → Bool
begins word front = pointwise nat_eq (take (length front) word) front

-- what is behind it
abbrev pub behind : List ℕ → List ℕ → List ℕ
behind word front = drop (length front) word

-- whether a word begins with `-` and is longer than that
abbrev pub is_option : List ℕ → Bool
is_option [] = false
is_option (first ∷ others) = nat_eq first 45 && nat_lt 0 (length others)

-- whether a word before `--` is positional
abbrev pub is_name : List ℕ → Bool
is_name word = not (is_option word)

-- Positional words.

-- the places of words, from this one on
abbrev pub places_from : ℕ → List (List ℕ) → List ℕ
places_from place [] = []
places_from place (word ∷ words) = place ∷ places_from (place + 1) words

-- The places of the positional words, the first of which has this place. A word `--` is none, and
-- all behind it are; before it no word may be an option, since no command but `serve` has one.
abbrev pub positional_from : ℕ → List (List ℕ) → Option (List ℕ)
positional_from place [] = Some []
positional_from place (word ∷ words) =
    if is_word word (codes "--") then Some (places_from (place + 1) words)
    else if is_option word then None
    else option_map (λ places. place ∷ places) (positional_from (place + 1) words)

-- so many, and no more
abbrev pub exactly : {A : Type 0} → ℕ → Option (List A) → Option (List A)
exactly count found = option_and_then (λ items. if length items == count then Some items else None) found

-- the words at these places
abbrev pub words_at : List (List ℕ) → List ℕ → List (List ℕ)
words_at words places = map (λ place. slice_index_or words place []) places

-- the positional words behind the first word
abbrev pub names_of : List (List ℕ) → Option (List (List ℕ))
names_of words = option_map (words_at words) (positional_from 1 (drop 1 words))

-- Numbers, in decimal digits with no sign and no leading zero.

-- a number of 64 bits
abbrev pub begin_of : List ℕ → Option ℕ
begin_of word = number_between 0 (2 ^ 64 - 1) word

-- how long a soak is
abbrev pub count_of : List ℕ → Option ℕ
count_of word = number_between 1 100000 word

-- a fabric
abbrev pub fabric_of : List ℕ → Option ℕ
fabric_of word = number_between 1 254 word

-- the node's id of a session
abbrev pub session_of : List ℕ → Option ℕ
session_of word = number_between 1 65535 word

-- how many workers serve
abbrev pub workers_of : List ℕ → Option ℕ
workers_of word = number_between 1 8 word

-- how many datagrams are served
abbrev pub datagrams_of : List ℕ → Option ℕ
datagrams_of word = number_between 1 1048576 word

-- Serving. `serve` takes `--workers W --datagrams N CONFIG JOURNAL BIND`. The two options stand
-- before any `--`, among the other words as they like, each with its value behind `=` or as the next
-- word.

-- what is given by words
pub record Given : Type 0 where
  -- the values of `--workers`
  pub workers : List (List ℕ)
  -- the values of `--datagrams`
  pub datagrams : List (List ℕ)
  -- the places of the positional words
  pub places : List ℕ

abbrev pub places_alone : List ℕ → Given
places_alone places = record { workers = []; datagrams = []; places = places }

abbrev pub with_value : ServeOption → List ℕ → Given → Given
with_value Workers value given = record given { workers = value ∷ given.workers }
with_value Datagrams value given = record given { datagrams = value ∷ given.datagrams }

abbrev pub with_place : ℕ → Given → Given
with_place place given = record given { places = place ∷ given.places }

-- What is given by words, the first of which has this place. Where an option before it still wants its
-- value, the first word is that, whatever it is.
abbrev pub given_from : Option ServeOption → ℕ → List (List ℕ) → Option Given
given_from (Some option) place [] = None
given_from (Some option) place (value ∷ words) = option_map (with_value option value) (given_from None (place + 1) words)
given_from None place [] = Some (places_alone [])
given_from None place (word ∷ words) =
    if is_word word (codes "--") then Some (places_alone (places_from (place + 1) words))
    else if is_word word (codes "--workers") then given_from (Some Workers) (place + 1) words
    else if is_word word (codes "--datagrams") then given_from (Some Datagrams) (place + 1) words
    else if begins word (codes "--workers=") then option_map (with_value Workers (behind word (codes "--workers="))) (given_from None (place + 1) words)
    else if begins word (codes "--datagrams=") then option_map (with_value Datagrams (behind word (codes "--datagrams="))) (given_from None (place + 1) words)
    else if is_option word then None
    else option_map (with_place place) (given_from None (place + 1) words)

-- the number that is the value of an option, if it is given once
abbrev pub once : (List ℕ → Option ℕ) → List (List ℕ) → Option ℕ
once number (value ∷ []) = number value
once number values = None

-- both options, and three positional words
abbrev pub serve_with : Option ℕ → Option ℕ → List ℕ → Option ServeWords
serve_with (Some workers) (Some datagrams) (config ∷ journal ∷ bind ∷ []) = Some (record { asked = record { workers = workers; datagrams = datagrams }; config = config; journal = journal; bind = bind })
serve_with _ _ places = None

abbrev pub serve_by : Given → Option ServeWords
serve_by given = serve_with (once workers_of given.workers) (once datagrams_of given.datagrams) given.places

-- what the words behind `serve` say
abbrev pub served : List (List ℕ) → Option ServeWords
served words = option_and_then serve_by (given_from None 1 words)

-- what the words say, the first being `serve`, None where they have no form
abbrev pub serve_words : List (List ℕ) → Option ServeWords
serve_words [] = None
serve_words (command ∷ words) = if is_word command (codes "serve") then served words else None

-- Commands. What stands at the head of each rule below is what the command takes, in this order:
-- `replay CONFIG RECORDING`, `soak BEGIN COUNT CONFIG`, `compare F CONFIG FIRST SECOND`,
-- `settle CONFIG JOURNAL`, `ask S CONFIG SCRIPT`, `show S CONFIG OUTPUT`. What `serve` takes is told above.

abbrev pub command_of : List ℕ → Option Command
command_of word =
    if is_word word (codes "replay") then Some Replay
    else if is_word word (codes "soak") then Some Soak
    else if is_word word (codes "compare") then Some Compare
    else if is_word word (codes "settle") then Some Settle
    else if is_word word (codes "ask") then Some Ask
    else if is_word word (codes "show") then Some Show
    else if is_word word (codes "serve") then Some Serve
    else None

-- Files.

-- the files of a command without options, by the places of its positional words
abbrev pub files_at : Command → List ℕ → Option Files
files_at Replay (config ∷ recording ∷ []) = Some (record { config = config; first = Some recording; second = None; journal = None; bind = None })
files_at Soak (begin ∷ count ∷ config ∷ []) = Some (record { config = config; first = None; second = None; journal = None; bind = None })
files_at Compare (fabric ∷ config ∷ first ∷ second ∷ []) = Some (record { config = config; first = Some first; second = Some second; journal = None; bind = None })
files_at Settle (config ∷ journal ∷ []) = Some (record { config = config; first = None; second = None; journal = Some journal; bind = None })
files_at Ask (session ∷ config ∷ script ∷ []) = Some (record { config = config; first = Some script; second = None; journal = None; bind = None })
files_at Show (session ∷ config ∷ output ∷ []) = Some (record { config = config; first = Some output; second = None; journal = None; bind = None })
files_at _ places = None

abbrev pub serve_files : ServeWords → Files
serve_files found = record { config = found.config; first = None; second = None; journal = Some found.journal; bind = Some found.bind }

-- The files that the words behind a command name. Those of `serve` are found with its options, so there
-- are none where an option is missing or has no form.
abbrev pub files_behind : Command → List (List ℕ) → Option Files
files_behind Serve words = option_map serve_files (served words)
files_behind command words = option_and_then (files_at command) (positional_from 1 words)

-- the files that the words name, None where they have no form
abbrev pub files_of : List (List ℕ) → Option Files
files_of [] = None
files_of (command ∷ words) = option_and_then (λ found. files_behind found words) (command_of command)

-- What is asked for.

abbrev pub soak_of : Option ℕ → Option ℕ → Option Asked
soak_of (Some begin) (Some count) = Some (asks.Soak begin count)
soak_of _ _ = None

-- the session that is named by the first of three positional words
abbrev pub session_among : List (List ℕ) → Option ℕ
session_among (session ∷ config ∷ file ∷ []) = session_of session
session_among words = None

-- what a command asks for, by its positional words; `serve` asks for nothing that is played
abbrev pub asked_by : Command → List (List ℕ) → Option Asked
asked_by Replay (config ∷ recording ∷ []) = Some asks.Replay
asked_by Soak (begin ∷ count ∷ config ∷ []) = soak_of (begin_of begin) (count_of count)
asked_by Compare (fabric ∷ config ∷ first ∷ second ∷ []) = option_map asks.Compare (fabric_of fabric)
asked_by Settle (config ∷ journal ∷ []) = Some asks.Settle
asked_by Ask (session ∷ config ∷ script ∷ []) = option_map asks.Ask (session_of session)
asked_by Show (session ∷ config ∷ output ∷ []) = option_map asks.Show (session_of session)
asked_by _ words = None

-- what the words ask for, None where they have no form
abbrev pub asked : List (List ℕ) → Option Asked
asked [] = None
asked (command ∷ words) = option_and_then (λ found. option_and_then (asked_by found) (names_of (command ∷ words))) (command_of command)
