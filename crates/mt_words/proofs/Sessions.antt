-- What the parse of `ask S CONFIG SCRIPT` and of `show S CONFIG OUTPUT` tells.
use Rattle.std.proofs.Common.{◌≡◌, ◌≢◌, ◌+◌, ◌<◌, Bool, true, false, eqb, List, [], ◌∷◌, ◌++◌, length, Option, Some, None, option_map, refl, ap, arith, codes}
use Rattle.std.proofs.lemmas.Bool.{ne_eqb}
use Rattle.std.specs.Option.{option_and_then}
use Rattle.std.specs.Global.{Global}
use Rattle.std.specs.Prelude.{String}
use Rattle.clap.specs.Faults.{defaults_fault, fault_of, step_fault}
use Rattle.clap.specs.Simple.{App, Shape, matches_of}
use Rattle.clap.specs.Kinds.{Kinds}
use Rattle.clap.specs.Walk.{Row, Text, arg_by_index, finished, first_of, to_positional, value}
use Rattle.mt_words.specs.Parsed.{session_app}
use Rattle.mt_words.specs.Words.{asked_by, exactly, names_of, session_among, session_of, words_of}
use Rattle.mt_words.specs.declared.asked.Asked.TheVariants as asks
use Rattle.mt_words.specs.declared.command.Command.TheVariants.{Ask, Show}
use Rattle.mt_words.proofs.Commanded.{commanded, shape_with}
use Rattle.mt_words.proofs.Walks.{Takes, Told, end_fault, held_at, rows_with, walk_at}

abbrev pub session_ids : List Text
session_ids = codes "session" ∷ codes "config" ∷ codes "file" ∷ []

abbrev pub session_shape : Text → Shape
session_shape name = shape_with name session_ids

session_fits : (name : Text) (is_behind : Bool) (texts : List Text) (word : Text) → length texts < 3
    → (step_fault (session_shape name) (length texts + 1) (held_at session_ids texts) value ≡ [])
    × (to_positional (session_shape name).rules (arg_by_index (session_shape name).rules (length texts + 1)) word (walk_at session_ids is_behind texts) (held_at session_ids texts) ≡ walk_at session_ids is_behind (texts ++ word ∷ []))
session_fits name true [] word lt = (refl, refl)
session_fits name false [] word lt = (refl, refl)
session_fits name true (a ∷ []) word lt = (refl, refl)
session_fits name false (a ∷ []) word lt = (refl, refl)
session_fits name true (a ∷ b ∷ []) word lt = (refl, refl)
session_fits name false (a ∷ b ∷ []) word lt = (refl, refl)
session_fits name is_behind (a ∷ b ∷ c ∷ texts) word lt = absurd (omega arith)

session_full : (name : Text) (texts : List Text) → length texts ≡ 3 → step_fault (session_shape name) (length texts + 1) (held_at session_ids texts) value ≢ []
session_full name [] e = absurd (omega arith)
session_full name (a ∷ []) e = absurd (omega arith)
session_full name (a ∷ b ∷ []) e = absurd (omega arith)
session_full name (a ∷ b ∷ c ∷ []) e = λ none. cc
session_full name (a ∷ b ∷ c ∷ d ∷ texts) e = absurd (omega arith)

session_missing : (name : Text) (texts : List Text) → length texts < 3 → end_fault (session_shape name) (held_at session_ids texts) ≢ []
unfolding defaults_fault
session_missing name [] lt = λ none. cc
session_missing name (a ∷ []) lt = λ none. cc
session_missing name (a ∷ b ∷ []) lt = λ none. cc
session_missing name (a ∷ b ∷ c ∷ texts) lt = absurd (omega arith)

session_whole : (name : Text) (texts : List Text) → length texts ≡ 3 → (end_fault (session_shape name) (held_at session_ids texts) ≡ []) × (finished (session_shape name).rules (held_at session_ids texts) ≡ rows_with session_ids texts)
unfolding defaults_fault
session_whole name [] e = absurd (omega arith)
session_whole name (a ∷ []) e = absurd (omega arith)
session_whole name (a ∷ b ∷ []) e = absurd (omega arith)
session_whole name (a ∷ b ∷ c ∷ []) e = (refl, refl)
session_whole name (a ∷ b ∷ c ∷ d ∷ texts) e = absurd (omega arith)

session_takes : (name : Text) → Takes (session_shape name) session_ids
session_takes name = record {
  fits = session_fits name;
  full = session_full name;
  no_long = λ flag. refl;
  no_short = λ c. refl;
  missing = session_missing name;
  whole = session_whole name;
}

-- words that name a session, as the parser found them
pub record IsOfSession (found : Option (List Text)) (rows : List Row) : Type 0 where
  pub session : Text
  pub session_found : first_of (codes "session") rows ≡ Some session
  pub named : option_and_then session_among found ≡ session_of session

session_fine : (found : Option (List Text)) (faults : Kinds) (rows : List Row) → Told session_ids (exactly 3 found) faults rows → faults ≡ [] → IsOfSession found rows
session_fine None faults rows told none = absurd (told none)
session_fine (Some []) faults rows told none = absurd (told none)
session_fine (Some (a ∷ [])) faults rows told none = absurd (told none)
session_fine (Some (a ∷ b ∷ [])) faults rows told none = absurd (told none)
session_fine (Some (a ∷ b ∷ c ∷ [])) faults rows told none = record { session = a; session_found = ap (first_of (codes "session")) told.1; named = refl }
session_fine (Some (a ∷ b ∷ c ∷ d ∷ texts)) faults rows told none =
    let long : eqb (length (a ∷ b ∷ c ∷ d ∷ texts)) 3 ≡ false = ne_eqb _ _ (λ e. omega arith) in
    absurd ((rw long at told) none)

session_bad : (found : Option (List Text)) (faults : Kinds) (rows : List Row) → Told session_ids (exactly 3 found) faults rows → faults ≢ []
    → option_and_then session_among found ≡ None
session_bad None faults rows told bad = refl
session_bad (Some []) faults rows told bad = refl
session_bad (Some (a ∷ [])) faults rows told bad = refl
session_bad (Some (a ∷ b ∷ [])) faults rows told bad = refl
session_bad (Some (a ∷ b ∷ c ∷ [])) faults rows told bad = absurd (bad told.0)
session_bad (Some (a ∷ b ∷ c ∷ d ∷ texts)) faults rows told bad = refl

pub session_parsed : (name : Text) (a : App) (words : List (String Global)) (rows : List Row) → a ≡ session_app name → fault_of a (words_of words) ≡ [] → rows ≡ matches_of a (words_of words)
    → IsOfSession (names_of (words_of words)) rows
session_parsed name a words rows is none found = session_fine (names_of (words_of words)) _ rows (commanded _ _ _ (session_takes name) a words rows is found) none

pub session_refused : (name : Text) (a : App) (words : List (String Global)) → a ≡ session_app name → fault_of a (words_of words) ≢ []
    → option_and_then session_among (names_of (words_of words)) ≡ None
session_refused name a words is fails = session_bad (names_of (words_of words)) _ _ (commanded _ _ _ (session_takes name) a words _ is refl) fails

-- what the two commands ask for, by the session that is named

pub asks_ask : (found : Option (List Text)) → option_and_then (asked_by Ask) found ≡ option_map asks.Ask (option_and_then session_among found)
asks_ask None = refl
asks_ask (Some []) = refl
asks_ask (Some (a ∷ [])) = refl
asks_ask (Some (a ∷ b ∷ [])) = refl
asks_ask (Some (a ∷ b ∷ c ∷ [])) = refl
asks_ask (Some (a ∷ b ∷ c ∷ d ∷ texts)) = refl

pub asks_show : (found : Option (List Text)) → option_and_then (asked_by Show) found ≡ option_map asks.Show (option_and_then session_among found)
asks_show None = refl
asks_show (Some []) = refl
asks_show (Some (a ∷ [])) = refl
asks_show (Some (a ∷ b ∷ [])) = refl
asks_show (Some (a ∷ b ∷ c ∷ [])) = refl
asks_show (Some (a ∷ b ∷ c ∷ d ∷ texts)) = refl
