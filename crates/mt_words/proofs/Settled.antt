-- What the parse of `settle CONFIG JOURNAL` tells.
use Rattle.std.proofs.Common.{◌≡◌, ◌≢◌, ◌+◌, ◌<◌, Bool, true, false, eqb, List, [], ◌∷◌, ◌++◌, length, Option, Some, None, refl, arith, codes}
use Rattle.std.proofs.lemmas.Bool.{ne_eqb}
use Rattle.std.specs.Option.{option_and_then}
use Rattle.std.specs.Global.{Global}
use Rattle.std.specs.Prelude.{String}
use Rattle.clap.specs.Faults.{defaults_fault, fault_of, step_fault}
use Rattle.clap.specs.Simple.{App, Shape}
use Rattle.clap.specs.Kinds.{Kinds}
use Rattle.clap.specs.Walk.{Row, Text, arg_by_index, finished, to_positional, value}
use Rattle.mt_words.specs.Parsed.{settle_app}
use Rattle.mt_words.specs.Words.{asked_by, exactly, names_of, words_of}
use Rattle.mt_words.specs.declared.asked.Asked.TheVariants as asks
use Rattle.mt_words.specs.declared.command.Command.TheVariants.{Settle}
use Rattle.mt_words.proofs.Commanded.{commanded, shape_with}
use Rattle.mt_words.proofs.Walks.{Takes, Told, end_fault, held_at, rows_with, walk_at}

abbrev pub settle_ids : List Text
settle_ids = codes "config" ∷ codes "journal" ∷ []

abbrev pub settle_shape : Shape
settle_shape = shape_with (codes "settle") settle_ids

settle_fits : (is_behind : Bool) (texts : List Text) (word : Text) → length texts < 2
    → (step_fault settle_shape (length texts + 1) (held_at settle_ids texts) value ≡ [])
    × (to_positional settle_shape.rules (arg_by_index settle_shape.rules (length texts + 1)) word (walk_at settle_ids is_behind texts) (held_at settle_ids texts) ≡ walk_at settle_ids is_behind (texts ++ word ∷ []))
settle_fits true [] word lt = (refl, refl)
settle_fits false [] word lt = (refl, refl)
settle_fits true (a ∷ []) word lt = (refl, refl)
settle_fits false (a ∷ []) word lt = (refl, refl)
settle_fits is_behind (a ∷ b ∷ texts) word lt = absurd (omega arith)

settle_full : (texts : List Text) → length texts ≡ 2 → step_fault settle_shape (length texts + 1) (held_at settle_ids texts) value ≢ []
settle_full [] e = absurd (omega arith)
settle_full (a ∷ []) e = absurd (omega arith)
settle_full (a ∷ b ∷ []) e = λ none. cc
settle_full (a ∷ b ∷ c ∷ texts) e = absurd (omega arith)

settle_missing : (texts : List Text) → length texts < 2 → end_fault settle_shape (held_at settle_ids texts) ≢ []
unfolding defaults_fault
settle_missing [] lt = λ none. cc
settle_missing (a ∷ []) lt = λ none. cc
settle_missing (a ∷ b ∷ texts) lt = absurd (omega arith)

settle_whole : (texts : List Text) → length texts ≡ 2 → (end_fault settle_shape (held_at settle_ids texts) ≡ []) × (finished settle_shape.rules (held_at settle_ids texts) ≡ rows_with settle_ids texts)
unfolding defaults_fault
settle_whole [] e = absurd (omega arith)
settle_whole (a ∷ []) e = absurd (omega arith)
settle_whole (a ∷ b ∷ []) e = (refl, refl)
settle_whole (a ∷ b ∷ c ∷ texts) e = absurd (omega arith)

settle_takes : Takes settle_shape settle_ids
settle_takes = record {
  fits = settle_fits;
  full = settle_full;
  no_long = λ flag. refl;
  no_short = λ c. refl;
  missing = settle_missing;
  whole = settle_whole;
}

settle_fine : (found : Option (List Text)) (faults : Kinds) (rows : List Row) → Told settle_ids (exactly 2 found) faults rows → faults ≡ []
    → option_and_then (asked_by Settle) found ≡ Some asks.Settle
settle_fine None faults rows told none = absurd (told none)
settle_fine (Some []) faults rows told none = absurd (told none)
settle_fine (Some (a ∷ [])) faults rows told none = absurd (told none)
settle_fine (Some (a ∷ b ∷ [])) faults rows told none = refl
settle_fine (Some (a ∷ b ∷ c ∷ texts)) faults rows told none =
    let long : eqb (length (a ∷ b ∷ c ∷ texts)) 2 ≡ false = ne_eqb _ _ (λ e. omega arith) in
    absurd ((rw long at told) none)

settle_bad : (found : Option (List Text)) (faults : Kinds) (rows : List Row) → Told settle_ids (exactly 2 found) faults rows → faults ≢ []
    → option_and_then (asked_by Settle) found ≡ None
settle_bad None faults rows told bad = refl
settle_bad (Some []) faults rows told bad = refl
settle_bad (Some (a ∷ [])) faults rows told bad = refl
settle_bad (Some (a ∷ b ∷ [])) faults rows told bad = absurd (bad told.0)
settle_bad (Some (a ∷ b ∷ c ∷ texts)) faults rows told bad = refl

pub settle_parsed : (a : App) (words : List (String Global)) → a ≡ settle_app → fault_of a (words_of words) ≡ []
    → option_and_then (asked_by Settle) (names_of (words_of words)) ≡ Some asks.Settle
settle_parsed a words is none = settle_fine (names_of (words_of words)) _ _ (commanded _ _ _ settle_takes a words _ is refl) none

pub settle_refused : (a : App) (words : List (String Global)) → a ≡ settle_app → fault_of a (words_of words) ≢ []
    → option_and_then (asked_by Settle) (names_of (words_of words)) ≡ None
settle_refused a words is fails = settle_bad (names_of (words_of words)) _ _ (commanded _ _ _ settle_takes a words _ is refl) fails
