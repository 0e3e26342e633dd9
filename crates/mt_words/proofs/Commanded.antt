-- What the parse of each command tells.
use Rattle.std.proofs.Common.{◌≡◌, ◌≢◌, ◌+◌, ◌<◌, Bool, true, false, eqb, List, [], ◌∷◌, ◌++◌, length, map, drop, Option, Some, None, is_some, option_map, refl, ap, ◌∙◌, arith, codes}
use Rattle.std.proofs.lemmas.Bool.{ne_eqb}
use Rattle.std.specs.Option.{option_and_then}
use Rattle.std.specs.Global.{Global}
use Rattle.std.specs.Prelude.{String, string_bytes}
use Rattle.clap.specs.Faults.{defaults_fault, entered_fault, fault_of, level_fault, step_fault}
use Rattle.clap.specs.Simple.{App, Shape, built, entered, matches_of}
use Rattle.clap.specs.Kinds.{Kinds}
use Rattle.clap.specs.Walk.{Row, Text, first_of, arg_by_index, finished, nothing_held, to_positional, value, walk}
use Rattle.mt_words.specs.Parsed.{app_with, compare_app, replay_app, soak_app}
use Rattle.mt_words.specs.Words.{asked_by, begin_of, count_of, exactly, fabric_of, names_of, soak_of, words_of}
use Rattle.mt_words.specs.declared.asked.Asked.TheVariants as asks
use Rattle.mt_words.specs.declared.command.Command.TheVariants.{Compare, Replay, Soak}
use Rattle.mt_words.proofs.Names.{names_in, names_of-names}
use Rattle.mt_words.proofs.Walks.{Takes, Told, end_fault, held_at, names_behind, names_left, rows_with, told, told_so, walk_at, walk_faults, walk_rows}

behind_first : (words : List (String Global)) → drop 1 (words_of words) ≡ map string_bytes (drop 1 words)
behind_first [] = refl
behind_first (word ∷ words) = refl

none_in_front : (found : Option (List Text)) → found ≡ names_behind [] found
none_in_front None = refl
none_in_front (Some names) = refl

names_behind_first : (words : List (String Global)) → names_of (words_of words) ≡ names_behind [] (names_left false (map string_bytes (drop 1 words)))
names_behind_first words = names_of-names (words_of words) ∙ (ap names_in (behind_first words) ∙ none_in_front (names_left false (map string_bytes (drop 1 words))))

-- a command of names

abbrev pub shape_with : Text → List Text → Shape
shape_with name ids = (built (app_with name ids)).top

faults : (name id : Text) (ids words : List Text)
    → fault_of (app_with name (id ∷ ids)) words ≡ walk_faults (shape_with name (id ∷ ids)) (walk_at (id ∷ ids) false []) (drop 1 words)
faults name id ids words = by_stop (walk (shape_with name (id ∷ ids)).rules [] nothing_held (drop 1 words)).stopped
  where
    by_stop : (stop : Option (Text × List Text))
        → level_fault (shape_with name (id ∷ ids)) [] nothing_held (drop 1 words) (is_some (entered (built (app_with name (id ∷ ids))) stop)) (entered_fault (built (app_with name (id ∷ ids))) stop)
        ≡ walk_faults (shape_with name (id ∷ ids)) (walk_at (id ∷ ids) false []) (drop 1 words)
    by_stop None = refl
    by_stop (Some met) = refl

-- what its parse tells, where it takes a name for each of these and nothing else
pub commanded : (name id : Text) (ids : List Text) → Takes (shape_with name (id ∷ ids)) (id ∷ ids)
    → (a : App) (words : List (String Global)) (rows : List Row) → a ≡ app_with name (id ∷ ids) → rows ≡ matches_of a (words_of words)
    → Told (id ∷ ids) (exactly (length (id ∷ ids)) (names_of (words_of words))) (fault_of a (words_of words)) rows
commanded name id ids takes a words rows is found =
    let shape = shape_with name (id ∷ ids) in
    let all = id ∷ ids in
    told_so all _ _ _ _ _ _
    (ap (exactly (length all)) (names_behind_first words))
    (ap (λ (a : App). fault_of a (words_of words)) is ∙ (faults name id ids (words_of words) ∙ ap (walk_faults shape (walk_at all false [])) (behind_first words)))
    (found ∙ (ap (λ (a : App). matches_of a (words_of words)) is ∙ ap (walk_rows shape (walk_at all false [])) (behind_first words)))
    (told shape all takes false (drop 1 words) [] (omega arith))

-- `replay CONFIG RECORDING`

abbrev pub replay_ids : List Text
replay_ids = codes "config" ∷ codes "recording" ∷ []

abbrev pub replay_shape : Shape
replay_shape = shape_with (codes "replay") replay_ids

replay_fits : (is_behind : Bool) (texts : List Text) (word : Text) → length texts < 2
    → (step_fault replay_shape (length texts + 1) (held_at replay_ids texts) value ≡ [])
    × (to_positional replay_shape.rules (arg_by_index replay_shape.rules (length texts + 1)) word (walk_at replay_ids is_behind texts) (held_at replay_ids texts) ≡ walk_at replay_ids is_behind (texts ++ word ∷ []))
replay_fits true [] word lt = (refl, refl)
replay_fits false [] word lt = (refl, refl)
replay_fits true (a ∷ []) word lt = (refl, refl)
replay_fits false (a ∷ []) word lt = (refl, refl)
replay_fits is_behind (a ∷ b ∷ texts) word lt = absurd (omega arith)

replay_full : (texts : List Text) → length texts ≡ 2 → step_fault replay_shape (length texts + 1) (held_at replay_ids texts) value ≢ []
replay_full [] e = absurd (omega arith)
replay_full (a ∷ []) e = absurd (omega arith)
replay_full (a ∷ b ∷ []) e = λ none. cc
replay_full (a ∷ b ∷ c ∷ texts) e = absurd (omega arith)

replay_missing : (texts : List Text) → length texts < 2 → end_fault replay_shape (held_at replay_ids texts) ≢ []
unfolding defaults_fault
replay_missing [] lt = λ none. cc
replay_missing (a ∷ []) lt = λ none. cc
replay_missing (a ∷ b ∷ texts) lt = absurd (omega arith)

replay_whole : (texts : List Text) → length texts ≡ 2 → (end_fault replay_shape (held_at replay_ids texts) ≡ []) × (finished replay_shape.rules (held_at replay_ids texts) ≡ rows_with replay_ids texts)
unfolding defaults_fault
replay_whole [] e = absurd (omega arith)
replay_whole (a ∷ []) e = absurd (omega arith)
replay_whole (a ∷ b ∷ []) e = (refl, refl)
replay_whole (a ∷ b ∷ c ∷ texts) e = absurd (omega arith)

replay_takes : Takes replay_shape replay_ids
replay_takes = record {
  fits = replay_fits;
  full = replay_full;
  no_long = λ flag. refl;
  no_short = λ c. refl;
  missing = replay_missing;
  whole = replay_whole;
}

replay_fine : (found : Option (List Text)) (faults : Kinds) (rows : List Row) → Told replay_ids (exactly 2 found) faults rows → faults ≡ []
    → option_and_then (asked_by Replay) found ≡ Some asks.Replay
replay_fine None faults rows told none = absurd (told none)
replay_fine (Some []) faults rows told none = absurd (told none)
replay_fine (Some (a ∷ [])) faults rows told none = absurd (told none)
replay_fine (Some (a ∷ b ∷ [])) faults rows told none = refl
replay_fine (Some (a ∷ b ∷ c ∷ texts)) faults rows told none =
    let long : eqb (length (a ∷ b ∷ c ∷ texts)) 2 ≡ false = ne_eqb _ _ (λ e. omega arith) in
    absurd ((rw long at told) none)

replay_bad : (found : Option (List Text)) (faults : Kinds) (rows : List Row) → Told replay_ids (exactly 2 found) faults rows → faults ≢ []
    → option_and_then (asked_by Replay) found ≡ None
replay_bad None faults rows told bad = refl
replay_bad (Some []) faults rows told bad = refl
replay_bad (Some (a ∷ [])) faults rows told bad = refl
replay_bad (Some (a ∷ b ∷ [])) faults rows told bad = absurd (bad told.0)
replay_bad (Some (a ∷ b ∷ c ∷ texts)) faults rows told bad = refl

pub replay_parsed : (a : App) (words : List (String Global)) → a ≡ replay_app → fault_of a (words_of words) ≡ []
    → option_and_then (asked_by Replay) (names_of (words_of words)) ≡ Some asks.Replay
replay_parsed a words is none = replay_fine (names_of (words_of words)) _ _ (commanded _ _ _ replay_takes a words _ is refl) none

pub replay_refused : (a : App) (words : List (String Global)) → a ≡ replay_app → fault_of a (words_of words) ≢ []
    → option_and_then (asked_by Replay) (names_of (words_of words)) ≡ None
replay_refused a words is fails = replay_bad (names_of (words_of words)) _ _ (commanded _ _ _ replay_takes a words _ is refl) fails

-- `soak BEGIN COUNT CONFIG`

abbrev pub soak_ids : List Text
soak_ids = codes "begin" ∷ codes "count" ∷ codes "config" ∷ []

abbrev pub soak_shape : Shape
soak_shape = shape_with (codes "soak") soak_ids

soak_fits : (is_behind : Bool) (texts : List Text) (word : Text) → length texts < 3
    → (step_fault soak_shape (length texts + 1) (held_at soak_ids texts) value ≡ [])
    × (to_positional soak_shape.rules (arg_by_index soak_shape.rules (length texts + 1)) word (walk_at soak_ids is_behind texts) (held_at soak_ids texts) ≡ walk_at soak_ids is_behind (texts ++ word ∷ []))
soak_fits true [] word lt = (refl, refl)
soak_fits false [] word lt = (refl, refl)
soak_fits true (a ∷ []) word lt = (refl, refl)
soak_fits false (a ∷ []) word lt = (refl, refl)
soak_fits true (a ∷ b ∷ []) word lt = (refl, refl)
soak_fits false (a ∷ b ∷ []) word lt = (refl, refl)
soak_fits is_behind (a ∷ b ∷ c ∷ texts) word lt = absurd (omega arith)

soak_full : (texts : List Text) → length texts ≡ 3 → step_fault soak_shape (length texts + 1) (held_at soak_ids texts) value ≢ []
soak_full [] e = absurd (omega arith)
soak_full (a ∷ []) e = absurd (omega arith)
soak_full (a ∷ b ∷ []) e = absurd (omega arith)
soak_full (a ∷ b ∷ c ∷ []) e = λ none. cc
soak_full (a ∷ b ∷ c ∷ d ∷ texts) e = absurd (omega arith)

soak_missing : (texts : List Text) → length texts < 3 → end_fault soak_shape (held_at soak_ids texts) ≢ []
unfolding defaults_fault
soak_missing [] lt = λ none. cc
soak_missing (a ∷ []) lt = λ none. cc
soak_missing (a ∷ b ∷ []) lt = λ none. cc
soak_missing (a ∷ b ∷ c ∷ texts) lt = absurd (omega arith)

soak_whole : (texts : List Text) → length texts ≡ 3 → (end_fault soak_shape (held_at soak_ids texts) ≡ []) × (finished soak_shape.rules (held_at soak_ids texts) ≡ rows_with soak_ids texts)
unfolding defaults_fault
soak_whole [] e = absurd (omega arith)
soak_whole (a ∷ []) e = absurd (omega arith)
soak_whole (a ∷ b ∷ []) e = absurd (omega arith)
soak_whole (a ∷ b ∷ c ∷ []) e = (refl, refl)
soak_whole (a ∷ b ∷ c ∷ d ∷ texts) e = absurd (omega arith)

soak_takes : Takes soak_shape soak_ids
soak_takes = record {
  fits = soak_fits;
  full = soak_full;
  no_long = λ flag. refl;
  no_short = λ c. refl;
  missing = soak_missing;
  whole = soak_whole;
}

-- a soak's words, as the parser found them
pub record IsSoak (found : Option (List Text)) (rows : List Row) : Type 0 where
  pub begin : Text
  pub count : Text
  pub begin_found : first_of (codes "begin") rows ≡ Some begin
  pub count_found : first_of (codes "count") rows ≡ Some count
  pub asks : option_and_then (asked_by Soak) found ≡ soak_of (begin_of begin) (count_of count)

soak_fine : (found : Option (List Text)) (faults : Kinds) (rows : List Row) → Told soak_ids (exactly 3 found) faults rows → faults ≡ [] → IsSoak found rows
soak_fine None faults rows told none = absurd (told none)
soak_fine (Some []) faults rows told none = absurd (told none)
soak_fine (Some (a ∷ [])) faults rows told none = absurd (told none)
soak_fine (Some (a ∷ b ∷ [])) faults rows told none = absurd (told none)
soak_fine (Some (a ∷ b ∷ c ∷ [])) faults rows told none = record {
  begin = a;
  count = b;
  begin_found = ap (first_of (codes "begin")) told.1;
  count_found = ap (first_of (codes "count")) told.1;
  asks = refl;
}
soak_fine (Some (a ∷ b ∷ c ∷ d ∷ texts)) faults rows told none =
    let long : eqb (length (a ∷ b ∷ c ∷ d ∷ texts)) 3 ≡ false = ne_eqb _ _ (λ e. omega arith) in
    absurd ((rw long at told) none)

soak_bad : (found : Option (List Text)) (faults : Kinds) (rows : List Row) → Told soak_ids (exactly 3 found) faults rows → faults ≢ []
    → option_and_then (asked_by Soak) found ≡ None
soak_bad None faults rows told bad = refl
soak_bad (Some []) faults rows told bad = refl
soak_bad (Some (a ∷ [])) faults rows told bad = refl
soak_bad (Some (a ∷ b ∷ [])) faults rows told bad = refl
soak_bad (Some (a ∷ b ∷ c ∷ [])) faults rows told bad = absurd (bad told.0)
soak_bad (Some (a ∷ b ∷ c ∷ d ∷ texts)) faults rows told bad = refl

pub soak_parsed : (a : App) (words : List (String Global)) (rows : List Row) → a ≡ soak_app → fault_of a (words_of words) ≡ [] → rows ≡ matches_of a (words_of words)
    → IsSoak (names_of (words_of words)) rows
soak_parsed a words rows is none found = soak_fine (names_of (words_of words)) _ rows (commanded _ _ _ soak_takes a words rows is found) none

pub soak_refused : (a : App) (words : List (String Global)) → a ≡ soak_app → fault_of a (words_of words) ≢ []
    → option_and_then (asked_by Soak) (names_of (words_of words)) ≡ None
soak_refused a words is fails = soak_bad (names_of (words_of words)) _ _ (commanded _ _ _ soak_takes a words _ is refl) fails

-- `compare F CONFIG FIRST SECOND`

abbrev pub compare_ids : List Text
compare_ids = codes "fabric" ∷ codes "config" ∷ codes "first" ∷ codes "second" ∷ []

abbrev pub compare_shape : Shape
compare_shape = shape_with (codes "compare") compare_ids

compare_fits : (is_behind : Bool) (texts : List Text) (word : Text) → length texts < 4
    → (step_fault compare_shape (length texts + 1) (held_at compare_ids texts) value ≡ [])
    × (to_positional compare_shape.rules (arg_by_index compare_shape.rules (length texts + 1)) word (walk_at compare_ids is_behind texts) (held_at compare_ids texts) ≡ walk_at compare_ids is_behind (texts ++ word ∷ []))
compare_fits true [] word lt = (refl, refl)
compare_fits false [] word lt = (refl, refl)
compare_fits true (a ∷ []) word lt = (refl, refl)
compare_fits false (a ∷ []) word lt = (refl, refl)
compare_fits true (a ∷ b ∷ []) word lt = (refl, refl)
compare_fits false (a ∷ b ∷ []) word lt = (refl, refl)
compare_fits true (a ∷ b ∷ c ∷ []) word lt = (refl, refl)
compare_fits false (a ∷ b ∷ c ∷ []) word lt = (refl, refl)
compare_fits is_behind (a ∷ b ∷ c ∷ d ∷ texts) word lt = absurd (omega arith)

compare_full : (texts : List Text) → length texts ≡ 4 → step_fault compare_shape (length texts + 1) (held_at compare_ids texts) value ≢ []
compare_full [] e = absurd (omega arith)
compare_full (a ∷ []) e = absurd (omega arith)
compare_full (a ∷ b ∷ []) e = absurd (omega arith)
compare_full (a ∷ b ∷ c ∷ []) e = absurd (omega arith)
compare_full (a ∷ b ∷ c ∷ d ∷ []) e = λ none. cc
compare_full (a ∷ b ∷ c ∷ d ∷ f ∷ texts) e = absurd (omega arith)

compare_missing : (texts : List Text) → length texts < 4 → end_fault compare_shape (held_at compare_ids texts) ≢ []
unfolding defaults_fault
compare_missing [] lt = λ none. cc
compare_missing (a ∷ []) lt = λ none. cc
compare_missing (a ∷ b ∷ []) lt = λ none. cc
compare_missing (a ∷ b ∷ c ∷ []) lt = λ none. cc
compare_missing (a ∷ b ∷ c ∷ d ∷ texts) lt = absurd (omega arith)

compare_whole : (texts : List Text) → length texts ≡ 4 → (end_fault compare_shape (held_at compare_ids texts) ≡ []) × (finished compare_shape.rules (held_at compare_ids texts) ≡ rows_with compare_ids texts)
unfolding defaults_fault
compare_whole [] e = absurd (omega arith)
compare_whole (a ∷ []) e = absurd (omega arith)
compare_whole (a ∷ b ∷ []) e = absurd (omega arith)
compare_whole (a ∷ b ∷ c ∷ []) e = absurd (omega arith)
compare_whole (a ∷ b ∷ c ∷ d ∷ []) e = (refl, refl)
compare_whole (a ∷ b ∷ c ∷ d ∷ f ∷ texts) e = absurd (omega arith)

compare_takes : Takes compare_shape compare_ids
compare_takes = record {
  fits = compare_fits;
  full = compare_full;
  no_long = λ flag. refl;
  no_short = λ c. refl;
  missing = compare_missing;
  whole = compare_whole;
}

-- the words of a comparison, as the parser found them
pub record IsCompare (found : Option (List Text)) (rows : List Row) : Type 0 where
  pub fabric : Text
  pub fabric_found : first_of (codes "fabric") rows ≡ Some fabric
  pub asks : option_and_then (asked_by Compare) found ≡ option_map asks.Compare (fabric_of fabric)

compare_fine : (found : Option (List Text)) (faults : Kinds) (rows : List Row) → Told compare_ids (exactly 4 found) faults rows → faults ≡ [] → IsCompare found rows
compare_fine None faults rows told none = absurd (told none)
compare_fine (Some []) faults rows told none = absurd (told none)
compare_fine (Some (a ∷ [])) faults rows told none = absurd (told none)
compare_fine (Some (a ∷ b ∷ [])) faults rows told none = absurd (told none)
compare_fine (Some (a ∷ b ∷ c ∷ [])) faults rows told none = absurd (told none)
compare_fine (Some (a ∷ b ∷ c ∷ d ∷ [])) faults rows told none = record { fabric = a; fabric_found = ap (first_of (codes "fabric")) told.1; asks = refl }
compare_fine (Some (a ∷ b ∷ c ∷ d ∷ e ∷ texts)) faults rows told none =
    let long : eqb (length (a ∷ b ∷ c ∷ d ∷ e ∷ texts)) 4 ≡ false = ne_eqb _ _ (λ e. omega arith) in
    absurd ((rw long at told) none)

compare_bad : (found : Option (List Text)) (faults : Kinds) (rows : List Row) → Told compare_ids (exactly 4 found) faults rows → faults ≢ []
    → option_and_then (asked_by Compare) found ≡ None
compare_bad None faults rows told bad = refl
compare_bad (Some []) faults rows told bad = refl
compare_bad (Some (a ∷ [])) faults rows told bad = refl
compare_bad (Some (a ∷ b ∷ [])) faults rows told bad = refl
compare_bad (Some (a ∷ b ∷ c ∷ [])) faults rows told bad = refl
compare_bad (Some (a ∷ b ∷ c ∷ d ∷ [])) faults rows told bad = absurd (bad told.0)
compare_bad (Some (a ∷ b ∷ c ∷ d ∷ e ∷ texts)) faults rows told bad = refl

pub compare_parsed : (a : App) (words : List (String Global)) (rows : List Row) → a ≡ compare_app → fault_of a (words_of words) ≡ [] → rows ≡ matches_of a (words_of words)
    → IsCompare (names_of (words_of words)) rows
compare_parsed a words rows is none found = compare_fine (names_of (words_of words)) _ rows (commanded _ _ _ compare_takes a words rows is found) none

pub compare_refused : (a : App) (words : List (String Global)) → a ≡ compare_app → fault_of a (words_of words) ≢ []
    → option_and_then (asked_by Compare) (names_of (words_of words)) ≡ None
compare_refused a words is fails = compare_bad (names_of (words_of words)) _ _ (commanded _ _ _ compare_takes a words _ is refl) fails
