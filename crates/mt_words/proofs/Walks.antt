-- The parser's walk over the words of a command that takes names alone.
use Rattle.std.proofs.Common.{◌≡◌, ◌≢◌, ℕ, ◌+◌, ◌<◌, ◌≤◌, Bool, true, false, eqb, List, [], ◌∷◌, ◌++◌, length, append-nil, append_assoc, length-append, map, fold, Option, Some, None, refl, ap, ap₂, sym, ◌∙◌, arith, codes, inl, inr, option_map}
use Rattle.std.specs.Prelude.{string_bytes, String}
use Rattle.std.proofs.lemmas.Bool.{cases_Bool, cases_lt, ne_eqb}
use Rattle.std.proofs.lemmas.Bool.Decides.{eqb_tells}
use Rattle.std.specs.Global.{Global}
use Rattle.std.specs.Str.{IsUtf8}
use Rattle.clap.specs.Faults.{check_fault, defaults_fault, flags_fault, settle_fault, step_fault, turn_fault, walk_fault, word_fault}
use Rattle.clap.specs.Kinds.{Kinds, or_else}
use Rattle.clap.specs.Simple.{Shape}
use Rattle.clap.specs.Walk.{Held, Row, Text, Walk, Step, after_step, arg_by_index, arg_by_long, arg_by_short, finished, idle, settled, to_positional, value, walked, word_met}
use Rattle.clap.specs.Values.{reading_of}
use Rattle.clap.specs.declared.builder.value_parser.ValueParser.TheVariants as parsers
use Rattle.clap.specs.declared.parser.matches.ValueSource.TheVariants.{CommandLine}
use Rattle.mt_words.specs.Words.{exactly, is_option, is_word}
use Rattle.mt_words.proofs.Names.{names_in}
use Rattle.mt_words.proofs.Forms.{IsBundle, IsLong, first_char, name_forms, option_forms}

abbrev pub row : Text → Text → Row
row id text = record { id = id; values = text ∷ []; count = None; source = Some CommandLine; reading = reading_of parsers.String }

-- what is held once these texts were taken for these names: the last is pending
abbrev pub held_with : List Row → List Text → List Text → Held
held_with rows (id ∷ ids) (text ∷ []) = record { rows = rows; pending = Some (id, text ∷ []); skip = 0 }
held_with rows (id ∷ ids) (text ∷ next ∷ texts) = held_with (rows ++ row id text ∷ []) ids (next ∷ texts)
held_with rows ids texts = record { rows = rows; pending = None; skip = 0 }

abbrev pub held_at : List Text → List Text → Held
held_at ids texts = held_with [] ids texts

held_skip : (rows : List Row) (ids texts : List Text) → (held_with rows ids texts).skip ≡ 0
held_skip rows [] texts = refl
held_skip rows (id ∷ ids) [] = refl
held_skip rows (id ∷ ids) (text ∷ []) = refl
held_skip rows (id ∷ ids) (text ∷ next ∷ texts) = held_skip (rows ++ row id text ∷ []) ids (next ∷ texts)

-- where the walk stands then
abbrev pub walk_at : List Text → Bool → List Text → Walk
walk_at ids is_behind texts = record { held = held_at ids texts; waiting = idle; position = length texts + 1; is_trailing = is_behind; stopped = None }

abbrev pub rows_with : List Text → List Text → List Row
rows_with (id ∷ ids) (text ∷ texts) = row id text ∷ rows_with ids texts
rows_with ids texts = []

-- what fails behind the last word
abbrev pub end_fault : Shape → Held → Kinds
end_fault s h = or_else (settle_fault s.rules s.args_override_self h)
    (or_else (defaults_fault (settled s.rules h).rows s.rules) (check_fault s (finished s.rules h) false))

-- what fails from here on, and what is found
abbrev pub walk_faults : Shape → Walk → List Text → Kinds
walk_faults s w words = or_else (walk_fault s [] w words) (end_fault s (fold (walked s.rules []) w words).held)

abbrev pub walk_rows : Shape → Walk → List Text → List Row
walk_rows s w words = finished s.rules (fold (walked s.rules []) w words).held

-- the command takes a name for each of these and nothing else
pub record Takes (s : Shape) (ids : List Text) : Type 0 where
  pub fits : (is_behind : Bool) (texts : List Text) (word : Text) → length texts < length ids
      → (step_fault s (length texts + 1) (held_at ids texts) value ≡ [])
      × (to_positional s.rules (arg_by_index s.rules (length texts + 1)) word (walk_at ids is_behind texts) (held_at ids texts) ≡ walk_at ids is_behind (texts ++ word ∷ []))
  pub full : (texts : List Text) → length texts ≡ length ids → step_fault s (length texts + 1) (held_at ids texts) value ≢ []
  pub no_long : (name : Text) → arg_by_long s.rules name ≡ None
  pub no_short : (c : ℕ) → arg_by_short s.rules c ≡ None
  pub missing : (texts : List Text) → length texts < length ids → end_fault s (held_at ids texts) ≢ []
  pub whole : (texts : List Text) → length texts ≡ length ids
      → (end_fault s (held_at ids texts) ≡ []) × (finished s.rules (held_at ids texts) ≡ rows_with ids texts)

-- the names among the words, where a word `--` has been passed over or not
abbrev pub names_left : Bool → List Text → Option (List Text)
names_left true words = Some words
names_left false words = names_in words

abbrev pub names_behind : List Text → Option (List Text) → Option (List Text)
names_behind texts found = option_map (λ rest. texts ++ rest) found

-- the word is one of the names
abbrev pub IsValue : Bool → Text → Type 0
IsValue true word = Unit {0}
IsValue false word = (is_word word (codes "--") ≡ false) × (is_option word ≡ false)

-- the parse fails, or it finds these texts
abbrev pub Told : List Text → Option (List Text) → Kinds → List Row → Type 0
Told ids None faults rows = faults ≢ []
Told ids (Some texts) faults rows = (faults ≡ []) × (rows ≡ rows_with ids texts)

pub told_so : (ids : List Text) (o p : Option (List Text)) (f g : Kinds) (r q : List Row) → o ≡ p → f ≡ g → r ≡ q → Told ids p g q → Told ids o f r
told_so ids o p f g r q found faults rows told = rw (found, faults, rows) told

or_else_fails : (f g : Kinds) → f ≢ [] → or_else f g ≢ []
or_else_fails [] g fails = λ none. fails refl
or_else_fails (k ∷ ks) g fails = fails

module _ (s : Shape) (ids : List Text) (takes : Takes s ids) where
  abbrev run : Walk → List Text → Kinds
  run = walk_faults s

  abbrev ends : Walk → List Text → List Row
  ends = walk_rows s

  met : (is_behind : Bool) (word : Text) (position : ℕ) (h : Held) → IsValue is_behind word → word_met s.rules [] is_behind idle position word h ≡ (h, value)
  met true word position h is = refl
  met false word position h is =
      let forms = name_forms word is.1 in
      rw (is.0, forms.0, forms.1) refl

  no_fault : (is_behind : Bool) (word : Text) (h : Held) → IsValue is_behind word → word_fault s [] is_behind idle word h ≡ []
  no_fault true word h is = refl
  no_fault false word h is =
      let forms = name_forms word is.1 in
      rw (is.0, forms.0, forms.1) refl

  turn : (is_behind : Bool) (texts : List Text) (word : Text) → IsValue is_behind word
      → turn_fault s [] (walk_at ids is_behind texts) word ≡ step_fault s (length texts + 1) (held_at ids texts) value
  turn is_behind texts word is =
      let position = length texts + 1 in
      let h = held_at ids texts in
      ap₂ (λ (m : Held × Step) (f : Kinds). or_else f (step_fault s position m.0 m.1)) (met is_behind word position h is) (no_fault is_behind word h is)

  step : (is_behind : Bool) (texts : List Text) (word : Text) → IsValue is_behind word
      → walked s.rules [] (walk_at ids is_behind texts) word ≡ to_positional s.rules (arg_by_index s.rules (length texts + 1)) word (walk_at ids is_behind texts) (held_at ids texts)
  unfolding walked
  step is_behind texts word is =
      ap (λ (m : Held × Step). after_step s.rules word (walk_at ids is_behind texts) m.0 m.1) (met is_behind word (length texts + 1) (held_at ids texts) is)

  run_more : (w next : Walk) (word : Text) (words : List Text) → turn_fault s [] w word ≡ [] → walked s.rules [] w word ≡ next → run w (word ∷ words) ≡ run next words
  unfolding walk_fault
  run_more w next word words fine is =
      ap₂ (λ (f : Kinds) (v : Walk). or_else (or_else f (walk_fault s [] v words)) (end_fault s (fold (walked s.rules []) v words).held)) fine is

  ends_more : (w next : Walk) (word : Text) (words : List Text) → walked s.rules [] w word ≡ next → ends w (word ∷ words) ≡ ends next words
  ends_more w next word words is = ap (λ (v : Walk). ends v words) is

  run_fails : (w : Walk) (word : Text) (words : List Text) → turn_fault s [] w word ≢ [] → run w (word ∷ words) ≢ []
  unfolding walk_fault
  run_fails w word words fails = or_else_fails _ _ (or_else_fails _ _ fails)

  -- `--` is passed over
  dashes_turn : (texts : List Text) (word : Text) → is_word word (codes "--") ≡ true → turn_fault s [] (walk_at ids false texts) word ≡ []
  dashes_turn texts word dashes = rw dashes refl

  dashes_step : (texts : List Text) (word : Text) → is_word word (codes "--") ≡ true → walked s.rules [] (walk_at ids false texts) word ≡ walk_at ids true texts
  unfolding walked
  dashes_step texts word dashes = rw dashes refl

  -- an option is refused
  long_refused : (texts : List Text) (word : Text) → is_word word (codes "--") ≡ false → IsLong word → turn_fault s [] (walk_at ids false texts) word ≢ []
  long_refused texts word other long =
      let no = takes.no_long long.flag.0 in
      rw (other, long.is, no) (λ none. cc)

  bundle_refused : (texts : List Text) (word : Text) → is_word word (codes "--") ≡ false → (bundle : IsBundle word) → ∥ IsUtf8 word ∥₁ → turn_fault s [] (walk_at ids false texts) word ≢ []
  unfolding flags_fault
  bundle_refused texts word other bundle text =
      let text_here : ∥ IsUtf8 (45 ∷ bundle.first ∷ bundle.others) ∥₁ = rw bundle.is at text in
      let char = first_char bundle.first bundle.others text_here in
      let no = takes.no_short char.0 in
      rw (other, bundle.not_long, bundle.flags, char.1, held_skip [] ids texts, no) (λ none. cc)

  option_refused : (texts : List Text) (word : Text) → is_word word (codes "--") ≡ false → is_option word ≡ true → ∥ IsUtf8 word ∥₁ → turn_fault s [] (walk_at ids false texts) word ≢ []
  option_refused texts word other option text = elim (option_forms word other option) [
    | inl long ↦ long_refused texts word other long
    | inr bundle ↦ bundle_refused texts word other bundle text
  ]

  -- behind the last word
  told_end : (is_behind : Bool) (texts : List Text) → length texts ≤ length ids
      → Told ids (exactly (length ids) (Some texts)) (end_fault s (held_at ids texts)) (finished s.rules (held_at ids texts))
  told_end is_behind texts le = elim (eqb_tells (length texts) (length ids)) [
    | inl same ↦ rw same.0 (takes.whole texts same.1)
    | inr other ↦ rw other.0 (takes.missing texts (omega (arith, other.1)))
  ]

  too_many : (texts : List Text) (word : Text) (found : Option (List Text)) → length texts ≡ length ids
      → exactly (length ids) (names_behind texts (option_map (λ names. word ∷ names) found)) ≡ None
  too_many texts word None full = refl
  too_many texts word (Some names) full =
      let long : eqb (length (texts ++ word ∷ names)) (length ids) ≡ false = ne_eqb _ _ (λ e. omega (arith, e, length-append texts (word ∷ names))) in
      rw long refl

  one_more : (texts : List Text) (word : Text) (found : Option (List Text)) → names_behind texts (option_map (λ names. word ∷ names) found) ≡ names_behind (texts ++ word ∷ []) found
  one_more texts word None = refl
  one_more texts word (Some names) = ap Some (sym (append_assoc texts (word ∷ []) names))

  -- a word that is a name
  told_name : (is_behind : Bool) (texts : List Text) (word : Text) (words : List Text) → IsValue is_behind word → length texts ≤ length ids
      → names_left is_behind (word ∷ words) ≡ option_map (λ names. word ∷ names) (names_left is_behind words)
      → (length (texts ++ word ∷ []) ≤ length ids
      → Told ids (exactly (length ids) (names_behind (texts ++ word ∷ []) (names_left is_behind words))) (run (walk_at ids is_behind (texts ++ word ∷ [])) words) (ends (walk_at ids is_behind (texts ++ word ∷ [])) words))
      → Told ids (exactly (length ids) (names_behind texts (names_left is_behind (word ∷ words)))) (run (walk_at ids is_behind texts) (word ∷ words)) (ends (walk_at ids is_behind texts) (word ∷ words))
  told_name is_behind texts word words is le left further = elim (cases_lt (length texts) (length ids)) [
    | inl lt ↦
        let fits = takes.fits is_behind texts word lt in
        let next = step is_behind texts word is ∙ fits.1 in
        told_so ids _ _ _ _ _ _
        (ap (λ found. exactly (length ids) (names_behind texts found)) left ∙ ap (exactly (length ids)) (one_more texts word (names_left is_behind words)))
        (run_more (walk_at ids is_behind texts) (walk_at ids is_behind (texts ++ word ∷ [])) word words (turn is_behind texts word is ∙ fits.0) next)
        (ends_more (walk_at ids is_behind texts) (walk_at ids is_behind (texts ++ word ∷ [])) word words next)
        (further (omega (arith, length-append texts (word ∷ []))))
    | inr ge ↦
        let full : length texts ≡ length ids = omega arith in
        let fails = takes.full texts full in
        told_so ids _ None _ _ _ _
        (ap (λ found. exactly (length ids) (names_behind texts found)) left ∙ too_many texts word (names_left is_behind words) full)
        refl refl
        (run_fails (walk_at ids is_behind texts) word words (λ none. fails (sym (turn is_behind texts word is) ∙ none)))
  ]

  -- a word before `--`
  told_word : (texts : List Text) (word : String Global) (words : List (String Global)) → length texts ≤ length ids
      → Told ids (exactly (length ids) (names_behind texts (names_left true (map string_bytes words)))) (run (walk_at ids true texts) (map string_bytes words)) (ends (walk_at ids true texts) (map string_bytes words))
      → (length (texts ++ string_bytes word ∷ []) ≤ length ids
      → Told ids (exactly (length ids) (names_behind (texts ++ string_bytes word ∷ []) (names_left false (map string_bytes words)))) (run (walk_at ids false (texts ++ string_bytes word ∷ [])) (map string_bytes words)) (ends (walk_at ids false (texts ++ string_bytes word ∷ [])) (map string_bytes words)))
      → Told ids (exactly (length ids) (names_behind texts (names_left false (map string_bytes (word ∷ words))))) (run (walk_at ids false texts) (map string_bytes (word ∷ words))) (ends (walk_at ids false texts) (map string_bytes (word ∷ words)))
  told_word texts word words le passed further = elim (cases_Bool (is_word (string_bytes word) (codes "--"))) [
    | inl dashes ↦
        let next = dashes_step texts (string_bytes word) dashes in
        let left : names_left false (map string_bytes (word ∷ words)) ≡ names_left true (map string_bytes words) = rw dashes refl in
        told_so ids _ _ _ _ _ _ (ap (λ found. exactly (length ids) (names_behind texts found)) left)
        (run_more (walk_at ids false texts) (walk_at ids true texts) (string_bytes word) (map string_bytes words) (dashes_turn texts (string_bytes word) dashes) next)
        (ends_more (walk_at ids false texts) (walk_at ids true texts) (string_bytes word) (map string_bytes words) next)
        passed
    | inr other ↦ elim (cases_Bool (is_option (string_bytes word))) [
      | inl option ↦
          let left : names_left false (map string_bytes (word ∷ words)) ≡ None = rw (other, option) refl in
          told_so ids _ None _ _ _ _ (ap (λ found. exactly (length ids) (names_behind texts found)) left) refl refl
          (run_fails (walk_at ids false texts) (string_bytes word) (map string_bytes words) (option_refused texts (string_bytes word) other option word.ok))
      | inr name ↦
          let left : names_left false (map string_bytes (word ∷ words)) ≡ option_map (λ names. string_bytes word ∷ names) (names_left false (map string_bytes words)) = rw (other, name) refl in
          told_name false texts (string_bytes word) (map string_bytes words) (other, name) le left further
    ]
  ]

  pub told : (is_behind : Bool) (words : List (String Global)) (texts : List Text) → length texts ≤ length ids
      → Told ids (exactly (length ids) (names_behind texts (names_left is_behind (map string_bytes words)))) (run (walk_at ids is_behind texts) (map string_bytes words)) (ends (walk_at ids is_behind texts) (map string_bytes words))
  unfolding walk_fault
  told true [] texts le = rw append-nil (told_end true texts le)
  told false [] texts le = rw append-nil (told_end false texts le)
  told true (word ∷ words) texts le = told_name true texts (string_bytes word) (map string_bytes words) tt le refl (told true words (texts ++ string_bytes word ∷ []))
  told false (word ∷ words) texts le =
      told_word texts word words le (told true words texts le) (told false words (texts ++ string_bytes word ∷ []))
