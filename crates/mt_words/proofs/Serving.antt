-- What comes of the words behind `serve`, gone over one after the other, is what they say.
use Rattle.std.proofs.Common.{◌≡◌, ◌≤◌, ℕ, ◌+◌, List, [], ◌∷◌, Option, Some, None, IfSome, refl, ap, sym, ◌∙◌, codes, inl, inr}
use Rattle.std.proofs.lemmas.Bool.{cases_Bool}
use Rattle.std.specs.Option.{option_and_then, option_map}
use Rattle.mt_files.specs.Field.{number_between}
use Rattle.mt_words.specs.Sorting.{add_place, add_value, comes_to, start, whole}
use Rattle.mt_words.specs.Words.{Given, begins, behind, datagrams_of, given_from, is_option, is_word, once, places_alone, places_from, serve_by, serve_with, served, with_place, with_value, workers_of}
use Rattle.mt_words.specs.declared.serve.ServeOption.TheVariants.{Datagrams, Workers}
use Rattle.mt_words.specs.declared.serve.ServeWords.{ServeWords}
use Rattle.mt_words.specs.declared.sorting.Found.{Found}
use Rattle.mt_words.specs.declared.sorting.Places.{Places}
use Rattle.mt_words.specs.declared.sorting.Places.TheVariants.{Nothing, One, Three, Two}
use Rattle.mt_words.specs.declared.sorting.Stage.{Stage}
use Rattle.mt_words.specs.declared.sorting.Stage.TheVariants.{Before, Behind, Waits}
use Rattle.mt_words.proofs.Numbers.{number_within}

abbrev found_at : Stage → Option ℕ → Option ℕ → Places → Found
found_at stage workers datagrams places = record { stage = stage; workers = workers; datagrams = datagrams; places = places }

-- what is given by words that stand so
abbrev left : Stage → ℕ → List (List ℕ) → Option Given
left Before place words = given_from None place words
left (Waits option) place words = given_from (Some option) place words
left Behind place words = Some (places_alone (places_from place words))

-- the number of an option, of which so much is held
abbrev number_with : (List ℕ → Option ℕ) → Option ℕ → List (List ℕ) → Option ℕ
number_with number None values = once number values
number_with number (Some held) [] = Some held
number_with number (Some held) (value ∷ values) = None

abbrev places_with : Places → List ℕ → List ℕ
places_with Nothing places = places
places_with (One a) places = a ∷ places
places_with (Two a b) places = a ∷ b ∷ places
places_with (Three a b c) places = a ∷ b ∷ c ∷ places

-- what comes of what was found and of what is given behind it
abbrev joined : Option ℕ → Option ℕ → Places → Given → Option ServeWords
joined workers datagrams places given = serve_with (number_with workers_of workers given.workers) (number_with datagrams_of datagrams given.datagrams) (places_with places given.places)

-- no option, or a place too many

no_datagrams : (workers : Option ℕ) (places : List ℕ) → serve_with workers None places ≡ None
no_datagrams None places = refl
no_datagrams (Some w) places = refl

too_many : (workers datagrams : Option ℕ) (a b c d : ℕ) (places : List ℕ) → serve_with workers datagrams (a ∷ b ∷ c ∷ d ∷ places) ≡ None
too_many None datagrams a b c d places = refl
too_many (Some w) None a b c d places = refl
too_many (Some w) (Some n) a b c d places = refl

-- values of an option

once_bad : (number : List ℕ → Option ℕ) (value : List ℕ) (values : List (List ℕ)) → number value ≡ None → once number (value ∷ values) ≡ None
once_bad number value [] bad = bad
once_bad number value (other ∷ values) bad = refl

once_held : (number : List ℕ → Option ℕ) (value : List ℕ) (values : List (List ℕ)) (held : ℕ) → number value ≡ Some held → number_with number (Some held) values ≡ once number (value ∷ values)
once_held number value [] held is = sym is
once_held number value (other ∷ values) held is = refl

-- what is joined to what is given, where one thing more is given

moved : (f g : Given → Option ServeWords) (more : Given → Given) (rest : Option Given) → ((given : Given) → f given ≡ g (more given)) → option_and_then f rest ≡ option_and_then g (option_map more rest)
moved f g more None same = refl
moved f g more (Some given) same = same given

nothing : (g : Given → Option ServeWords) (more : Given → Given) (rest : Option Given) → ((given : Given) → g (more given) ≡ None) → None ≡ option_and_then g (option_map more rest)
nothing g more None none = refl
nothing g more (Some given) none = sym (none given)

-- behind the last word

none_left : (workers datagrams : Option ℕ) (places : Places) → whole workers datagrams places ≡ joined workers datagrams places (places_alone [])
none_left None datagrams places = refl
none_left (Some w) None places = refl
none_left (Some w) (Some n) Nothing = refl
none_left (Some w) (Some n) (One a) = refl
none_left (Some w) (Some n) (Two a b) = refl
none_left (Some w) (Some n) (Three a b c) = refl

-- what comes of words from a place on, whatever was found before
abbrev Comes : ℕ → List (List ℕ) → Type 0
Comes place words = (stage : Stage) (w n : Option ℕ) (p : Places) → comes_to (found_at stage w n p) place words ≡ option_and_then (joined w n p) (left stage place words)

-- one more place
place_more : (place : ℕ) (words : List (List ℕ)) (stage : Stage) (w n : Option ℕ) (p : Places) → Comes (place + 1) words
    → option_and_then (λ next. comes_to next (place + 1) words) (add_place place (found_at stage w n p)) ≡ option_and_then (joined w n p) (option_map (with_place place) (left stage (place + 1) words))
place_more place words stage w n Nothing comes =
    comes stage w n (One place) ∙ moved (joined w n (One place)) (joined w n Nothing) (with_place place) (left stage (place + 1) words) (λ given. refl)
place_more place words stage w n (One a) comes =
    comes stage w n (Two a place) ∙ moved (joined w n (Two a place)) (joined w n (One a)) (with_place place) (left stage (place + 1) words) (λ given. refl)
place_more place words stage w n (Two a b) comes =
    comes stage w n (Three a b place) ∙ moved (joined w n (Three a b place)) (joined w n (Two a b)) (with_place place) (left stage (place + 1) words) (λ given. refl)
place_more place words stage w n (Three a b c) comes =
    nothing (joined w n (Three a b c)) (with_place place) (left stage (place + 1) words)
    (λ given. too_many (number_with workers_of w given.workers) (number_with datagrams_of n given.datagrams) a b c place given.places)

-- one more value of `--workers`
workers_more : (place : ℕ) (words : List (List ℕ)) (w n : Option ℕ) (p : Places) (value : List ℕ) → Comes (place + 1) words
    → option_and_then (λ next. comes_to next (place + 1) words) (add_value Workers value (found_at Before w n p)) ≡ option_and_then (joined w n p) (option_map (with_value Workers value) (given_from None (place + 1) words))
workers_more place words (Some held) n p value comes =
    nothing (joined (Some held) n p) (with_value Workers value) (given_from None (place + 1) words) (λ given. refl)
workers_more place words None n p value comes = by_number (workers_of value) refl
  where
    by_number : (number : Option ℕ) → workers_of value ≡ number
        → option_and_then (λ next. comes_to next (place + 1) words) (option_map (λ number. record (found_at Before None n p) { workers = Some number }) (workers_of value))
        ≡ option_and_then (joined None n p) (option_map (with_value Workers value) (given_from None (place + 1) words))
    by_number None is =
        ap (λ number. option_and_then (λ next. comes_to next (place + 1) words) (option_map (λ number. record (found_at Before None n p) { workers = Some number }) number)) is
        ∙ nothing (joined None n p) (with_value Workers value) (given_from None (place + 1) words)
        (λ given. ap (λ number. serve_with number (number_with datagrams_of n given.datagrams) (places_with p given.places)) (once_bad workers_of value given.workers is))
    by_number (Some held) is =
        ap (λ number. option_and_then (λ next. comes_to next (place + 1) words) (option_map (λ number. record (found_at Before None n p) { workers = Some number }) number)) is
        ∙ (comes Before (Some held) n p
        ∙ moved (joined (Some held) n p) (joined None n p) (with_value Workers value) (given_from None (place + 1) words)
        (λ given. ap (λ number. serve_with number (number_with datagrams_of n given.datagrams) (places_with p given.places)) (once_held workers_of value given.workers held is)))

-- one more value of `--datagrams`
datagrams_more : (place : ℕ) (words : List (List ℕ)) (w n : Option ℕ) (p : Places) (value : List ℕ) → Comes (place + 1) words
    → option_and_then (λ next. comes_to next (place + 1) words) (add_value Datagrams value (found_at Before w n p)) ≡ option_and_then (joined w n p) (option_map (with_value Datagrams value) (given_from None (place + 1) words))
datagrams_more place words w (Some held) p value comes =
    nothing (joined w (Some held) p) (with_value Datagrams value) (given_from None (place + 1) words)
    (λ given. no_datagrams (number_with workers_of w given.workers) (places_with p given.places))
datagrams_more place words w None p value comes = by_number (datagrams_of value) refl
  where
    by_number : (number : Option ℕ) → datagrams_of value ≡ number
        → option_and_then (λ next. comes_to next (place + 1) words) (option_map (λ number. record (found_at Before w None p) { datagrams = Some number }) (datagrams_of value))
        ≡ option_and_then (joined w None p) (option_map (with_value Datagrams value) (given_from None (place + 1) words))
    by_number None is =
        ap (λ number. option_and_then (λ next. comes_to next (place + 1) words) (option_map (λ number. record (found_at Before w None p) { datagrams = Some number }) number)) is
        ∙ nothing (joined w None p) (with_value Datagrams value) (given_from None (place + 1) words)
        (λ given. ap (λ number. serve_with (number_with workers_of w given.workers) number (places_with p given.places)) (once_bad datagrams_of value given.datagrams is)
        ∙ no_datagrams (number_with workers_of w given.workers) (places_with p given.places))
    by_number (Some held) is =
        ap (λ number. option_and_then (λ next. comes_to next (place + 1) words) (option_map (λ number. record (found_at Before w None p) { datagrams = Some number }) number)) is
        ∙ (comes Before w (Some held) p
        ∙ moved (joined w (Some held) p) (joined w None p) (with_value Datagrams value) (given_from None (place + 1) words)
        (λ given. ap (λ number. serve_with (number_with workers_of w given.workers) number (places_with p given.places)) (once_held datagrams_of value given.datagrams held is)))

-- a word before `--`, behind no option that wants its value
word_more : (place : ℕ) (word : List ℕ) (words : List (List ℕ)) (w n : Option ℕ) (p : Places) → Comes (place + 1) words
    → comes_to (found_at Before w n p) place (word ∷ words) ≡ option_and_then (joined w n p) (given_from None place (word ∷ words))
word_more place word words w n p comes = elim (cases_Bool (is_word word (codes "--"))) [
  | inl dashes ↦ rw dashes (comes Behind w n p)
  | inr a ↦ elim (cases_Bool (is_word word (codes "--workers"))) [
    | inl named ↦ rw (a, named) (comes (Waits Workers) w n p)
    | inr b ↦ elim (cases_Bool (is_word word (codes "--datagrams"))) [
      | inl named ↦ rw (a, b, named) (comes (Waits Datagrams) w n p)
      | inr c ↦ elim (cases_Bool (begins word (codes "--workers="))) [
        | inl valued ↦ rw (a, b, c, valued) (workers_more place words w n p (behind word (codes "--workers=")) comes)
        | inr d ↦ elim (cases_Bool (begins word (codes "--datagrams="))) [
          | inl valued ↦ rw (a, b, c, d, valued) (datagrams_more place words w n p (behind word (codes "--datagrams=")) comes)
          | inr e ↦ elim (cases_Bool (is_option word)) [
            | inl option ↦ rw (a, b, c, d, e, option) refl
            | inr name ↦ rw (a, b, c, d, e, name) (place_more place words Before w n p comes)
          ]
        ]
      ]
    ]
  ]
]

all_come : (words : List (List ℕ)) (place : ℕ) → Comes place words
all_come [] place Before w n p = none_left w n p
all_come [] place (Waits option) w n p = refl
all_come [] place Behind w n p = none_left w n p
all_come (word ∷ words) place Before w n p = word_more place word words w n p (all_come words (place + 1))
all_come (word ∷ words) place (Waits Workers) w n p = workers_more place words w n p word (all_come words (place + 1))
all_come (word ∷ words) place (Waits Datagrams) w n p = datagrams_more place words w n p word (all_come words (place + 1))
all_come (word ∷ words) place Behind w n p = place_more place words Behind w n p (all_come words (place + 1))

pub comes_to-served : (words : List (List ℕ)) → comes_to start 1 words ≡ served words
comes_to-served words = all_come words 1 Before None None Nothing

-- What is found has its range.

both : (workers datagrams : Option ℕ) (places : List ℕ) (found : ServeWords) → serve_with workers datagrams places ≡ Some found → (workers ≡ Some found.asked.workers) × (datagrams ≡ Some found.asked.datagrams)
both None datagrams places found is = absurd (cc)
both (Some w) None places found is = absurd (cc)
both (Some w) (Some n) [] found is = absurd (cc)
both (Some w) (Some n) (a ∷ []) found is = absurd (cc)
both (Some w) (Some n) (a ∷ b ∷ []) found is = absurd (cc)
both (Some w) (Some n) (a ∷ b ∷ c ∷ []) found is =
    (ap (λ (o : Option ServeWords). option_map (λ f. f.asked.workers) o) is, ap (λ (o : Option ServeWords). option_map (λ f. f.asked.datagrams) o) is)
both (Some w) (Some n) (a ∷ b ∷ c ∷ d ∷ places) found is = absurd (cc)

once_within : (least most : ℕ) (values : List (List ℕ)) (number : ℕ) → once (number_between least most) values ≡ Some number → (least ≤ number) × (number ≤ most)
once_within least most [] number is = absurd (cc)
once_within least most (value ∷ []) number is = number_within least most value number is
once_within least most (value ∷ other ∷ values) number is = absurd (cc)

given_within : (given : Option Given) (found : ServeWords) → option_and_then serve_by given ≡ Some found
    → ((1 ≤ found.asked.workers) × (found.asked.workers ≤ 8)) × ((1 ≤ found.asked.datagrams) × (found.asked.datagrams ≤ 1048576))
given_within None found is = absurd (cc)
given_within (Some given) found is =
    let numbers = both (once workers_of given.workers) (once datagrams_of given.datagrams) given.places found is in
    (once_within 1 8 given.workers found.asked.workers numbers.0, once_within 1 1048576 given.datagrams found.asked.datagrams numbers.1)

pub workers_within : (words : List (List ℕ)) (result : Option ServeWords) → result ≡ served words → IfSome result (λ found. (1 ≤ found.asked.workers) × (found.asked.workers ≤ 8))
workers_within words None is = tt
workers_within words (Some found) is = (given_within (given_from None 1 words) found (sym is)).0

pub datagrams_within : (words : List (List ℕ)) (result : Option ServeWords) → result ≡ served words → IfSome result (λ found. (1 ≤ found.asked.datagrams) × (found.asked.datagrams ≤ 1048576))
datagrams_within words None is = tt
datagrams_within words (Some found) is = (given_within (given_from None 1 words) found (sym is)).1
