-- Of what a change says nothing, and of which keys it says something where rows and entries alone differ.
use Rattle.std.proofs.Common.{◌≡◌, ◌∙◌, refl, sym, ap, subst, ℕ, Bool, true, List, [], ◌∷◌, ◌++◌, Option, Some, None, map, length, append-nil, arith, if◌then◌else◌}
use Rattle.std.proofs.lemmas.Bool.{and_parts}
use Rattle.std.proofs.lemmas.Grind.{flat_map-append}
use Rattle.std.specs.List.{flat_map, list_all}
use Rattle.mt_tlv.specs.declared.value.Value.{Value}
use Rattle.mt_durable.specs.declared.durable.Entry.{Entry}
use Rattle.mt_model.specs.declared.node.action.NodeStep.{NodeStep}
use Rattle.mt_model.specs.declared.node.state.NodeState.{NodeState}
use Rattle.mt_model.specs.declared.rows.place.Place.{Place}
use Rattle.mt_grammar.specs.declared.keys.Key.{Key}
use Rattle.mt_grammar.specs.declared.keys.Key.TheVariants as keys
use Rattle.mt_machine.specs.Effects.{after, after_all, is_setting_step}
use Rattle.mt_machine.specs.Settings.{setting_cases}
use Rattle.mt_lasting.specs.Changes.{are_same, change_between, differing, differing_at, with_value}
use Rattle.mt_lasting.specs.Keys.{all_keys, indexes, keys_of, single_places}
use Rattle.mt_lasting.specs.Values.{value_at}
use Rattle.mt_lasting.proofs.Same.{same_values}

same_as_itself : (value : Option Value) → are_same value value ≡ true
same_as_itself None = refl
same_as_itself (Some value) = same_values value value refl

-- nothing is said of a key under which the same stands
pub none_differs : (key : Key) (old new : Option Value) → old ≡ new → differing key old new ≡ []
none_differs key old new same =
    subst (λ (value : Option Value). differing key old value ≡ []) same
    (ap (λ (b : Bool). if b then [] else with_value key old ∷ []) (same_as_itself old))

-- Lists of lists.

pub flat_mapped : {X Y A : Type 0} (f : Y → List A) (g : X → Y) (xs : List X) → flat_map f (map g xs) ≡ flat_map (λ x. f (g x)) xs
flat_mapped f g [] = refl
flat_mapped {A = A} f g (x ∷ xs) = ap (λ (l : List A). f (g x) ++ l) (flat_mapped f g xs)

pub flat_nested : {X Y A : Type 0} (f : Y → List A) (g : X → List Y) (xs : List X) → flat_map f (flat_map g xs) ≡ flat_map (λ x. flat_map f (g x)) xs
flat_nested f g [] = refl
flat_nested {A = A} f g (x ∷ xs) = flat_map-append f (g x) (flat_map g xs) ∙ ap (λ (l : List A). flat_map f (g x) ++ l) (flat_nested f g xs)

pub flat_none : {X A : Type 0} (f : X → List A) → ((x : X) → f x ≡ []) → (xs : List X) → flat_map f xs ≡ []
flat_none f each [] = refl
flat_none f each (x ∷ xs) = λ i. each x i ++ flat_none f each xs i

-- Where nothing is said of the keys that are no attribute's and of no items, what is said is of those that are.
module _ (said : Key → List Entry) (boot : said keys.Boot ≡ []) (ceiling : said keys.Ceiling ≡ []) (fabric : (index : ℕ) → said (keys.Fabric index) ≡ [])
    (roots : said keys.Roots ≡ []) (networks : said keys.Networks ≡ []) (failsafe : said keys.Failsafe ≡ []) where
  abbrev last_keys : List Key
  last_keys = keys.Roots ∷ keys.Networks ∷ keys.Failsafe ∷ []

  last_none : flat_map said last_keys ≡ []
  last_none = λ i. roots i ++ (networks i ++ (failsafe i ++ []))

  behind_none : (some : List ℕ) → flat_map said (map keys.Fabric some ++ last_keys) ≡ []
  behind_none some =
      flat_map-append said (map keys.Fabric some) last_keys
      ∙ (λ i. (flat_mapped said keys.Fabric some ∙ flat_none (λ index. said (keys.Fabric index)) fabric some) i ++ last_none i)

  items_said : (lists : ℕ → List Key) (some others : List ℕ) → flat_map said (flat_map lists some ++ (map keys.Fabric others ++ last_keys)) ≡ flat_map (λ f. flat_map said (lists f)) some
  items_said lists some others =
      flat_map-append said (flat_map lists some) (map keys.Fabric others ++ last_keys)
      ∙ (λ i. flat_nested said lists some i ++ behind_none others i)
      ∙ append-nil (flat_map (λ f. flat_map said (lists f)) some)

  those_said : (lists : ℕ → List Key) (places : List Place) (some others : List ℕ)
      → flat_map said (keys.Boot ∷ keys.Ceiling ∷ (map keys.Single places ++ (flat_map lists some ++ (map keys.Fabric others ++ last_keys))))
      ≡ flat_map (λ place. said (keys.Single place)) places ++ flat_map (λ f. flat_map said (lists f)) some
  those_said lists places some others =
      (λ i. boot i ++ (ceiling i ++ flat_map said (map keys.Single places ++ (flat_map lists some ++ (map keys.Fabric others ++ last_keys)))))
      ∙ flat_map-append said (map keys.Single places) (flat_map lists some ++ (map keys.Fabric others ++ last_keys))
      ∙ (λ i. flat_mapped said keys.Single places i ++ items_said lists some others i)

-- What steps that set values leave: all but rows and entries.

abbrev else_of : NodeState → NodeState
else_of s = record s { rows = []; entries = [] }

stays_step : (step : NodeStep) (s : NodeState) → is_setting_step step ≡ true → else_of (after None step s) ≡ else_of s
stays_step step s =
    setting_cases (λ (step : NodeStep). else_of (after None step s) ≡ else_of s) (λ at whose values stored. refl) (λ whose new all. refl) (λ at-event priority whom value. refl) step

stays_all : (steps : List NodeStep) (s : NodeState) → list_all is_setting_step steps ≡ true → else_of (after_all None steps s) ≡ else_of s
stays_all [] s settings = refl
stays_all (step ∷ steps) s settings =
    let both = and_parts (is_setting_step step) (list_all is_setting_step steps) settings in
    stays_all steps (after None step s) both.1 ∙ stays_step step s both.0

module _ (s t : NodeState) (ceiling : ℕ) (stays : else_of t ≡ else_of s) where
  -- nothing is said of a key under which neither rows nor entries are
  unsaid : (key : Key) → value_at key (else_of s) ceiling ≡ value_at key s ceiling → value_at key (else_of t) ceiling ≡ value_at key t ceiling → differing_at s ceiling t ceiling key ≡ []
  unsaid key here there =
      none_differs key (value_at key s ceiling) (value_at key t ceiling) (sym here ∙ ap (λ (one : NodeState). value_at key one ceiling) (sym stays) ∙ there)

  all_said : flat_map (λ place. differing_at s ceiling t ceiling (keys.Single place)) single_places ++ flat_map (λ f. flat_map (differing_at s ceiling t ceiling) (keys_of f)) indexes
      ≡ change_between s ceiling t ceiling
  all_said =
      sym (those_said (differing_at s ceiling t ceiling) (unsaid keys.Boot refl refl) (unsaid keys.Ceiling refl refl) (λ index. unsaid (keys.Fabric index) refl refl)
      (unsaid keys.Roots refl refl) (unsaid keys.Networks refl refl) (unsaid keys.Failsafe refl refl) keys_of single_places indexes indexes)

-- what changes by steps is what they change of attributes and of items
steps_said : (s : NodeState) (ceiling : ℕ) (steps : List NodeStep) → list_all is_setting_step steps ≡ true
    → flat_map (λ place. differing_at s ceiling (after_all None steps s) ceiling (keys.Single place)) single_places
    ++ flat_map (λ f. flat_map (differing_at s ceiling (after_all None steps s) ceiling) (keys_of f)) indexes
    ≡ change_between s ceiling (after_all None steps s) ceiling
steps_said s ceiling steps settings = all_said s (after_all None steps s) ceiling (stays_all steps s settings)

-- a state changes nothing of itself
pub nothing_said : (s : NodeState) (ceiling : ℕ) → change_between s ceiling s ceiling ≡ []
nothing_said s ceiling = flat_none (differing_at s ceiling s ceiling) (λ key. none_differs key (value_at key s ceiling) (value_at key s ceiling) refl) all_keys

-- where there is no step, nothing is said
pub none_said : (s : NodeState) (ceiling : ℕ) (steps : List NodeStep) → length steps ≡ 0 → change_between s ceiling (after_all None steps s) ceiling ≡ []
none_said s ceiling [] none = nothing_said s ceiling
none_said s ceiling (step ∷ steps) none = absurd (omega (arith, none))

-- what is said of attributes, and then of items, by steps
pub steps_tell : (s : NodeState) (ceiling : ℕ) (steps : List NodeStep) → list_all is_setting_step steps ≡ true → (begun middle end : List Entry) → begun ≡ []
    → middle ≡ begun ++ flat_map (λ place. differing_at s ceiling (after_all None steps s) ceiling (keys.Single place)) single_places
    → end ≡ middle ++ flat_map (λ f. flat_map (differing_at s ceiling (after_all None steps s) ceiling) (keys_of f)) indexes
    → end ≡ change_between s ceiling (after_all None steps s) ceiling
steps_tell s ceiling steps settings begun middle end none first next =
    let singles = flat_map (λ place. differing_at s ceiling (after_all None steps s) ceiling (keys.Single place)) single_places in
    let items = flat_map (λ f. flat_map (differing_at s ceiling (after_all None steps s) ceiling) (keys_of f)) indexes in
    next ∙ ap (λ (l : List Entry). l ++ items) (first ∙ ap (λ (l : List Entry). l ++ singles) none) ∙ steps_said s ceiling steps settings
