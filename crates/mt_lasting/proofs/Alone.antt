-- Only what lasts of a state changes its map.
use Rattle.std.proofs.Common.{◌≡◌, ◌∙◌, refl, sym, ap, ℕ, List, [], ◌∷◌, ◌++◌}
use Rattle.std.specs.List.{flat_map}
use Rattle.mt_model.specs.declared.node.state.NodeState.{NodeState}
use Rattle.mt_grammar.specs.declared.keys.Key.{Key}
use Rattle.mt_grammar.specs.declared.keys.Key.TheVariants as keys
use Rattle.mt_lasting.specs.Changes.{differing, differing_at}
use Rattle.mt_lasting.specs.Contents.{what_lasts}
use Rattle.mt_lasting.specs.Keys.{all_keys}
use Rattle.mt_lasting.specs.Laws.{NothingElseChanges, OnlyWhatLastsChanges}
use Rattle.mt_lasting.specs.Values.{value_at}
use Rattle.mt_lasting.proofs.Differing.{nothing_said}

-- what is under a key is there for what lasts
of_lasting : (key : Key) (s : NodeState) (ceiling : ℕ) → value_at key s ceiling ≡ value_at key (what_lasts s) ceiling
of_lasting keys.Boot s ceiling = refl
of_lasting keys.Ceiling s ceiling = refl
of_lasting (keys.Single place) s ceiling = refl
of_lasting (keys.Items fabric place) s ceiling = refl
of_lasting (keys.Fabric index) s ceiling = refl
of_lasting keys.Roots s ceiling = refl
of_lasting keys.Networks s ceiling = refl
of_lasting keys.Failsafe s ceiling = refl

same_value : (key : Key) (t u : NodeState) (ceiling : ℕ) → what_lasts t ≡ what_lasts u → value_at key t ceiling ≡ value_at key u ceiling
same_value key t u ceiling same =
    of_lasting key t ceiling ∙ ap (λ (s : NodeState). value_at key s ceiling) same ∙ sym (of_lasting key u ceiling)

flat_same : {X Y : Type 0} (f g : X → List Y) → ((x : X) → f x ≡ g x) → (xs : List X) → flat_map f xs ≡ flat_map g xs
flat_same f g each [] = refl
flat_same f g each (x ∷ xs) = λ i. each x i ++ flat_same f g each xs i

pub alone : OnlyWhatLastsChanges
alone s t u ceiling next same =
    flat_same (differing_at s ceiling t next) (differing_at s ceiling u next) (λ key. ap (differing key (value_at key s ceiling)) (same_value key t u next same)) all_keys

pub nothing_else : NothingElseChanges
nothing_else s t ceiling same = alone s t s ceiling ceiling (sym same) ∙ nothing_said s ceiling
