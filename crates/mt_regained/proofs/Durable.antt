-- The durable map of a valid state is one of the grammar.
use Rattle.std.proofs.Common.{◌≡◌, refl, ℕ, nat_lt, Bool, true, List, [], ◌∷◌, Option, Some, None}
use Rattle.std.proofs.lemmas.Bool.{and_from, and_parts}
use Rattle.std.specs.List.{list_all}
use Rattle.mt_tlv.specs.declared.value.Value.{Value}
use Rattle.mt_model.specs.declared.node.state.NodeState.{NodeState}
use Rattle.mt_grammar.specs.declared.keys.Key.{Key}
use Rattle.mt_lasting.specs.Contents.{durable, entry_at, entry_if}
use Rattle.mt_lasting.specs.Keys.{all_keys, key_bytes}
use Rattle.mt_lasting.specs.Laws.{KeptFactsHold, MapsAreMaps, MapsAreReadBack}
use Rattle.mt_lasting.specs.Values.{value_at}
use Rattle.mt_regained.specs.Laws.{DurableIsKept, is_of_bytes}
use Rattle.mt_regained.proofs.Lists.{Each, all-flat}

abbrev key_is_of_bytes : Key → Bool
key_is_of_bytes key = list_all (λ (byte : ℕ). nat_lt byte 256) (key_bytes key)

keys_are_of_bytes : list_all key_is_of_bytes all_keys ≡ true
keys_are_of_bytes = refl

of_entry : (key : Key) (value : Option Value) → key_is_of_bytes key ≡ true → list_all is_of_bytes (entry_if key value) ≡ true
of_entry key None its = refl
of_entry key (Some value) its = and_from _ _ its refl

of_entries : (s : NodeState) (ceiling : ℕ) (some : List Key) → list_all key_is_of_bytes some ≡ true → Each (λ key. list_all is_of_bytes (entry_at s ceiling key) ≡ true) some
of_entries s ceiling [] all = refl
of_entries s ceiling (key ∷ some) all =
    let both = and_parts (key_is_of_bytes key) (list_all key_is_of_bytes some) all in
    (of_entry key (value_at key s ceiling) both.0, of_entries s ceiling some both.1)

durable_of_bytes : (s : NodeState) (ceiling : ℕ) → list_all is_of_bytes (durable s ceiling) ≡ true
durable_of_bytes s ceiling = all-flat is_of_bytes (entry_at s ceiling) all_keys (of_entries s ceiling all_keys keys_are_of_bytes)

pub durable_kept : MapsAreMaps → MapsAreReadBack → KeptFactsHold → DurableIsKept
durable_kept are_maps read_back facts_hold s ceiling valid fits = record {
  bytes = durable_of_bytes s ceiling;
  ascend = (are_maps s ceiling).0;
  whole = (are_maps s ceiling).1;
  read = read_back s ceiling valid fits;
  facts = facts_hold s ceiling valid;
}
