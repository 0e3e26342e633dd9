-- The entries of a map, set one after the other, are the map.
use Rattle.std.proofs.Common.{◌≡◌, true, List, [], ◌∷◌, ◌++◌, refl, ap, ◌∙◌, append_assoc}
use Rattle.std.proofs.lemmas.Bool.{and_parts}
use Rattle.std.specs.Prelude.{Bool, ◌&&◌, ℕ}
use Rattle.mt_durable.specs.Keys.{is_before}
use Rattle.mt_durable.specs.Maps.{ascend_above, has_value, have_values, keys_ascend}
use Rattle.mt_durable.specs.Setting.{with_all, with_entry}
use Rattle.mt_durable.specs.declared.durable.Entry.{Entry}
use Rattle.mt_durable.proofs.Keys.{before_then}

-- all keys come before this one
abbrev all_before : List Entry → List ℕ → Bool
all_before [] key = true
all_before (entry ∷ entries) key = is_before entry.key key && all_before entries key

behind_all : (map : List Entry) (entry : Entry) → all_before map entry.key ≡ true → has_value entry.value ≡ true → with_entry entry map ≡ map ++ entry ∷ []
behind_all [] entry before has = rw has refl
behind_all (one ∷ map) entry before has =
    let both = and_parts (is_before one.key entry.key) (all_before map entry.key) before in
    rw both.0 (ap (λ (l : List Entry). one ∷ l) (behind_all map entry both.1 has))

before_later : (map : List Entry) (key later : List ℕ) → all_before map key ≡ true → is_before key later ≡ true → all_before map later ≡ true
before_later [] key later before less = refl
before_later (one ∷ map) key later before less =
    let both = and_parts (is_before one.key key) (all_before map key) before in
    rw (before_then one.key key later both.0 less) (before_later map key later both.1 less)

one_further : (map : List Entry) (entry : Entry) (later : List ℕ) → all_before map entry.key ≡ true → is_before entry.key later ≡ true → all_before (map ++ entry ∷ []) later ≡ true
one_further [] entry later before less = rw less refl
one_further (one ∷ map) entry later before less =
    let both = and_parts (is_before one.key entry.key) (all_before map entry.key) before in
    rw (before_then one.key entry.key later both.0 less) (one_further map entry later both.1 less)

above_all : (entry : Entry) (rest map : List Entry) → all_before map entry.key ≡ true → ascend_above entry.key rest ≡ true → have_values (entry ∷ rest) ≡ true → with_all (entry ∷ rest) map ≡ map ++ entry ∷ rest
above_all entry [] map before up whole =
    let both = and_parts (has_value entry.value) true whole in
    behind_all map entry before both.0
above_all entry (next ∷ rest) map before up whole =
    let values = and_parts (has_value entry.value) (have_values (next ∷ rest)) whole in
    let keys = and_parts (is_before entry.key next.key) (ascend_above next.key rest) up in
    ap (λ (l : List Entry). with_all (next ∷ rest) l) (behind_all map entry before values.0)
    ∙ above_all next rest (map ++ entry ∷ []) (one_further map entry next.key before keys.0) keys.1 values.1
    ∙ append_assoc map (entry ∷ []) (next ∷ rest)

pub from_empty : (map : List Entry) → keys_ascend map ≡ true → have_values map ≡ true → with_all map [] ≡ map
from_empty [] up whole = refl
from_empty (entry ∷ rest) up whole = above_all entry rest [] refl up whole
