-- What is allowed of the entries of a map and of a change is allowed of those after it.
use Rattle.std.proofs.Common.{◌≡◌, ◌≤◌, ℕ, true, false, List, [], ◌∷◌, ◌++◌, length, refl, ⊎_elim}
use Rattle.std.specs.Prelude.{⊤}
use Rattle.std.proofs.lemmas.Bool.{cases_Bool}
use Rattle.mt_tlv.specs.Limits.{AreAllowed, IsAllowed, IsElement, IsTag, deepest, longest}
use Rattle.mt_tlv.specs.Narrow.{narrow}
use Rattle.mt_tlv.specs.Tree.{Tree, array}
use Rattle.mt_tlv.specs.declared.reading.Kind.TheVariants as kinds
use Rattle.mt_tlv.specs.declared.value.Tag.{Tag}
use Rattle.mt_tlv.specs.declared.value.Tag.TheVariants.{Anonymous}
use Rattle.mt_durable.specs.Changes.{change_bytes, entry_tree, entry_trees}
use Rattle.mt_durable.specs.Keys.{is_before, is_same}
use Rattle.mt_durable.specs.Maps.{has_value, keys_ascend}
use Rattle.mt_durable.specs.Reading.{Says}
use Rattle.mt_durable.specs.Setting.{in_front, with_all, with_entry}
use Rattle.mt_durable.specs.declared.durable.Entry.{Entry}

abbrev pub AllAllowed : List Entry → Type 0
AllAllowed [] = ⊤
AllAllowed (entry ∷ entries) = IsAllowed (entry_tree entry) 15 × AllAllowed entries

pub each_allowed : (entries : List Entry) (tags : List Tag) → AreAllowed (entry_trees entries) kinds.Array tags 15 → AllAllowed entries
each_allowed [] tags are = tt
each_allowed (entry ∷ entries) tags are = (are.2, each_allowed entries (tags ++ Anonymous ∷ []) are.3)

pub all_allowed : (entries : List Entry) (tags : List Tag) → AllAllowed entries → AreAllowed (entry_trees entries) kinds.Array tags 15
all_allowed [] tags each = tt
all_allowed (entry ∷ entries) tags each = (tt, refl, each.0, all_allowed entries (tags ++ Anonymous ∷ []) each.1)

front_allowed : (entry : Entry) (rest : List Entry) → IsAllowed (entry_tree entry) 15 → AllAllowed rest → AllAllowed (in_front entry rest)
front_allowed entry rest is others = ⊎_elim
    (λ (has : has_value entry.value ≡ true). rw has (is, others))
    (λ (has : has_value entry.value ≡ false). rw has others)
    (cases_Bool (has_value entry.value))

with_allowed : (entry : Entry) (map : List Entry) → IsAllowed (entry_tree entry) 15 → AllAllowed map → AllAllowed (with_entry entry map)
with_allowed entry [] is others = front_allowed entry [] is tt
with_allowed entry (one ∷ rest) is others = ⊎_elim
    (λ (before : is_before one.key entry.key ≡ true). rw before (others.0, with_allowed entry rest is others.1))
    (λ (before : is_before one.key entry.key ≡ false). rw before (⊎_elim
    (λ (same : is_same entry.key one.key ≡ true). rw same (front_allowed entry rest is others.1))
    (λ (same : is_same entry.key one.key ≡ false). rw same (front_allowed entry (one ∷ rest) is others))
    (cases_Bool (is_same entry.key one.key))))
    (cases_Bool (is_before one.key entry.key))

with_all_allowed : (change map : List Entry) → AllAllowed change → AllAllowed map → AllAllowed (with_all change map)
with_all_allowed [] map each others = others
with_all_allowed (entry ∷ change) map each others = with_all_allowed change (with_entry entry map) each.1 (with_allowed entry map each.0 others)

pub allowed_after : (change map : List Entry) (bytes : List ℕ) → Says change bytes → IsAllowed (array (entry_trees map)) deepest → IsAllowed (array (entry_trees (with_all change map))) deepest
allowed_after change map bytes says is =
    all_allowed (with_all change map) [] (with_all_allowed change map (each_allowed change [] says.element.allowed) (each_allowed map [] is))

pub image_says : ((tag : Tag) (v : Tree) → IsTag tag → IsAllowed v deepest → length (narrow tag v) ≤ longest → IsElement tag v (narrow tag v))
    → (map : List Entry) → keys_ascend map ≡ true → IsAllowed (array (entry_trees map)) deepest → length (change_bytes map) ≤ longest → Says map (change_bytes map)
image_says is_element map up is short = record { ascend = up; element = is_element Anonymous (array (entry_trees map)) tt is short; narrow = refl }
