-- What a command of Group Key Management comes to where key sets are masked: the same reply, and the same steps but for the key sets that
-- they set.
use Rattle.std.proofs.Common.{◌≡◌, ℕ, ◌==◌, ◌&&◌, nat_le, not, length, inl, inr, Bool, true, false, List, [], ◌∷◌, Option, Some, None, refl, sym, ap, ◌∙◌, map, if◌then◌else◌}
use Rattle.std.specs.Prelude.{option_and_then, unwrap_or}
use Rattle.std.specs.List.{find, list_any}
use Rattle.std.specs.Option.{option_map}
use Rattle.std.proofs.lemmas.Bool.{and_from, and_left, and_right, cases_Bool}
use Rattle.mt_tlv.specs.Tree.{Elements, structure, none, more}
use Rattle.mt_tlv.specs.View.{tree}
use Rattle.mt_tlv.specs.declared.value.Tag.TheVariants.{Context}
use Rattle.mt_tlv.specs.declared.value.Value.{Value}
use Rattle.mt_tlv.specs.declared.value.Value.TheVariants as values
use Rattle.mt_meta.specs.Given.{field_of, number_of}
use Rattle.mt_meta.specs.Table.{command_fields}
use Rattle.mt_invoke.specs.Checking.{has_form}
use Rattle.mt_groupkeys.specs.Commands.{invoked, key_map, of_fabric, read_ids, read_set, remove_set, responded_with, set_in, told, told_members, write_set}
use Rattle.mt_groupkeys.specs.Sets.{has_id, has_starts, kept_set, numbers, put_in, sorted, values_of, without}
use Rattle.mt_model.specs.Trees.{structure_in}
use Rattle.mt_model.specs.messages.Effects.{answered_with, refused_at}
use Rattle.mt_model.specs.rows.Sight.{same_place}
use Rattle.mt_model.specs.tables.KeySets.{is_key_set, key_sets, number_at}
use Rattle.mt_model.specs.declared.limits.TheConstants.{KEY_SETS}
use Rattle.mt_model.specs.declared.messages.status.Status.TheVariants.{InvalidCommand, NotFound, ResourceExhausted, Success, UnsupportedAccess}
use Rattle.mt_model.specs.declared.node.action.Effect.{Effect}
use Rattle.mt_model.specs.declared.node.action.NodeStep.TheVariants.{SetRow}
use Rattle.mt_model.specs.declared.rows.place.Place.{Place}
use Rattle.mt_model.specs.declared.rows.place.Row.{Row}
use Rattle.mt_model.specs.declared.tables.access.Actor.{Actor}
use Rattle.mt_masks.specs.Masking.{key_set_write, masked_fields, masked_for, masked_members, masked_set, masked_step}
use Rattle.mt_masks.proofs.Fields.{fields_same, form_same, given_set, kept_masked, number_same, told_same}
use Rattle.mt_masks.proofs.Lists.{chosen, same_list}
use Rattle.mt_masks.proofs.Rows.{place_same}
use Rattle.mt_masks.proofs.Sets.{among_same, find_masked, ids_same, length_same, put_masked, without_masked}

-- an effect whose steps are masked
abbrev pub masked_effect : Effect → Effect
masked_effect effect = record effect { steps = map masked_step effect.steps }

module _ (fabric : ℕ) (command : Place) (sets items : List Value) where
  abbrev masked : List Value
  masked = map masked_set sets

  -- KeySetWrite.

  put_effect : (id : ℕ) (set : Value) → answered_with command Success (SetRow key_sets fabric (put_in id (masked_set set) masked) ∷ []) ≡ masked_effect (answered_with command Success (SetRow key_sets fabric (put_in id set sets) ∷ []))
  put_effect id set = ap (λ (xs : List Value). answered_with command Success (SetRow key_sets fabric xs ∷ [])) (put_masked id set sets)

  set_effect : (id : ℕ) (set : Value) → set_in masked fabric command id (masked_set set) ≡ masked_effect (set_in sets fabric command id set)
  set_effect id set =
      (λ i. if not (among_same id sets i) && nat_le KEY_SETS (length_same sets i) then refused_at command ResourceExhausted else put_effect id set i)
      ∙ chosen masked_effect (not (list_any (has_id id) sets) && nat_le KEY_SETS (length sets)) (refused_at command ResourceExhausted) (answered_with command Success (SetRow key_sets fabric (put_in id set sets) ∷ []))

  write_effect : (given : Option Elements) → write_set masked fabric command (option_map masked_members given) ≡ masked_effect (write_set sets fabric command given)
  write_effect None = refl
  write_effect (Some es) =
      let id = number_same es 0 refl in
      (λ i. if form_same es i then set_in masked fabric command (unwrap_or (id i) 0) (kept_masked es fabric i) else refused_at command InvalidCommand)
      ∙ (λ i. if is_key_set es && has_starts es then set_effect (unwrap_or (number_at 0 es) 0) (kept_set fabric es) i else refused_at command InvalidCommand)
      ∙ chosen masked_effect (is_key_set es && has_starts es) (set_in sets fabric command (unwrap_or (number_at 0 es) 0) (kept_set fabric es)) (refused_at command InvalidCommand)

  -- KeySetRead, and KeySetReadAllIndices.

  members_same : (set : Value) → told_members (structure_in (tree (masked_set set))) ≡ told_members (structure_in (tree set))
  members_same (values.Struct es) = told_same es
  members_same set = refl

  told_effect : (set : Option Value) → told command (option_map masked_set set) ≡ masked_effect (told command set)
  told_effect None = refl
  told_effect (Some set) = ap (λ (es : Elements). responded_with command 2 (more (Context 0) (structure es) none)) (members_same set)

  read_effect : (id : ℕ) → read_set masked command id ≡ masked_effect (read_set sets command id)
  read_effect id = elim (cases_Bool (id == 0)) [
    | inl zero ↦ rw zero refl
    | inr some ↦ rw some (ap (told command) (find_masked id sets) ∙ told_effect (find (has_id id) sets))
  ]

  ids_effect : read_ids masked command ≡ masked_effect (read_ids sets command)
  ids_effect = ap (λ (ids : List ℕ). responded_with command 5 (more (Context 0) (tree (numbers (0 ∷ sorted ids))) none)) (ids_same sets)

  -- KeySetRemove.

  remove_effect : (id : ℕ) → remove_set masked items fabric command id ≡ masked_effect (remove_set sets items fabric command id)
  remove_effect id = elim (cases_Bool (id == 0)) [
    | inl zero ↦ rw zero refl
    | inr some ↦ rw some (
        (λ i. if not (among_same id sets i) then refused_at command NotFound else answered_with command Success (SetRow key_sets fabric (without_masked id sets i) ∷ SetRow key_map fabric (sym (same_list (without 2 id items)) i) ∷ []))
        ∙ chosen masked_effect (not (list_any (has_id id) sets)) (refused_at command NotFound) (answered_with command Success (SetRow key_sets fabric (without 0 id sets) ∷ SetRow key_map fabric (without 2 id items) ∷ [])))
  ]

module _ (rows_at now_at : Place → List Row) (fabric : ℕ) (command : Place) (sets : values_of (now_at key_sets) ≡ map masked_set (values_of (rows_at key_sets))) (items : values_of (now_at key_map) ≡ values_of (rows_at key_map)) where
  -- KeySetWrite, whose set is masked
  written_effect : (fields : Value) → (command.leaf == 0) ≡ true → of_fabric now_at fabric command (masked_fields fields) ≡ masked_effect (of_fabric rows_at fabric command fields)
  written_effect fields write = rw write (
      (λ i. write_set (sets i) fabric command (given_set fields i))
      ∙ write_effect fabric command (values_of (rows_at key_sets)) (values_of (rows_at key_map)) (option_and_then structure_in (field_of 0 fields)))

  -- the others
  other_effect : (fields : Value) → (command.leaf == 0) ≡ false → of_fabric now_at fabric command fields ≡ masked_effect (of_fabric rows_at fabric command fields)
  other_effect fields no_write =
      let before = values_of (rows_at key_sets) in
      let there = values_of (rows_at key_map) in
      rw no_write (elim (cases_Bool (command.leaf == 1)) [
        | inl read ↦ rw read (ap (λ (xs : List Value). read_set xs command (number_of 0 fields)) sets ∙ read_effect fabric command before there (number_of 0 fields))
        | inr no_read ↦ rw no_read (elim (cases_Bool (command.leaf == 3)) [
          | inl remove ↦ rw remove ((λ i. remove_set (sets i) (items i) fabric command (number_of 0 fields)) ∙ remove_effect fabric command before there (number_of 0 fields))
          | inr no_removal ↦ rw no_removal (elim (cases_Bool (command.leaf == 4)) [
            | inl ids ↦ rw ids (ap (λ (xs : List Value). read_ids xs command) sets ∙ ids_effect fabric command before there)
            | inr no_ids ↦ rw no_ids refl
          ])
        ])
      ])

  module _ (at_root : (command.endpoint == 0) ≡ true) (of_cluster : (command.cluster == 0x3f) ≡ true) where
    fabric_effect : (fields : Value) → of_fabric now_at fabric command (masked_for command fields) ≡ masked_effect (of_fabric rows_at fabric command fields)
    fabric_effect fields = elim (cases_Bool (command.leaf == 0)) [
      | inl write ↦
          ap (λ (b : Bool). of_fabric now_at fabric command (if b then masked_fields fields else fields)) (and_from _ _ at_root (and_from _ _ of_cluster write))
          ∙ written_effect fields write
      | inr no_write ↦
          ap (λ (b : Bool). of_fabric now_at fabric command (if b then masked_fields fields else fields)) (and_right (command.endpoint == 0) _ (and_right (command.cluster == 0x3f) _ no_write))
          ∙ other_effect fields no_write
    ]

pub keys_effect : (rows_at now_at : Place → List Row) (actor : Actor) (command : Place) (fields : Value)
    → values_of (now_at key_sets) ≡ map masked_set (values_of (rows_at key_sets)) → values_of (now_at key_map) ≡ values_of (rows_at key_map)
    → (command.endpoint == 0) ≡ true → (command.cluster == 0x3f) ≡ true
    → invoked now_at actor command (masked_for command fields) ≡ masked_effect (invoked rows_at actor command fields)
keys_effect rows_at now_at actor command fields sets items at_root of_cluster =
    (λ i. if actor.fabric == 0 then refused_at command UnsupportedAccess else fabric_effect rows_at now_at actor.fabric command sets items at_root of_cluster fields i)
    ∙ chosen masked_effect (actor.fabric == 0) (refused_at command UnsupportedAccess) (of_fabric rows_at actor.fabric command fields)

-- The fields of a command have its form, masked or not.
pub form_kept : (command : Place) (fields : Value) → has_form command (masked_for command fields) ≡ has_form command fields
unfolding command_fields
form_kept command fields = elim (cases_Bool (same_place command key_set_write)) [
  | inl write ↦
      let is = place_same command key_set_write write in
      ap (λ (b : Bool). has_form command (if b then masked_fields fields else fields)) write
      ∙ ap (λ (p : Place). has_form p (masked_fields fields)) is ∙ fields_same fields ∙ sym (ap (λ (p : Place). has_form p fields) is)
  | inr other ↦ ap (λ (b : Bool). has_form command (if b then masked_fields fields else fields)) other
]

-- A command of another cluster has its fields as they are.
pub others_fields : (command : Place) (fields : Value) → (command.cluster == 0x3f) ≡ false → masked_for command fields ≡ fields
others_fields command fields other = ap (λ (b : Bool). if b then masked_fields fields else fields) (and_right (command.endpoint == 0) _ (and_left (command.cluster == 0x3f) (command.leaf == 0) other))
