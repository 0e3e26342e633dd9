-- The steps of commands are sound, and whoever has no fabric makes none.
use Rattle.std.proofs.Common.{◌≡◌, ℕ, ◌+◌, ◌==◌, ◌&&◌, ◌≤◌, not, nat_le, Bool, true, false, List, [], ◌∷◌, ◌++◌, length, length-append, filter, Option, Some, None, refl, ◌∙◌, arith, if◌then◌else◌}
use Rattle.std.specs.Prelude.{option_and_then, unwrap_or}
use Rattle.std.specs.List.{find, list_all, list_any}
use Rattle.std.proofs.lemmas.Bool.{and_from, and_parts, le-leb, leb-true}
use Rattle.std.proofs.lemmas.List.{length-map}
use Rattle.std.proofs.lemmas.List.Folds.{list_all-append}
use Rattle.mt_tlv.specs.Tree.{Elements}
use Rattle.mt_tlv.specs.declared.value.Value.{Value}
use Rattle.mt_meta.specs.Forms.{is_of_kind}
use Rattle.mt_meta.specs.Given.{field_of, number_of}
use Rattle.mt_meta.specs.Stored.{is_stored}
use Rattle.mt_meta.specs.Table.{attributes_of, clusters_of, endpoints, extensions_of, globals}
use Rattle.mt_meta.specs.declared.meta.Kind.TheVariants as kinds
use Rattle.mt_model.specs.Trees.{structure_in}
use Rattle.mt_model.specs.messages.Effects.{answered_with, refused_at}
use Rattle.mt_model.specs.tables.KeySets.{is_key_set, key_sets, number_at}
use Rattle.mt_model.specs.declared.limits.TheConstants.{KEY_MAP_ITEMS, KEY_SETS}
use Rattle.mt_model.specs.declared.messages.status.Status.TheVariants.{InvalidCommand, NotFound, ResourceExhausted, Success, UnsupportedAccess, UnsupportedCommand}
use Rattle.mt_model.specs.declared.node.action.Effect.{Effect}
use Rattle.mt_model.specs.declared.node.action.NodeStep.TheVariants.{SetRow}
use Rattle.mt_model.specs.declared.rows.place.Place.{Place}
use Rattle.mt_groupkeys.specs.Commands.{key_map, of_fabric, read_ids, read_set, remove_set, set_in, told, write_set}
use Rattle.mt_groupkeys.specs.Laws.{NobodyMakesSteps, StepsAreSound, is_sound_step}
use Rattle.mt_groupkeys.specs.Sets.{has_id, has_starts, kept_set, replaced, values_of, without}
use Rattle.mt_groupkeys.proofs.Kept.{kept_form, same_number}

-- Lists of values that pass a test.

replaced_pass : (test : Value → Bool) (id : ℕ) (set : Value) (sets : List Value) → test set ≡ true → list_all test sets ≡ true → list_all test (replaced id set sets) ≡ true
replaced_pass test id set [] own h = refl
replaced_pass test id set (other ∷ others) own h =
    let both = and_parts (test other) (list_all test others) h in
    and_from _ _ (by_id (has_id id other) both.0) (replaced_pass test id set others own both.1)
  where
    by_id : (is : Bool) → test other ≡ true → test (if is then set else other) ≡ true
    by_id true passes = own
    by_id false passes = passes

kept_pass : (test keeps : Value → Bool) (values : List Value) → list_all test values ≡ true → list_all test (filter keeps values) ≡ true
kept_pass test keeps [] h = refl
kept_pass test keeps (value ∷ values) h =
    let both = and_parts (test value) (list_all test values) h in
    by_test (keeps value) both.0 (kept_pass test keeps values both.1)
  where
    by_test : (stays : Bool) → test value ≡ true → list_all test (filter keeps values) ≡ true → list_all test (if stays then value ∷ filter keeps values else filter keeps values) ≡ true
    by_test true passes rest = and_from _ _ passes rest
    by_test false passes rest = rest

kept_few : (keeps : Value → Bool) (values : List Value) → length (filter keeps values) ≤ length values
kept_few keeps [] = omega arith
kept_few keeps (value ∷ values) = by_test (keeps value) (kept_few keeps values)
  where
    by_test : (stays : Bool) → length (filter keeps values) ≤ length values → length (if stays then value ∷ filter keeps values else filter keeps values) ≤ length (value ∷ values)
    by_test true h = omega arith
    by_test false h = omega arith

fewer : (n m limit : ℕ) → n ≤ m → nat_le m limit ≡ true → nat_le n limit ≡ true
fewer n m limit h few = let below : m ≤ limit = leb-true m limit few in le-leb n limit (omega arith)

one_more : (sets : List Value) (set : Value) → nat_le KEY_SETS (length sets) ≡ false → nat_le (length (sets ++ set ∷ [])) KEY_SETS ≡ true
one_more sets set h = rw (length-append sets (set ∷ [])) (room (length sets) h)
  where
    room : (n : ℕ) → nat_le 3 n ≡ false → nat_le (n + 1) 3 ≡ true
    room n h = grind (arith, h)

module _ (fabric : ℕ) where
  abbrev is_set : Value → Bool
  is_set = is_of_kind kinds.KeySets 0 KEY_SETS fabric

  abbrev is_item : Value → Bool
  is_item = is_of_kind kinds.GroupKeyMap 0 KEY_MAP_ITEMS fabric

  abbrev passes : Effect → Type 0
  passes effect = list_all (is_sound_step fabric) effect.steps ≡ true

  sets_step : (sets : List Value) → list_all is_set sets ≡ true → nat_le (length sets) KEY_SETS ≡ true → is_sound_step fabric (SetRow key_sets fabric sets) ≡ true
  unfolding is_stored endpoints clusters_of attributes_of globals extensions_of
  sets_step sets forms few = and_from _ _ (same_number fabric) (and_from _ _ forms few)

  map_step : (items : List Value) → list_all is_item items ≡ true → nat_le (length items) KEY_MAP_ITEMS ≡ true → is_sound_step fabric (SetRow key_map fabric items) ≡ true
  unfolding is_stored endpoints clusters_of attributes_of globals extensions_of
  map_step items forms few = and_from _ _ (same_number fabric) (and_from _ _ forms few)

  module _ (sets items : List Value) (sets_form : list_all is_set sets ≡ true) (few_sets : nat_le (length sets) KEY_SETS ≡ true) (items_form : list_all is_item items ≡ true) (few_items : nat_le (length items) KEY_MAP_ITEMS ≡ true) (command : Place) where
    -- KeySetWrite.

    set_by : (id : ℕ) (set : Value) → is_set set ≡ true → (there full : Bool) → nat_le KEY_SETS (length sets) ≡ full
        → passes (if not there && full then refused_at command ResourceExhausted else answered_with command Success (SetRow key_sets fabric (if there then replaced id set sets else sets ++ set ∷ []) ∷ []))
    set_by id set form true full h = and_from _ _ (sets_step (replaced id set sets) (replaced_pass is_set id set sets form sets_form) (rw (length-map sets (λ (other : Value). if has_id id other then set else other)) few_sets)) refl
    set_by id set form false true h = refl
    set_by id set form false false h = and_from _ _ (sets_step (sets ++ set ∷ []) (list_all-append is_set sets (set ∷ []) ∙ and_from _ _ sets_form (and_from _ _ form refl)) (one_more sets set h)) refl

    write_by : (es : Elements) (well : Bool) → (is_key_set es && has_starts es) ≡ well
        → passes (if well then set_in sets fabric command (unwrap_or (number_at 0 es) 0) (kept_set fabric es) else refused_at command InvalidCommand)
    write_by es true h = set_by (unwrap_or (number_at 0 es) 0) (kept_set fabric es) (kept_form fabric es h) (list_any (has_id (unwrap_or (number_at 0 es) 0)) sets) (nat_le KEY_SETS (length sets)) refl
    write_by es false h = refl

    write_passes : (given : Option Elements) → passes (write_set sets fabric command given)
    write_passes None = refl
    write_passes (Some es) = write_by es (is_key_set es && has_starts es) refl

    -- KeySetRead.

    told_passes : (set : Option Value) → passes (told command set)
    told_passes None = refl
    told_passes (Some set) = refl

    read_passes : (id : ℕ) → passes (read_set sets command id)
    read_passes id = by_id (id == 0)
      where
        by_id : (zero : Bool) → passes (if zero then read_set sets command 0 else told command (find (has_id id) sets))
        by_id true = refl
        by_id false = told_passes (find (has_id id) sets)

    -- KeySetRemove.

    remove_passes : (id : ℕ) → passes (remove_set sets items fabric command id)
    remove_passes id = by_id (id == 0) (list_any (has_id id) sets)
      where
        by_id : (zero there : Bool)
            → passes
            (if zero then refused_at command InvalidCommand
            else if not there then refused_at command NotFound
            else answered_with command Success (SetRow key_sets fabric (without 0 id sets) ∷ SetRow key_map fabric (without 2 id items) ∷ []))
        by_id true there = refl
        by_id false false = refl
        by_id false true =
            and_from _ _ (sets_step (without 0 id sets) (kept_pass is_set _ sets sets_form) (fewer (length (without 0 id sets)) (length sets) KEY_SETS (kept_few _ sets) few_sets))
            (and_from _ _ (map_step (without 2 id items) (kept_pass is_item _ items items_form) (fewer (length (without 2 id items)) (length items) KEY_MAP_ITEMS (kept_few _ items) few_items)) refl)

    command_passes : (fields : Value) (write read remove ids : Bool)
        → passes
        (if write then write_set sets fabric command (option_and_then structure_in (field_of 0 fields))
        else if read then read_set sets command (number_of 0 fields)
        else if remove then remove_set sets items fabric command (number_of 0 fields)
        else if ids then read_ids sets command
        else refused_at command UnsupportedCommand)
    command_passes fields true read remove ids = write_passes (option_and_then structure_in (field_of 0 fields))
    command_passes fields false true remove ids = read_passes (number_of 0 fields)
    command_passes fields false false true ids = remove_passes (number_of 0 fields)
    command_passes fields false false false true = refl
    command_passes fields false false false false = refl

pub steps_sound : StepsAreSound
steps_sound rows_at actor command fields sound = by_fabric (actor.fabric == 0)
  where
    by_fabric : (nobody : Bool) → passes actor.fabric (if nobody then refused_at command UnsupportedAccess else of_fabric rows_at actor.fabric command fields)
    by_fabric true = refl
    by_fabric false =
        command_passes actor.fabric (values_of (rows_at key_sets)) (values_of (rows_at key_map)) sound.sets sound.few_sets sound.items sound.few_items command
        fields (command.leaf == 0) (command.leaf == 1) (command.leaf == 3) (command.leaf == 4)

pub nobody_steps : NobodyMakesSteps
nobody_steps rows_at actor command fields nobody = rw nobody refl
