-- Commands of Group Key Management, of On/Off and of Bench set no attribute of Administrator Commissioning.
use Rattle.std.proofs.Common.{◌≡◌, ℕ, ◌==◌, ◌&&◌, not, nat_le, Bool, true, false, List, [], ◌∷◌, length, Option, Some, None, option_and_then, refl, unwrap_or, if◌then◌else◌}
use Rattle.std.specs.List.{find, list_any}
use Rattle.mt_tlv.specs.Tree.{Elements, more, none, structure}
use Rattle.mt_tlv.specs.declared.value.Tag.TheVariants.{Context}
use Rattle.mt_tlv.specs.declared.value.Value.{Value}
use Rattle.mt_apps.specs.Bench.{bench_effect, number_at, rung}
use Rattle.mt_apps.specs.Commands as apps
use Rattle.mt_apps.specs.OnOff.{is_on, on_behind, on_off_at, on_off_effect, set_on}
use Rattle.mt_groupkeys.specs.Commands as group_keys
use Rattle.mt_groupkeys.specs.Sets.{has_id, has_starts, kept_set, put_in, set_0, values_of, without}
use Rattle.mt_meta.specs.Given.{field_of, number_of}
use Rattle.mt_meta.specs.clusters.Bench as bench
use Rattle.mt_meta.specs.clusters.OnOff as on_off
use Rattle.mt_model.specs.Trees.{structure_in}
use Rattle.mt_model.specs.messages.Effects.{answered_with, refused_at}
use Rattle.mt_model.specs.rows.Shown.{first_value}
use Rattle.mt_model.specs.tables.KeySets as sets_of
use Rattle.mt_model.specs.tables.KeySets.{is_key_set, key_sets}
use Rattle.mt_model.specs.declared.limits.TheConstants.{KEY_SETS}
use Rattle.mt_model.specs.declared.messages.status.Status.TheVariants.{InvalidCommand, NotFound, ResourceExhausted, Success, UnsupportedAccess, UnsupportedCommand}
use Rattle.mt_model.specs.declared.node.action.Effect.{Effect}
use Rattle.mt_model.specs.declared.node.action.NodeStep.TheVariants.{SetRow}
use Rattle.mt_model.specs.declared.rows.place.Place.{Place}
use Rattle.mt_model.specs.declared.rows.place.Row.{Row}
use Rattle.mt_model.specs.declared.tables.access.Actor.{Actor}
use Rattle.mt_windows.proofs.Commands.{EffectSpares, either}

module _ (leaf : ℕ) where
  abbrev Spares : Effect → Type 0
  Spares effect = EffectSpares leaf effect

  -- Group Key Management.

  set_spares : (sets : List Value) (fabric : ℕ) (command : Place) (id : ℕ) (set : Value) → Spares (group_keys.set_in sets fabric command id set)
  set_spares sets fabric command id set =
      either leaf (not (list_any (has_id id) sets) && nat_le KEY_SETS (length sets)) (refused_at command ResourceExhausted)
      (answered_with command Success (SetRow key_sets fabric (put_in id set sets) ∷ [])) refl refl

  writing_spares : (sets : List Value) (fabric : ℕ) (command : Place) (given : Option Elements) → Spares (group_keys.write_set sets fabric command given)
  writing_spares sets fabric command None = refl
  writing_spares sets fabric command (Some es) =
      either leaf (is_key_set es && has_starts es) (group_keys.set_in sets fabric command (unwrap_or (sets_of.number_at 0 es) 0) (kept_set fabric es)) (refused_at command InvalidCommand)
      (set_spares sets fabric command (unwrap_or (sets_of.number_at 0 es) 0) (kept_set fabric es)) refl

  told_spares : (command : Place) (found : Option Value) → Spares (group_keys.told command found)
  told_spares command None = refl
  told_spares command (Some set) = refl

  reading_spares : (sets : List Value) (command : Place) (id : ℕ) → Spares (group_keys.read_set sets command id)
  reading_spares sets command id =
      either leaf (id == 0) (group_keys.responded_with command 2 (more (Context 0) (structure set_0) none)) (group_keys.told command (find (has_id id) sets)) refl (told_spares command (find (has_id id) sets))

  removing_spares : (sets items : List Value) (fabric : ℕ) (command : Place) (id : ℕ) → Spares (group_keys.remove_set sets items fabric command id)
  removing_spares sets items fabric command id =
      let removed = answered_with command Success (SetRow key_sets fabric (without 0 id sets) ∷ SetRow group_keys.key_map fabric (without 2 id items) ∷ []) in
      either leaf (id == 0) (refused_at command InvalidCommand) (if not (list_any (has_id id) sets) then refused_at command NotFound else removed) refl
      (either leaf (not (list_any (has_id id) sets)) (refused_at command NotFound) removed refl refl)

  one_of : (a b c d : Bool) (command : Place) (v w x y : Effect) → Spares v → Spares w → Spares x → Spares y
      → Spares (if a then v else if b then w else if c then x else if d then y else refused_at command UnsupportedCommand)
  one_of true b c d command v w x y first second third fourth = first
  one_of false true c d command v w x y first second third fourth = second
  one_of false false true d command v w x y first second third fourth = third
  one_of false false false true command v w x y first second third fourth = fourth
  one_of false false false false command v w x y first second third fourth = refl

  keys_of_fabric : (rows_at : Place → List Row) (fabric : ℕ) (command : Place) (fields : Value) → Spares (group_keys.of_fabric rows_at fabric command fields)
  keys_of_fabric rows_at fabric command fields =
      let sets = values_of (rows_at key_sets) in
      let items = values_of (rows_at group_keys.key_map) in
      let given = option_and_then structure_in (field_of 0 fields) in
      one_of (command.leaf == 0) (command.leaf == 1) (command.leaf == 3) (command.leaf == 4) command
      (group_keys.write_set sets fabric command given) (group_keys.read_set sets command (number_of 0 fields))
      (group_keys.remove_set sets items fabric command (number_of 0 fields)) (group_keys.read_ids sets command)
      (writing_spares sets fabric command given) (reading_spares sets command (number_of 0 fields))
      (removing_spares sets items fabric command (number_of 0 fields)) refl

  pub keys_spare : (rows_at : Place → List Row) (actor : Actor) (command : Place) (fields : Value) → Spares (group_keys.invoked rows_at actor command fields)
  keys_spare rows_at actor command fields =
      either leaf (actor.fabric == 0) (refused_at command UnsupportedAccess) (group_keys.of_fabric rows_at actor.fabric command fields) refl (keys_of_fabric rows_at actor.fabric command fields)

  -- On/Off, and Bench.

  elsewhere : (same : Bool) → (not ((same && false) && true) && true) ≡ true
  elsewhere true = refl
  elsewhere false = refl

  set_on_spares : (command : Place) (on : Option Bool) → Spares (set_on command on)
  set_on_spares command None = refl
  set_on_spares command (Some on) = elsewhere (command.endpoint == 0)

  pub apps_spare : (rows_at : Place → List Row) (actor : Actor) (command : Place) → Spares (apps.invoked rows_at actor command)
  apps_spare rows_at actor command =
      either leaf (command.cluster == on_off.cluster) (on_off_effect rows_at command)
      (if command.cluster == bench.cluster then bench_effect rows_at actor.fabric command else refused_at command UnsupportedCommand)
      (set_on_spares command (on_behind command.leaf (is_on (rows_at (on_off_at command.endpoint)))))
      (either leaf (command.cluster == bench.cluster) (bench_effect rows_at actor.fabric command) (refused_at command UnsupportedCommand)
      (either leaf (command.leaf == 0) (answered_with command Success (rung command.endpoint (first_value (rows_at (number_at command.endpoint))) actor.fabric ∷ [])) (refused_at command UnsupportedCommand) refl refl) refl)
