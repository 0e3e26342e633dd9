-- What commands make of the group key sets of a fabric: its own KeySetWrite and KeySetRemove what the run's list says, where they get status 0,
-- and any other nothing.
use Rattle.std.proofs.Common.{◌≡◌, ℕ, ◌==◌, ◌&&◌, not, inl, inr, length, nat_le, Bool, true, false, List, [], ◌∷◌, Option, Some, None, refl, sym, ap, ◌∙◌, arith, filter, map, if◌then◌else◌}
use Rattle.std.specs.Prelude.{option_and_then, unwrap_or}
use Rattle.std.specs.List.{find, list_any}
use Rattle.std.proofs.lemmas.Bool.{and_from, and_left, and_right, cases_Bool, cond_both, eqb-true}
use Rattle.mt_tlv.specs.Tree.{Elements}
use Rattle.mt_tlv.specs.declared.value.Value.{Value}
use Rattle.mt_meta.specs.Given.{field_of, number_of}
use Rattle.mt_meta.specs.Stored.{is_stored}
use Rattle.mt_meta.specs.Table.{attributes_of, clusters_of, endpoints, extensions_of, globals}
use Rattle.mt_groupkeys.specs.Commands as group_keys
use Rattle.mt_groupkeys.specs.Sets.{has_id, has_starts, kept_set, put_in, values_of, without}
use Rattle.mt_model.specs.Trees.{structure_in}
use Rattle.mt_model.specs.messages.Effects.{answered_with, refused_at}
use Rattle.mt_model.specs.rows.Order.{in_order, is_own}
use Rattle.mt_model.specs.rows.Setting.{with_rows}
use Rattle.mt_model.specs.rows.Sight.{same_place, seen_by, stands_at}
use Rattle.mt_model.specs.tables.KeySets.{is_key_set, key_sets, number_at}
use Rattle.mt_model.specs.declared.limits.TheConstants.{KEY_SETS}
use Rattle.mt_model.specs.declared.messages.status.Status.TheVariants.{InvalidCommand, NotFound, ResourceExhausted, Success, UnsupportedAccess, UnsupportedCommand}
use Rattle.mt_model.specs.declared.node.action.Effect.{Effect}
use Rattle.mt_model.specs.declared.node.action.NodeStep.{NodeStep}
use Rattle.mt_model.specs.declared.node.action.NodeStep.TheVariants.{SetRow}
use Rattle.mt_model.specs.declared.node.state.NodeState.{NodeState}
use Rattle.mt_model.specs.declared.rows.place.Place.{Place}
use Rattle.mt_model.specs.declared.rows.place.Row.{Row}
use Rattle.mt_model.specs.declared.tables.access.Actor.{Actor}
use Rattle.mt_machine.specs.Commands.{own_rows}
use Rattle.mt_machine.specs.Effects.{after_all}
use Rattle.mt_machine.specs.Observation.{observation}
use Rattle.mt_machine.specs.State.{is_member, rows_of}
use Rattle.mt_keysets.specs.Changes.{behind_command, is_success, key_set_remove, key_set_write, with_given, with_written, without_removed}
use Rattle.mt_keysets.specs.Sets.{sets_of}
use Rattle.mt_keysets.proofs.Rows.{seen_there}
use Rattle.mt_keysets.proofs.Steps.{Stays, others_set, own_set}

turned : (a b : ℕ) → (a == b) ≡ (b == a)
turned a b = grind arith

-- A fabric observes its own sets as they are.

rows_stored : (s : NodeState) → rows_of s key_sets ≡ filter (stands_at key_sets) s.rows
unfolding is_stored endpoints clusters_of attributes_of globals extensions_of
rows_stored s = refl

pub own_observed : (fabric : ℕ) (s : NodeState) → values_of (own_rows (observation fabric s) key_sets) ≡ sets_of fabric s
own_observed fabric s =
    ap (λ (rows : List Row). values_of (filter (is_own fabric) (map (seen_by fabric) (in_order fabric rows)))) (rows_stored s)
    ∙ ap values_of (seen_there key_sets fabric s.rows)

module _ (fabric : ℕ) (actor : Actor) (command : Place) (fields : Value) (s : NodeState) where
  abbrev before : List Value
  before = sets_of fabric s

  -- what the run's list has of them, where a command is answered with success or is not
  abbrev counted : Bool → List Value
  counted succeeds = if actor.fabric == fabric && succeeds then behind_command fabric command fields before else before

  -- THE SETS BEHIND A COMMAND of this effect are those of the run's list.
  abbrev pub Counts : Effect → Type 0
  Counts effect = is_member fabric (after_all (Some actor) effect.steps s) ≡ true → sets_of fabric (after_all (Some actor) effect.steps s) ≡ counted (is_success effect.reply)

  not_counted : (succeeds : Bool) → succeeds ≡ false → counted succeeds ≡ before
  not_counted succeeds fails = ap (λ (b : Bool). if b then behind_command fabric command fields before else before) (and_right (actor.fabric == fabric) succeeds fails)

  -- what is no success makes no step
  pub silent : (effect : Effect) → effect.steps ≡ [] → is_success effect.reply ≡ false → Counts effect
  silent effect none fails there = ap (λ (steps : List NodeStep). sets_of fabric (after_all (Some actor) steps s)) none ∙ sym (not_counted (is_success effect.reply) fails)

  -- a command that is none of these two
  pub aside : (effect : Effect) → behind_command fabric command fields before ≡ before → Stays fabric effect.steps → Counts effect
  aside effect same stays there =
      stays (Some actor) s there
      ∙ sym (cond_both (actor.fabric == fabric && is_success effect.reply) (behind_command fabric command fields before) before (λ (sets : List Value). sets ≡ before) (λ is. same) (λ is_not. refl))

  module _ (at_root : (command.endpoint == 0) ≡ true) (of_cluster : (command.cluster == 0x3f) ≡ true) where
    not_write : (command.leaf == 0) ≡ false → same_place command key_set_write ≡ false
    not_write leaf = and_right (command.endpoint == 0) _ (and_right (command.cluster == 0x3f) _ leaf)

    as_write : (command.leaf == 0) ≡ true → behind_command fabric command fields before ≡ with_written fabric fields before
    as_write leaf =
        ap (λ (b : Bool). if b then with_written fabric fields before else if same_place command key_set_remove then without_removed fields before else before)
        (and_from _ _ at_root (and_from _ _ of_cluster leaf))

    as_removal : (command.leaf == 0) ≡ false → (command.leaf == 3) ≡ true → behind_command fabric command fields before ≡ without_removed fields before
    as_removal other leaf =
        ap (λ (b : Bool). if b then with_written fabric fields before else if same_place command key_set_remove then without_removed fields before else before) (not_write other)
        ∙ ap (λ (b : Bool). if b then without_removed fields before else before) (and_from _ _ at_root (and_from _ _ of_cluster leaf))

    its_own : (actor.fabric == fabric) ≡ true → counted true ≡ behind_command fabric command fields before
    its_own its = ap (λ (b : Bool). if b && true then behind_command fabric command fields before else before) its

    anothers : (actor.fabric == fabric) ≡ false → counted true ≡ before
    anothers other = ap (λ (b : Bool). if b && true then behind_command fabric command fields before else before) other

    module _ (sets items : List Value) (observed : actor.fabric ≡ fabric → sets ≡ before) where
      -- KeySetWrite.

      put_counts : (es : Elements) → option_and_then structure_in (field_of 0 fields) ≡ Some es → (command.leaf == 0) ≡ true
          → Counts (answered_with command Success (SetRow key_sets actor.fabric (put_in (unwrap_or (number_at 0 es) 0) (kept_set actor.fabric es) sets) ∷ []))
      put_counts es found leaf there =
          let id = unwrap_or (number_at 0 es) 0 in
          elim (cases_Bool (actor.fabric == fabric)) [
            | inl its ↦
                let same = eqb-true actor.fabric fabric its in
                ap (λ (n : ℕ). sets_of fabric (record s { rows = with_rows key_sets n (put_in id (kept_set n es) sets) s.rows })) same
                ∙ own_set fabric (put_in id (kept_set fabric es) sets) s
                ∙ ap (put_in id (kept_set fabric es)) (observed same)
                ∙ sym (its_own its ∙ as_write leaf ∙ ap (λ (o : Option Elements). with_given fabric o before) found)
            | inr other ↦
                others_set fabric key_sets actor.fabric (put_in id (kept_set actor.fabric es) sets) s (turned fabric actor.fabric ∙ other)
                ∙ sym (anothers other)
          ]

      set_counts : (es : Elements) → option_and_then structure_in (field_of 0 fields) ≡ Some es → (command.leaf == 0) ≡ true
          → Counts (group_keys.set_in sets actor.fabric command (unwrap_or (number_at 0 es) 0) (kept_set actor.fabric es))
      set_counts es found leaf =
          cond_both (not (list_any (has_id (unwrap_or (number_at 0 es) 0)) sets) && nat_le KEY_SETS (length sets)) (refused_at command ResourceExhausted) _ Counts
          (λ full. silent (refused_at command ResourceExhausted) refl refl) (λ room. put_counts es found leaf)

      write_counts : (given : Option Elements) → option_and_then structure_in (field_of 0 fields) ≡ given → (command.leaf == 0) ≡ true → Counts (group_keys.write_set sets actor.fabric command given)
      write_counts None found leaf = silent (refused_at command InvalidCommand) refl refl
      write_counts (Some es) found leaf =
          cond_both (is_key_set es && has_starts es) (group_keys.set_in sets actor.fabric command (unwrap_or (number_at 0 es) 0) (kept_set actor.fabric es)) (refused_at command InvalidCommand) Counts
          (λ is. set_counts es found leaf) (λ is_not. silent (refused_at command InvalidCommand) refl refl)

      -- KeySetRead, and KeySetReadAllIndices.

      told_counts : (set : Option Value) → Counts (group_keys.told command set)
      told_counts None = silent (group_keys.told command None) refl refl
      told_counts (Some set) = silent (group_keys.told command (Some set)) refl refl

      read_counts : (id : ℕ) → Counts (group_keys.read_set sets command id)
      read_counts id = cond_both (id == 0) _ (group_keys.told command (find (has_id id) sets)) Counts (λ zero. silent (group_keys.read_set sets command 0) refl refl) (λ some. told_counts (find (has_id id) sets))

      -- KeySetRemove.

      taken_counts : (id : ℕ) → number_of 0 fields ≡ id → (command.leaf == 0) ≡ false → (command.leaf == 3) ≡ true
          → Counts (answered_with command Success (SetRow key_sets actor.fabric (without 0 id sets) ∷ SetRow group_keys.key_map actor.fabric (without 2 id items) ∷ []))
      taken_counts id found other leaf there =
          let then_there = record s { rows = with_rows key_sets actor.fabric (without 0 id sets) s.rows } in
          others_set fabric group_keys.key_map actor.fabric (without 2 id items) then_there refl
          ∙ elim (cases_Bool (actor.fabric == fabric)) [
            | inl its ↦
                let same = eqb-true actor.fabric fabric its in
                ap (λ (n : ℕ). sets_of fabric (record s { rows = with_rows key_sets n (without 0 id sets) s.rows })) same
                ∙ own_set fabric (without 0 id sets) s
                ∙ ap (without 0 id) (observed same)
                ∙ sym (its_own its ∙ as_removal other leaf ∙ ap (λ (n : ℕ). without 0 n before) found)
            | inr another ↦
                others_set fabric key_sets actor.fabric (without 0 id sets) s (turned fabric actor.fabric ∙ another)
                ∙ sym (anothers another)
          ]

      remove_counts : (id : ℕ) → number_of 0 fields ≡ id → (command.leaf == 0) ≡ false → (command.leaf == 3) ≡ true → Counts (group_keys.remove_set sets items actor.fabric command id)
      remove_counts id found other leaf =
          cond_both (id == 0) (refused_at command InvalidCommand) _ Counts (λ zero. silent (refused_at command InvalidCommand) refl refl)
          (λ some.
          cond_both (not (list_any (has_id id) sets)) (refused_at command NotFound) _ Counts (λ none. silent (refused_at command NotFound) refl refl)
          (λ there. taken_counts id found other leaf))

    module _ (rows_at : Place → List Row) (observed : actor.fabric ≡ fabric → values_of (rows_at key_sets) ≡ before) where
      fabric_counts : Counts (group_keys.of_fabric rows_at actor.fabric command fields)
      fabric_counts =
          let sets = values_of (rows_at key_sets) in
          let items = values_of (rows_at group_keys.key_map) in
          cond_both (command.leaf == 0) (group_keys.write_set sets actor.fabric command (option_and_then structure_in (field_of 0 fields))) _ Counts
          (λ write. write_counts sets items observed (option_and_then structure_in (field_of 0 fields)) refl write)
          (λ no_write.
          cond_both (command.leaf == 1) (group_keys.read_set sets command (number_of 0 fields)) _ Counts
          (λ read. read_counts sets items observed (number_of 0 fields))
          (λ no_read.
          cond_both (command.leaf == 3) (group_keys.remove_set sets items actor.fabric command (number_of 0 fields)) _ Counts
          (λ remove. remove_counts sets items observed (number_of 0 fields) refl no_write remove)
          (λ no_removal.
          cond_both (command.leaf == 4) (group_keys.read_ids sets command) (refused_at command UnsupportedCommand) Counts
          (λ ids. silent (group_keys.read_ids sets command) refl refl) (λ none. silent (refused_at command UnsupportedCommand) refl refl))))

      pub keys_count : Counts (group_keys.invoked rows_at actor command fields)
      keys_count =
          cond_both (actor.fabric == 0) (refused_at command UnsupportedAccess) (group_keys.of_fabric rows_at actor.fabric command fields) Counts
          (λ nobody. silent (refused_at command UnsupportedAccess) refl refl) (λ some. fabric_counts)

  -- a command of another cluster is none of the two
  pub no_key_command : (command.cluster == 0x3f) ≡ false → behind_command fabric command fields before ≡ before
  no_key_command other =
      ap (λ (b : Bool). if b then with_written fabric fields before else if same_place command key_set_remove then without_removed fields before else before)
      (and_right (command.endpoint == 0) _ (and_left (command.cluster == 0x3f) (command.leaf == 0) other))
      ∙ ap (λ (b : Bool). if b then without_removed fields before else before) (and_right (command.endpoint == 0) _ (and_left (command.cluster == 0x3f) (command.leaf == 3) other))
