-- The state in which the next boot begins, with which map a node may start, and what it commits first.
use Rattle.std.specs.Prelude.{◌≡◌, ℕ, ◌+◌, ◌^◌, ◌<◌, ◌≤◌, nat_le, true, List, [], ◌∷◌, Option, Some, None, unwrap_or}
use Rattle.std.specs.Option.{option_map}
use Rattle.mt_durable.specs.declared.durable.Entry.{Entry}
use Rattle.mt_model.specs.declared.node.state.NodeState.{NodeState}
use Rattle.mt_model.specs.declared.texts.config.Config.{Config}
use Rattle.mt_model.specs.declared.texts.config.SessionRow.{SessionRow}
use Rattle.mt_tlv.specs.declared.value.Value.TheVariants as values
use Rattle.mt_grammar.specs.Decoding.{kept_in}
use Rattle.mt_grammar.specs.declared.kept.MapContents.{MapContents}
use Rattle.mt_grammar.specs.declared.keys.Key.TheVariants as keys
use Rattle.mt_lasting.specs.Changes.{with_value}
use Rattle.mt_machine.specs.Opened.{begun_with, opened_with}
use Rattle.mt_machine.specs.State.{IsValid}
use Rattle.mt_regained.specs.Regained.{state_in, state_of}
use Rattle.mt_regained.specs.Rolled.{ceiling_of, rolled_map}

-- the boot of this number, of what was kept, with its sessions
abbrev pub begun_at_boot : List SessionRow → ℕ → MapContents → NodeState
begun_at_boot sessions boot kept = begun_with boot sessions (state_of kept)

-- The state in which the boot behind a map begins, where that is rolled back. The empty map is that of a node that has never started.
abbrev pub next_boot : Config → List Entry → Option NodeState
next_boot config [] = Some (opened_with 1 config.fabrics config.entries config.sessions)
next_boot config (entry ∷ entries) = option_map (λ (kept : NodeState). begun_with (kept.boot + 1) config.sessions kept) (state_in (entry ∷ entries))

-- It is valid, where no fail-safe is armed, as in what is rolled back, and its boot is one that there may be.
abbrev pub IsValidWhereRolled : NodeState → Type 0
IsValidWhereRolled s = s.armed ≡ None → nat_le s.boot (2 ^ 31) ≡ true → IsValid s

-- How often a node has started of which this is the map, and at which number its events go on.

abbrev pub boot_of : Option MapContents → ℕ
boot_of None = 0
boot_of (Some kept) = unwrap_or kept.boot 0

abbrev pub boot_in : List Entry → ℕ
boot_in map = boot_of (kept_in map)

abbrev pub ceiling_if : Option MapContents → ℕ
ceiling_if None = 0
ceiling_if (Some kept) = ceiling_of kept

abbrev pub ceiling_in : List Entry → ℕ
ceiling_in map = ceiling_if (kept_in map)

-- A node may start with a map of the grammar that is rolled back, where it can count one more boot and has room for event numbers.
pub record MayStart (map : List Entry) : Type 0 where
  pub rolled : rolled_map map ≡ Some map
  pub boot : boot_in map < 2 ^ 31
  pub ceiling : ceiling_in map ≤ 2 ^ 61

-- what a node commits first: the number of its boot, and a ceiling of event numbers
abbrev pub first_change : ℕ → ℕ → List Entry
first_change boot ceiling = with_value keys.Boot (Some (values.Uint boot)) ∷ with_value keys.Ceiling (Some (values.Uint ceiling)) ∷ []
