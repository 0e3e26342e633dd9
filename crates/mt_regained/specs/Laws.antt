-- What holds of states that are regained from a map.
use Rattle.std.specs.Prelude.{◌≡◌, ◌^◌, ◌≤◌, ◌||◌, ℕ, Bool, true, false, nat_le, nat_lt, List, Option, Some, None, not, filter, map}
use Rattle.std.specs.List.{list_all}
use Rattle.mt_tlv.specs.declared.value.Value.{Value}
use Rattle.mt_durable.specs.Maps.{have_values, keys_ascend}
use Rattle.mt_durable.specs.declared.durable.Entry.{Entry}
use Rattle.mt_model.specs.declared.node.state.NodeState.{NodeState}
use Rattle.mt_model.specs.declared.texts.config.Config.{Config}
use Rattle.mt_model.specs.declared.texts.config.SessionRow.{SessionRow}
use Rattle.mt_model.specs.Optional.{is_that}
use Rattle.mt_model.specs.rows.Sight.{same_place}
use Rattle.mt_model.specs.declared.tables.network.Armed.{Armed}
use Rattle.mt_grammar.specs.Decoding.{kept_in}
use Rattle.mt_grammar.specs.Facts.{facts_hold}
use Rattle.mt_grammar.specs.declared.keys.Key.{Key}
use Rattle.mt_grammar.specs.declared.keys.Key.TheVariants as keys
use Rattle.mt_grammar.specs.declared.kept.MapContents.{MapContents}
use Rattle.mt_machine.specs.Opened.{opened_with}
use Rattle.mt_machine.specs.Rollback.{breadcrumb, rollback}
use Rattle.mt_machine.specs.State.{IsValid}
use Rattle.mt_lasting.specs.Contents.{durable, kept_of}
use Rattle.mt_lasting.specs.Keys.{all_keys}
use Rattle.mt_lasting.specs.Values.{value_at}
use Rattle.mt_regained.specs.Begun.{begun_at_boot}
use Rattle.mt_regained.specs.Regained.{state_of}
use Rattle.mt_regained.specs.Rolled.{ceiling_of, kept_of_new, rolled}

-- whether a key is of bytes
abbrev pub is_of_bytes : Entry → Bool
is_of_bytes entry = list_all (λ (byte : ℕ). nat_lt byte 256) entry.key

-- A map of the grammar, and what is kept in it.
pub record IsKeptIn (map : List Entry) (kept : MapContents) : Type 0 where
  pub bytes : list_all is_of_bytes map ≡ true
  pub ascend : keys_ascend map ≡ true
  pub whole : have_values map ≡ true
  pub read : kept_in map ≡ Some kept
  pub facts : facts_hold kept ≡ true

-- It stands for a valid state, of which the same is kept.

abbrev pub StatesAreValid : Type 0
StatesAreValid = (map : List Entry) (kept : MapContents) → IsKeptIn map kept → IsValid (state_of kept)

abbrev pub KeptAgain : Type 0
KeptAgain = (map : List Entry) (kept : MapContents) → IsKeptIn map kept → kept_of (state_of kept) (ceiling_of kept) ≡ kept

-- What is durable of a valid state is a map of the grammar, and what is kept of the state is kept in it.
abbrev pub DurableIsKept : Type 0
DurableIsKept = (s : NodeState) (ceiling : ℕ) → IsValid s → ceiling ≤ 2 ^ 62 → IsKeptIn (durable s ceiling) (kept_of s ceiling)

-- What is kept of a valid state stands for a state of which the same is kept.
abbrev pub StatesAreRegained : Type 0
StatesAreRegained = (s : NodeState) (ceiling : ℕ) → IsValid s → kept_of (state_of (kept_of s ceiling)) ceiling ≡ kept_of s ceiling

-- Rolled back twice is rolled back once.
abbrev pub RolledTwice : Type 0
RolledTwice = (map : List Entry) (kept : MapContents) → IsKeptIn map kept → rolled (rolled kept) ≡ rolled kept

-- The next boot begins in a valid state.
abbrev pub BeginsValid : Type 0
BeginsValid = (map : List Entry) (kept : MapContents) (boot : ℕ) (sessions : List SessionRow) → IsKeptIn map kept → nat_le boot (2 ^ 31) ≡ true → IsValid (begun_at_boot sessions boot (rolled kept))

-- The first boot of a node is that of what it keeps before it.
abbrev pub FirstBoots : Type 0
FirstBoots = (config : Config) (boot : ℕ) (sessions : List SessionRow) → begun_at_boot sessions boot (kept_of_new config) ≡ opened_with boot config.fabrics config.entries sessions

-- Of what lasts a rollback leaves all as it is but for what it names: what the added fabric has, the credentials of the updated one, the root
-- certificates, the networks and the fail-safe itself. Breadcrumb, which it sets, does not last.

abbrev pub names_key : Option Armed → Key → Bool
names_key None key = false
names_key (Some armed) (keys.Items fabric place) = is_that fabric armed.added
names_key (Some armed) (keys.Fabric index) = is_that index armed.added || is_that index armed.updated
names_key (Some armed) keys.Roots = true
names_key (Some armed) keys.Networks = true
names_key (Some armed) keys.Failsafe = true
names_key (Some armed) (keys.Single place) = same_place place breadcrumb
names_key (Some armed) key = false

abbrev pub other_keys : Option Armed → List Key
other_keys armed = filter (λ (key : Key). not (names_key armed key)) all_keys

abbrev pub values_under : List Key → NodeState → ℕ → List (Option Value)
values_under some s ceiling = map (λ (key : Key). value_at key s ceiling) some

abbrev pub KeepsOtherKeys : Type 0
KeepsOtherKeys = (s : NodeState) (ceiling : ℕ) → IsValid s → values_under (other_keys s.armed) (rollback s) ceiling ≡ values_under (other_keys s.armed) s ceiling
