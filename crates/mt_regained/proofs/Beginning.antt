-- The boot behind a map with which a node may start.
use Rattle.std.proofs.Common.{◌≡◌, ◌∙◌, refl, sym, ap, subst, ℕ, ◌+◌, ◌^◌, ◌<◌, inl, inr, Bool, true, false, List, [], ◌∷◌, ◌++◌, Option, Some, None, drop, arith, if◌then◌else◌}
use Rattle.std.proofs.lemmas.Bool.{and_parts, cases_Bool, le-leb}
use Rattle.std.specs.Prelude.{option_map}
use Rattle.std.specs.List.{flat_map, list_all}
use Rattle.mt_durable.specs.Maps.{have_values, keys_ascend}
use Rattle.mt_durable.specs.Setting.{with_all}
use Rattle.mt_durable.specs.declared.durable.Entry.{Entry}
use Rattle.mt_model.specs.declared.node.state.NodeState.{NodeState}
use Rattle.mt_model.specs.declared.texts.config.Config.{Config}
use Rattle.mt_model.specs.declared.texts.config.SessionRow.{SessionRow}
use Rattle.mt_grammar.specs.Decoding.{kept_in}
use Rattle.mt_grammar.specs.Facts.{facts_hold}
use Rattle.mt_grammar.specs.declared.kept.MapContents.{MapContents}
use Rattle.mt_grammar.specs.declared.keys.Key.{Key}
use Rattle.mt_grammar.specs.declared.keys.Key.TheVariants as keys
use Rattle.mt_machine.specs.Laws.{RollsBackValid}
use Rattle.mt_machine.specs.Laws as machine
use Rattle.mt_machine.specs.Opened.{begun_with}
use Rattle.mt_machine.specs.Rollback.{rollback}
use Rattle.mt_machine.specs.State.{IsValid}
use Rattle.mt_lasting.specs.Contents.{durable, entry_at, kept_of}
use Rattle.mt_lasting.specs.Keys.{all_keys}
use Rattle.mt_regained.specs.Begun.{MayStart, begun_at_boot, boot_of, ceiling_if, ceiling_in, first_change, next_boot}
use Rattle.mt_regained.specs.Laws.{DurableIsKept, IsKeptIn, StatesAreValid, is_of_bytes}
use Rattle.mt_regained.specs.Regained.{state_if, state_of}
use Rattle.mt_regained.specs.Rolled.{ceiling_of, rolled_if, rolled_map, rolled_map_of}
use Rattle.mt_regained.proofs.GoesOn.{ceiling_fits, durable_some, has_entries}
use Rattle.mt_regained.proofs.Read.{some_same}
use Rattle.mt_regained.proofs.Regaining.{none_armed, none_regained, unarmed_stays}

-- A map that is rolled back is one of the grammar.

rolled_facts : (map : List Entry) (kept : MapContents) → kept_in map ≡ Some kept → rolled_map map ≡ Some map → (facts_hold kept ≡ true) × (rolled_map_of kept ≡ map)
rolled_facts map kept read rolled =
    let is : rolled_if (Some kept) ≡ Some map = sym (ap rolled_if read) ∙ rolled in
    elim (cases_Bool (facts_hold kept)) [
      | inl facts ↦
          let same : Some (rolled_map_of kept) ≡ Some map = rw facts at is in
          (facts, some_same (rolled_map_of kept) map same)
      | inr none ↦
          let wrong : None ≡ Some map = rw none at is in
          absurd cc
    ]

pub rolled_is_kept : (map : List Entry) (kept : MapContents) → list_all is_of_bytes map ≡ true → keys_ascend map ≡ true → have_values map ≡ true → kept_in map ≡ Some kept → rolled_map map ≡ Some map → IsKeptIn map kept
rolled_is_kept map kept bytes ascend whole read rolled = record { bytes = bytes; ascend = ascend; whole = whole; read = read; facts = (rolled_facts map kept read rolled).0 }

-- It is the map of the state that it stands for, in which no fail-safe is armed.

module _ (is_kept : DurableIsKept) (are_valid : StatesAreValid) (back : RollsBackValid) (map : List Entry) (kept : MapContents) (is : IsKeptIn map kept) (rolled : rolled_map map ≡ Some map) where
  same : rolled_map_of kept ≡ map
  same = (rolled_facts map kept is.read rolled).1

  is_behind : IsKeptIn (rolled_map_of kept) (kept_of (rollback (state_of kept)) (ceiling_of kept))
  is_behind = is_kept (rollback (state_of kept)) (ceiling_of kept) (back (state_of kept) (are_valid map kept is)) (ceiling_fits map kept is)

  same_kept : kept_of (rollback (state_of kept)) (ceiling_of kept) ≡ kept
  same_kept = some_same (kept_of (rollback (state_of kept)) (ceiling_of kept)) kept (sym is_behind.read ∙ ap kept_in same ∙ is.read)

  unarmed : (state_of kept).armed ≡ None
  unarmed = subst (λ (k : MapContents). (state_of k).armed ≡ None) same_kept (none_regained (rollback (state_of kept)) (ceiling_of kept) (none_armed (state_of kept)))

  same_map : durable (state_of kept) (ceiling_of kept) ≡ map
  same_map = ap (λ (s : NodeState). durable s (ceiling_of kept)) (sym (unarmed_stays (state_of kept) unarmed)) ∙ same

-- The state in which the boot behind it begins.

next_where : (config : Config) (map : List Entry) (kept : MapContents) → has_entries map ≡ true → kept_in map ≡ Some kept → facts_hold kept ≡ true
    → next_boot config map ≡ Some (begun_at_boot config.sessions (boot_of (Some kept) + 1) kept)
unfolding has_entries
next_where config [] kept some read facts = absurd cc
next_where config (entry ∷ entries) kept some read facts =
    let begun : NodeState → NodeState = λ kept. begun_with (kept.boot + 1) config.sessions kept in
    ap (λ (read : Option MapContents). option_map begun (state_if read)) read
    ∙ ap (λ (holds : Bool). option_map begun (if holds then Some (state_of kept) else None)) facts

pub next_of : (config : Config) (s : NodeState) (ceiling : ℕ) (map : List Entry) (kept : MapContents) → durable s ceiling ≡ map → kept_in map ≡ Some kept → facts_hold kept ≡ true
    → next_boot config map ≡ Some (begun_at_boot config.sessions (boot_of (Some kept) + 1) kept)
next_of config s ceiling map kept is read facts = next_where config map kept (sym (ap has_entries is) ∙ durable_some s ceiling) read facts

-- What is committed first changes the numbers of the boot and of events, and nothing besides.

abbrev is_other : Key → Bool
is_other keys.Boot = false
is_other keys.Ceiling = false
is_other key = true

-- all but the first two
abbrev others : List Key
others = drop 2 all_keys

are_other : list_all is_other others ≡ true
are_other = refl

module _ (s : NodeState) (ceiling boot next : ℕ) (sessions : List SessionRow) where
  abbrev begun : NodeState
  begun = begun_with boot sessions s

  stays_at : (key : Key) → is_other key ≡ true → entry_at s ceiling key ≡ entry_at begun next key
  stays_at keys.Boot other = absurd cc
  stays_at keys.Ceiling other = absurd cc
  stays_at (keys.Single place) other = refl
  stays_at (keys.Items fabric place) other = refl
  stays_at (keys.Fabric index) other = refl
  stays_at keys.Roots other = refl
  stays_at keys.Networks other = refl
  stays_at keys.Failsafe other = refl

  stay : (some : List Key) → list_all is_other some ≡ true → flat_map (entry_at s ceiling) some ≡ flat_map (entry_at begun next) some
  stay [] all = refl
  stay (key ∷ some) all =
      let both = and_parts (is_other key) (list_all is_other some) all in
      λ i. stays_at key both.0 i ++ stay some both.1 i

set_again : (boot next old ceiling : ℕ) (entries : List Entry) → with_all (first_change boot next) (first_change old ceiling ++ entries) ≡ first_change boot next ++ entries
set_again boot next old ceiling entries = refl

leads : (s : NodeState) (ceiling boot next : ℕ) (sessions : List SessionRow) → with_all (first_change boot next) (durable s ceiling) ≡ durable (begun_with boot sessions s) next
leads s ceiling boot next sessions =
    set_again boot next s.boot ceiling (flat_map (entry_at s ceiling) others)
    ∙ ap (λ (entries : List Entry). first_change boot next ++ entries) (stay s ceiling boot next sessions others are_other)

-- All that a boot that begins with it is to be.

abbrev begun_behind : Config → MapContents → NodeState
begun_behind config kept = begun_at_boot config.sessions (boot_of (Some kept) + 1) kept

pub record Begins (config : Config) (map : List Entry) (kept : MapContents) : Type 0 where
  pub boot : boot_of (Some kept) < 2 ^ 31
  pub state : next_boot config map ≡ Some (begun_behind config kept)
  pub ceiling : ceiling_of kept ≡ ceiling_in map
  pub valid : IsValid (begun_behind config kept)
  pub leads : (next : ℕ) → with_all (first_change (boot_of (Some kept) + 1) next) map ≡ durable (begun_behind config kept) next

pub begins : DurableIsKept → StatesAreValid → RollsBackValid → machine.BeginsValid → (config : Config) (map : List Entry) (kept : MapContents) → IsKeptIn map kept → MayStart map → Begins config map kept
begins is_kept are_valid back begin config map kept is may =
    let s = state_of kept in
    let boot = boot_of (Some kept) + 1 in
    let is_its : durable s (ceiling_of kept) ≡ map = same_map is_kept are_valid back map kept is may.rolled in
    let below : boot_of (Some kept) < 2 ^ 31 = subst (λ (boot : ℕ). boot < 2 ^ 31) (ap boot_of is.read) may.boot in
    record {
      boot = below;
      state = next_of config s (ceiling_of kept) map kept is_its is.read is.facts;
      ceiling = sym (ap ceiling_if is.read);
      valid = begin boot config.sessions s (le-leb boot (2 ^ 31) (omega arith)) (are_valid map kept is) (unarmed is_kept are_valid back map kept is may.rolled);
      leads = λ next. ap (with_all (first_change boot next)) (sym is_its) ∙ leads s (ceiling_of kept) boot next config.sessions;
    }
