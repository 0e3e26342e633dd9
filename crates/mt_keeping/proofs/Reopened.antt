-- The map with which a node goes on that kept what is durable of a valid state begins the reopening of that state.
use Rattle.std.proofs.Common.{◌≡◌, ◌∙◌, refl, sym, ap, subst, ℕ, ◌+◌, ◌^◌, ◌<◌, ◌≤◌, Bool, true, false, List, [], ◌∷◌, Option, Some, None, if◌then◌else◌}
use Rattle.std.specs.Prelude.{option_map}
use Rattle.mt_durable.specs.declared.durable.Entry.{Entry}
use Rattle.mt_model.specs.declared.node.state.NodeState.{NodeState}
use Rattle.mt_model.specs.declared.tables.network.Armed.{Armed}
use Rattle.mt_model.specs.declared.texts.config.Config.{Config}
use Rattle.mt_model.specs.texts.Contents.{Contents, contents_of}
use Rattle.mt_grammar.specs.Decoding.{kept_in}
use Rattle.mt_grammar.specs.Facts.{facts_hold}
use Rattle.mt_grammar.specs.declared.kept.MapContents.{MapContents}
use Rattle.mt_machine.specs.Laws.{RollsBackValid}
use Rattle.mt_machine.specs.Opened.{begun_with}
use Rattle.mt_machine.specs.Rollback.{rollback, rolled_back}
use Rattle.mt_machine.specs.State.{IsValid}
use Rattle.mt_lasting.specs.Contents.{durable, kept_of}
use Rattle.mt_regained.specs.Begun.{begun_at_boot, boot_in, boot_of, ceiling_if, ceiling_in, next_boot}
use Rattle.mt_regained.specs.Laws.{DurableIsKept, IsKeptIn, StatesAreValid}
use Rattle.mt_regained.specs.Regained.{state_if, state_of}
use Rattle.mt_regained.specs.Reopened.{ReopenedMayStart, reopened_map}
use Rattle.mt_regained.specs.Rolled.{rolled, rolled_if, rolled_map_of}
use Rattle.mt_keeping.specs.Laws.{BeginsReopened, StatesAreReopened}
use Rattle.mt_keeping.proofs.Options.{some_same}

-- A map that is not empty is rolled back, and a boot begins with the state that it stands for.

unfoldable has_entries : List Entry → Bool
has_entries [] = false
has_entries (entry ∷ entries) = true

durable_some : (s : NodeState) (ceiling : ℕ) → has_entries (durable s ceiling) ≡ true
unfolding has_entries
durable_some s ceiling = refl

rolled_where : (contents : Contents) (map : List Entry) (kept : MapContents) → has_entries map ≡ true → kept_in map ≡ Some kept → facts_hold kept ≡ true → reopened_map contents map ≡ Some (rolled_map_of kept)
unfolding has_entries
rolled_where contents [] kept some read facts = absurd cc
rolled_where contents (entry ∷ entries) kept some read facts = ap rolled_if read ∙ ap (λ (holds : Bool). if holds then Some (rolled_map_of kept) else None) facts

next_where : (config : Config) (map : List Entry) (kept : MapContents) → has_entries map ≡ true → kept_in map ≡ Some kept → facts_hold kept ≡ true
    → next_boot config map ≡ Some (begun_at_boot config.sessions (boot_of (Some kept) + 1) kept)
unfolding has_entries
next_where config [] kept some read facts = absurd cc
next_where config (entry ∷ entries) kept some read facts =
    let begun : NodeState → NodeState = λ kept. begun_with (kept.boot + 1) config.sessions kept in
    ap (λ (read : Option MapContents). option_map begun (state_if read)) read
    ∙ ap (λ (holds : Bool). option_map begun (if holds then Some (state_of kept) else None)) facts

-- a rollback begins no boot
same_boot : (armed : Option Armed) (s : NodeState) → (rolled_back armed s).boot ≡ s.boot
same_boot None s = refl
same_boot (Some armed) s = refl

module _ (is_kept : DurableIsKept) (are_valid : StatesAreValid) (back : RollsBackValid) (config : Config) (s : NodeState) (ceiling : ℕ) (valid : IsValid s) (fits : ceiling ≤ 2 ^ 62) where
  abbrev kept : MapContents
  kept = kept_of s ceiling

  -- the state behind the rollback, and its map
  abbrev behind : NodeState
  behind = rollback (state_of kept)

  abbrev map_behind : List Entry
  map_behind = durable behind ceiling

  is : IsKeptIn (durable s ceiling) kept
  is = is_kept s ceiling valid fits

  is_behind : IsKeptIn map_behind (rolled kept)
  is_behind = is_kept behind ceiling (back (state_of kept) (are_valid (durable s ceiling) kept is)) fits

  pub goes_on : reopened_map (contents_of config) (durable s ceiling) ≡ Some map_behind
  goes_on = rolled_where (contents_of config) (durable s ceiling) kept (durable_some s ceiling) is.read is.facts

  boot_behind : behind.boot ≡ s.boot
  boot_behind = same_boot (state_of kept).armed (state_of kept)

  boot_kept : boot_in map_behind ≡ s.boot
  boot_kept = ap boot_of is_behind.read ∙ boot_behind

  ceiling_kept : ceiling_in map_behind ≡ ceiling
  ceiling_kept = ap ceiling_if is_behind.read

  pub begins : ReopenedMayStart → BeginsReopened config s ceiling map_behind
  begins may = record {
    state =
        next_where config map_behind (rolled kept) (durable_some behind ceiling) is_behind.read is_behind.facts
        ∙ ap (λ (boot : ℕ). Some (begun_at_boot config.sessions (boot + 1) (rolled kept))) boot_behind;
    ceiling_is = ceiling_kept;
    boot_is = boot_kept;
    may = λ few low. may config (durable s ceiling) map_behind is.bytes is.ascend is.whole goes_on
        (subst (λ (boot : ℕ). boot < 2 ^ 31) (sym boot_kept) few)
        (subst (λ (next : ℕ). next ≤ 2 ^ 61) (sym ceiling_kept) low);
  }

pub reopens : DurableIsKept → StatesAreValid → RollsBackValid → ReopenedMayStart → StatesAreReopened
reopens is_kept are_valid back may config s ceiling map valid fits reopened =
    subst (BeginsReopened config s ceiling)
    (some_same (durable (rollback (state_of (kept_of s ceiling))) ceiling) map (sym (goes_on is_kept are_valid back config s ceiling valid fits) ∙ reopened))
    (begins is_kept are_valid back config s ceiling valid fits may)
