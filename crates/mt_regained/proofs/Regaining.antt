-- What is kept is rolled back once, and a boot begins with it.
use Rattle.std.proofs.Common.{◌≡◌, ◌∙◌, refl, ap, ℕ, List, Option, Some, None, arith}
use Rattle.std.specs.Prelude.{option_map}
use Rattle.mt_durable.specs.declared.durable.Entry.{Entry}
use Rattle.mt_model.specs.declared.node.state.NodeState.{NodeState}
use Rattle.mt_model.specs.declared.tables.network.Armed.{Armed}
use Rattle.mt_grammar.specs.declared.kept.MapContents.{MapContents}
use Rattle.mt_machine.specs.Laws.{RollsBackValid}
use Rattle.mt_machine.specs.Laws as machine
use Rattle.mt_machine.specs.Rollback.{rollback, rolled_back}
use Rattle.mt_machine.specs.State.{IsValid}
use Rattle.mt_lasting.specs.Contents.{durable, kept_failsafe, kept_of}
use Rattle.mt_regained.specs.Laws.{BeginsValid, DurableIsKept, IsKeptIn, KeptAgain, RolledTwice, StatesAreRegained, StatesAreValid}
use Rattle.mt_regained.specs.Regained.{state_of, with_given_root}
use Rattle.mt_regained.specs.Rolled.{ceiling_of, rolled}

-- The ceiling is beside all else that is kept.
abbrev with_ceiling : ℕ → MapContents → MapContents
with_ceiling ceiling kept = record kept { ceiling = Some ceiling }

pub regained : DurableIsKept → KeptAgain → StatesAreRegained
regained is_kept again s ceiling valid = ap (with_ceiling ceiling) (again (durable s 0) (kept_of s 0) (is_kept s 0 valid (omega arith)))

-- No fail-safe is armed behind a rollback, and none is where none was kept.

behind : (armed : Option Armed) (s : NodeState) → s.armed ≡ armed → (rolled_back armed s).armed ≡ None
behind None s is = is
behind (Some armed) s is = refl

pub none_armed : (s : NodeState) → (rollback s).armed ≡ None
none_armed s = behind s.armed s refl

pub none_regained : (s : NodeState) (ceiling : ℕ) → s.armed ≡ None → (state_of (kept_of s ceiling)).armed ≡ None
none_regained s ceiling none = ap (λ (armed : Option Armed). option_map (with_given_root (kept_of s ceiling)) (option_map kept_failsafe armed)) none

pub unarmed_stays : (s : NodeState) → s.armed ≡ None → rollback s ≡ s
unarmed_stays s none = ap (λ (armed : Option Armed). rolled_back armed s) none

module _ (is_kept : DurableIsKept) (valid : StatesAreValid) (back : RollsBackValid) (map : List Entry) (kept : MapContents) (is : IsKeptIn map kept) where
  abbrev behind_it : NodeState
  behind_it = rollback (state_of kept)

  behind_valid : IsValid behind_it
  behind_valid = back (state_of kept) (valid map kept is)

  pub none_kept : (state_of (rolled kept)).armed ≡ None
  none_kept = none_regained behind_it (ceiling_of kept) (none_armed (state_of kept))

  pub rolled_valid : IsValid (state_of (rolled kept))
  rolled_valid = valid (durable behind_it 0) (kept_of behind_it 0) (is_kept behind_it 0 behind_valid (omega arith))

  pub rolled_again : KeptAgain → rolled (rolled kept) ≡ rolled kept
  rolled_again again =
      ap (λ (s : NodeState). kept_of s (ceiling_of kept)) (unarmed_stays (state_of (rolled kept)) none_kept)
      ∙ regained is_kept again behind_it (ceiling_of kept) behind_valid

pub rolled_twice : DurableIsKept → StatesAreValid → RollsBackValid → KeptAgain → RolledTwice
rolled_twice is_kept valid back again map kept is = rolled_again is_kept valid back map kept is again

pub begins_valid : DurableIsKept → StatesAreValid → RollsBackValid → machine.BeginsValid → BeginsValid
begins_valid is_kept valid back begins map kept boot sessions is fits =
    begins boot sessions (state_of (rolled kept)) fits (rolled_valid is_kept valid back map kept is) (none_kept is_kept valid back map kept is)
