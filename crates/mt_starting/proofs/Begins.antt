-- With what is recovered a valid node begins, and what it commits first may be committed.
use Rattle.std.proofs.Common.{◌≡◌, ◌≢◌, ◌∙◌, refl, sym, ap, subst, ℕ, ◌+◌, ◌^◌, ◌<◌, ◌≤◌, true, List, [], ◌∷◌, Option, Some, None, nat_lt, inl, inr, arith}
use Rattle.std.proofs.lemmas.Bool.{cases_Bool, leb-true, le-leb}
use Rattle.std.specs.List.{list_all}
use Rattle.mt_durable.specs.Maps.{have_values, keys_ascend}
use Rattle.mt_durable.specs.Reading.{Says}
use Rattle.mt_durable.specs.Setting.{with_all}
use Rattle.mt_durable.specs.declared.durable.Entry.{Entry}
use Rattle.mt_grammar.specs.Decoding.{kept_in}
use Rattle.mt_grammar.specs.Facts.{facts_hold}
use Rattle.mt_grammar.specs.declared.kept.MapContents.{MapContents}
use Rattle.mt_shared.specs.mt_interactions.Configured.{ConfiguredInteractions, IsFirst, IsStarted}
use Rattle.mt_shared.specs.mt_keeping.Laws.{BeginsReopened, FirstChangesAreSaid, MayCommit, StatesAreReopened, StatesHaveMaps, StatesMayBeCommitted}
use Rattle.mt_shared.specs.mt_lasting.Contents.{durable}
use Rattle.mt_shared.specs.mt_ledger.Ledger.{Ledger, opened_at}
use Rattle.mt_shared.specs.mt_machine.State.{IsValid}
use Rattle.mt_model.specs.declared.node.state.NodeState.{NodeState}
use Rattle.mt_model.specs.declared.texts.config.Config.{Config}
use Rattle.mt_model.specs.texts.Contents.{Contents, contents_of}
use Rattle.mt_shared.specs.mt_regained.Begun.{MayStart, boot_in, ceiling_in, first_change, next_boot}
use Rattle.mt_shared.specs.mt_regained.Laws.{DurableIsKept, IsKeptIn, KeptAgain, StatesAreValid, is_of_bytes}
use Rattle.mt_shared.specs.mt_regained.Regained.{state_of}
use Rattle.mt_shared.specs.mt_regained.Reopened.{reopened_map}
use Rattle.mt_shared.specs.mt_regained.Reopening.{ReopensValid, reopened_node}
use Rattle.mt_shared.specs.mt_regained.Rolled.{ceiling_of, rolled_if, rolled_map, rolled_map_of}
use Rattle.mt_starting.specs.Starts.{HasRoom}

pub some_same : {X : Type 0} (a b : X) → Some a ≡ Some b → a ≡ b
some_same a b same = cc

-- what is kept in a map that is rolled back
pub record HasKept (found : List Entry) : Type 0 where
  pub kept : MapContents
  pub read : kept_in found ≡ Some kept
  pub facts : facts_hold kept ≡ true

has_kept : (found map : List Entry) (read : Option MapContents) → kept_in found ≡ read → rolled_if read ≡ Some map → HasKept found
has_kept found map None is rolled = absurd cc
has_kept found map (Some kept) is rolled = elim (cases_Bool (facts_hold kept)) [
  | inl facts ↦ record { kept = kept; read = is; facts = facts }
  | inr none ↦
      let wrong : None ≡ Some map = rw none at rolled in
      absurd cc
]

some_map : (contents : Contents) (map : List Entry) → map ≢ [] → reopened_map contents map ≡ rolled_map map
some_map contents [] some = absurd (some refl)
some_map contents (entry ∷ entries) some = refl

module _ (reopen : StatesAreReopened) (reopens : ReopensValid) (valid : StatesAreValid) (again : KeptAgain) (is_kept : DurableIsKept) (have : StatesHaveMaps) (config : Config) (found : List Entry)
    (bytes : list_all is_of_bytes found ≡ true) (ascend : keys_ascend found ≡ true) (whole : have_values found ≡ true) (may : MayStart found) where
  its : HasKept found
  its = has_kept found found (kept_in found) refl may.rolled

  is_in : IsKeptIn found its.kept
  is_in = record { bytes = bytes; ascend = ascend; whole = whole; read = its.read; facts = its.facts }

  abbrev before : NodeState
  before = state_of its.kept

  valid_before : IsValid before
  valid_before = valid found its.kept is_in

  low : ceiling_of its.kept ≤ 2 ^ 62
  low =
      let bound : ceiling_in found ≤ 2 ^ 61 = may.ceiling in
      let same : ceiling_in found ≡ ceiling_of its.kept = ap (λ (read : Option MapContents). Rattle.mt_shared.specs.mt_regained.Begun.ceiling_if read) its.read in
      omega arith

  rolls : reopened_map (contents_of config) (durable before (ceiling_of its.kept)) ≡ Some found
  rolls =
      some_map (contents_of config) (durable before (ceiling_of its.kept)) (have before (ceiling_of its.kept))
      ∙ (ap rolled_if ((is_kept before (ceiling_of its.kept) valid_before low).read ∙ (ap (λ (k : MapContents). Some k) (again found its.kept is_in) ∙ sym its.read))
      ∙ may.rolled)

  begins : BeginsReopened config before (ceiling_of its.kept) found
  begins = reopen config before (ceiling_of its.kept) found valid_before low rolls

  pub valid_start : (node : NodeState) → next_boot config found ≡ Some node → IsValid node
  valid_start node next =
      let few : before.boot < 2 ^ 31 = subst (λ (boot : ℕ). boot < 2 ^ 31) begins.boot_is may.boot in
      subst IsValid (some_same (reopened_node config.sessions (ceiling_of its.kept) before) node (sym begins.state ∙ next))
      (reopens config.sessions (ceiling_of its.kept) before valid_before (le-leb (before.boot + 1) (2 ^ 31) (omega arith)))

-- WHAT A BOOT COMMITS FIRST.

-- the ceiling that is set aside for a boot is one that there may be
opened_fits : (ceiling : ℕ) → ceiling ≤ 2 ^ 61 → (opened_at ceiling).history.numbers.ceiling ≤ 2 ^ 62
opened_fits ceiling low = elim (cases_Bool (nat_lt ceiling (ceiling + 1024))) [
  | inl under ↦ rw under (omega arith)
  | inr over ↦ rw over (omega arith)
]

module _ (config : Config) (map : List Entry) (one : ConfiguredInteractions) (valid : IsValid one.state.node) (room : HasRoom map) (begun : IsStarted map config one) where
  fits : one.ledger.history.numbers.ceiling ≤ 2 ^ 62
  fits = subst (λ (l : Ledger). l.history.numbers.ceiling ≤ 2 ^ 62) (sym begun.ledger) (opened_fits (ceiling_in map) room.1)

  module _ (said : FirstChangesAreSaid) (bytes : List ℕ) (first : IsFirst map one bytes) (told : List Entry) (is : told ≡ map) where
    pub says : Says (first_change one.state.node.boot one.ledger.history.numbers.ceiling) bytes
    says = subst (Says (first_change one.state.node.boot one.ledger.history.numbers.ceiling)) (sym first.said)
        (said one.state.node.boot one.ledger.history.numbers.ceiling (leb-true one.state.node.boot (2 ^ 31) valid.boot_fits) fits)

    pub leads : with_all (first_change one.state.node.boot one.ledger.history.numbers.ceiling) told ≡ durable one.state.node one.ledger.history.numbers.ceiling
    leads = ap (with_all (first_change one.state.node.boot one.ledger.history.numbers.ceiling)) is ∙ first.leads

    pub may_commit : StatesMayBeCommitted → keys_ascend told ≡ true → have_values told ≡ true → MayCommit bytes told
    may_commit may ascend whole = may (first_change one.state.node.boot one.ledger.history.numbers.ceiling) told bytes one.state.node one.ledger.history.numbers.ceiling ascend whole says leads valid fits
