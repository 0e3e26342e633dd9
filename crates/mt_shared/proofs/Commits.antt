-- Commits of what a planned deed changes: what may be committed, and what the keeper has behind it.
use Rattle.std.proofs.Common.{◌≡◌, ◌≢◌, ◌⊎◌, ◌∙◌, refl, sym, ap, subst, inl, inr, ⊎_elim, ℕ, Bool, true, false, true≢false, List, [], ◌∷◌, Option, Some, arith, eqb-true, length}
use Rattle.std.specs.Prelude.{◌==◌, OnErr, OnOk, Result, Ok, Err}
use Rattle.mt_durable.specs.Keeping.{Committed, HasRoom, IsAdmitted, IsChange, LeadsTo, WasOrCommitted}
use Rattle.mt_durable.specs.Maps.{Merged, have_values, keys_ascend}
use Rattle.mt_durable.specs.Setting.{with_all}
use Rattle.mt_durable.specs.Reading.{Says}
use Rattle.mt_durable.specs.declared.durable.Entry.{Entry}
use Rattle.mt_interactions.specs.mt_lasting.Changes.{change_between}
use Rattle.mt_interactions.specs.mt_lasting.Contents.{durable}
use Rattle.mt_interactions.specs.mt_lasting.Laws.{MapsAreMaps}
use Rattle.mt_interactions.specs.mt_ledger.Ledger.{Ledger}
use Rattle.mt_interactions.specs.mt_machine.State.{State}
use Rattle.mt_model.specs.declared.node.state.NodeState.{NodeState}
use Rattle.mt_node.specs.Plan.{applied}
use Rattle.mt_interactions.specs.Committing.{CommitsLeadOn, LeadsOn}
use Rattle.mt_interactions.specs.Plan.{IsPlanned, applied_history}
use Rattle.mt_interactions.specs.declared.outcome.InteractionOutcome.{InteractionOutcome}
use Rattle.mt_keeping.specs.Laws.{ChangesLeadToOne, MayCommit, StatesMayBeCommitted}
use Rattle.mt_shared.specs.Acts.{AdmitsStates}

-- a test of a length tells whether there is a byte
pub is_full : (bytes : List ℕ) (test : Bool) → test ≡ (length bytes == 0) → test ≡ false → bytes ≢ []
is_full bytes test is full empty = true≢false (sym (is ∙ ap (λ (b : List ℕ). length b == 0) empty) ∙ full)

pub is_empty : (bytes : List ℕ) (test : Bool) → test ≡ (length bytes == 0) → test ≡ true → bytes ≡ []
is_empty [] test is empty = refl
is_empty (byte ∷ bytes) test is empty = absurd (omega (arith, eqb-true (length (byte ∷ bytes)) 0 (sym is ∙ empty)))

pub on_ok_then : {T E : Type 0} (result : Result T E) (P Q : Type 0) → (P → Q) → OnOk result P → OnOk result Q
on_ok_then (Ok x) P Q weaker p = weaker p
on_ok_then (Err e) P Q weaker p = tt

pub on_err_then : {T E : Type 0} (result : Result T E) (P Q : Type 0) → (P → Q) → OnErr result P → OnErr result Q
on_err_then (Ok x) P Q weaker p = tt
on_err_then (Err e) P Q weaker p = weaker p

-- a change leads from a map to that with its entries set
abbrev pub ChangesMerge : Type 0
ChangesMerge = (change map : List Entry) → keys_ascend change ≡ true → keys_ascend map ≡ true → have_values map ≡ true → Merged change map (with_all change map)

module _ (lead : CommitsLeadOn) (may : StatesMayBeCommitted) (one : ChangesLeadToOne) (are_maps : MapsAreMaps) (s : State) (l : Ledger) (outcome : InteractionOutcome) (planned : IsPlanned s l outcome) where
  -- the state behind the outcome, and the ceiling before and behind it

  abbrev behind : NodeState
  behind = applied outcome.node s.node

  abbrev ceiling : ℕ
  ceiling = l.history.numbers.ceiling

  abbrev later : ℕ
  later = (applied_history outcome l.history).numbers.ceiling

  abbrev change : List Entry
  change = change_between s.node ceiling behind later

  leads : LeadsOn s l outcome
  leads = lead s l outcome planned

  says : outcome.change ≢ [] → Says change outcome.change
  says full = leads.says (λ equal. full (leads.nothing.1 equal))

  may_commit_it : outcome.change ≢ [] → MayCommit outcome.change (durable s.node ceiling)
  may_commit_it full =
      let maps = are_maps s.node ceiling in
      may change (durable s.node ceiling) outcome.change behind later maps.0 maps.1 (says full) leads.leads planned.node.1.1.1.valid leads.within

  -- What it changes may be committed to a keeper that has the map before it.
  pub may_commit : (admits : List Entry → Bool) → AdmitsStates admits → (bytes : List ℕ) → bytes ≡ outcome.change → bytes ≢ [] → (told : Option (List Entry)) → told ≡ Some (durable s.node ceiling)
      → IsChange bytes × HasRoom bytes told × IsAdmitted admits bytes told
  may_commit admits admitted bytes is some told has =
      let full : outcome.change ≢ [] = subst (λ (b : List ℕ). b ≢ []) is some in
      let commits : MayCommit outcome.change (durable s.node ceiling) = may_commit_it full in
      let its : IsAdmitted admits outcome.change (Some (durable s.node ceiling)) = λ after leads_to. admitted after (commits.admitted after leads_to) in
      let all : IsChange outcome.change × HasRoom outcome.change (Some (durable s.node ceiling)) × IsAdmitted admits outcome.change (Some (durable s.node ceiling)) = (commits.form, commits.room, its) in
      subst (λ (b : List ℕ). IsChange b × HasRoom b told × IsAdmitted admits b told) (sym is)
      (subst (λ (m : Option (List Entry)). IsChange outcome.change × HasRoom outcome.change m × IsAdmitted admits outcome.change m) (sym has) all)

  -- Behind its commit the keeper has the map behind it.
  pub leads_on : (bytes : List ℕ) → bytes ≡ outcome.change → bytes ≢ [] → (told now : Option (List Entry)) → told ≡ Some (durable s.node ceiling) → Committed bytes told now → now ≡ Some (durable behind later)
  leads_on bytes is some told now has committed =
      let full : outcome.change ≢ [] = subst (λ (b : List ℕ). b ≢ []) is some in
      let its : Committed outcome.change (Some (durable s.node ceiling)) now =
      subst (λ (m : Option (List Entry)). Committed outcome.change m now) has (subst (λ (b : List ℕ). Committed b told now) is committed) in
      let maps = are_maps s.node ceiling in
      its.2 ∙ ap Some (one change (durable s.node ceiling) its.0 outcome.change maps.0 maps.1 (says full) its.1 ∙ leads.leads)

  pub one_of : (bytes : List ℕ) → bytes ≡ outcome.change → bytes ≢ [] → (told now : Option (List Entry)) → told ≡ Some (durable s.node ceiling) → WasOrCommitted bytes told now → (now ≡ told) ⊎ (now ≡ Some (durable behind later))
  one_of bytes is some told now has either = ⊎_elim (λ same. inl same) (λ committed. inr (leads_on bytes is some told now has committed)) either

  -- Its bytes lead from the map before it to that behind it.
  pub leads_to : ChangesMerge → (bytes : List ℕ) → bytes ≡ outcome.change → bytes ≢ [] → LeadsTo bytes (durable s.node ceiling) (durable behind later)
  leads_to merges bytes is some =
      let full : outcome.change ≢ [] = subst (λ (b : List ℕ). b ≢ []) is some in
      let maps = are_maps s.node ceiling in
      let said : Says change outcome.change = says full in
      let merged : Merged change (durable s.node ceiling) (with_all change (durable s.node ceiling)) = merges change (durable s.node ceiling) said.ascend maps.0 maps.1 in
      let its : LeadsTo outcome.change (durable s.node ceiling) (durable behind later) =
      record { entries = change; says = said; merged = subst (Merged change (durable s.node ceiling)) leads.leads merged } in
      subst (λ (b : List ℕ). LeadsTo b (durable s.node ceiling) (durable behind later)) (sym is) its

  -- Where there is nothing to commit it has that map already.
  pub stays : (bytes : List ℕ) → bytes ≡ outcome.change → bytes ≡ [] → (told : Option (List Entry)) → told ≡ Some (durable s.node ceiling) → told ≡ Some (durable behind later)
  stays bytes is empty told has = has ∙ ap Some (leads.nothing.0 (sym is ∙ empty))
