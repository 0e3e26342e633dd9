-- What a step of commissioning leaves of the own part of the fabric that makes it is made of that part and of what is public.
use Rattle.std.proofs.Common.{◌≡◌, ℕ, ◌==◌, ◌&&◌, inl, inr, is_none, Bool, true, false, List, [], ◌∷◌, Option, Some, None, option_map, refl, sym, ap, ◌∙◌, subst, filter, find, map, arith, if◌then◌else◌}
use Rattle.std.proofs.lemmas.Bool.{and_parts, cases_Bool, eqb-true, not-true}
use Rattle.mt_fabrics.specs.Table.{changed, changed_at, credentials_at, has_index, has_other_index, label_refusal, labelled, least_unused, with_credentials, with_index, with_label}
use Rattle.mt_failsafe.specs.Calls.{is_armed_by}
use Rattle.mt_failsafe.specs.Notes as notes
use Rattle.mt_model.specs.Optional.{is_that}
use Rattle.mt_model.specs.tables.Known.{bare_armed}
use Rattle.mt_model.specs.tables.Leaving.{stays}
use Rattle.mt_model.specs.texts.Config.{has_identity}
use Rattle.mt_model.specs.declared.node.action.NodeStep.{NodeStep}
use Rattle.mt_model.specs.declared.node.action.NodeStep.TheVariants.{SetRow, SetEntries, PutNetwork, RemoveNetwork, ConnectNetwork, MoveNetwork, Arm, Renew, Expire, Complete, AddRoot, Csr, AddFabric, UpdateFabric, RemoveFabric, Label, Emit}
use Rattle.mt_model.specs.declared.node.state.NodeSession.{NodeSession}
use Rattle.mt_model.specs.declared.node.state.NodeState.{NodeState}
use Rattle.mt_model.specs.declared.rows.place.Row.{Row}
use Rattle.mt_model.specs.declared.tables.access.AclEntry.{AclEntry}
use Rattle.mt_model.specs.declared.tables.access.Actor.{Actor}
use Rattle.mt_model.specs.declared.tables.fabric.Credentials.{Credentials}
use Rattle.mt_model.specs.declared.tables.fabric.Fabric.{Fabric}
use Rattle.mt_model.specs.declared.tables.network.Armed.{Armed}
use Rattle.mt_machine.specs.Effects.{after, completed, is_on, is_pase, is_plain, is_sound_step, joined, joined_as, labelled_in, may_leave, may_update, plain_joined, plain_without, session_completed, session_joined, session_without, updated_in, without_fabric}
use Rattle.mt_subs.specs.Leaving.{is_live_as}
use Rattle.mt_machine.specs.Isolation.{Own, own, owns, saved_for, veil, with_saved}
use Rattle.mt_machine.specs.Rollback.{rollback, rolled_back}
use Rattle.mt_machine.specs.State.{IsValid, is_among}
use Rattle.mt_machine.specs.Touching.{is_its_step}
use Rattle.mt_machine.proofs.Again.{own-again}
use Rattle.mt_machine.proofs.AlikeTables.{among-veil, join-veil, label-veil, least-veil, leave-veil, update-veil}
use Rattle.mt_machine.proofs.Expired.{among-behind}
use Rattle.mt_machine.proofs.Ticks.{rolled_alike, swap}
use Rattle.mt_machine.proofs.Untouched.{added-saves, armed-saves, completed-none, index-apart, joined-none, placed-mine, renewed-saves, request-own, saves-what, session-none, trusting-own}
use Rattle.mt_machine.proofs.Counting.{impossible}

-- Lists.

-- a change by which what fails a test does not come to pass it
filter-changed : {X : Type 0} (mine : X → Bool) (h : X → X) → ((x : X) → mine x ≡ false → mine (h x) ≡ false) → (xs : List X) → filter mine (map h xs) ≡ filter mine (map h (filter mine xs))
filter-changed mine h none [] = refl
filter-changed mine h none (x ∷ xs) =
    let rest = filter-changed mine h none xs in
    elim (cases_Bool (mine x)) [
      | inl its ↦ rw its (λ i. if mine (h x) then h x ∷ rest i else rest i)
      | inr not_its ↦ rw (none x not_its, not_its) rest
    ]

find-passing : {X : Type 0} (p : X → Bool) (xs : List X) → find p (filter p xs) ≡ find p xs
find-passing p [] = refl
find-passing p (x ∷ xs) = elim (cases_Bool (p x)) [
  | inl its ↦ rw (its, its) refl
  | inr not_its ↦ rw (not_its) (find-passing p xs)
]

-- The own part behind each step, from the own part before it.
module _ (fabric : ℕ) where
  abbrev is_mine : NodeSession → Bool
  is_mine session = is_live_as fabric session.standing

  own-changed : (index : ℕ) (change : Fabric → Fabric) → ((f : Fabric) → (change f).index ≡ f.index) → (fs : List Fabric) → filter (has_index fabric) (changed index change fs) ≡ changed index change (filter (has_index fabric) fs)
  own-changed index change keeps [] = refl
  own-changed index change keeps (f ∷ fs) =
      let rest = own-changed index change keeps fs in
      elim (cases_Bool (f.index == fabric)) [
        | inl mine ↦ rw (same ∙ mine, mine) (ap (λ (l : List Fabric). changed_at index change f ∷ l) rest)
        | inr other ↦ rw (same ∙ other, other) rest
      ]
    where
      at : (this : Bool) → ((if this then change f else f).index == fabric) ≡ (f.index == fabric)
      at true = ap (λ (n : ℕ). n == fabric) (keeps f)
      at false = refl

      same : ((changed_at index change f).index == fabric) ≡ (f.index == fabric)
      same = at (has_index index f)

  -- the plain session ends where it has the fabric that leaves, or is done
  plain-left : (index : ℕ) (plain : Option ℕ) → is_that fabric (plain_without index plain) ≡ (if index == fabric then false else is_that fabric plain)
  plain-left index None = elim (cases_Bool (index == fabric)) [ inl its ↦ rw its refl | inr other ↦ rw other refl ]
  plain-left index (Some n) = grind arith

  -- Commissioning is complete.

  abbrev own_completed : ℕ → Own → Own
  own_completed context o = record o { saved = None; sessions = filter is_mine (map (session_completed context) o.sessions); is_plain = if context == fabric then false else o.is_plain }

  completed-made : (armed : Armed) (s : NodeState) → own fabric (completed (Some armed) s) ≡ own_completed armed.context (own fabric s)
  completed-made armed s = λ i. record (own fabric s) {
    saved = None;
    sessions = filter-changed is_mine (session_completed armed.context) (λ session not_live. completed-none fabric armed.context session.auth session.standing not_live) s.sessions i;
    is_plain = plain-left armed.context s.plain i;
  }

  completed-alike : (armed : Option Armed) (saved : Option Credentials) (s t : NodeState) → own fabric t ≡ own fabric s → own fabric (completed (option_map (with_saved saved) (option_map bare_armed armed)) t) ≡ own fabric (completed armed s)
  completed-alike None saved s t same = same
  completed-alike (Some armed) saved s t same = completed-made (with_saved saved (bare_armed armed)) t ∙ ap (own_completed armed.context) same ∙ sym (completed-made armed s)

  -- Another fabric joins.

  abbrev own_joined : Option Actor → ℕ → Fabric → Own → Own
  own_joined asker index joins o = record o { sessions = filter is_mine (map (session_joined asker index joins) o.sessions); is_plain = if is_plain asker then false else o.is_plain }

  plain-made : (asker : Option Actor) (index : ℕ) → (index == fabric) ≡ false → (plain : Option ℕ) → is_that fabric (plain_joined asker index plain) ≡ (if is_plain asker then false else is_that fabric plain)
  plain-made asker index apart plain = elim (cases_Bool (is_plain asker)) [
    | inl its ↦ rw its (index-apart fabric index apart plain)
    | inr not_its ↦ rw not_its refl
  ]

  joined-made : (asker : Option Actor) (joins : Fabric) (s : NodeState) → (least_unused s.fabrics == fabric) ≡ false → own fabric (joined_as asker (least_unused s.fabrics) joins s) ≡ own_joined asker (least_unused s.fabrics) joins (own fabric s)
  joined-made asker joins s apart = λ i. record (own fabric s) {
    fabrics = placed-mine fabric (with_index (least_unused s.fabrics) joins) apart s.fabrics i;
    saved = added-saves fabric (least_unused s.fabrics) (is_pase asker) s.armed i;
    sessions = filter-changed is_mine (session_joined asker (least_unused s.fabrics) joins)
        (λ session not_live. joined-none fabric (least_unused s.fabrics) apart (is_on asker session) (has_identity session.root_key session.fabric_id joins) session.auth session.standing not_live) s.sessions i;
    is_plain = plain-made asker (least_unused s.fabrics) apart s.plain i;
  }

  joined-if : (asker : Option Actor) (joins : Fabric) (s t : NodeState) (may : Bool) → least_unused t.fabrics ≡ least_unused s.fabrics → (least_unused s.fabrics == fabric) ≡ false → own fabric t ≡ own fabric s
      → own fabric (if may then joined_as asker (least_unused t.fabrics) joins t else t) ≡ own fabric (if may then joined_as asker (least_unused s.fabrics) joins s else s)
  joined-if asker joins s t true least apart same =
      joined-made asker joins t (ap (λ (n : ℕ). n == fabric) least ∙ apart)
      ∙ (λ i. own_joined asker (least i) joins (same i))
      ∙ sym (joined-made asker joins s apart)
  joined-if asker joins s t false least apart same = same

  -- New credentials.

  abbrev own_updated : Credentials → Own → Own
  own_updated given o = record o { fabrics = changed fabric (with_credentials given) o.fabrics; saved = credentials_at fabric o.fabrics }

  credentials-own : (fs : List Fabric) → credentials_at fabric fs ≡ credentials_at fabric (filter (has_index fabric) fs)
  credentials-own fs = ap (option_map (λ (f : Fabric). f.credentials)) (sym (find-passing (has_index fabric) fs))

  updated-made : (given : Credentials) (s : NodeState) → may_update fabric given s ≡ true → own fabric (updated_in fabric given s) ≡ own_updated given (own fabric s)
  updated-made given s may =
      let parts = and_parts (notes.may_note_updated s.armed) _ may in
      let by = (and_parts (is_armed_by fabric s.armed) _ parts.1).0 in
      let saved = saves-what fabric s.armed (credentials_at fabric s.fabrics) parts.0 by ∙ credentials-own s.fabrics in
      let fabrics = own-changed fabric (with_credentials given) (λ f. refl) s.fabrics in
      rw may (λ i. record (own fabric s) { fabrics = fabrics i; saved = saved i })

  updated-alike : (given : Credentials) (s t : NodeState) → may_update fabric given t ≡ may_update fabric given s → own fabric t ≡ own fabric s → own fabric (updated_in fabric given t) ≡ own fabric (updated_in fabric given s)
  updated-alike given s t may same = elim (cases_Bool (may_update fabric given s)) [
    | inl it_may ↦ updated-made given t (may ∙ it_may) ∙ ap (own_updated given) same ∙ sym (updated-made given s it_may)
    | inr not_now ↦ rw (may ∙ not_now, not_now) same
  ]

  -- A fabric leaves, this one or another.

  abbrev own_left : ℕ → Own → Own
  own_left index o = record {
    rows = filter (λ (row : Row). stays (Some index) row.fabric) o.rows;
    entries = filter (λ (entry : AclEntry). stays (Some index) entry.fabric) o.entries;
    fabrics = filter (has_other_index index) o.fabrics;
    saved = o.saved;
    sessions = filter is_mine (map (session_without index) o.sessions);
    is_plain = if index == fabric then false else o.is_plain;
  }

  left-made : (index : ℕ) (s : NodeState) → may_leave index s ≡ true → own fabric (without_fabric index s) ≡ own_left index (own fabric s)
  left-made index s may = rw may (λ i. record {
    rows = swap (owns fabric) (λ (row : Row). stays (Some index) row.fabric) s.rows i;
    entries = swap (λ (entry : AclEntry). entry.fabric == fabric) (λ (entry : AclEntry). stays (Some index) entry.fabric) s.entries i;
    fabrics = swap (has_index fabric) (has_other_index index) s.fabrics i;
    saved = saved_for fabric s.armed;
    sessions = filter-changed is_mine (session_without index) (session-none fabric index) s.sessions i;
    is_plain = plain-left index s.plain i;
  })

  left-alike : (index : ℕ) (s t : NodeState) → may_leave index t ≡ may_leave index s → own fabric t ≡ own fabric s → own fabric (without_fabric index t) ≡ own fabric (without_fabric index s)
  left-alike index s t may same = elim (cases_Bool (may_leave index s)) [
    | inl it_may ↦ left-made index t (may ∙ it_may) ∙ ap (own_left index) same ∙ sym (left-made index s it_may)
    | inr not_now ↦ rw (may ∙ not_now, not_now) same
  ]

  -- A label.

  labelled-made : (index : ℕ) (label : List ℕ) (s : NodeState) → own fabric (record s { fabrics = labelled index label s.fabrics }) ≡ record (own fabric s) { fabrics = labelled index label (own fabric s).fabrics }
  labelled-made index label s = λ i. record (own fabric s) { fabrics = own-changed index (with_label label) (λ f. refl) s.fabrics i }

  labelled-if : (index : ℕ) (label : List ℕ) (s t : NodeState) (may : Bool) → own fabric t ≡ own fabric s
      → own fabric (if may then record t { fabrics = labelled index label t.fabrics } else t) ≡ own fabric (if may then record s { fabrics = labelled index label s.fabrics } else s)
  labelled-if index label s t true same = labelled-made index label t ∙ ap (λ (o : Own). record o { fabrics = labelled index label o.fabrics }) same ∙ sym (labelled-made index label s)
  labelled-if index label s t false same = same

-- On the veil.

armed-own : (fabric owner seconds : ℕ) (asker : Option Actor) (s : NodeState) → own fabric (after asker (Arm owner seconds) s) ≡ own fabric s
armed-own fabric owner seconds asker s = λ i. record (own fabric s) { saved = armed-saves fabric owner s.clock seconds s.networks s.armed i }

renewed-own : (fabric seconds : ℕ) (asker : Option Actor) (s : NodeState) → own fabric (after asker (Renew seconds) s) ≡ own fabric s
renewed-own fabric seconds asker s = λ i. record (own fabric s) { saved = renewed-saves fabric s.clock seconds s.armed i }

turned : (a b : ℕ) → (a == b) ≡ false → (b == a) ≡ false
turned a b other = grind (arith, other)

module _ (fabric : ℕ) (s : NodeState) (valid : IsValid s) where
  again : own fabric (veil fabric s) ≡ own fabric s
  again = own-again fabric s valid.fabrics_rise

  -- where a step leaves the own part of every state as it is
  where-kept : (step : NodeState → NodeState) → ((t : NodeState) → own fabric (step t) ≡ own fabric t) → own fabric (step (veil fabric s)) ≡ own fabric (step s)
  where-kept step kept = kept (veil fabric s) ∙ again ∙ sym (kept s)

  joined-veiled : (asker : Option Actor) (joins : Fabric) → (fabric == least_unused s.fabrics) ≡ false → own fabric (joined asker joins (veil fabric s)) ≡ own fabric (joined asker joins s)
  joined-veiled asker joins apart =
      ap (λ (may : Bool). own fabric (if may then joined_as asker (least_unused (veil fabric s).fabrics) joins (veil fabric s) else veil fabric s)) (join-veil fabric s valid.fabrics_rise joins)
      ∙ joined-if fabric asker joins s (veil fabric s) _ (least-veil fabric s valid.fabrics_rise) (turned fabric (least_unused s.fabrics) apart) again

  updated-veiled : (index : ℕ) (given : Credentials) → index ≡ fabric → own fabric (updated_in index given (veil fabric s)) ≡ own fabric (updated_in index given s)
  updated-veiled index given its =
      subst (λ (n : ℕ). own fabric (updated_in n given (veil fabric s)) ≡ own fabric (updated_in n given s)) (sym its) (updated-alike fabric given s (veil fabric s) (update-veil fabric s valid.fabrics_rise given) again)

  labelled-veiled : (index : ℕ) (label : List ℕ) → own fabric (labelled_in index label (veil fabric s)) ≡ own fabric (labelled_in index label s)
  labelled-veiled index label =
      ap (λ refusal. own fabric (if is_none refusal then record (veil fabric s) { fabrics = labelled index label (veil fabric s).fabrics } else veil fabric s)) (label-veil fabric s valid.fabrics_rise index label)
      ∙ labelled-if fabric index label s (veil fabric s) (is_none (label_refusal index label s.fabrics)) again

pub veiled_step : (fabric : ℕ) (asker : Option Actor) (step : NodeStep) (s : NodeState) → IsValid s → is_sound_step step ≡ true → is_its_step s step fabric ≡ true
    → own fabric (after asker step (veil fabric s)) ≡ own fabric (after asker step s)
veiled_step fabric asker (SetRow place whose values) s valid sound its = impossible sound
veiled_step fabric asker (SetEntries whose entries) s valid sound its = impossible sound
veiled_step fabric asker (PutNetwork id secret) s valid sound its = again fabric s valid
veiled_step fabric asker (RemoveNetwork id) s valid sound its = again fabric s valid
veiled_step fabric asker (ConnectNetwork id) s valid sound its = again fabric s valid
veiled_step fabric asker (MoveNetwork id index) s valid sound its = again fabric s valid
veiled_step fabric asker (Arm owner seconds) s valid sound its = where-kept fabric s valid (after asker (Arm owner seconds)) (armed-own fabric owner seconds asker)
veiled_step fabric asker (Renew seconds) s valid sound its = where-kept fabric s valid (after asker (Renew seconds)) (renewed-own fabric seconds asker)
veiled_step fabric asker Expire s valid sound its = rolled_alike fabric s.armed s (veil fabric s) (again fabric s valid)
veiled_step fabric asker Complete s valid sound its = completed-alike fabric s.armed (saved_for fabric s.armed) s (veil fabric s) (again fabric s valid)
veiled_step fabric asker (AddRoot cert) s valid sound its = where-kept fabric s valid (after asker (AddRoot cert)) (trusting-own fabric cert)
veiled_step fabric asker (Csr nonce update) s valid sound its = where-kept fabric s valid (after asker (Csr nonce update)) (request-own fabric nonce update)
veiled_step fabric asker (AddFabric joins) s valid sound its = joined-veiled fabric s valid asker joins (not-true _ its)
veiled_step fabric asker (UpdateFabric index given) s valid sound its = updated-veiled fabric s valid index given (eqb-true index fabric its)
veiled_step fabric asker (RemoveFabric index) s valid sound its = left-alike fabric index s (veil fabric s) (leave-veil fabric s valid.fabrics_rise index) (again fabric s valid)
veiled_step fabric asker (Label index label) s valid sound its = labelled-veiled fabric s valid index label
veiled_step fabric asker (Emit place priority whose value) s valid sound its = again fabric s valid

-- A removal behind an expiry.

-- who may leave then are those who are in the table, and do not leave by the expiry
leave-behind : (fabric index : ℕ) (armed : Option Armed) (s t : NodeState) → s.armed ≡ armed → t.armed ≡ option_map (with_saved (saved_for fabric armed)) (option_map bare_armed armed)
    → may_leave index t ≡ may_leave index s → is_among t.fabrics index ≡ is_among s.fabrics index
    → may_leave index (rolled_back (option_map (with_saved (saved_for fabric armed)) (option_map bare_armed armed)) t) ≡ may_leave index (rolled_back armed s)
leave-behind fabric index None s t is_s is_t may among = may
leave-behind fabric index (Some armed) s t is_s is_t may among = ap (λ (b : Bool). b && true) (
    among-behind armed.added armed.updated (if is_that fabric armed.updated then armed.saved_credentials else None) index t.fabrics
    ∙ ap (λ (b : Bool). stays armed.added index && b) among
    ∙ sym (among-behind armed.added armed.updated armed.saved_credentials index s.fabrics))

pub removed_alike : (fabric : ℕ) (asker : Option Actor) (index : ℕ) (s : NodeState) → IsValid s
    → own fabric (after asker (RemoveFabric index) (rollback (veil fabric s))) ≡ own fabric (after asker (RemoveFabric index) (rollback s))
removed_alike fabric asker index s valid =
    left-alike fabric index (rollback s) (rollback (veil fabric s))
    (leave-behind fabric index s.armed s (veil fabric s) refl refl (leave-veil fabric s valid.fabrics_rise index) (among-veil fabric s valid.fabrics_rise index))
    (rolled_alike fabric s.armed s (veil fabric s) (again fabric s valid))
