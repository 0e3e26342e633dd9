-- What is asked of the fabric table and of the fail-safe before a step is asked of the veil with the same answer.
use Rattle.std.proofs.Common.{◌≡◌, ℕ, ◌+◌, ◌==◌, ◌&&◌, ◌||◌, nat_le, not, is_none, Bool, true, false, List, [], ◌∷◌, Option, Some, None, refl, ap, ◌∙◌, map, if◌then◌else◌}
use Rattle.std.specs.List.{list_any}
use Rattle.std.specs.Option.{option_map}
use Rattle.mt_fabrics.specs.Table.{add_refusal, has_index, has_label, has_others_identity, has_others_label, is_used, label_refusal, least_unused, unused_from, update_refusal}
use Rattle.mt_fabrics.specs.declared.fault.FabricFault.TheVariants.{NoIndex, Conflict, LabelConflict, TableFull}
use Rattle.mt_failsafe.specs.Calls.{is_armed_by, is_context}
use Rattle.mt_failsafe.specs.Notes as notes
use Rattle.mt_model.specs.rows.Order.{fabrics_ascend}
use Rattle.mt_model.specs.tables.Known.{bare_armed, fabric_known_to}
use Rattle.mt_model.specs.texts.Config.{has_identity}
use Rattle.mt_model.specs.declared.node.state.NodeState.{NodeState}
use Rattle.mt_model.specs.declared.tables.fabric.Credentials.{Credentials}
use Rattle.mt_model.specs.declared.tables.fabric.Fabric.{Fabric}
use Rattle.mt_model.specs.declared.tables.network.Armed.{Armed}
use Rattle.mt_machine.specs.Effects.{is_renewed_by, may_join, may_leave, may_update}
use Rattle.mt_machine.specs.Isolation.{bare_fabric, descriptor_of, saved_for, veil, with_saved}
use Rattle.mt_machine.specs.State.{is_among}
use Rattle.mt_machine.proofs.Fabrics.{known-length, rebuilt-known}

-- What reads of a fabric only what is public gives of one that is known what it gives of it.
module _ (fabric : ℕ) where
  known-by : {X : Type 0} (q : Fabric → X) (f : Fabric) → q (bare_fabric (descriptor_of f)) ≡ q f → q (fabric_known_to fabric f) ≡ q f
  known-by q f bare = by_test (f.index == fabric)
    where
      by_test : (mine : Bool) → q (if mine then f else bare_fabric (descriptor_of f)) ≡ q f
      by_test true = refl
      by_test false = bare

  any-each : (q : Fabric → Bool) → ((f : Fabric) → q (fabric_known_to fabric f) ≡ q f) → (fs : List Fabric) → list_any q (map (fabric_known_to fabric) fs) ≡ list_any q fs
  any-each q each [] = refl
  any-each q each (f ∷ fs) = ap (λ (b : Bool). b || list_any q (map (fabric_known_to fabric) fs)) (each f) ∙ ap (λ (b : Bool). q f || b) (any-each q each fs)

  any-known : (q : Fabric → Bool) → ((f : Fabric) → q (bare_fabric (descriptor_of f)) ≡ q f) → (fs : List Fabric) → list_any q (map (fabric_known_to fabric) fs) ≡ list_any q fs
  any-known q bare = any-each q (λ f. known-by q f (bare f))

  unused-known : (index : ℕ) (fs : List Fabric) → unused_from index (map (fabric_known_to fabric) fs) ≡ unused_from index fs
  unused-known index [] = refl
  unused-known index (f ∷ fs) = λ i. if known-by (λ (g : Fabric). g.index == index) f refl i then unused-known (index + 1) fs i else index

  add-known : (joins : Fabric) (fs : List Fabric) → add_refusal joins (map (fabric_known_to fabric) fs) ≡ add_refusal joins fs
  add-known joins fs = λ i.
      if any-known (has_identity joins.credentials.root_key joins.credentials.fabric_id) (λ f. refl) fs i then Some Conflict
      else if any-known (has_label joins.label) (λ f. refl) fs i then Some LabelConflict
      else if nat_le 16 (known-length fabric fs i) then Some TableFull
      else None

  used-known : (index : ℕ) (fs : List Fabric) → is_used index (map (fabric_known_to fabric) fs) ≡ is_used index fs
  used-known index = any-known (has_index index) (λ f. refl)

  update-known : (index : ℕ) (given : Credentials) (fs : List Fabric) → update_refusal index given (map (fabric_known_to fabric) fs) ≡ update_refusal index given fs
  update-known index given fs = λ i.
      if not (used-known index fs i) then Some NoIndex
      else if any-known (has_others_identity index given) (λ f. refl) fs i then Some Conflict
      else None

  label-known : (index : ℕ) (label : List ℕ) (fs : List Fabric) → label_refusal index label (map (fabric_known_to fabric) fs) ≡ label_refusal index label fs
  label-known index label fs = λ i.
      if not (used-known index fs i) then Some NoIndex
      else if any-known (has_others_label index label) (λ f. refl) fs i then Some LabelConflict
      else None

  -- its own credentials are there whole
  renewed-known : (given : Credentials) (f : Fabric) → is_renewed_by fabric given (fabric_known_to fabric f) ≡ is_renewed_by fabric given f
  renewed-known given f = by_test (f.index == fabric) refl
    where
      by_test : (mine : Bool) → (f.index == fabric) ≡ mine → is_renewed_by fabric given (if mine then f else bare_fabric (descriptor_of f)) ≡ is_renewed_by fabric given f
      by_test true is = refl
      by_test false is = rw is refl

-- What reads nothing that is saved in the fail-safe gives of a bare one what it gives of it.
bare-by : {X : Type 0} (q : Option Armed → X) (saved : Option Credentials) → ((armed : Armed) → q (Some (with_saved saved (bare_armed armed))) ≡ q (Some armed))
    → (armed : Option Armed) → q (option_map (with_saved saved) (option_map bare_armed armed)) ≡ q armed
bare-by q saved each None = refl
bare-by q saved each (Some armed) = each armed

module _ (fabric : ℕ) (s : NodeState) (up : fabrics_ascend s.fabrics ≡ true) where
  by-table : {X : Type 0} (q : List Fabric → X) → q (map (fabric_known_to fabric) s.fabrics) ≡ q s.fabrics → q (veil fabric s).fabrics ≡ q s.fabrics
  by-table q known = ap q (rebuilt-known fabric s.fabrics up) ∙ known

  by-failsafe : {X : Type 0} (q : Option Armed → X) → ((saved : Option Credentials) (armed : Armed) → q (Some (with_saved saved (bare_armed armed))) ≡ q (Some armed)) → q (veil fabric s).armed ≡ q s.armed
  by-failsafe q each = bare-by q (saved_for fabric s.armed) (each (saved_for fabric s.armed)) s.armed

  pub among-veil : (index : ℕ) → is_among (veil fabric s).fabrics index ≡ is_among s.fabrics index
  among-veil index = by-table (λ (fs : List Fabric). is_among fs index) (any-known fabric (has_index index) (λ f. refl) s.fabrics)

  pub least-veil : least_unused (veil fabric s).fabrics ≡ least_unused s.fabrics
  least-veil = by-table least_unused (unused-known fabric 1 s.fabrics)

  pub join-veil : (joins : Fabric) → may_join joins (veil fabric s) ≡ may_join joins s
  join-veil joins =
      let noted = by-failsafe notes.may_note_added (λ saved armed. refl) in
      let refused = by-table (add_refusal joins) (add-known fabric joins s.fabrics) in
      λ i. noted i && is_none (refused i)

  pub update-veil : (given : Credentials) → may_update fabric given (veil fabric s) ≡ may_update fabric given s
  update-veil given =
      let noted = by-failsafe notes.may_note_updated (λ saved armed. refl) in
      let armed = by-failsafe (is_armed_by fabric) (λ saved armed. refl) in
      let renewed = by-table (list_any (is_renewed_by fabric given)) (any-each fabric (is_renewed_by fabric given) (renewed-known fabric given) s.fabrics) in
      let refused = by-table (update_refusal fabric given) (update-known fabric fabric given s.fabrics) in
      λ i. noted i && (armed i && (renewed i && is_none (refused i)))

  pub leave-veil : (index : ℕ) → may_leave index (veil fabric s) ≡ may_leave index s
  leave-veil index =
      let used = by-table (is_used index) (used-known fabric index s.fabrics) in
      let context = by-failsafe (is_context index) (λ saved armed. refl) in
      λ i. used i && not (context i)

  pub label-veil : (index : ℕ) (label : List ℕ) → label_refusal index label (veil fabric s).fabrics ≡ label_refusal index label s.fabrics
  label-veil index label = by-table (label_refusal index label) (label-known fabric index label s.fabrics)
