-- What a step makes of the group key sets of a fabric: one that sets them, or by which the fabric leaves, and no other.
use Rattle.std.proofs.Common.{◌≡◌, ℕ, ◌==◌, ◌&&◌, ◌||◌, not, is_none, inl, inr, Bool, true, false, List, [], ◌∷◌, Option, Some, None, Ok, refl, sym, ap, ◌∙◌, filter, map}
use Rattle.std.specs.List.{list_all}
use Rattle.std.proofs.lemmas.Bool.{and_parts, cases_Bool, cond_both, eqb-true, not-true, or_parts}
use Rattle.mt_tlv.specs.declared.value.Value.{Value}
use Rattle.mt_tlv.specs.declared.value.Value.TheVariants as values
use Rattle.mt_meta.specs.Finding.{find_data_of}
use Rattle.mt_meta.specs.Forms.{has_form}
use Rattle.mt_meta.specs.Stored.{is_stored}
use Rattle.mt_meta.specs.Table.{attributes_of, clusters_of, endpoints, extensions_of, globals}
use Rattle.mt_meta.specs.clusters.GroupKeyManagement.{sets}
use Rattle.mt_fabrics.specs.Table.{changed_at, has_index, is_used, label_refusal, with_credentials, with_label}
use Rattle.mt_failsafe.specs.Notes.{may_note_csr, may_note_root}
use Rattle.mt_groupkeys.specs.Sets.{values_of}
use Rattle.mt_model.specs.rows.Setting.{is_at, with_rows}
use Rattle.mt_model.specs.rows.Sight.{same_place}
use Rattle.mt_model.specs.tables.KeySets.{key_sets}
use Rattle.mt_model.specs.tables.Leaving.{stays}
use Rattle.mt_model.specs.declared.node.action.NodeStep.{NodeStep}
use Rattle.mt_model.specs.declared.node.action.NodeStep.TheVariants.{SetRow, SetEntries, PutNetwork, RemoveNetwork, ConnectNetwork, MoveNetwork, Arm, Renew, Expire, Complete, AddRoot, Csr, AddFabric, UpdateFabric, RemoveFabric, Label, Emit}
use Rattle.mt_model.specs.declared.node.state.NodeState.{NodeState}
use Rattle.mt_model.specs.declared.rows.place.Place.{Place}
use Rattle.mt_model.specs.declared.rows.place.Row.{Row}
use Rattle.mt_model.specs.declared.tables.access.Actor.{Actor}
use Rattle.mt_model.specs.declared.tables.fabric.Credentials.{Credentials}
use Rattle.mt_model.specs.declared.tables.fabric.Fabric.{Fabric}
use Rattle.mt_model.specs.declared.tables.network.Armed.{Armed}
use Rattle.mt_machine.specs.Effects.{after, after_all, completed, may_join, may_leave, may_update}
use Rattle.mt_machine.specs.Rollback.{breadcrumb, given_back, rolled_back, undone}
use Rattle.mt_machine.specs.State.{IsValid, is_among, is_member, is_row, is_row_at}
use Rattle.mt_keysets.specs.Sets.{sets_of}
use Rattle.mt_keysets.proofs.Rows.{all_kept, impossible, number_itself, place_same, set_elsewhere, set_here, values_again}

-- Tables of fabrics.

kept_out : (p : Fabric → Bool) (fabric : ℕ) (fabrics : List Fabric) → is_used fabric fabrics ≡ false → is_used fabric (filter p fabrics) ≡ false
kept_out p fabric [] out = refl
kept_out p fabric (f ∷ fabrics) out =
    let both = or_parts (f.index == fabric) (is_used fabric fabrics) out in
    elim (cases_Bool (p f)) [
      | inl kept ↦ rw kept (ap (λ (b : Bool). b || is_used fabric (filter p fabrics)) both.0 ∙ kept_out p fabric fabrics both.1)
      | inr gone ↦ rw gone (kept_out p fabric fabrics both.1)
    ]

-- who is not kept is not in it any more
taken_out : (p : ℕ → Bool) (fabric : ℕ) → p fabric ≡ false → (fabrics : List Fabric) → is_used fabric (filter (λ (f : Fabric). p f.index) fabrics) ≡ false
taken_out p fabric goes [] = refl
taken_out p fabric goes (f ∷ fabrics) = elim (cases_Bool (p f.index)) [
  | inl kept ↦ elim (cases_Bool (f.index == fabric)) [
    | inl is ↦ impossible (sym goes ∙ ap p (sym (eqb-true f.index fabric is)) ∙ kept)
    | inr other ↦ rw (kept, other) (taken_out p fabric goes fabrics)
  ]
  | inr gone ↦ rw gone (taken_out p fabric goes fabrics)
]

changed_still : (change : Fabric → Fabric) → ((f : Fabric) → (change f).index ≡ f.index) → (fabric : ℕ) (fabrics : List Fabric) → is_used fabric (map change fabrics) ≡ is_used fabric fabrics
changed_still change same fabric [] = refl
changed_still change same fabric (f ∷ fabrics) = λ i. (same f i == fabric) || changed_still change same fabric fabrics i

given_back_still : (updated : Option ℕ) (saved : Option Credentials) (f : Fabric) → (given_back updated saved f).index ≡ f.index
given_back_still None saved f = refl
given_back_still (Some updated) None f = refl
given_back_still (Some updated) (Some saved) f = cond_both (f.index == updated) (record f { credentials = saved }) f (λ (g : Fabric). g.index ≡ f.index) (λ is. refl) (λ other. refl)

credentials_still : (index : ℕ) (given : Credentials) (f : Fabric) → (changed_at index (with_credentials given) f).index ≡ f.index
credentials_still index given f = cond_both (has_index index f) (with_credentials given f) f (λ (g : Fabric). g.index ≡ f.index) (λ is. refl) (λ other. refl)

label_still : (index : ℕ) (label : List ℕ) (f : Fabric) → (changed_at index (with_label label) f).index ≡ f.index
label_still index label f = cond_both (has_index index f) (with_label label f) f (λ (g : Fabric). g.index ≡ f.index) (λ is. refl) (λ other. refl)

-- Who is not in the table has no sets.

sets_there : find_data_of key_sets ≡ Ok sets.meta
unfolding endpoints clusters_of attributes_of globals extensions_of
sets_there = refl

row_among : (fabrics : List Fabric) (row : Row) → is_row_at fabrics row (Ok sets.meta) ≡ true → is_among fabrics row.fabric ≡ true
row_among fabrics row is = (and_parts (has_form sets.meta row.fabric row.value) (is_among fabrics row.fabric) is).1

of_member : (fabrics : List Fabric) (fabric : ℕ) (row : Row) → is_row fabrics row ≡ true → is_at key_sets fabric row ≡ true → is_among fabrics fabric ≡ true
of_member fabrics fabric row is here =
    let both = and_parts (same_place row.place key_sets) (row.fabric == fabric) here in
    let found : find_data_of row.place ≡ Ok sets.meta = ap find_data_of (place_same row.place key_sets both.0) ∙ sets_there in
    let stands : is_row_at fabrics row (find_data_of row.place) ≡ true = (and_parts (is_stored row.place) (is_row_at fabrics row (find_data_of row.place)) is).1 in
    ap (is_among fabrics) (sym (eqb-true row.fabric fabric both.1)) ∙ row_among fabrics row (ap (is_row_at fabrics row) (sym found) ∙ stands)

none_here : (fabrics : List Fabric) (fabric : ℕ) → is_among fabrics fabric ≡ false → (rows : List Row) → list_all (is_row fabrics) rows ≡ true → filter (is_at key_sets fabric) rows ≡ []
none_here fabrics fabric out [] all = refl
none_here fabrics fabric out (row ∷ rows) all =
    let both = and_parts (is_row fabrics row) (list_all (is_row fabrics) rows) all in
    elim (cases_Bool (is_at key_sets fabric row)) [
      | inl here ↦ impossible (sym out ∙ of_member fabrics fabric row both.0 here)
      | inr elsewhere ↦ rw elsewhere (none_here fabrics fabric out rows both.1)
    ]

pub strangers_have_none : (fabric : ℕ) (s : NodeState) → IsValid s → is_member fabric s ≡ false → sets_of fabric s ≡ []
strangers_have_none fabric s valid out = ap values_of (none_here s.fabrics fabric out s.rows valid.row_forms)

module _ (fabric : ℕ) where
  -- What stays of them.

  abbrev Same : NodeState → NodeState → Type 0
  Same s t = sets_of fabric t ≡ sets_of fabric s

  -- they stay where the fabric does
  abbrev StayIfThere : NodeState → NodeState → Type 0
  StayIfThere s t = is_member fabric t ≡ true → Same s t

  same_at : (row : Row) → is_at key_sets fabric row ≡ true → row.fabric ≡ fabric
  same_at row here = eqb-true row.fabric fabric (and_parts (same_place row.place key_sets) (row.fabric == fabric) here).1

  -- where another goes
  kept_by : (goes : Option ℕ) → stays goes fabric ≡ true → (rows : List Row) → filter (is_at key_sets fabric) (filter (λ (row : Row). stays goes row.fabric) rows) ≡ filter (is_at key_sets fabric) rows
  kept_by goes it_stays = all_kept (λ (row : Row). stays goes row.fabric) (is_at key_sets fabric) (λ row here. ap (stays goes) (same_at row here) ∙ it_stays)

  rolled_same : (armed : Option Armed) (s : NodeState) → StayIfThere s (rolled_back armed s)
  rolled_same None s there = refl
  rolled_same (Some armed) s there = elim (cases_Bool (stays armed.added fabric)) [
    | inl it_stays ↦
        ap values_of
        (set_elsewhere key_sets breadcrumb fabric 0 refl (values.Uint 0 ∷ []) (undone armed s).rows
        ∙ kept_by armed.added it_stays s.rows)
    | inr goes ↦
        impossible
        (sym (changed_still (given_back armed.updated armed.saved_credentials) (given_back_still armed.updated armed.saved_credentials) fabric (filter (λ (f : Fabric). stays armed.added f.index) s.fabrics)
        ∙ taken_out (stays armed.added) fabric goes s.fabrics)
        ∙ there)
  ]

  completed_same : (armed : Option Armed) (s : NodeState) → Same s (completed armed s)
  completed_same None s = refl
  completed_same (Some armed) s = refl

  -- a step that sets other rows
  pub others_set : (place : Place) (whose : ℕ) (given : List Value) (s : NodeState) → (same_place key_sets place && fabric == whose) ≡ false → Same s (record s { rows = with_rows place whose given s.rows })
  others_set place whose given s apart = ap values_of (set_elsewhere key_sets place fabric whose apart given s.rows)

  pub own_set : (given : List Value) (s : NodeState) → sets_of fabric (record s { rows = with_rows key_sets fabric given s.rows }) ≡ given
  own_set given s = ap values_of (set_here key_sets fabric given s.rows) ∙ values_again key_sets fabric given

  removed_same : (index : ℕ) (s : NodeState) → StayIfThere s (after None (RemoveFabric index) s)
  removed_same index s =
      cond_both (may_leave index s) _ s (StayIfThere s)
      (λ may there.
      elim (cases_Bool (index == fabric)) [
        | inl it ↦ impossible (sym (taken_out (λ n. not (n == index)) fabric (ap (λ (n : ℕ). not (fabric == n)) (eqb-true index fabric it) ∙ ap not (number_itself fabric)) s.fabrics) ∙ there)
        | inr another ↦ ap values_of (kept_by (Some index) (ap not another) s.rows)
      ])
      (λ may_not there. refl)

  -- Steps that set none of its sets.

  abbrev pub sets_none : NodeStep → Bool
  sets_none (SetRow place whose given) = not (same_place key_sets place && fabric == whose)
  sets_none step = true

  -- nor let anyone join
  abbrev pub spares : NodeStep → Bool
  spares (AddFabric new) = false
  spares step = sets_none step

  one_stays : (asking : Option Actor) (step : NodeStep) (s : NodeState) → spares step ≡ true → StayIfThere s (after asking step s)
  one_stays asking (SetRow place whose given) s spared there = others_set place whose given s (not-true _ spared)
  one_stays asking (SetEntries whose entries) s spared there = refl
  one_stays asking (PutNetwork id secret) s spared there = refl
  one_stays asking (RemoveNetwork id) s spared there = refl
  one_stays asking (ConnectNetwork id) s spared there = refl
  one_stays asking (MoveNetwork id index) s spared there = refl
  one_stays asking (Arm owner seconds) s spared there = refl
  one_stays asking (Renew seconds) s spared there = refl
  one_stays asking Expire s spared there = rolled_same s.armed s there
  one_stays asking Complete s spared there = completed_same s.armed s
  one_stays asking (AddRoot cert) s spared there = cond_both (may_note_root s.armed) _ s (Same s) (λ may. refl) (λ may_not. refl)
  one_stays asking (Csr nonce update) s spared there = cond_both (may_note_csr update s.armed) _ s (Same s) (λ may. refl) (λ may_not. refl)
  one_stays asking (AddFabric new) s spared there = impossible spared
  one_stays asking (UpdateFabric index given) s spared there = cond_both (may_update index given s) _ s (Same s) (λ may. refl) (λ may_not. refl)
  one_stays asking (RemoveFabric index) s spared there = removed_same index s there
  one_stays asking (Label index label) s spared there = cond_both (is_none (label_refusal index label s.fabrics)) _ s (Same s) (λ may. refl) (λ may_not. refl)
  one_stays asking (Emit place priority whose value) s spared there = refl

  -- Nobody enters by them.

  abbrev StayOut : NodeState → NodeState → Type 0
  StayOut s t = is_member fabric s ≡ false → is_member fabric t ≡ false

  rolled_out : (armed : Option Armed) (s : NodeState) → StayOut s (rolled_back armed s)
  rolled_out None s out = out
  rolled_out (Some armed) s out =
      changed_still (given_back armed.updated armed.saved_credentials) (given_back_still armed.updated armed.saved_credentials) fabric (filter (λ (f : Fabric). stays armed.added f.index) s.fabrics)
      ∙ kept_out (λ (f : Fabric). stays armed.added f.index) fabric s.fabrics out

  completed_out : (armed : Option Armed) (s : NodeState) → StayOut s (completed armed s)
  completed_out None s out = out
  completed_out (Some armed) s out = out

  one_out : (asking : Option Actor) (step : NodeStep) (s : NodeState) → spares step ≡ true → StayOut s (after asking step s)
  one_out asking (SetRow place whose given) s spared out = out
  one_out asking (SetEntries whose entries) s spared out = out
  one_out asking (PutNetwork id secret) s spared out = out
  one_out asking (RemoveNetwork id) s spared out = out
  one_out asking (ConnectNetwork id) s spared out = out
  one_out asking (MoveNetwork id index) s spared out = out
  one_out asking (Arm owner seconds) s spared out = out
  one_out asking (Renew seconds) s spared out = out
  one_out asking Expire s spared out = rolled_out s.armed s out
  one_out asking Complete s spared out = completed_out s.armed s out
  one_out asking (AddRoot cert) s spared out = cond_both (may_note_root s.armed) _ s (λ (t : NodeState). is_member fabric t ≡ false) (λ may. out) (λ may_not. out)
  one_out asking (Csr nonce update) s spared out = cond_both (may_note_csr update s.armed) _ s (λ (t : NodeState). is_member fabric t ≡ false) (λ may. out) (λ may_not. out)
  one_out asking (AddFabric new) s spared out = impossible spared
  one_out asking (UpdateFabric index given) s spared out =
      cond_both (may_update index given s) _ s (λ (t : NodeState). is_member fabric t ≡ false)
      (λ may. changed_still (changed_at index (with_credentials given)) (credentials_still index given) fabric s.fabrics ∙ out) (λ may_not. out)
  one_out asking (RemoveFabric index) s spared out =
      cond_both (may_leave index s) _ s (λ (t : NodeState). is_member fabric t ≡ false) (λ may. kept_out (λ (f : Fabric). not (has_index index f)) fabric s.fabrics out) (λ may_not. out)
  one_out asking (Label index label) s spared out =
      cond_both (is_none (label_refusal index label s.fabrics)) _ s (λ (t : NodeState). is_member fabric t ≡ false)
      (λ may. changed_still (changed_at index (with_label label)) (label_still index label) fabric s.fabrics ∙ out) (λ may_not. out)
  one_out asking (Emit place priority whose value) s spared out = out

  all_out : (asking : Option Actor) (steps : List NodeStep) (s : NodeState) → list_all spares steps ≡ true → StayOut s (after_all asking steps s)
  all_out asking [] s spared out = out
  all_out asking (step ∷ steps) s spared out =
      let both = and_parts (spares step) (list_all spares steps) spared in
      all_out asking steps (after asking step s) both.1 (one_out asking step s both.0 out)

  -- SETS STAY behind such steps, wherever the fabric does.

  abbrev pub Stays : List NodeStep → Type 0
  Stays steps = (asking : Option Actor) (s : NodeState) → StayIfThere s (after_all asking steps s)

  pub all_stay : (steps : List NodeStep) → list_all spares steps ≡ true → Stays steps
  all_stay [] spared asking s there = refl
  all_stay (step ∷ steps) spared asking s there =
      let both = and_parts (spares step) (list_all spares steps) spared in
      let now = after asking step s in
      elim (cases_Bool (is_member fabric now)) [
        | inl still ↦ all_stay steps both.1 asking now there ∙ one_stays asking step s both.0 still
        | inr out ↦ impossible (sym (all_out asking steps now both.1 out) ∙ there)
      ]

  -- so do they where a fabric joins first
  pub join_stays : (new : Fabric) (steps : List NodeStep) → list_all spares steps ≡ true → Stays (AddFabric new ∷ steps)
  join_stays new steps spared asking s there =
      all_stay steps spared asking (after asking (AddFabric new) s) there
      ∙ cond_both (may_join new s) _ s (Same s) (λ may. refl) (λ may_not. refl)
