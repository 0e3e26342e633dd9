-- A label and new credentials leave a valid state valid.
use Rattle.std.proofs.Common.{◌≡◌, ℕ, suc, ◌^◌, ◌==◌, ◌&&◌, ◌||◌, inl, inr, not, is_none, nat_le, nat_lt, bytes_eq, Bool, true, List, [], ◌∷◌, length, Option, Some, None, option_map, refl, sym, ap, ◌∙◌, subst, map}
use Rattle.std.proofs.lemmas.Bool.{and_from, and_parts, cases_Bool, cond_both, eqb-true, or_cases}
use Rattle.std.proofs.lemmas.List.Folds.{list_all-map}
use Rattle.std.proofs.lemmas.Slice.Eq.{bytes_eq-Decides}
use Rattle.std.specs.List.{count_by, list_all, list_any}
use Rattle.mt_fabrics.specs.Table.{IsTable, changed, changed_at, credentials_at, has_index, label_refusal, labelled, update_refusal, updated, with_credentials, with_label}
use Rattle.mt_failsafe.specs.Calls.{is_armed_by}
use Rattle.mt_failsafe.specs.Notes as notes
use Rattle.mt_model.specs.texts.Config.{are_credentials, has_identity, is_fabric, is_label}
use Rattle.mt_model.specs.declared.node.state.NodeSession.{NodeSession}
use Rattle.mt_model.specs.declared.node.state.NodeState.{NodeState}
use Rattle.mt_model.specs.declared.rows.place.Row.{Row}
use Rattle.mt_model.specs.declared.tables.access.AclEntry.{AclEntry}
use Rattle.mt_model.specs.declared.tables.fabric.Credentials.{Credentials}
use Rattle.mt_model.specs.declared.tables.fabric.Fabric.{Fabric}
use Rattle.mt_model.specs.declared.tables.network.Armed.{Armed}
use Rattle.mt_machine.specs.Effects.{is_renewed_by, labelled_in, may_update, updated_in, with_saved_credentials}
use Rattle.mt_opcreds.specs.Laws.{are_credentials_if}
use Rattle.mt_machine.specs.State.{IsValid, are_networks, has_entries_up_to, is_added, is_among, is_awaited_root, is_row, is_session, is_updated, is_used}
use Rattle.mt_model.specs.tables.Holding.{is_owned, is_root_of, saves_identity}
use Rattle.mt_machine.proofs.OtherFabrics.{entry-among, facts-still, is_its, names-still, none-is, plain-still, row-among, same_number, stands-still}
use Rattle.mt_machine.proofs.Rolled.{all-true, only-one}
use Rattle.mt_machine.proofs.ValidParts.{ArmedHolds, EntriesHold, FabricsHold, PlainHolds, RootsHold, RowsHold, SessionsHold, fabrics_of, its_armed, its_entries, its_fabrics, its_networks, its_plain, its_roots, its_rows, its_sessions, table_of, with-parts}
use Rattle.mt_machine.proofs.Counting.{all-weaker, impossible}

length-changed : (h : Fabric → Fabric) (fabrics : List Fabric) → length (map h fabrics) ≡ length fabrics
length-changed h [] = refl
length-changed h (f ∷ fabrics) = ap suc (length-changed h fabrics)

-- A change that keeps of each fabric of the table its index, its root and its identity.
module _ (h : Fabric → Fabric) (good : Fabric → Bool)
    (same_index : (f : Fabric) → (h f).index ≡ f.index)
    (same_root : (f : Fabric) → good f ≡ true → (h f).credentials.root ≡ f.credentials.root)
    (same_key : (f : Fabric) → good f ≡ true → (h f).credentials.root_key ≡ f.credentials.root_key)
    (same_id : (f : Fabric) → good f ≡ true → (h f).credentials.fabric_id ≡ f.credentials.fabric_id)
    (fabrics : List Fabric) (all_good : list_all good fabrics ≡ true)
  where
    any-changed : (q : Fabric → Bool) → ((f : Fabric) → good f ≡ true → q (h f) ≡ q f) → (fs : List Fabric) → list_all good fs ≡ true → list_any q (map h fs) ≡ list_any q fs
    any-changed q same [] all = refl
    any-changed q same (f ∷ fs) all =
        let both = and_parts (good f) (list_all good fs) all in
        λ i. same f both.0 i || any-changed q same fs both.1 i

    abbrev now : List Fabric
    now = map h fabrics

    same_among : (n : ℕ) → is_among now n ≡ is_among fabrics n
    same_among n = any-changed (has_index n) (λ f its. ap (λ m. m == n) (same_index f)) fabrics all_good

    same_identity : (key : List ℕ) (id : ℕ) (f : Fabric) → good f ≡ true → has_identity key id (h f) ≡ has_identity key id f
    same_identity key id f its = λ i. bytes_eq (same_key f its i) key && (same_id f its i == id)

    same_its : (key : List ℕ) (id n : ℕ) → list_any (is_its key id n) now ≡ list_any (is_its key id n) fabrics
    same_its key id n = any-changed (is_its key id n) (λ f its. λ i. (same_index f i == n) && same_identity key id f its i) fabrics all_good

    same_none : (key : List ℕ) (id : ℕ) → list_any (has_identity key id) now ≡ list_any (has_identity key id) fabrics
    same_none key id = any-changed (has_identity key id) (same_identity key id) fabrics all_good

    same_root_of : (root : List ℕ) → list_any (is_root_of root) now ≡ list_any (is_root_of root) fabrics
    same_root_of root = any-changed (is_root_of root) (λ f its. ap (λ r. bytes_eq r root) (same_root f its)) fabrics all_good

    few_now : (entries : List AclEntry) (f : Fabric) → has_entries_up_to 4 entries f ≡ true → has_entries_up_to 4 entries (h f) ≡ true
    few_now entries f few = subst (λ n. nat_le (count_by (λ (entry : AclEntry). entry.fabric == n) entries) 4 ≡ true) (sym (same_index f)) few

    entries_hold : (entries : List AclEntry) → EntriesHold fabrics entries → EntriesHold now entries
    entries_hold entries e = record {
      rise = e.rise;
      forms = e.forms;
      owned = all-weaker (is_owned fabrics) (is_owned now) (λ entry. entry-among fabrics now entry (λ there. same_among entry.fabric ∙ there)) entries e.owned;
      few = list_all-map (has_entries_up_to 4 entries) h fabrics ∙ all-weaker (has_entries_up_to 4 entries) (λ f. has_entries_up_to 4 entries (h f)) (few_now entries) fabrics e.few;
    }

    rows_hold : (rows : List Row) → RowsHold fabrics rows → RowsHold now rows
    rows_hold rows r = record {
      rise = r.rise;
      forms = all-weaker (is_row fabrics) (is_row now) (λ row. row-among fabrics now row (λ there. same_among row.fabric ∙ there)) rows r.forms;
      stand = r.stand;
      few = r.few;
    }

    roots_hold : (armed : Option Armed) (roots : List (List ℕ)) → RootsHold fabrics armed roots → RootsHold now armed roots
    roots_hold armed roots t = record {
      differ = t.differ;
      forms = t.forms;
      used = all-weaker (is_used fabrics armed) (is_used now armed) (λ root used. ap (λ b. b || is_awaited_root root armed) (same_root_of root) ∙ used) roots t.used;
    }

    session_stands : (session : NodeSession) → is_session fabrics session ≡ true → is_session now session ≡ true
    session_stands session =
        stands-still fabrics now session session.auth session.standing
        (λ n live there. same_among n ∙ there) (λ n live there. same_its session.root_key session.fabric_id n ∙ there) (λ none. same_none session.root_key session.fabric_id ∙ none)

    sessions_hold : (armed : Option Armed) (sessions : List NodeSession) → SessionsHold fabrics armed sessions → SessionsHold now armed sessions
    sessions_hold armed sessions c = record { stand = all-weaker (is_session fabrics) (is_session now) session_stands sessions c.stand; follow = c.follow }

    plain_holds : (armed : Option Armed) (plain : Option ℕ) → PlainHolds fabrics armed plain → PlainHolds now armed plain
    plain_holds armed plain p = record { stands = plain-still fabrics now plain (λ n has there. same_among n ∙ there) p.stands; follows = p.follows }

    armed_holds : (armed : Option Armed) → ArmedHolds fabrics armed → ArmedHolds now armed
    armed_holds armed a = record {
      facts = facts-still fabrics now armed (λ n context there. same_among n ∙ there) (λ n key id context there. same_its key id n ∙ there) a.facts;
      names = names-still fabrics now armed (λ n context there. same_among n ∙ there) a.names;
      saved = a.saved;
      given = a.given;
    }

    changed-valid : (s : NodeState) → IsValid s → s.fabrics ≡ fabrics → FabricsHold now → (armed : Option Armed)
        → RootsHold now armed s.roots → SessionsHold now armed s.sessions → PlainHolds now armed s.plain → ArmedHolds now armed
        → IsValid (record s { fabrics = now; armed = armed })
    changed-valid s valid are hold armed t c p a =
        with-parts s valid now s.entries s.rows s.roots s.networks armed s.sessions s.plain hold
        (entries_hold s.entries (subst (λ (fs : List Fabric). EntriesHold fs s.entries) are (its_entries s valid)))
        (rows_hold s.rows (subst (λ (fs : List Fabric). RowsHold fs s.rows) are (its_rows s valid)))
        t (its_networks s valid) c p a

-- A change to the fabric of an index.
module _ (index : ℕ) (change : Fabric → Fabric) where
  kept : {X : Type 0} (part : Fabric → X) (f : Fabric) → (has_index index f ≡ true → part (change f) ≡ part f) → part (changed_at index change f) ≡ part f
  kept part f same = cond_both (has_index index f) (change f) f (λ (g : Fabric). part g ≡ part f) same (λ other. refl)

  changed_forms : ((f : Fabric) → is_fabric f ≡ true → is_fabric (change f) ≡ true) → (fabrics : List Fabric) → list_all is_fabric fabrics ≡ true → list_all is_fabric (changed index change fabrics) ≡ true
  changed_forms form fabrics all =
      list_all-map is_fabric (changed_at index change) fabrics
      ∙ all-weaker is_fabric (λ f. is_fabric (changed_at index change f))
      (λ f its. cond_both (has_index index f) (change f) f (λ (g : Fabric). is_fabric g ≡ true) (λ this. form f its) (λ other. its)) fabrics all

-- Labels.
module _ (table_labelled : (index : ℕ) (label : List ℕ) (fabrics : List Fabric) → IsTable fabrics → label_refusal index label fabrics ≡ None → IsTable (labelled index label fabrics)) where
  module _ (s : NodeState) (valid : IsValid s) (index : ℕ) (label : List ℕ) (text : is_label label ≡ true) where
    table_holds : FabricsHold s.fabrics
    table_holds = its_fabrics s valid

    abbrev any : Fabric → Bool
    any f = true

    abbrev relabelled : Fabric → Fabric
    relabelled = changed_at index (with_label label)

    same_given : (f : Fabric) → (relabelled f).credentials ≡ f.credentials
    same_given f = kept index (with_label label) (λ g. g.credentials) f (λ this. refl)

    all_any : list_all any s.fabrics ≡ true
    all_any = all-true s.fabrics any (λ f. refl)

    index_stays : (f : Fabric) → (relabelled f).index ≡ f.index
    index_stays f = kept index (with_label label) (λ g. g.index) f (λ this. refl)

    root_stays : (f : Fabric) → any f ≡ true → (relabelled f).credentials.root ≡ f.credentials.root
    root_stays f is = λ i. (same_given f i).root

    key_stays : (f : Fabric) → any f ≡ true → (relabelled f).credentials.root_key ≡ f.credentials.root_key
    key_stays f is = λ i. (same_given f i).root_key

    id_stays : (f : Fabric) → any f ≡ true → (relabelled f).credentials.fabric_id ≡ f.credentials.fabric_id
    id_stays f is = λ i. (same_given f i).fabric_id

    labelled-valid : label_refusal index label s.fabrics ≡ None → IsValid (record s { fabrics = labelled index label s.fabrics })
    labelled-valid not_refused =
        changed-valid relabelled any index_stays root_stays key_stays id_stays s.fabrics all_any s valid refl
        (fabrics_of (labelled index label s.fabrics) (table_labelled index label s.fabrics (table_of s.fabrics table_holds) not_refused)
        (subst (λ n. nat_le n 16 ≡ true) (sym (length-changed relabelled s.fabrics)) table_holds.few)
        (changed_forms index (with_label label) (λ f form.
        let outer = and_parts (are_credentials f.credentials && is_label f.label) (nat_lt f.vendor (2 ^ 16)) form in
        and_from _ _ (and_from _ _ (and_parts (are_credentials f.credentials) (is_label f.label) outer.0).0 text) outer.1) s.fabrics table_holds.forms))
        s.armed
        (roots_hold relabelled any index_stays root_stays key_stays id_stays s.fabrics all_any s.armed s.roots (its_roots s valid))
        (sessions_hold relabelled any index_stays root_stays key_stays id_stays s.fabrics all_any s.armed s.sessions (its_sessions s valid))
        (plain_holds relabelled any index_stays root_stays key_stays id_stays s.fabrics all_any s.armed s.plain (its_plain s valid))
        (armed_holds relabelled any index_stays root_stays key_stays id_stays s.fabrics all_any s.armed (its_armed s valid))

  pub label-valid : (s : NodeState) → IsValid s → (index : ℕ) (label : List ℕ) → is_label label ≡ true → IsValid (labelled_in index label s)
  label-valid s valid index label text =
      cond_both (is_none (label_refusal index label s.fabrics)) (record s { fabrics = labelled index label s.fabrics }) s IsValid
      (λ not_refused. labelled-valid s valid index label text (none-is _ not_refused)) (λ refused. valid)

-- New credentials.

-- what is found has the index, and the form of what a table has
found_its : (index : ℕ) (old : Credentials) (fabrics : List Fabric) → credentials_at index fabrics ≡ Some old → list_any (is_its old.root_key old.fabric_id index) fabrics ≡ true
found_its index old [] found = absurd (cc)
found_its index old (f ∷ fabrics) found = elim (cases_Bool (f.index == index)) [
  | inl this ↦
      let here : Some f.credentials ≡ Some old = rw this at found in
      let same : f.credentials ≡ old = cc in
      let key : bytes_eq f.credentials.root_key old.root_key ≡ true = (bytes_eq-Decides f.credentials.root_key old.root_key).1 (λ i. (same i).root_key) in
      let id : (f.credentials.fabric_id == old.fabric_id) ≡ true = subst (λ n. (f.credentials.fabric_id == n) ≡ true) (λ i. (same i).fabric_id) (same_number f.credentials.fabric_id) in
      ap (λ b. b || list_any (is_its old.root_key old.fabric_id index) fabrics) (and_from _ _ this (and_from _ _ key id))
  | inr other ↦
      let later : credentials_at index fabrics ≡ Some old = rw other at found in
      ap (λ b. (b && has_identity old.root_key old.fabric_id f) || list_any (is_its old.root_key old.fabric_id index) fabrics) other ∙ found_its index old fabrics later
]

pub found_form : (index : ℕ) (old : Credentials) (fabrics : List Fabric) → credentials_at index fabrics ≡ Some old → list_all is_fabric fabrics ≡ true → are_credentials old ≡ true
found_form index old [] found all = absurd (cc)
found_form index old (f ∷ fabrics) found all =
    let both = and_parts (is_fabric f) (list_all is_fabric fabrics) all in
    elim (cases_Bool (f.index == index)) [
      | inl this ↦
          let here : Some f.credentials ≡ Some old = rw this at found in
          let same : f.credentials ≡ old = cc in
          subst (λ c. are_credentials c ≡ true) same (and_parts (are_credentials f.credentials) (is_label f.label) (and_parts (are_credentials f.credentials && is_label f.label) (nat_lt f.vendor (2 ^ 16)) both.0).0).0
      | inr other ↦
          let later : credentials_at index fabrics ≡ Some old = rw other at found in
          found_form index old fabrics later both.1
    ]

module _ (table_updated : (index : ℕ) (given : Credentials) (fabrics : List Fabric) → IsTable fabrics → update_refusal index given fabrics ≡ None → IsTable (updated index given fabrics)) where
  module _ (s : NodeState) (valid : IsValid s) (index : ℕ) (given : Credentials) (form : are_credentials given ≡ true)
      (some : list_any (is_renewed_by index given) s.fabrics ≡ true) (not_refused : update_refusal index given s.fabrics ≡ None)
    where
      hold : FabricsHold s.fabrics
      hold = its_fabrics s valid

      abbrev keeps : Fabric → Bool
      keeps f = bytes_eq f.credentials.root given.root && has_identity given.root_key given.fabric_id f

      abbrev good : Fabric → Bool
      good f = not (f.index == index) || keeps f

      abbrev h : Fabric → Fabric
      h = changed_at index (with_credentials given)

      abbrev behind : List Fabric
      behind = updated index given s.fabrics

      all_good : list_all good s.fabrics ≡ true
      all_good = only-one index keeps 0 s.fabrics hold.rise some

      its : (f : Fabric) → good f ≡ true → has_index index f ≡ true → keeps f ≡ true
      its f is this = elim (or_cases (not (f.index == index)) (keeps f) is) [
        | inl other ↦ impossible (sym (ap not this) ∙ other)
        | inr keep ↦ keep
      ]

      index_kept : (f : Fabric) → (h f).index ≡ f.index
      index_kept f = kept index (with_credentials given) (λ g. g.index) f (λ this. refl)

      root_kept : (f : Fabric) → good f ≡ true → (h f).credentials.root ≡ f.credentials.root
      root_kept f is = kept index (with_credentials given) (λ g. g.credentials.root) f (λ this.
          sym ((bytes_eq-Decides f.credentials.root given.root).0 (and_parts (bytes_eq f.credentials.root given.root) (has_identity given.root_key given.fabric_id f) (its f is this)).0))

      key_kept : (f : Fabric) → good f ≡ true → (h f).credentials.root_key ≡ f.credentials.root_key
      key_kept f is = kept index (with_credentials given) (λ g. g.credentials.root_key) f (λ this.
          let identity = (and_parts (bytes_eq f.credentials.root given.root) (has_identity given.root_key given.fabric_id f) (its f is this)).1 in
          sym ((bytes_eq-Decides f.credentials.root_key given.root_key).0 (and_parts (bytes_eq f.credentials.root_key given.root_key) (f.credentials.fabric_id == given.fabric_id) identity).0))

      id_kept : (f : Fabric) → good f ≡ true → (h f).credentials.fabric_id ≡ f.credentials.fabric_id
      id_kept f is = kept index (with_credentials given) (λ g. g.credentials.fabric_id) f (λ this.
          let identity = (and_parts (bytes_eq f.credentials.root given.root) (has_identity given.root_key given.fabric_id f) (its f is this)).1 in
          sym (eqb-true f.credentials.fabric_id given.fabric_id (and_parts (bytes_eq f.credentials.root_key given.root_key) (f.credentials.fabric_id == given.fabric_id) identity).1))

      fabrics_hold : FabricsHold behind
      fabrics_hold =
          fabrics_of behind (table_updated index given s.fabrics (table_of s.fabrics hold) not_refused)
          (subst (λ n. nat_le n 16 ≡ true) (sym (length-changed h s.fabrics)) hold.few)
          (changed_forms index (with_credentials given) (λ f its_form.
          let outer = and_parts (are_credentials f.credentials && is_label f.label) (nat_lt f.vendor (2 ^ 16)) its_form in
          and_from _ _ (and_from _ _ form (and_parts (are_credentials f.credentials) (is_label f.label) outer.0).1) outer.1) s.fabrics hold.forms)

      -- what the fail-safe notes
      record Noted (armed : Option Armed) : Type 0 where
        trusted : RootsHold behind armed s.roots
        open_ones : SessionsHold behind armed s.sessions
        plain_one : PlainHolds behind armed s.plain
        itself : ArmedHolds behind armed

      noted : Noted s.armed
      noted = record {
        trusted = roots_hold h good index_kept root_kept key_kept id_kept s.fabrics all_good s.armed s.roots (its_roots s valid);
        open_ones = sessions_hold h good index_kept root_kept key_kept id_kept s.fabrics all_good s.armed s.sessions (its_sessions s valid);
        plain_one = plain_holds h good index_kept root_kept key_kept id_kept s.fabrics all_good s.armed s.plain (its_plain s valid);
        itself = armed_holds h good index_kept root_kept key_kept id_kept s.fabrics all_good s.armed (its_armed s valid);
      }

      module _ (armed : Armed) (owns : (armed.owner == index) ≡ true) (old : Credentials) (found : credentials_at index s.fabrics ≡ Some old) where
        saves : saves_identity behind armed.owner (Some old) ≡ true
        saves =
            subst (λ n. list_any (is_its old.root_key old.fabric_id n) behind ≡ true) (sym (eqb-true armed.owner index owns))
            (same_its h good index_kept root_kept key_kept id_kept s.fabrics all_good old.root_key old.fabric_id index ∙ found_its index old s.fabrics found)

        facts : (added : Option ℕ) → is_none added ≡ true → is_added behind armed added ≡ true
            → (is_added behind (notes.with_updated old armed) added && is_updated behind (notes.with_updated old armed) added (Some armed.owner)) ≡ true
        facts None none is = and_from _ _ is (and_from _ _ (same_number armed.owner) (and_from _ _ is saves))
        facts (Some added) none is = impossible none

      saved : (armed : Option Armed) (old : Option Credentials) → credentials_at index s.fabrics ≡ old → notes.may_note_updated armed ≡ true → is_armed_by index armed ≡ true → Noted armed
          → Noted (option_map (with_saved_credentials old) armed)
      saved None old found may owner n = n
      saved (Some armed) None found may owner n = n
      saved (Some armed) (Some old) found may owner n =
          let unused = (and_parts (notes.is_unused armed) (notes.is_of_fabric armed && (is_none armed.root && notes.is_for_update armed.csr)) may).0 in
          let none = (and_parts (is_none armed.added) (is_none armed.updated) unused).0 in
          let is = (and_parts (is_added behind armed armed.added) (is_updated behind armed armed.added armed.updated) n.itself.facts).0 in
          record {
            trusted = record { differ = n.trusted.differ; forms = n.trusted.forms; used = n.trusted.used };
            open_ones = record { stand = n.open_ones.stand; follow = n.open_ones.follow };
            plain_one = record { stands = n.plain_one.stands; follows = n.plain_one.follows };
            itself = record {
              facts = facts armed owner old found armed.added none is;
              saved = and_from _ _ (and_parts (are_networks armed.saved_networks) (are_credentials_if armed.saved_credentials) n.itself.saved).0 (found_form index old s.fabrics found hold.forms);
              names = n.itself.names;
              given = n.itself.given;
            };
          }

      updated-valid : notes.may_note_updated s.armed ≡ true → is_armed_by index s.armed ≡ true
          → IsValid (record s { fabrics = behind; armed = option_map (with_saved_credentials (credentials_at index s.fabrics)) s.armed })
      updated-valid may owner =
          let n = saved s.armed (credentials_at index s.fabrics) refl may owner noted in
          changed-valid h good index_kept root_kept key_kept id_kept s.fabrics all_good s valid refl fabrics_hold
          (option_map (with_saved_credentials (credentials_at index s.fabrics)) s.armed) n.trusted n.open_ones n.plain_one n.itself

  pub update-valid : (s : NodeState) → IsValid s → (index : ℕ) (given : Credentials) → are_credentials given ≡ true → IsValid (updated_in index given s)
  update-valid s valid index given form =
      cond_both (may_update index given s) (record s { fabrics = updated index given s.fabrics; armed = option_map (with_saved_credentials (credentials_at index s.fabrics)) s.armed }) s IsValid
      (λ may.
      let first = and_parts (notes.may_note_updated s.armed) (is_armed_by index s.armed && (list_any (is_renewed_by index given) s.fabrics && is_none (update_refusal index given s.fabrics))) may in
      let second = and_parts (is_armed_by index s.armed) (list_any (is_renewed_by index given) s.fabrics && is_none (update_refusal index given s.fabrics)) first.1 in
      let third = and_parts (list_any (is_renewed_by index given) s.fabrics) (is_none (update_refusal index given s.fabrics)) second.1 in
      updated-valid s valid index given form third.0 (none-is _ third.1) first.0 second.0)
      (λ may_not. valid)
