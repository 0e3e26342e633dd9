-- A fabric that leaves the table, with all that is its own, leaves a valid state valid.
use Rattle.std.proofs.Common.{◌≡◌, ℕ, ◌==◌, inl, inr, not, bytes_eq, Bool, true, false, List, [], ◌∷◌, Option, Some, None, refl, sym, ◌∙◌, subst, filter, map, arith}
use Rattle.std.proofs.lemmas.Bool.{and_parts, cases_Bool, cond_both, eqb-true, eq-eqb, leb-true, le-leb, not-true, or_left, or_right}
use Rattle.std.proofs.lemmas.List.Folds.{list_all-map}
use Rattle.std.proofs.lemmas.List.Sums.{length-filter}
use Rattle.std.specs.List.{count_by, list_any}
use Rattle.mt_failsafe.specs.Calls.{is_context}
use Rattle.mt_fabrics.specs.Table.{IsTable, has_index, has_other_index, is_used, removed}
use Rattle.mt_meta.specs.Finding.{find_data_of}
use Rattle.mt_meta.specs.Places.{all_places}
use Rattle.mt_meta.specs.Stored.{is_stored}
use Rattle.mt_model.specs.rows.Order.{are_ascending}
use Rattle.mt_model.specs.rows.Sight.{stands_at}
use Rattle.mt_model.specs.tables.Leaving.{stays}
use Rattle.mt_model.specs.texts.Config.{ascend_from, has_identity, is_entry, is_fabric, is_of, is_certificate}
use Rattle.mt_model.specs.declared.node.state.NodeSession.{NodeSession}
use Rattle.mt_model.specs.declared.node.state.NodeState.{NodeState}
use Rattle.mt_model.specs.declared.node.state.Standing.{Standing}
use Rattle.mt_model.specs.declared.node.state.Standing.TheVariants.{Waits, Live, Ended}
use Rattle.mt_model.specs.declared.rows.place.Place.{Place}
use Rattle.mt_model.specs.declared.rows.place.Row.{Row}
use Rattle.mt_model.specs.declared.tables.access.AclEntry.{AclEntry}
use Rattle.mt_model.specs.declared.tables.access.Auth.{Auth}
use Rattle.mt_model.specs.declared.tables.access.Auth.TheVariants.{Pase, Case, Group}
use Rattle.mt_model.specs.declared.tables.fabric.Fabric.{Fabric}
use Rattle.mt_model.specs.declared.tables.network.Armed.{Armed}
use Rattle.mt_machine.specs.Effects.{may_leave, plain_without, session_without, without_fabric}
use Rattle.mt_subs.specs.Leaving.{is_live_as}
use Rattle.mt_machine.specs.State.{IsValid, follows, has_entries_up_to, has_one_row, is_among, is_plain_of, is_row, is_row_at, is_session, is_unscoped, plain_follows, stands_once, stands_rightly}
use Rattle.mt_model.specs.tables.Holding.{is_owned}
use Rattle.mt_machine.specs.State as states
use Rattle.mt_machine.proofs.NetworksValid.{all-passing, length-kept}
use Rattle.mt_machine.proofs.OtherFabrics.{entry-among, eq-turned, facts-still, is_its, plain-still, row-among, stands-still, names-still}
use Rattle.mt_machine.proofs.Rolled.{all-staying, any-filter, count-filter, none-filter, pass-stay}
use Rattle.mt_machine.proofs.ValidParts.{ArmedHolds, EntriesHold, FabricsHold, PlainHolds, RootsHold, RowsHold, SessionsHold, fabrics_of, its_fabrics, its_networks, table_of, with-parts}
use Rattle.mt_machine.proofs.Counting.{all-filter, all-kept, all-weaker, impossible, place-same, few-filter}
use Rattle.mt_machine.proofs.Writes.{members_are_positive, nobodys}

-- Another index.

stays-other : (index n : ℕ) → stays (Some index) n ≡ true → (n == index) ≡ false
stays-other index n stay = eq-turned n index ∙ not-true _ stay

live-other : (index n : ℕ) (standing : Standing) → is_live_as index standing ≡ false → is_live_as n standing ≡ true → (n == index) ≡ false
live-other index n Waits not_this live = impossible live
live-other index n (Live m) not_this live = subst (λ k. (k == index) ≡ false) (eqb-true m n live) not_this
live-other index n Ended not_this live = impossible live

context-other : (index n : ℕ) (armed : Option Armed) → is_context index armed ≡ false → is_context n armed ≡ true → (n == index) ≡ false
context-other index n None not_this is = impossible is
context-other index n (Some armed) not_this is = subst (λ k. (k == index) ≡ false) (eqb-true armed.context n is) not_this

module _ (index : ℕ) where
  any-left : (q : Fabric → Bool) → ((f : Fabric) → q f ≡ true → (f.index == index) ≡ false) → (fs : List Fabric) → list_any q fs ≡ true → list_any q (removed index fs) ≡ true
  any-left q other [] some = impossible some
  any-left q other (f ∷ fs) some = elim (cases_Bool (q f)) [
    | inl here ↦ rw (other f here) (or_left _ _ here)
    | inr not_here ↦
        let later : list_any q fs ≡ true = rw not_here at some in
        elim (cases_Bool (f.index == index)) [
          | inl gone ↦ rw gone (any-left q other fs later)
          | inr stay ↦ rw stay (or_right _ _ (any-left q other fs later))
        ]
  ]

  pub among-left : (fs : List Fabric) (n : ℕ) → (n == index) ≡ false → is_among fs n ≡ true → is_among (removed index fs) n ≡ true
  among-left fs n other = any-left (has_index n) (λ f at. subst (λ k. (k == index) ≡ false) (sym (eqb-true f.index n at)) other) fs

  its-left : (fs : List Fabric) (key : List ℕ) (id n : ℕ) → (n == index) ≡ false → list_any (is_its key id n) fs ≡ true → list_any (is_its key id n) (removed index fs) ≡ true
  its-left fs key id n other =
      any-left (is_its key id n) (λ f its. subst (λ k. (k == index) ≡ false) (sym (eqb-true f.index n (and_parts (f.index == n) (has_identity key id f) its).0)) other) fs

ended_stands : (fs : List Fabric) (session : NodeSession) (auth : Auth) → stands_rightly fs session auth Ended ≡ true
ended_stands fs session Pase = refl
ended_stands fs session Case = refl
ended_stands fs session Group = refl

ended_follows : (armed : Option Armed) (auth : Auth) → follows armed auth Ended ≡ true
ended_follows armed Pase = refl
ended_follows armed Case = refl
ended_follows armed Group = refl

module _
    (rows_stay : (keep : Row → Bool) (rows : List Row) → are_ascending rows ≡ true → are_ascending (filter keep rows) ≡ true)
    (entries_stay : (keep : AclEntry → Bool) (least : ℕ) (entries : List AclEntry) → ascend_from least entries ≡ true → ascend_from least (filter keep entries) ≡ true)
    (table_removed : (index : ℕ) (fabrics : List Fabric) → IsTable fabrics → IsTable (removed index fabrics))
  where
    module _ (s : NodeState) (valid : IsValid s) (index : ℕ) (used : is_used index s.fabrics ≡ true) (not_context : is_context index s.armed ≡ false) where
      abbrev left : List Fabric
      left = removed index s.fabrics

      hold : FabricsHold s.fabrics
      hold = its_fabrics s valid

      fabrics_left : FabricsHold left
      fabrics_left =
          fabrics_of left (table_removed index s.fabrics (table_of s.fabrics hold))
          (le-leb _ _ (omega (arith, leb-true _ _ hold.few, length-kept (has_other_index index) s.fabrics)))
          (all-filter is_fabric (has_other_index index) s.fabrics hold.forms)

      -- Rows.

      abbrev keeps : Row → Bool
      keeps row = stays (Some index) row.fabric

      abbrev rows_left : List Row
      rows_left = filter keeps s.rows

      stays-nobody : stays (Some index) 0 ≡ true
      stays-nobody =
          let some = members_are_positive s.fabrics index hold.rise used in
          grind (arith, some)

      -- rows of places that are not scoped are nobody's
      stays_at : (place : Place) → is_unscoped (find_data_of place) ≡ true → (row : Row) → is_row s.fabrics row ≡ true → stands_at place row ≡ true → keeps row ≡ true
      stays_at place unscoped row of at =
          let same = place-same row.place place at in
          let here = (and_parts (is_stored row.place) (is_row_at s.fabrics row (find_data_of row.place)) of).1 in
          let nobody : row.fabric ≡ 0 = nobodys s.fabrics row (find_data_of row.place) here (subst (λ (p : Place). is_unscoped (find_data_of p) ≡ true) (sym same) unscoped) in
          subst (λ n. stays (Some index) n ≡ true) (sym nobody) stays-nobody

      stands_left : (place : Place) → has_one_row place ≡ true → stands_once s.rows place ≡ true → stands_once rows_left place ≡ true
      stands_left place single once =
          let unscoped = (and_parts (is_stored place) (is_unscoped (find_data_of place)) single).1 in
          let before : count_by (stands_at place) s.rows ≡ 1 = eqb-true _ _ once in
          let same = pass-stay (stands_at place) (is_row s.fabrics) keeps (stays_at place unscoped) s.rows valid.row_forms in
          eq-eqb _ _ (sym (length-filter (stands_at place) rows_left) ∙ same ∙ length-filter (stands_at place) s.rows ∙ before)

      rows_hold : RowsHold left rows_left
      rows_hold = record {
        rise = rows_stay keeps s.rows valid.rows_rise;
        forms = all-staying (is_row s.fabrics) (is_row left) keeps (λ row stay. row-among s.fabrics left row (among-left index s.fabrics row.fabric (stays-other index row.fabric stay))) s.rows valid.row_forms;
        stand = all-kept (stands_once s.rows) (stands_once rows_left) has_one_row stands_left all_places valid.rows_stand;
        few = few-filter keeps s.rows valid.row_counts;
      }

      -- Entries.

      abbrev keeps_entry : AclEntry → Bool
      keeps_entry entry = stays (Some index) entry.fabric

      abbrev entries_left : List AclEntry
      entries_left = filter keeps_entry s.entries

      few_left : (f : Fabric) → has_entries_up_to 4 s.entries f ≡ true → has_entries_up_to 4 entries_left f ≡ true
      few_left f few = le-leb _ _ (omega (arith, leb-true _ _ few, count-filter (is_of f) keeps_entry s.entries))

      entries_hold : EntriesHold left entries_left
      entries_hold = record {
        rise = entries_stay keeps_entry 1 s.entries valid.entries_rise;
        forms = all-filter is_entry keeps_entry s.entries valid.entry_forms;
        owned = all-staying (is_owned s.fabrics) (is_owned left) keeps_entry (λ entry stay. entry-among s.fabrics left entry (among-left index s.fabrics entry.fabric (stays-other index entry.fabric stay))) s.entries valid.entries_owned;
        few = all-filter (has_entries_up_to 4 entries_left) (has_other_index index) s.fabrics (all-weaker (has_entries_up_to 4 s.entries) (has_entries_up_to 4 entries_left) few_left s.fabrics valid.entry_counts);
      }

      -- Roots.

      roots_hold : RootsHold left s.armed (filter (states.is_used left s.armed) s.roots)
      roots_hold = record {
        differ = none-filter bytes_eq (states.is_used left s.armed) s.roots valid.roots_differ;
        forms = all-filter is_certificate (states.is_used left s.armed) s.roots valid.root_forms;
        used = all-passing (states.is_used left s.armed) s.roots;
      }

      -- Sessions.

      session_stands : (session : NodeSession) → is_session s.fabrics session ≡ true → is_session left (session_without index session) ≡ true
      session_stands session stands =
          cond_both (is_live_as index session.standing) (record session { standing = Ended }) session (λ (c : NodeSession). is_session left c ≡ true)
          (λ over. ended_stands left (record session { standing = Ended }) session.auth)
          (λ lives. stands-still s.fabrics left session session.auth session.standing
          (λ n live. among-left index s.fabrics n (live-other index n session.standing lives live))
          (λ n live. its-left index s.fabrics session.root_key session.fabric_id n (live-other index n session.standing lives live))
          (any-filter (has_identity session.root_key session.fabric_id) (has_other_index index) s.fabrics) stands)

      session_follows : (session : NodeSession) → follows s.armed session.auth session.standing ≡ true → follows s.armed (session_without index session).auth (session_without index session).standing ≡ true
      session_follows session follow =
          cond_both (is_live_as index session.standing) (record session { standing = Ended }) session (λ (c : NodeSession). follows s.armed c.auth c.standing ≡ true)
          (λ over. ended_follows s.armed session.auth) (λ lives. follow)

      sessions_hold : SessionsHold left s.armed (map (session_without index) s.sessions)
      sessions_hold = record {
        stand = list_all-map (is_session left) (session_without index) s.sessions ∙ all-weaker (is_session s.fabrics) (λ session. is_session left (session_without index session)) session_stands s.sessions valid.sessions_stand;
        follow = list_all-map (λ (session : NodeSession). follows s.armed session.auth session.standing) (session_without index) s.sessions
            ∙ all-weaker (λ (session : NodeSession). follows s.armed session.auth session.standing)
            (λ (session : NodeSession). follows s.armed (session_without index session).auth (session_without index session).standing) session_follows s.sessions valid.sessions_follow;
      }

      plain_stands : (plain : Option ℕ) → is_plain_of s.fabrics plain ≡ true → is_plain_of left (plain_without index plain) ≡ true
      plain_stands None stands = refl
      plain_stands (Some fabric) stands =
          cond_both (fabric == index) None (Some fabric) (λ (plain : Option ℕ). is_plain_of left plain ≡ true) (λ this. refl)
          (λ other. plain-still s.fabrics left (Some fabric) (λ n has. among-left index s.fabrics n (subst (λ k. (k == index) ≡ false) (eqb-true fabric n has) other)) stands)

      plain_follow : (plain : Option ℕ) → plain_follows s.armed plain ≡ true → plain_follows s.armed (plain_without index plain) ≡ true
      plain_follow None follow = refl
      plain_follow (Some fabric) follow = cond_both (fabric == index) None (Some fabric) (λ (plain : Option ℕ). plain_follows s.armed plain ≡ true) (λ this. refl) (λ other. follow)

      plain_holds : PlainHolds left s.armed (plain_without index s.plain)
      plain_holds = record { stands = plain_stands s.plain valid.plain_stands; follows = plain_follow s.plain valid.plain_follow }

      armed_holds : ArmedHolds left s.armed
      armed_holds = record {
        facts = facts-still s.fabrics left s.armed
            (λ n is. among-left index s.fabrics n (context-other index n s.armed not_context is))
            (λ n key id is. its-left index s.fabrics key id n (context-other index n s.armed not_context is)) valid.failsafe_facts;
        names = names-still s.fabrics left s.armed (λ n is. among-left index s.fabrics n (context-other index n s.armed not_context is)) valid.failsafe_names;
        saved = valid.saved_stand;
        given = valid.given_stand;
      }

      left-valid : IsValid (record s {
        rows = rows_left;
        entries = entries_left;
        fabrics = left;
        roots = filter (states.is_used left s.armed) s.roots;
        sessions = map (session_without index) s.sessions;
        plain = plain_without index s.plain;
      })
      left-valid =
          with-parts s valid left entries_left rows_left (filter (states.is_used left s.armed) s.roots) s.networks s.armed (map (session_without index) s.sessions) (plain_without index s.plain)
          fabrics_left entries_hold rows_hold roots_hold (its_networks s valid) sessions_hold plain_holds armed_holds

    pub leave-valid : (s : NodeState) → IsValid s → (index : ℕ) → IsValid (without_fabric index s)
    leave-valid s valid index =
        cond_both (may_leave index s) (record s {
          rows = filter (λ (row : Row). stays (Some index) row.fabric) s.rows;
          entries = filter (λ (entry : AclEntry). stays (Some index) entry.fabric) s.entries;
          fabrics = removed index s.fabrics;
          roots = filter (states.is_used (removed index s.fabrics) s.armed) s.roots;
          sessions = map (session_without index) s.sessions;
          plain = plain_without index s.plain;
        }) s IsValid
        (λ may.
        let both = and_parts (is_used index s.fabrics) (not (is_context index s.armed)) may in
        left-valid s valid index both.0 (not-true _ both.1))
        (λ may_not. valid)
