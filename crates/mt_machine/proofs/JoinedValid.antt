-- A fabric that joins the table leaves a valid state valid.
use Rattle.std.proofs.Common.{◌≡◌, ℕ, suc, ◌==◌, ◌&&◌, ◌||◌, inl, inr, not, is_none, is_some, nat_le, nat_lt, cond, Bool, true, false, List, [], ◌∷◌, length, Option, Some, None, option_map, refl, sym, ap, ◌∙◌, subst, filter, map, arith}
use Rattle.std.proofs.lemmas.Bool.{and_from, and_parts, both_ways, cond_both, eqb-true, leb-false, le-leb, not_from_false, not-true, or_cases, or_from, or_left, or_right, true≢false, false_from_ne_true}
use Rattle.std.proofs.lemmas.List.Folds.{list_all-map}
use Rattle.std.proofs.lemmas.List.Sums.{length-filter}
use Rattle.std.specs.List.{list_all, list_any}
use Rattle.mt_fabrics.specs.Table.{IsLeastUnused, IsTable, add_refusal, added, has_index, has_label, least_unused, placed, with_index}
use Rattle.mt_fabrics.specs.declared.fault.FabricFault.{FabricFault}
use Rattle.mt_fabrics.specs.declared.fault.FabricFault.TheVariants.{Conflict, LabelConflict, TableFull}
use Rattle.mt_failsafe.specs.Notes as notes
use Rattle.mt_model.specs.Optional.{is_that}
use Rattle.mt_model.specs.texts.Config.{has_identity, is_fabric, is_of}
use Rattle.mt_model.specs.declared.node.state.NodeSession.{NodeSession}
use Rattle.mt_model.specs.declared.node.state.NodeState.{NodeState}
use Rattle.mt_model.specs.declared.node.state.Standing.{Standing}
use Rattle.mt_model.specs.declared.node.state.Standing.TheVariants.{Waits, Live, Ended}
use Rattle.mt_model.specs.declared.tables.access.AclEntry.{AclEntry}
use Rattle.mt_model.specs.declared.tables.access.Actor.{Actor}
use Rattle.mt_model.specs.declared.tables.access.Auth.{Auth}
use Rattle.mt_model.specs.declared.tables.access.Auth.TheVariants.{Pase, Case, Group}
use Rattle.mt_model.specs.declared.tables.fabric.Fabric.{Fabric}
use Rattle.mt_model.specs.declared.tables.network.Armed.{Armed}
use Rattle.mt_machine.specs.Effects.{is_on, is_pase, is_plain, joined, joined_as, may_join, plain_joined, session_joined, standing_joined}
use Rattle.mt_machine.specs.State.{IsValid, follows, has_entries_up_to, is_added, is_among, is_awaited_root, is_plain_of, is_row, is_session, is_updated, is_used, plain_follows, stands_rightly}
use Rattle.mt_model.specs.tables.Holding.{is_owned, is_root_of}
use Rattle.mt_machine.proofs.OtherFabrics.{either-among, entry-among, is_its, none-is, owned_among, plain-still, row-among, same_number}
use Rattle.mt_machine.proofs.Writes.{passes_among}
use Rattle.mt_machine.proofs.ValidParts.{ArmedHolds, EntriesHold, FabricsHold, PlainHolds, RootsHold, RowsHold, SessionsHold, fabrics_of, its_armed, its_fabrics, its_networks, its_plain, its_roots, its_sessions, table_of, with-parts}
use Rattle.mt_machine.proofs.Counting.{all-weaker, impossible}

-- A fabric among others.

or-swap : (a b c : Bool) → (a || (b || c)) ≡ (b || (a || c))
or-swap true true c = refl
or-swap true false c = refl
or-swap false b c = refl

module _ (x : Fabric) where
  pub placed-any : (q : Fabric → Bool) (fs : List Fabric) → list_any q (placed x fs) ≡ (q x || list_any q fs)
  placed-any q [] = refl
  placed-any q (f ∷ fs) =
      cond_both (nat_lt f.index x.index) (f ∷ placed x fs) (x ∷ f ∷ fs) (λ (l : List Fabric). list_any q l ≡ (q x || (q f || list_any q fs)))
      (λ before. ap (λ b. q f || b) (placed-any q fs) ∙ or-swap (q f) (q x) (list_any q fs)) (λ behind. refl)

  placed-all : (q : Fabric → Bool) (fs : List Fabric) → q x ≡ true → list_all q fs ≡ true → list_all q (placed x fs) ≡ true
  placed-all q [] its all = and_from _ _ its refl
  placed-all q (f ∷ fs) its all =
      let both = and_parts (q f) (list_all q fs) all in
      cond_both (nat_lt f.index x.index) (f ∷ placed x fs) (x ∷ f ∷ fs) (λ (l : List Fabric). list_all q l ≡ true)
      (λ before. and_from _ _ both.0 (placed-all q fs its both.1)) (λ behind. and_from _ _ its all)

  placed-length : (fs : List Fabric) → length (placed x fs) ≡ suc (length fs)
  placed-length [] = refl
  placed-length (f ∷ fs) =
      cond_both (nat_lt f.index x.index) (f ∷ placed x fs) (x ∷ f ∷ fs) (λ (l : List Fabric). length l ≡ suc (length (f ∷ fs)))
      (λ before. ap suc (placed-length fs)) (λ behind. refl)

-- what holds of each of which a test fails, passes the test nowhere
none-pass : {X : Type 0} (p good : X → Bool) → ((x : X) → good x ≡ true → p x ≡ false) → (xs : List X) → list_all good xs ≡ true → length (filter p xs) ≡ 0
none-pass p good fails [] all = refl
none-pass p good fails (x ∷ xs) all =
    let both = and_parts (good x) (list_all good xs) all in
    rw (fails x both.0) (none-pass p good fails xs both.1)

-- the last of three tests fails, where none of their faults comes
third_not : (a b c : Bool) (f g h : FabricFault) → cond a (Some f) (cond b (Some g) (cond c (Some h) None)) ≡ None → c ≡ false
third_not true b c f g h none = absurd (true≢false (ap is_some none))
third_not false true c f g h none = absurd (true≢false (ap is_some none))
third_not false false true f g h none = absurd (true≢false (ap is_some none))
third_not false false false f g h none = refl

module _
    (least : (fabrics : List Fabric) → IsTable fabrics → IsLeastUnused (least_unused fabrics) fabrics)
    (table_added : (fabric : Fabric) (fabrics : List Fabric) → IsTable fabrics → add_refusal fabric fabrics ≡ None → IsTable (added fabric fabrics))
  where
    module _ (asker : Option Actor) (fabric : Fabric) (form : is_fabric fabric ≡ true) (s : NodeState) (valid : IsValid s) (not_refused : add_refusal fabric s.fabrics ≡ None) where
      abbrev index : ℕ
      index = least_unused s.fabrics

      abbrev new : Fabric
      new = with_index index fabric

      abbrev more : List Fabric
      more = added fabric s.fabrics

      hold : FabricsHold s.fabrics
      hold = its_fabrics s valid

      nobodys : is_among s.fabrics index ≡ false
      nobodys = (least s.fabrics (table_of s.fabrics hold)).unused

      room : nat_le 16 (length s.fabrics) ≡ false
      room =
          third_not
          (list_any (has_identity fabric.credentials.root_key fabric.credentials.fabric_id) s.fabrics) (list_any (has_label fabric.label) s.fabrics) (nat_le 16 (length s.fabrics))
          Conflict LabelConflict TableFull not_refused

      fabrics_hold : FabricsHold more
      fabrics_hold =
          fabrics_of more (table_added fabric s.fabrics (table_of s.fabrics hold) not_refused)
          (le-leb _ _ (omega (arith, leb-false 16 (length s.fabrics) room, placed-length new s.fabrics)))
          (placed-all new is_fabric s.fabrics form hold.forms)

      still : (q : Fabric → Bool) → list_any q s.fabrics ≡ true → list_any q more ≡ true
      still q some = placed-any new q s.fabrics ∙ or_right (q new) _ some

      joins : (q : Fabric → Bool) → q new ≡ true → list_any q more ≡ true
      joins q its = placed-any new q s.fabrics ∙ or_left (q new) _ its

      among_still : (n : ℕ) → is_among s.fabrics n ≡ true → is_among more n ≡ true
      among_still n = still (has_index n)

      among_new : is_among more index ≡ true
      among_new = joins (has_index index) (same_number index)

      -- Entries and rows.

      of_another : (entry : AclEntry) → is_owned s.fabrics entry ≡ true → is_of new entry ≡ false
      of_another entry owned = false_from_ne_true (is_of new entry) (λ its.
          both_ways (is_among s.fabrics index) nobodys (subst (λ n. is_among s.fabrics n ≡ true) (eqb-true entry.fabric index its) (sym (owned_among s.fabrics entry) ∙ owned)))

      entries_hold : EntriesHold more s.entries
      entries_hold = record {
        rise = valid.entries_rise;
        forms = valid.entry_forms;
        owned = all-weaker (is_owned s.fabrics) (is_owned more) (λ entry. entry-among s.fabrics more entry (among_still entry.fabric)) s.entries valid.entries_owned;
        few = placed-all new (has_entries_up_to 4 s.entries) s.fabrics
            (le-leb _ _ (omega (arith, length-filter (is_of new) s.entries, none-pass (is_of new) (is_owned s.fabrics) of_another s.entries valid.entries_owned))) valid.entry_counts;
      }

      rows_hold : RowsHold more s.rows
      rows_hold = record {
        rise = valid.rows_rise;
        forms = all-weaker (is_row s.fabrics) (is_row more) (λ row. row-among s.fabrics more row (among_still row.fabric)) s.rows valid.row_forms;
        stand = valid.rows_stand;
        few = valid.row_counts;
      }

      -- Sessions.

      abbrev joined_session : NodeSession → NodeSession
      joined_session session = session_joined asker index fabric session

      abbrev fits : NodeSession → Bool
      fits session = has_identity session.root_key session.fabric_id fabric

      waited_stands : (session : NodeSession) (auth : Auth) → ((n : ℕ) → list_any (is_its session.root_key session.fabric_id n) more ≡ true → stands_rightly more (joined_session session) auth (Live n) ≡ true)
          → (list_any (has_identity session.root_key session.fabric_id) more ≡ false → stands_rightly more (joined_session session) auth Waits ≡ true)
          → list_any (has_identity session.root_key session.fabric_id) s.fabrics ≡ false
          → stands_rightly more (joined_session session) auth (standing_joined (is_on asker session) index (fits session) auth Waits) ≡ true
      waited_stands session auth live waits none =
          cond_both (fits session) (Live index) Waits (λ (standing : Standing). stands_rightly more (joined_session session) auth standing ≡ true)
          (λ fit. live index (joins (is_its session.root_key session.fabric_id index) (and_from _ _ (same_number index) fit)))
          (λ other. waits (placed-any new (has_identity session.root_key session.fabric_id) s.fabrics ∙ or_from _ _ other none))

      stands : (session : NodeSession) (auth : Auth) (standing : Standing) → stands_rightly s.fabrics session auth standing ≡ true
          → stands_rightly more (joined_session session) auth (standing_joined (is_on asker session) index (fits session) auth standing) ≡ true
      stands session Pase Waits stood = impossible stood
      stands session Pase (Live n) stood =
          cond_both (is_on asker session) (Live index) (Live n) (λ (standing : Standing). stands_rightly more (joined_session session) Pase standing ≡ true)
          (λ asks. or_right (index == 0) _ among_new) (λ silent. either-among s.fabrics more n (among_still n) stood)
      stands session Pase Ended stood = refl
      stands session Case Waits stood = waited_stands session Case (λ n its. its) (λ none. not_from_false _ none) (not-true _ stood)
      stands session Case (Live n) stood = still (is_its session.root_key session.fabric_id n) stood
      stands session Case Ended stood = refl
      stands session Group Waits stood = waited_stands session Group (λ n its. its) (λ none. not_from_false _ none) (not-true _ stood)
      stands session Group (Live n) stood = still (is_its session.root_key session.fabric_id n) stood
      stands session Group Ended stood = refl

      plain_stands : (plain : Option ℕ) → is_plain_of s.fabrics plain ≡ true → is_plain_of more (plain_joined asker index plain) ≡ true
      plain_stands plain stood =
          cond_both (is_plain asker) (option_map (λ (n : ℕ). index) plain) plain (λ (p : Option ℕ). is_plain_of more p ≡ true)
          (λ asks. renamed plain) (λ silent. plain-still s.fabrics more plain (λ n has. among_still n) stood)
        where
          renamed : (p : Option ℕ) → is_plain_of more (option_map (λ (n : ℕ). index) p) ≡ true
          renamed None = refl
          renamed (Some n) = or_right (index == 0) _ among_new

      -- Under the fail-safe, which notes that it was added.

      record Noted (armed : Option Armed) : Type 0 where
        trusted : RootsHold more armed s.roots
        open_ones : SessionsHold more armed (map joined_session s.sessions)
        plain_one : PlainHolds more armed (plain_joined asker index s.plain)
        itself : ArmedHolds more armed

      module _ (armed : Armed) (none_added : is_none armed.added ≡ true) (none_updated : is_none armed.updated ≡ true) where
        abbrev noting : Armed
        noting = notes.with_added index (is_pase asker) armed

        nobody : (n : ℕ) (was : Option ℕ) → is_none was ≡ true → (n == 0 || is_that n was) ≡ true → (n == 0) ≡ true
        nobody n None none follow = elim (or_cases (n == 0) false follow) [ inl zero ↦ zero | inr not ↦ impossible not ]
        nobody n (Some was) none follow = impossible none

        its_own : (index == 0 || is_that index (Some index)) ≡ true
        its_own = or_right (index == 0) _ (same_number index)

        session_follows : (session : NodeSession) (auth : Auth) (standing : Standing) → follows (Some armed) auth standing ≡ true
            → follows (Some noting) auth (standing_joined (is_on asker session) index (fits session) auth standing) ≡ true
        session_follows session Pase Waits follow =
            cond_both (fits session) (Live index) Waits (λ (standing : Standing). follows (Some noting) Pase standing ≡ true) (λ fit. its_own) (λ other. refl)
        session_follows session Pase (Live n) follow =
            cond_both (is_on asker session) (Live index) (Live n) (λ (standing : Standing). follows (Some noting) Pase standing ≡ true)
            (λ asks. its_own) (λ silent. or_left _ _ (nobody n armed.added none_added follow))
        session_follows session Pase Ended follow = refl
        session_follows session Case standing follow = refl
        session_follows session Group standing follow = refl

        plain_noted : (plain : Option ℕ) → plain_follows (Some armed) plain ≡ true → plain_follows (Some noting) (plain_joined asker index plain) ≡ true
        plain_noted plain follow =
            cond_both (is_plain asker) (option_map (λ (n : ℕ). index) plain) plain (λ (p : Option ℕ). plain_follows (Some noting) p ≡ true)
            (λ asks. renamed plain) (λ silent. same plain follow)
          where
            renamed : (p : Option ℕ) → plain_follows (Some noting) (option_map (λ (n : ℕ). index) p) ≡ true
            renamed None = refl
            renamed (Some n) = its_own

            same : (p : Option ℕ) → plain_follows (Some armed) p ≡ true → plain_follows (Some noting) p ≡ true
            same None follows_it = refl
            same (Some n) follows_it = or_left _ _ (nobody n armed.added none_added follows_it)

        not_updated : (was updated : Option ℕ) → is_none updated ≡ true → is_updated s.fabrics armed was updated ≡ true → is_updated more noting (Some index) updated ≡ true
        not_updated was None none is = is
        not_updated was (Some n) none is = impossible none

        root_used : (root : List ℕ) → is_used s.fabrics (Some armed) root ≡ true → is_used more (Some noting) root ≡ true
        root_used root used = elim (or_cases (list_any (is_root_of root) s.fabrics) (is_awaited_root root (Some armed)) used) [
          | inl by ↦ or_left _ _ (still (is_root_of root) by)
          | inr awaited ↦ or_right (list_any (is_root_of root) more) _ awaited
        ]

        owner_fits : (pase : Bool) → nat_le armed.owner 16 ≡ true → nat_le (notes.owner_behind index pase armed.owner) 16 ≡ true
        owner_fits true fits_still = passes_among (λ n. nat_le n 16) index more fabrics_hold.indexes among_new
        owner_fits false fits_still = fits_still

        noted_now : RootsHold s.fabrics (Some armed) s.roots → SessionsHold s.fabrics (Some armed) s.sessions → PlainHolds s.fabrics (Some armed) s.plain → ArmedHolds s.fabrics (Some armed) → Noted (Some noting)
        noted_now t c p a = record {
          trusted = record { differ = t.differ; forms = t.forms; used = all-weaker (is_used s.fabrics (Some armed)) (is_used more (Some noting)) root_used s.roots t.used };
          open_ones = record {
            stand = list_all-map (is_session more) joined_session s.sessions
                ∙ all-weaker (is_session s.fabrics) (λ session. is_session more (joined_session session)) (λ session stood. stands session session.auth session.standing stood) s.sessions c.stand;
            follow = list_all-map (λ (session : NodeSession). follows (Some noting) session.auth session.standing) joined_session s.sessions
                ∙ all-weaker (λ (session : NodeSession). follows (Some armed) session.auth session.standing)
                (λ (session : NodeSession). follows (Some noting) session.auth (standing_joined (is_on asker session) index (fits session) session.auth session.standing))
                (λ session follow. session_follows session session.auth session.standing follow) s.sessions c.follow;
          };
          plain_one = record { stands = plain_stands s.plain p.stands; follows = plain_noted s.plain p.follows };
          itself = record {
            facts = and_from _ _ (and_from _ _ (same_number index) among_new) (not_updated armed.added armed.updated none_updated (and_parts (is_added s.fabrics armed armed.added) (is_updated s.fabrics armed armed.added armed.updated) a.facts).1);
            names = and_from _ _ (owner_fits (is_pase asker) (and_parts (nat_le armed.owner 16) (armed.context == 0 || is_among s.fabrics armed.context) a.names).0) (or_right (index == 0) _ among_new);
            saved = a.saved;
            given = a.given;
          };
        }

      noted : (armed : Option Armed) → notes.may_note_added armed ≡ true → RootsHold s.fabrics armed s.roots → SessionsHold s.fabrics armed s.sessions → PlainHolds s.fabrics armed s.plain → ArmedHolds s.fabrics armed
          → Noted (option_map (notes.with_added index (is_pase asker)) armed)
      noted None may t c p a = impossible may
      noted (Some armed) may t c p a =
          let unused = (and_parts (notes.is_unused armed) (is_some armed.root && notes.is_for_new armed.csr) may).0 in
          let both = and_parts (is_none armed.added) (is_none armed.updated) unused in
          noted_now armed both.0 both.1 t c p a

      joined-valid : notes.may_note_added s.armed ≡ true → IsValid (joined_as asker index fabric s)
      joined-valid may =
          let n = noted s.armed may (its_roots s valid) (its_sessions s valid) (its_plain s valid) (its_armed s valid) in
          with-parts s valid more s.entries s.rows s.roots s.networks (option_map (notes.with_added index (is_pase asker)) s.armed) (map joined_session s.sessions) (plain_joined asker index s.plain)
          fabrics_hold entries_hold rows_hold n.trusted (its_networks s valid) n.open_ones n.plain_one n.itself

    pub join-valid : (asker : Option Actor) (fabric : Fabric) → is_fabric fabric ≡ true → (s : NodeState) → IsValid s → IsValid (joined asker fabric s)
    join-valid asker fabric form s valid =
        cond_both (may_join fabric s) (joined_as asker (least_unused s.fabrics) fabric s) s IsValid
        (λ may.
        let both = and_parts (notes.may_note_added s.armed) (is_none (add_refusal fabric s.fabrics)) may in
        joined-valid asker fabric form s valid (none-is _ both.1) both.0)
        (λ may_not. valid)
