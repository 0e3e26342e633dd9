-- What is left of a fabric's own part, but for its rows, where its node is reopened.
use Rattle.std.proofs.Common.{◌≡◌, ◌≢◌, ◌∙◌, refl, sym, ap, ℕ, ◌+◌, inl, inr, ◌==◌, not, bytes_eq, Bool, true, false, List, [], ◌∷◌, Option, Some, None, filter, map, arith, if◌then◌else◌}
use Rattle.std.proofs.lemmas.Bool.{and_from, and_parts, cases_Bool, eq-eqb, eqb-false, eqb-true, false_from_ne_true, ne_eqb, not-true, or_parts}
use Rattle.std.proofs.lemmas.Slice.Eq.{bytes_eq-Decides}
use Rattle.std.specs.Prelude.{option_map}
use Rattle.std.specs.List.{find, list_any}
use Rattle.mt_failsafe.specs.Notes.{was_added}
use Rattle.mt_fabrics.specs.Table.{has_index}
use Rattle.mt_subs.specs.Leaving.{is_live_as}
use Rattle.mt_model.specs.Optional.{is_that}
use Rattle.mt_model.specs.rows.Seen.{own_entries}
use Rattle.mt_model.specs.tables.Leaving.{stays}
use Rattle.mt_model.specs.texts.Config.{has_identity, have_one_identity, none_alike}
use Rattle.mt_model.specs.declared.node.state.NodeSession.{NodeSession}
use Rattle.mt_model.specs.declared.node.state.NodeState.{NodeState}
use Rattle.mt_model.specs.declared.node.state.Standing.{Standing}
use Rattle.mt_model.specs.declared.node.state.Standing.TheVariants.{Waits, Live, Ended}
use Rattle.mt_model.specs.declared.tables.access.AclEntry.{AclEntry}
use Rattle.mt_model.specs.declared.tables.access.Auth.{Auth}
use Rattle.mt_model.specs.declared.tables.access.Auth.TheVariants.{Pase, Case, Group}
use Rattle.mt_model.specs.declared.tables.fabric.Credentials.{Credentials}
use Rattle.mt_model.specs.declared.tables.fabric.Fabric.{Fabric}
use Rattle.mt_model.specs.declared.tables.network.Armed.{Armed}
use Rattle.mt_model.specs.declared.texts.config.SessionRow.{SessionRow}
use Rattle.mt_grammar.specs.declared.kept.MapContents.{MapContents}
use Rattle.mt_machine.specs.Isolation.{own, owns, saved_for}
use Rattle.mt_machine.specs.Laws.{RollsBackValid}
use Rattle.mt_machine.specs.Opened.{live_or_waits, session_of, sessions_of, standing_of}
use Rattle.mt_machine.specs.Rollback.{fabrics_behind, given_back, rollback, rolled_back}
use Rattle.mt_machine.specs.State.{IsValid}
use Rattle.mt_lasting.specs.Contents.{durable, kept_failsafe, kept_of}
use Rattle.mt_regained.specs.Laws.{DurableIsKept, StatesAreValid}
use Rattle.mt_regained.specs.Regained.{state_of, with_given_root}
use Rattle.mt_regained.specs.Reopening.{own_sessions, reopened_node, reopened_own, with_given_back}
use Rattle.mt_regained.specs.Rolled.{rolled}
use Rattle.mt_regained.proofs.BehindRollbacks.{given_index, stays_other}
use Rattle.mt_regained.proofs.Lists.{filter-stronger}
use Rattle.mt_regained.proofs.Regaining.{none_armed, none_regained, rolled_valid}

-- Entries and fabrics behind the expiry of a fail-safe, if it is armed.

abbrev pub entries_left : Option Armed → List AclEntry → List AclEntry
entries_left None entries = entries
entries_left (Some armed) entries = filter (λ (entry : AclEntry). stays armed.added entry.fabric) entries

abbrev pub fabrics_left : Option Armed → List Fabric → List Fabric
fabrics_left None fabrics = fabrics
fabrics_left (Some armed) fabrics = fabrics_behind armed fabrics

-- the fail-safe as it is regained
abbrev pub armed_again : MapContents → Option Armed → Option Armed
armed_again kept armed = option_map (with_given_root kept) (option_map kept_failsafe armed)

entries_rolled : (kept : MapContents) (armed : Option Armed) → (rolled_back (armed_again kept armed) (state_of kept)).entries ≡ entries_left armed kept.entries
entries_rolled kept None = refl
entries_rolled kept (Some armed) = refl

fabrics_rolled : (kept : MapContents) (armed : Option Armed) → (rolled_back (armed_again kept armed) (state_of kept)).fabrics ≡ fabrics_left armed kept.fabrics
fabrics_rolled kept None = refl
fabrics_rolled kept (Some armed) = refl

pub entries_reopened : (sessions : List SessionRow) (ceiling : ℕ) (s : NodeState) → (reopened_node sessions ceiling s).entries ≡ entries_left s.armed s.entries
entries_reopened sessions ceiling s = entries_rolled (kept_of s ceiling) s.armed

pub fabrics_reopened : (sessions : List SessionRow) (ceiling : ℕ) (s : NodeState) → (reopened_node sessions ceiling s).fabrics ≡ fabrics_left s.armed s.fabrics
fabrics_reopened sessions ceiling s = fabrics_rolled (kept_of s ceiling) s.armed

-- The entries of a fabric that was not added stay.

entries_stay : (fabric : ℕ) (armed : Option Armed) (entries : List AclEntry) → was_added fabric armed ≡ false → own_entries fabric (entries_left armed entries) ≡ own_entries fabric entries
entries_stay fabric None entries old = refl
entries_stay fabric (Some armed) entries old =
    filter-stronger (λ (entry : AclEntry). stays armed.added entry.fabric) (λ (entry : AclEntry). entry.fabric == fabric) (λ entry its. stays_other armed.added fabric entry.fabric old its) entries

pub own_entries_left : (sessions : List SessionRow) (ceiling fabric : ℕ) (s : NodeState) → was_added fabric s.armed ≡ false → own_entries fabric (reopened_node sessions ceiling s).entries ≡ own_entries fabric s.entries
own_entries_left sessions ceiling fabric s old = ap (own_entries fabric) (entries_reopened sessions ceiling s) ∙ entries_stay fabric s.armed s.entries old

-- So does the fabric, with the credentials that are given back to it, if there are some.

none_given : (fabrics : List Fabric) → map (with_given_back None) fabrics ≡ fabrics
none_given [] = refl
none_given (f ∷ fabrics) = ap (λ (l : List Fabric). f ∷ l) (none_given fabrics)

given_own : (fabric : ℕ) (updated : Option ℕ) (saved : Option Credentials) (f : Fabric) → (f.index == fabric) ≡ true → given_back updated saved f ≡ with_given_back (if is_that fabric updated then saved else None) f
given_own fabric None saved f mine = refl
given_own fabric (Some one) None f mine = elim (cases_Bool (one == fabric)) [ inl its ↦ rw its refl | inr other ↦ rw other refl ]
given_own fabric (Some one) (Some saved) f mine = elim (cases_Bool (one == fabric)) [
  | inl its ↦
      let here : (f.index == one) ≡ true = eq-eqb f.index one (eqb-true f.index fabric mine ∙ sym (eqb-true one fabric its)) in
      rw (here, its) refl
  | inr other ↦
      let apart : (f.index == one) ≡ false = ne_eqb f.index one (λ is. eqb-false one fabric other (sym is ∙ eqb-true f.index fabric mine)) in
      rw (apart, other) refl
]

module _ (fabric : ℕ) (added updated : Option ℕ) (saved : Option Credentials) (old : is_that fabric added ≡ false) where
  given_mine : (fabrics : List Fabric) → filter (has_index fabric) (map (given_back updated saved) (filter (λ (f : Fabric). stays added f.index) fabrics)) ≡ map (with_given_back (if is_that fabric updated then saved else None)) (filter (has_index fabric) fabrics)
  given_mine [] = refl
  given_mine (f ∷ fabrics) =
      let rest = given_mine fabrics in
      let same : ((given_back updated saved f).index == fabric) ≡ (f.index == fabric) = ap (λ (n : ℕ). n == fabric) (given_index updated saved f) in
      elim (cases_Bool (f.index == fabric)) [
        | inl mine ↦
            let kept : stays added f.index ≡ true = stays_other added fabric f.index old mine in
            rw (kept, same, mine) (λ i. given_own fabric updated saved f mine i ∷ rest i)
        | inr other ↦ elim (cases_Bool (stays added f.index)) [
          | inl kept ↦ rw (kept, same, other) rest
          | inr gone ↦ rw (gone, other) rest
        ]
      ]

fabrics_stay : (fabric : ℕ) (armed : Option Armed) (fabrics : List Fabric) → was_added fabric armed ≡ false → filter (has_index fabric) (fabrics_left armed fabrics) ≡ map (with_given_back (saved_for fabric armed)) (filter (has_index fabric) fabrics)
fabrics_stay fabric None fabrics old = sym (none_given (filter (has_index fabric) fabrics))
fabrics_stay fabric (Some armed) fabrics old = given_mine fabric armed.added armed.updated armed.saved_credentials old fabrics

pub own_fabrics_left : (sessions : List SessionRow) (ceiling fabric : ℕ) (s : NodeState) → was_added fabric s.armed ≡ false
    → filter (has_index fabric) (reopened_node sessions ceiling s).fabrics ≡ map (with_given_back (saved_for fabric s.armed)) (filter (has_index fabric) s.fabrics)
own_fabrics_left sessions ceiling fabric s old = ap (filter (has_index fabric)) (fabrics_reopened sessions ceiling s) ∙ fabrics_stay fabric s.armed s.fabrics old

-- No fail-safe is armed, and nothing is to be given back.
pub none_saved : (sessions : List SessionRow) (ceiling fabric : ℕ) (s : NodeState) → saved_for fabric (reopened_node sessions ceiling s).armed ≡ None
none_saved sessions ceiling fabric s = ap (saved_for fabric) (none_regained (rollback (state_of (kept_of s ceiling))) ceiling (none_armed (state_of (kept_of s ceiling))))

-- Sessions: one is live for a fabric where that fabric's credentials have its identity, since no other fabric has it.

same_identity : (key : List ℕ) (id : ℕ) (f g : Fabric) → has_identity key id f ≡ true → has_identity key id g ≡ true → have_one_identity f g ≡ true
same_identity key id f g one other =
    let first = and_parts (bytes_eq f.credentials.root_key key) (f.credentials.fabric_id == id) one in
    let second = and_parts (bytes_eq g.credentials.root_key key) (g.credentials.fabric_id == id) other in
    let keys : f.credentials.root_key ≡ g.credentials.root_key = (bytes_eq-Decides f.credentials.root_key key).0 first.0 ∙ sym ((bytes_eq-Decides g.credentials.root_key key).0 second.0) in
    let ids : f.credentials.fabric_id ≡ g.credentials.fabric_id = eqb-true f.credentials.fabric_id id first.1 ∙ sym (eqb-true g.credentials.fabric_id id second.1) in
    and_from _ _ ((bytes_eq-Decides f.credentials.root_key g.credentials.root_key).1 keys) (eq-eqb f.credentials.fabric_id g.credentials.fabric_id ids)

module _ (fabric : ℕ) (key : List ℕ) (id : ℕ) where
  abbrev is_its : Fabric → Bool
  is_its f = has_identity key id f

  abbrev mine_of : List Fabric → List Fabric
  mine_of fabrics = filter (has_index fabric) fabrics

  abbrev is_live_at : Option Fabric → Bool
  is_live_at found = is_live_as fabric (live_or_waits found)

  none_other : (f : Fabric) → is_its f ≡ true → (fabrics : List Fabric) → list_any (have_one_identity f) fabrics ≡ false → find is_its (mine_of fabrics) ≡ None
  none_other f its [] apart = refl
  none_other f its (g ∷ fabrics) apart =
      let both = or_parts (have_one_identity f g) (list_any (have_one_identity f) fabrics) apart in
      let rest = none_other f its fabrics both.1 in
      let not_its : is_its g ≡ false = false_from_ne_true (is_its g) (λ at. let wrong = same_identity key id f g its at in absurd cc) in
      elim (cases_Bool (g.index == fabric)) [
        | inl mine ↦ rw (mine, not_its) rest
        | inr other ↦ rw other rest
      ]

  found_mine : (fabrics : List Fabric) → none_alike have_one_identity fabrics ≡ true → is_live_at (find is_its fabrics) ≡ is_live_at (find is_its (mine_of fabrics))
  found_mine [] differ = refl
  found_mine (f ∷ fabrics) differ =
      let both = and_parts (not (list_any (have_one_identity f) fabrics)) (none_alike have_one_identity fabrics) differ in
      elim (cases_Bool (is_its f)) [
        | inl its ↦
            let first : find is_its (f ∷ fabrics) ≡ Some f = rw its refl in
            elim (cases_Bool (f.index == fabric)) [
              | inl mine ↦
                  let second : find is_its (mine_of (f ∷ fabrics)) ≡ Some f = rw (mine, its) refl in
                  ap is_live_at (first ∙ sym second)
              | inr other ↦
                  let second : find is_its (mine_of (f ∷ fabrics)) ≡ None = rw other (none_other f its fabrics (not-true (list_any (have_one_identity f) fabrics) both.0)) in
                  ap is_live_at first ∙ other ∙ sym (ap is_live_at second)
            ]
        | inr not_its ↦
            let first : find is_its (f ∷ fabrics) ≡ find is_its fabrics = rw not_its refl in
            let second : find is_its (mine_of (f ∷ fabrics)) ≡ find is_its (mine_of fabrics) = elim (cases_Bool (f.index == fabric)) [ inl mine ↦ rw (mine, not_its) refl | inr other ↦ rw other refl ] in
            ap is_live_at first ∙ found_mine fabrics both.1 ∙ sym (ap is_live_at second)
      ]

stands_so : (fabric : ℕ) (standing : Standing) → is_live_as fabric standing ≡ true → standing ≡ Live fabric
stands_so fabric Waits its = absurd cc
stands_so fabric (Live other) its = ap Live (eqb-true other fabric its)
stands_so fabric Ended its = absurd cc

module _ (fabric : ℕ) (fabrics : List Fabric) (differ : none_alike have_one_identity fabrics ≡ true) where
  abbrev mine : List Fabric
  mine = filter (has_index fabric) fabrics

  abbrev is_own : NodeSession → Bool
  is_own session = is_live_as fabric session.standing

  alike : (row : SessionRow) (auth : Auth) → is_live_as fabric (standing_of fabrics row auth) ≡ is_live_as fabric (standing_of mine row auth)
  alike row Pase = refl
  alike row Case = found_mine fabric row.root_key row.fabric_id fabrics differ
  alike row Group = found_mine fabric row.root_key row.fabric_id fabrics differ

  sessions_alike : (rows : List SessionRow) → filter is_own (map (session_of fabrics) rows) ≡ filter is_own (map (session_of mine) rows)
  sessions_alike [] = refl
  sessions_alike (row ∷ rows) =
      let rest = sessions_alike rows in
      let same = alike row row.auth in
      elim (cases_Bool (is_live_as fabric (standing_of fabrics row row.auth))) [
        | inl its ↦
            let also : is_live_as fabric (standing_of mine row row.auth) ≡ true = sym same ∙ its in
            let standings : standing_of fabrics row row.auth ≡ standing_of mine row row.auth = stands_so fabric (standing_of fabrics row row.auth) its ∙ sym (stands_so fabric (standing_of mine row row.auth) also) in
            rw (its, also) (λ i. record (session_of fabrics row) { standing = standings i } ∷ rest i)
        | inr not_its ↦
            let also : is_live_as fabric (standing_of mine row row.auth) ≡ false = sym same ∙ not_its in
            rw (not_its, also) rest
      ]

  pub own_of_boot : (boot : ℕ) (rows : List SessionRow) → filter is_own (sessions_of boot fabrics rows) ≡ own_sessions rows boot fabric mine
  own_of_boot boot rows = sessions_alike (filter (λ (row : SessionRow). row.boot == boot) rows)

module _ (is_kept : DurableIsKept) (valid : StatesAreValid) (back : RollsBackValid) where
  -- the state that is regained is valid, also where so many boots are behind it that none may follow
  pub next_valid : (ceiling : ℕ) (s : NodeState) → IsValid s → IsValid (state_of (rolled (kept_of s ceiling)))
  next_valid ceiling s its = rolled_valid is_kept valid back (durable s 0) (kept_of s 0) (is_kept s 0 its (omega arith))

  pub own_sessions_left : (sessions : List SessionRow) (ceiling fabric : ℕ) (s : NodeState) → IsValid s → was_added fabric s.armed ≡ false
      → filter (λ (session : NodeSession). is_live_as fabric session.standing) (reopened_node sessions ceiling s).sessions ≡ own_sessions sessions (s.boot + 1) fabric (map (with_given_back (saved_for fabric s.armed)) (filter (has_index fabric) s.fabrics))
  own_sessions_left sessions ceiling fabric s its old =
      own_of_boot fabric (state_of (rolled (kept_of s ceiling))).fabrics (next_valid ceiling s its).identities_differ (s.boot + 1) sessions
      ∙ ap (own_sessions sessions (s.boot + 1) fabric) (own_fabrics_left sessions ceiling fabric s old)

  -- ALL THAT IS LEFT OF A FABRIC'S OWN PART, where its rows stay.
  pub own_left : (sessions : List SessionRow) (ceiling fabric : ℕ) (s : NodeState) → IsValid s → fabric ≢ 0 → was_added fabric s.armed ≡ false
      → filter (owns fabric) (reopened_node sessions ceiling s).rows ≡ filter (owns fabric) s.rows
      → own fabric (reopened_node sessions ceiling s) ≡ reopened_own sessions (s.boot + 1) fabric (own fabric s)
  own_left sessions ceiling fabric s its some old rows =
      let entries = own_entries_left sessions ceiling fabric s old in
      let fabrics = own_fabrics_left sessions ceiling fabric s old in
      let saved = none_saved sessions ceiling fabric s in
      let live = own_sessions_left sessions ceiling fabric s its old in
      let plain : (0 == fabric) ≡ false = ne_eqb 0 fabric (λ is. some (sym is)) in
      λ i. record {
        rows = rows i;
        entries = entries i;
        fabrics = fabrics i;
        saved = saved i;
        sessions = live i;
        is_plain = plain i;
      }
