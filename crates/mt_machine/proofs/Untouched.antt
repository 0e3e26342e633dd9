-- What a step of commissioning leaves of the own part of a fabric that it does not touch: all of it.
use Rattle.std.proofs.Common.{◌≡◌, ℕ, ◌==◌, ◌&&◌, ◌||◌, ◌++◌, inl, inr, not, nat_lt, is_none, is_some, Bool, true, false, List, [], ◌∷◌, Option, Some, None, option_map, refl, sym, ap, ◌∙◌, subst, filter, map, arith, if◌then◌else◌}
use Rattle.std.proofs.lemmas.Bool.{and_parts, cases_Bool, eqb-false, eqb-true, or_cases, or_parts}
use Rattle.std.specs.List.{list_all}
use Rattle.mt_failsafe.specs.Notes.{was_added, was_updated}
use Rattle.mt_tlv.specs.declared.value.Value.{Value}
use Rattle.mt_fabrics.specs.Table.{added, changed, changed_at, credentials_at, has_index, has_other_index, label_refusal, least_unused, placed, removed, with_credentials, with_index, with_label}
use Rattle.mt_failsafe.specs.Calls.{is_armed_by, is_context, renewed}
use Rattle.mt_failsafe.specs.Notes as notes
use Rattle.mt_model.specs.Optional.{is_that}
use Rattle.mt_model.specs.rows.Order.{are_ascending}
use Rattle.mt_model.specs.rows.Seen.{own_entries}
use Rattle.mt_model.specs.rows.Setting.{is_above, is_at, is_below, is_entry_above, is_entry_below, is_entry_of, with_entries, with_rows}
use Rattle.mt_model.specs.tables.Leaving.{stays}
use Rattle.mt_model.specs.texts.Config.{ascend_from, has_identity}
use Rattle.mt_model.specs.declared.node.action.NodeStep.{NodeStep}
use Rattle.mt_model.specs.declared.node.action.NodeStep.TheVariants.{SetRow, SetEntries, PutNetwork, RemoveNetwork, ConnectNetwork, MoveNetwork, Arm, Renew, Expire, Complete, AddRoot, Csr, AddFabric, UpdateFabric, RemoveFabric, Label, Emit}
use Rattle.mt_model.specs.declared.node.state.NodeSession.{NodeSession}
use Rattle.mt_model.specs.declared.node.state.NodeState.{NodeState}
use Rattle.mt_model.specs.declared.node.state.Standing.{Standing}
use Rattle.mt_model.specs.declared.node.state.Standing.TheVariants.{Waits, Live, Ended}
use Rattle.mt_model.specs.declared.rows.place.Place.{Place}
use Rattle.mt_model.specs.declared.rows.place.Row.{Row}
use Rattle.mt_model.specs.declared.tables.access.AclEntry.{AclEntry}
use Rattle.mt_model.specs.declared.tables.access.Actor.{Actor}
use Rattle.mt_model.specs.declared.tables.access.Auth.{Auth}
use Rattle.mt_model.specs.declared.tables.access.Auth.TheVariants.{Pase, Case, Group}
use Rattle.mt_model.specs.declared.tables.fabric.Credentials.{Credentials}
use Rattle.mt_model.specs.declared.tables.fabric.Fabric.{Fabric}
use Rattle.mt_model.specs.declared.tables.network.Armed.{Armed}
use Rattle.mt_model.specs.declared.tables.network.Network.{Network}
use Rattle.mt_machine.specs.Effects.{after, armed_behind, completed, is_on, is_pase, is_plain, is_sound_step, joined, joined_as, labelled_in, may_join, may_leave, may_update, plain_joined, plain_without, session_completed, session_joined, session_without, standing_completed, standing_joined, trusting, updated_in, with_request, with_saved_credentials, without_fabric}
use Rattle.mt_subs.specs.Leaving.{is_live_as}
use Rattle.mt_machine.specs.Isolation.{own, owns, saved_for}
use Rattle.mt_machine.specs.Rollback.{rolled_back}
use Rattle.mt_machine.specs.State.{IsValid, follows, is_added, is_updated, keeps_facts, plain_follows}
use Rattle.mt_machine.specs.Touching.{may_touch}
use Rattle.mt_machine.proofs.Spared.{both-filters, spared, stays-other}
use Rattle.mt_machine.proofs.Counting.{impossible}

-- Lists.

-- a change of each that leaves those that pass a test as they are, and lets no other pass it
module _ {X : Type 0} (mine good : X → Bool) (h : X → X) (stay : (x : X) → good x ≡ true → mine x ≡ true → h x ≡ x) (none : (x : X) → good x ≡ true → mine x ≡ false → mine (h x) ≡ false) where
  mine-stay : (xs : List X) → list_all good xs ≡ true → filter mine (map h xs) ≡ filter mine xs
  mine-stay [] all = refl
  mine-stay (x ∷ xs) all =
      let both = and_parts (good x) (list_all good xs) all in
      let rest = mine-stay xs both.1 in
      elim (cases_Bool (mine x)) [
        | inl its ↦ rw (stay x both.0 its, its) (ap (λ l. x ∷ l) rest)
        | inr not_its ↦ rw (none x both.0 not_its, not_its) rest
      ]

all-any : {X : Type 0} (xs : List X) → list_all (λ (x : X). true) xs ≡ true
all-any [] = refl
all-any (x ∷ xs) = all-any xs

-- Numbers of fabrics.

-- two that are equal are not different from the same
apart-from : (n m fabric : ℕ) → (n == fabric) ≡ true → (m == fabric) ≡ false → (n == m) ≡ false
apart-from n m fabric is other = grind (arith, is, other)

apart-back : (n m fabric : ℕ) → (n == fabric) ≡ true → (m == fabric) ≡ false → (m == n) ≡ false
apart-back n m fabric is other = grind (arith, is, other)

same-apart : (n m fabric : ℕ) → (n == m) ≡ true → (m == fabric) ≡ false → (n == fabric) ≡ false
same-apart n m fabric is other = grind (arith, is, other)

none-that : (fabric : ℕ) (o : Option ℕ) → is_none o ≡ true → is_that fabric o ≡ false
none-that fabric None none = refl
none-that fabric (Some n) none = impossible none

none-has : (fabric : ℕ) (o : Option ℕ) → is_none o ≡ true → is_that fabric o ≡ false
none-has fabric None none = refl
none-has fabric (Some n) none = impossible none

-- What is saved.

pub armed-saves : (fabric owner now seconds : ℕ) (networks : List Network) (armed : Option Armed) → saved_for fabric (armed_behind owner now seconds networks armed) ≡ saved_for fabric armed
armed-saves fabric owner now seconds networks None = refl
armed-saves fabric owner now seconds networks (Some armed) = refl

pub renewed-saves : (fabric now seconds : ℕ) (armed : Option Armed) → saved_for fabric (option_map (renewed now seconds) armed) ≡ saved_for fabric armed
renewed-saves fabric now seconds None = refl
renewed-saves fabric now seconds (Some armed) = refl

root-saves : (fabric : ℕ) (cert : List ℕ) (armed : Option Armed) → saved_for fabric (option_map (notes.with_root cert) armed) ≡ saved_for fabric armed
root-saves fabric cert None = refl
root-saves fabric cert (Some armed) = refl

csr-saves : (fabric : ℕ) (nonce : List ℕ) (update : Bool) (armed : Option Armed) → saved_for fabric (option_map (notes.with_csr nonce update) armed) ≡ saved_for fabric armed
csr-saves fabric nonce update None = refl
csr-saves fabric nonce update (Some armed) = refl

pub added-saves : (fabric index : ℕ) (pase : Bool) (armed : Option Armed) → saved_for fabric (option_map (notes.with_added index pase) armed) ≡ saved_for fabric armed
added-saves fabric index pase None = refl
added-saves fabric index pase (Some armed) = refl

pub trusting-own : (fabric : ℕ) (cert : List ℕ) (s : NodeState) → own fabric (trusting cert s) ≡ own fabric s
trusting-own fabric cert s = elim (cases_Bool (notes.may_note_root s.armed)) [
  | inl may ↦ rw may (ap (λ (c : Option Credentials). record (own fabric s) { saved = c }) (root-saves fabric cert s.armed))
  | inr not_now ↦ rw not_now refl
]

pub request-own : (fabric : ℕ) (nonce : List ℕ) (update : Bool) (s : NodeState) → own fabric (with_request nonce update s) ≡ own fabric s
request-own fabric nonce update s = elim (cases_Bool (notes.may_note_csr update s.armed)) [
  | inl may ↦ rw may (ap (λ (c : Option Credentials). record (own fabric s) { saved = c }) (csr-saves fabric nonce update s.armed))
  | inr not_now ↦ rw not_now refl
]

-- Commissioning is complete.
module _ (fabric context : ℕ) where
  pub completed-none : (auth : Auth) (standing : Standing) → is_live_as fabric standing ≡ false → is_live_as fabric (standing_completed context auth standing) ≡ false
  completed-none Pase Waits not_live = refl
  completed-none Pase (Live other) not_live = elim (cases_Bool (other == context)) [
    | inl over ↦ rw over refl
    | inr lives ↦ rw lives not_live
  ]
  completed-none Pase Ended not_live = refl
  completed-none Case standing not_live = not_live
  completed-none Group standing not_live = not_live

-- For another fabric.
module _ (fabric context : ℕ) (apart : (context == fabric) ≡ false) where
  completed-stays : (auth : Auth) (standing : Standing) → is_live_as fabric standing ≡ true → standing_completed context auth standing ≡ standing
  completed-stays Pase Waits live = impossible live
  completed-stays Pase (Live other) live = rw (apart-from other context fabric live apart) refl
  completed-stays Pase Ended live = impossible live
  completed-stays Case standing live = refl
  completed-stays Group standing live = refl

  completed-sessions : (sessions : List NodeSession) → filter (λ (session : NodeSession). is_live_as fabric session.standing) (map (session_completed context) sessions) ≡ filter (λ (session : NodeSession). is_live_as fabric session.standing) sessions
  completed-sessions sessions = mine-stay (λ (session : NodeSession). is_live_as fabric session.standing) (λ (session : NodeSession). true) (session_completed context)
      (λ session good live. ap (λ (standing : Standing). record session { standing = standing }) (completed-stays session.auth session.standing live))
      (λ session good not_live. completed-none fabric context session.auth session.standing not_live)
      sessions (all-any sessions)

  without-plain : (plain : Option ℕ) → is_that fabric (plain_without context plain) ≡ is_that fabric plain
  without-plain None = refl
  without-plain (Some other) = elim (cases_Bool (other == context)) [
    | inl over ↦ rw over (sym (same-apart other context fabric over apart))
    | inr lives ↦ rw lives refl
  ]

  -- what is saved is the context's
  completed-saved : (fabrics : List Fabric) (armed : Armed) (added updated : Option ℕ) → armed.context ≡ context → is_updated fabrics armed added updated ≡ true → None ≡ (if is_that fabric updated then armed.saved_credentials else None)
  completed-saved fabrics armed added None is facts = refl
  completed-saved fabrics armed (Some a) (Some u) is facts = impossible facts
  completed-saved fabrics armed None (Some u) is facts =
      let context_is = eqb-true armed.context u (and_parts _ _ (and_parts (armed.owner == u) _ facts).1).0 in
      let other : (u == fabric) ≡ false = subst (λ n. (n == fabric) ≡ false) (sym is ∙ context_is) apart in
      rw other refl

completed-own : (fabric : ℕ) (s : NodeState) (armed : Option Armed) → s.armed ≡ armed → keeps_facts s.fabrics armed ≡ true → is_context fabric armed ≡ false → own fabric (completed armed s) ≡ own fabric s
completed-own fabric s None is facts apart = refl
completed-own fabric s (Some armed) is facts apart =
    let parts = and_parts (is_added s.fabrics armed armed.added) (is_updated s.fabrics armed armed.added armed.updated) facts in
    let saved = completed-saved fabric armed.context apart s.fabrics armed armed.added armed.updated refl parts.1 ∙ sym (ap (saved_for fabric) is) in
    λ i. record {
      rows = filter (owns fabric) s.rows;
      entries = own_entries fabric s.entries;
      fabrics = filter (has_index fabric) s.fabrics;
      saved = saved i;
      sessions = completed-sessions fabric armed.context apart s.sessions i;
      is_plain = without-plain fabric armed.context apart s.plain i;
    }

-- Another fabric joins.

pub placed-mine : (fabric : ℕ) (f : Fabric) → (f.index == fabric) ≡ false → (fabrics : List Fabric) → filter (has_index fabric) (placed f fabrics) ≡ filter (has_index fabric) fabrics
placed-mine fabric f other [] = rw other refl
placed-mine fabric f other (g ∷ fabrics) = elim (cases_Bool (nat_lt g.index f.index)) [
  | inl below ↦
      let rest = placed-mine fabric f other fabrics in
      elim (cases_Bool (g.index == fabric)) [
        | inl mine ↦ rw (below, mine) (ap (λ (l : List Fabric). g ∷ l) rest)
        | inr not_mine ↦ rw (below, not_mine) rest
      ]
  | inr above ↦ rw (above, other) refl
]

module _ (fabric index : ℕ) (apart : (index == fabric) ≡ false) where
  pub joined-none : (asks fits : Bool) (auth : Auth) (standing : Standing) → is_live_as fabric standing ≡ false → is_live_as fabric (standing_joined asks index fits auth standing) ≡ false
  joined-none asks true Pase Waits not_live = apart
  joined-none asks false Pase Waits not_live = refl
  joined-none asks true Case Waits not_live = apart
  joined-none asks false Case Waits not_live = refl
  joined-none asks true Group Waits not_live = apart
  joined-none asks false Group Waits not_live = refl
  joined-none true fits Pase (Live other) not_live = apart
  joined-none false fits Pase (Live other) not_live = not_live
  joined-none asks fits Case (Live other) not_live = not_live
  joined-none asks fits Group (Live other) not_live = not_live
  joined-none asks fits Pase Ended not_live = refl
  joined-none asks fits Case Ended not_live = refl
  joined-none asks fits Group Ended not_live = refl

  pub index-apart : (plain : Option ℕ) → is_that fabric (option_map (λ (other : ℕ). index) plain) ≡ false
  index-apart None = refl
  index-apart (Some other) = apart

-- Under an index that nobody has.
module _ (fabric index : ℕ) (some : (fabric == 0) ≡ false) (apart : (index == fabric) ≡ false) where
  nobodys-apart : (n : ℕ) → (n == 0) ≡ true → (n == fabric) ≡ true → false ≡ true
  nobodys-apart n zero is = sym some ∙ subst (λ (m : ℕ). (m == 0) ≡ true) (eqb-true n fabric is) zero

  -- no session of PASE has a fabric, where none was added
  module _ (armed : Option Armed) (unused : (n : ℕ) → was_added n armed ≡ false) where
    nobodys : (n : ℕ) → (n == 0 || was_added n armed) ≡ true → (n == 0) ≡ true
    nobodys n follow = elim (or_cases (n == 0) (was_added n armed) follow) [
      | inl zero ↦ zero
      | inr joined ↦ impossible (sym (unused n) ∙ joined)
    ]

    joined-stays : (asks fits : Bool) (auth : Auth) (standing : Standing) → follows armed auth standing ≡ true → is_live_as fabric standing ≡ true → standing_joined asks index fits auth standing ≡ standing
    joined-stays asks fits Pase Waits follow live = impossible live
    joined-stays asks fits Pase (Live other) follow live = impossible (nobodys-apart other (nobodys other follow) live)
    joined-stays asks fits Pase Ended follow live = impossible live
    joined-stays asks fits Case Waits follow live = impossible live
    joined-stays asks fits Case (Live other) follow live = refl
    joined-stays asks fits Case Ended follow live = impossible live
    joined-stays asks fits Group Waits follow live = impossible live
    joined-stays asks fits Group (Live other) follow live = refl
    joined-stays asks fits Group Ended follow live = impossible live

    joined-sessions : (asker : Option Actor) (joins : Fabric) (sessions : List NodeSession) → list_all (λ (session : NodeSession). follows armed session.auth session.standing) sessions ≡ true
        → filter (λ (session : NodeSession). is_live_as fabric session.standing) (map (session_joined asker index joins) sessions) ≡ filter (λ (session : NodeSession). is_live_as fabric session.standing) sessions
    joined-sessions asker joins = mine-stay (λ (session : NodeSession). is_live_as fabric session.standing) (λ (session : NodeSession). follows armed session.auth session.standing) (session_joined asker index joins)
        (λ session follow live. ap (λ (standing : Standing). record session { standing = standing }) (joined-stays (is_on asker session) (has_identity session.root_key session.fabric_id joins) session.auth session.standing follow live))
        (λ session follow not_live. joined-none fabric index apart (is_on asker session) (has_identity session.root_key session.fabric_id joins) session.auth session.standing not_live)

    plain-nobodys : (plain : Option ℕ) → plain_follows armed plain ≡ true → is_that fabric plain ≡ false
    plain-nobodys None follow = refl
    plain-nobodys (Some other) follow = elim (cases_Bool (other == fabric)) [
      | inl mine ↦ impossible (nobodys-apart other (nobodys other follow) mine)
      | inr not_mine ↦ not_mine
    ]

    joined-plain : (asker : Option Actor) (plain : Option ℕ) → plain_follows armed plain ≡ true → is_that fabric (plain_joined asker index plain) ≡ is_that fabric plain
    joined-plain asker plain follow = elim (cases_Bool (is_plain asker)) [
      | inl its ↦ rw its (index-apart fabric index apart plain ∙ sym (plain-nobodys plain follow))
      | inr not_its ↦ rw not_its refl
    ]

  joined-as-own : (asker : Option Actor) (joins : Fabric) (s : NodeState) → IsValid s → ((n : ℕ) → was_added n s.armed ≡ false) → index ≡ least_unused s.fabrics → own fabric (joined_as asker index joins s) ≡ own fabric s
  joined-as-own asker joins s valid unused is = λ i. record {
    rows = filter (owns fabric) s.rows;
    entries = own_entries fabric s.entries;
    fabrics = placed-mine fabric (with_index (least_unused s.fabrics) joins) (subst (λ (n : ℕ). (n == fabric) ≡ false) is apart) s.fabrics i;
    saved = added-saves fabric index (is_pase asker) s.armed i;
    sessions = joined-sessions s.armed unused asker joins s.sessions valid.sessions_follow i;
    is_plain = joined-plain s.armed unused asker s.plain valid.plain_follow i;
  }

unused-since : (armed : Option Armed) → notes.may_note_added armed ≡ true → (n : ℕ) → was_added n armed ≡ false
unused-since None may n = refl
unused-since (Some armed) may n = none-that n armed.added (and_parts (is_none armed.added) (is_none armed.updated) (and_parts (notes.is_unused armed) _ may).0).0

joined-own : (fabric : ℕ) (asker : Option Actor) (joins : Fabric) (s : NodeState) → IsValid s → (fabric == 0) ≡ false → (least_unused s.fabrics == fabric) ≡ false → own fabric (joined asker joins s) ≡ own fabric s
joined-own fabric asker joins s valid some apart = elim (cases_Bool (may_join joins s)) [
  | inl may ↦ rw may (joined-as-own fabric (least_unused s.fabrics) some apart asker joins s valid (unused-since s.armed (and_parts (notes.may_note_added s.armed) _ may).0) refl)
  | inr not_now ↦ rw not_now refl
]

-- A change to the fabric of another index.

changed-mine : (fabric index : ℕ) (change : Fabric → Fabric) → (index == fabric) ≡ false → ((f : Fabric) → (change f).index ≡ f.index) → (fabrics : List Fabric) → filter (has_index fabric) (changed index change fabrics) ≡ filter (has_index fabric) fabrics
changed-mine fabric index change apart keeps fabrics = mine-stay (has_index fabric) (λ (f : Fabric). true) (changed_at index change) stay none fabrics (all-any fabrics)
  where
    stay : (f : Fabric) → true ≡ true → has_index fabric f ≡ true → changed_at index change f ≡ f
    stay f good mine = rw (apart-from f.index index fabric mine apart) refl

    none : (f : Fabric) → true ≡ true → has_index fabric f ≡ false → has_index fabric (changed_at index change f) ≡ false
    none f good other = elim (cases_Bool (f.index == index)) [
      | inl its ↦ rw its (ap (λ (n : ℕ). n == fabric) (keeps f) ∙ other)
      | inr not_its ↦ rw not_its other
    ]

-- New credentials.

owned-apart : (fabric index : ℕ) (armed : Armed) (old : Option Credentials) → (index == fabric) ≡ false → is_armed_by index (Some armed) ≡ true → is_none armed.updated ≡ true
    → saved_for fabric (Some (with_saved_credentials old armed)) ≡ saved_for fabric (Some armed)
owned-apart fabric index armed None apart by unused = refl
owned-apart fabric index armed (Some old) apart by unused = rw (same-apart armed.owner index fabric by apart, none-has fabric armed.updated unused) refl

updated-saves : (fabric index : ℕ) (armed : Option Armed) (old : Option Credentials) → (index == fabric) ≡ false → notes.may_note_updated armed ≡ true → is_armed_by index armed ≡ true
    → saved_for fabric (option_map (with_saved_credentials old) armed) ≡ saved_for fabric armed
updated-saves fabric index None old apart may by = refl
updated-saves fabric index (Some armed) old apart may by = owned-apart fabric index armed old apart by (and_parts (is_none armed.added) (is_none armed.updated) (and_parts (notes.is_unused armed) _ may).0).1

updated-own : (fabric index : ℕ) (given : Credentials) (s : NodeState) → (index == fabric) ≡ false → own fabric (updated_in index given s) ≡ own fabric s
updated-own fabric index given s apart = elim (cases_Bool (may_update index given s)) [
  | inl may ↦
      let parts = and_parts (notes.may_note_updated s.armed) _ may in
      let by = (and_parts (is_armed_by index s.armed) _ parts.1).0 in
      let fabrics = changed-mine fabric index (with_credentials given) apart (λ f. refl) s.fabrics in
      let saved = updated-saves fabric index s.armed (credentials_at index s.fabrics) apart parts.0 by in
      rw may (λ i. record {
        rows = filter (owns fabric) s.rows;
        entries = own_entries fabric s.entries;
        fabrics = fabrics i;
        saved = saved i;
        sessions = filter (λ (session : NodeSession). is_live_as fabric session.standing) s.sessions;
        is_plain = is_that fabric s.plain;
      })
  | inr not_now ↦ rw not_now refl
]

-- its own are those that it had
saves-old : (index : ℕ) (armed : Armed) (old : Option Credentials) → is_armed_by index (Some armed) ≡ true → is_none armed.updated ≡ true → saved_for index (Some (with_saved_credentials old armed)) ≡ old
saves-old index armed None by unused = rw (none-has index armed.updated unused) refl
saves-old index armed (Some old) by unused = rw by refl

pub saves-what : (index : ℕ) (armed : Option Armed) (old : Option Credentials) → notes.may_note_updated armed ≡ true → is_armed_by index armed ≡ true → saved_for index (option_map (with_saved_credentials old) armed) ≡ old
saves-what index None old may by = impossible may
saves-what index (Some armed) old may by = saves-old index armed old by (and_parts (is_none armed.added) (is_none armed.updated) (and_parts (notes.is_unused armed) _ may).0).1

pub saved-before : (index : ℕ) (given : Credentials) (s : NodeState) → may_update index given s ≡ true → (own index (updated_in index given s)).saved ≡ credentials_at index s.fabrics
saved-before index given s may =
    let parts = and_parts (notes.may_note_updated s.armed) _ may in
    let by = (and_parts (is_armed_by index s.armed) _ parts.1).0 in
    rw may (saves-what index s.armed (credentials_at index s.fabrics) parts.0 by)

-- A fabric leaves.
module _ (fabric index : ℕ) where
  pub session-none : (session : NodeSession) → is_live_as fabric session.standing ≡ false → is_live_as fabric (session_without index session).standing ≡ false
  session-none session not_live = elim (cases_Bool (is_live_as index session.standing)) [
    | inl over ↦ rw over refl
    | inr lives ↦ rw lives not_live
  ]

-- Another one.
module _ (fabric index : ℕ) (apart : (index == fabric) ≡ false) where
  left-rows : (rows : List Row) → filter (owns fabric) (filter (λ (row : Row). stays (Some index) row.fabric) rows) ≡ filter (owns fabric) rows
  left-rows = both-filters (owns fabric) (λ (row : Row). stays (Some index) row.fabric) (λ row mine. stays-other (Some index) fabric row.fabric apart (and_parts (row.fabric == fabric) (not (row.fabric == 0)) mine).0)

  left-entries : (entries : List AclEntry) → own_entries fabric (filter (λ (entry : AclEntry). stays (Some index) entry.fabric) entries) ≡ own_entries fabric entries
  left-entries = both-filters (λ (entry : AclEntry). entry.fabric == fabric) (λ (entry : AclEntry). stays (Some index) entry.fabric) (λ entry mine. stays-other (Some index) fabric entry.fabric apart mine)

  left-fabrics : (fabrics : List Fabric) → filter (has_index fabric) (removed index fabrics) ≡ filter (has_index fabric) fabrics
  left-fabrics = both-filters (has_index fabric) (has_other_index index) (λ f mine. ap not (apart-from f.index index fabric mine apart))

  left-stays : (standing : Standing) → is_live_as fabric standing ≡ true → is_live_as index standing ≡ false
  left-stays Waits live = refl
  left-stays (Live other) live = apart-from other index fabric live apart
  left-stays Ended live = refl

  session-stays : (session : NodeSession) → is_live_as fabric session.standing ≡ true → session_without index session ≡ session
  session-stays session live = rw (left-stays session.standing live) refl

  left-sessions : (sessions : List NodeSession) → filter (λ (session : NodeSession). is_live_as fabric session.standing) (map (session_without index) sessions) ≡ filter (λ (session : NodeSession). is_live_as fabric session.standing) sessions
  left-sessions sessions = mine-stay (λ (session : NodeSession). is_live_as fabric session.standing) (λ (session : NodeSession). true) (session_without index)
      (λ session good live. session-stays session live) (λ session good not_live. session-none fabric index session not_live) sessions (all-any sessions)

  left-own : (s : NodeState) → own fabric (without_fabric index s) ≡ own fabric s
  left-own s = elim (cases_Bool (may_leave index s)) [
    | inl may ↦ rw may (λ i. record {
      rows = left-rows s.rows i;
      entries = left-entries s.entries i;
      fabrics = left-fabrics s.fabrics i;
      saved = saved_for fabric s.armed;
      sessions = left-sessions s.sessions i;
      is_plain = without-plain fabric index apart s.plain i;
    })
    | inr not_now ↦ rw not_now refl
  ]

-- A label.
label-own : (fabric index : ℕ) (label : List ℕ) (s : NodeState) → (index == fabric) ≡ false → own fabric (labelled_in index label s) ≡ own fabric s
label-own fabric index label s apart = elim (cases_Bool (is_none (label_refusal index label s.fabrics))) [
  | inl may ↦ rw may (ap (λ (fs : List Fabric). record (own fabric s) { fabrics = fs }) (changed-mine fabric index (with_label label) apart (λ f. refl) s.fabrics))
  | inr not_now ↦ rw not_now refl
]

-- By the laws of the model on rows and entries that are set, and on those that stay.
module _
    (rows_stay : (keep : Row → Bool) (rows : List Row) → are_ascending rows ≡ true → are_ascending (filter keep rows) ≡ true)
    (entries_stay : (keep : AclEntry → Bool) (least : ℕ) (entries : List AclEntry) → ascend_from least entries ≡ true → ascend_from least (filter keep entries) ≡ true)
    (rows_ascend : (rows : List Row) (place : Place) (whose : ℕ) (vs : List Value) → are_ascending rows ≡ true → are_ascending (with_rows place whose vs rows) ≡ true)
    (rows_apart : (rows : List Row) (place : Place) (whose : ℕ) → are_ascending rows ≡ true → filter (is_below place whose) rows ++ filter (is_above place whose) rows ≡ filter (λ (row : Row). not (is_at place whose row)) rows)
    (entries_ascend : (es new : List AclEntry) (whose : ℕ) → ascend_from 0 es ≡ true → list_all (is_entry_of whose) new ≡ true → ascend_from 0 (with_entries whose new es) ≡ true)
    (entries_apart : (es : List AclEntry) (whose : ℕ) → ascend_from 0 es ≡ true → filter (is_entry_below whose) es ++ filter (is_entry_above whose) es ≡ filter (λ (e : AclEntry). not (is_entry_of whose e)) es)
    (fabric : ℕ) where
  expiry-own : (s : NodeState) (armed : Option Armed) → s.armed ≡ armed → IsValid s → (is_some armed && (fabric == 0 || (was_added fabric armed || was_updated fabric armed))) ≡ false → own fabric (rolled_back armed s) ≡ own fabric s
  expiry-own s None is valid apart = refl
  expiry-own s (Some armed) is valid apart =
      let parts = or_parts (fabric == 0) (was_added fabric (Some armed) || was_updated fabric (Some armed)) apart in
      let neither = or_parts (was_added fabric (Some armed)) (was_updated fabric (Some armed)) parts.1 in
      spared rows_stay entries_stay rows_ascend rows_apart entries_ascend entries_apart fabric (eqb-false fabric 0 parts.0) (Some armed) s is valid neither.0 neither.1

  turned : (n : ℕ) → (fabric == n) ≡ false → (n == fabric) ≡ false
  turned n other = grind (arith, other)

  pub untouched : (asker : Option Actor) (step : NodeStep) (s : NodeState) → IsValid s → is_sound_step step ≡ true → may_touch s step fabric ≡ false → own fabric (after asker step s) ≡ own fabric s
  untouched asker (SetRow place whose values) s valid sound apart = impossible sound
  untouched asker (SetEntries whose entries) s valid sound apart = impossible sound
  untouched asker (PutNetwork id secret) s valid sound apart = refl
  untouched asker (RemoveNetwork id) s valid sound apart = refl
  untouched asker (ConnectNetwork id) s valid sound apart = refl
  untouched asker (MoveNetwork id index) s valid sound apart = refl
  untouched asker (Arm owner seconds) s valid sound apart = ap (λ (c : Option Credentials). record (own fabric s) { saved = c }) (armed-saves fabric owner s.clock seconds s.networks s.armed)
  untouched asker (Renew seconds) s valid sound apart = ap (λ (c : Option Credentials). record (own fabric s) { saved = c }) (renewed-saves fabric s.clock seconds s.armed)
  untouched asker Expire s valid sound apart = expiry-own s s.armed refl valid apart
  untouched asker Complete s valid sound apart = completed-own fabric s s.armed refl valid.failsafe_facts apart
  untouched asker (AddRoot cert) s valid sound apart = trusting-own fabric cert s
  untouched asker (Csr nonce update) s valid sound apart = request-own fabric nonce update s
  untouched asker (AddFabric joins) s valid sound apart =
      let parts = or_parts (fabric == 0) (fabric == least_unused s.fabrics) apart in
      joined-own fabric asker joins s valid parts.0 (turned (least_unused s.fabrics) parts.1)
  untouched asker (UpdateFabric index given) s valid sound apart = updated-own fabric index given s apart
  untouched asker (RemoveFabric index) s valid sound apart = left-own fabric index apart s
  untouched asker (Label index label) s valid sound apart = label-own fabric index label s apart
  untouched asker (Emit place priority whose value) s valid sound apart = refl
