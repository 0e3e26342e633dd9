-- What an expiry leaves of the own part of a fabric that was neither added nor updated: all of it.
use Rattle.std.proofs.Common.{◌≡◌, ◌≢◌, ℕ, ◌==◌, ◌&&◌, ◌||◌, ◌++◌, inl, inr, not, is_some, Bool, true, false, List, [], ◌∷◌, Option, Some, None, refl, sym, ap, ◌∙◌, subst, filter, map, arith, if◌then◌else◌}
use Rattle.std.proofs.lemmas.Bool.{and_parts, cases_Bool, eqb-true, or_cases}
use Rattle.std.specs.List.{list_all}
use Rattle.mt_failsafe.specs.Notes.{was_added, was_updated}
use Rattle.mt_fabrics.specs.Table.{has_index}
use Rattle.mt_tlv.specs.declared.value.Value.{Value}
use Rattle.mt_tlv.specs.declared.value.Value.TheVariants as values
use Rattle.mt_model.specs.Optional.{is_that}
use Rattle.mt_model.specs.rows.Order.{are_ascending}
use Rattle.mt_model.specs.rows.Seen.{own_entries}
use Rattle.mt_model.specs.rows.Setting.{is_above, is_at, is_below, is_entry_above, is_entry_below, is_entry_of, with_entries, with_rows}
use Rattle.mt_model.specs.tables.Leaving.{stays}
use Rattle.mt_model.specs.texts.Config.{ascend_from}
use Rattle.mt_model.specs.declared.node.action.NodeStep.TheVariants.{SetRow}
use Rattle.mt_model.specs.declared.node.state.NodeSession.{NodeSession}
use Rattle.mt_model.specs.declared.node.state.NodeState.{NodeState}
use Rattle.mt_model.specs.declared.node.state.Standing.{Standing}
use Rattle.mt_model.specs.declared.node.state.Standing.TheVariants.{Waits, Live, Ended}
use Rattle.mt_model.specs.declared.rows.place.Place.{Place}
use Rattle.mt_model.specs.declared.rows.place.Row.{Row}
use Rattle.mt_model.specs.declared.tables.access.AclEntry.{AclEntry}
use Rattle.mt_model.specs.declared.tables.access.Auth.{Auth}
use Rattle.mt_model.specs.declared.tables.access.Auth.TheVariants.{Pase, Case, Group}
use Rattle.mt_model.specs.declared.tables.fabric.Credentials.{Credentials}
use Rattle.mt_model.specs.declared.tables.fabric.Fabric.{Fabric}
use Rattle.mt_model.specs.declared.tables.network.Armed.{Armed}
use Rattle.mt_subs.specs.Leaving.{is_live_as}
use Rattle.mt_machine.specs.Isolation.{own, owns, saved_for}
use Rattle.mt_machine.specs.Rollback.{breadcrumb, ends, given_back, rolled_back, session_behind, undone}
use Rattle.mt_machine.specs.State.{IsValid, follows, is_added, is_updated, keeps_facts, plain_follows}
use Rattle.mt_machine.proofs.Order.{from_zero}
use Rattle.mt_machine.proofs.Rolled.{given-index}
use Rattle.mt_machine.proofs.Steps.{own-kept}
use Rattle.mt_machine.proofs.Counting.{impossible}

-- what passes one test and so stays, is the same whether others stay
pub both-filters : {X : Type 0} (mine keep : X → Bool) → ((x : X) → mine x ≡ true → keep x ≡ true) → (xs : List X) → filter mine (filter keep xs) ≡ filter mine xs
both-filters mine keep each [] = refl
both-filters mine keep each (x ∷ xs) =
    let rest = both-filters mine keep each xs in
    elim (cases_Bool (mine x)) [
      | inl its ↦ rw (each x its, its) (ap (λ l. x ∷ l) rest)
      | inr not_its ↦ elim (cases_Bool (keep x)) [ inl kept ↦ rw (kept, not_its) rest | inr gone ↦ rw (gone, not_its) rest ]
    ]

pub stays-other : (added : Option ℕ) (fabric n : ℕ) → is_that fabric added ≡ false → (n == fabric) ≡ true → stays added n ≡ true
stays-other None fabric n other same = refl
stays-other (Some a) fabric n other same = ap not (subst (λ m. (a == m) ≡ false) (sym (eqb-true n fabric same)) other)

flipped : (u fabric : ℕ) → (u == fabric) ≡ false → (fabric == u) ≡ false
flipped u fabric other = grind (arith, other)

module _ (fabric : ℕ) (s : NodeState) (valid : IsValid s) (some : fabric ≢ 0) (armed : Armed) (is : s.armed ≡ Some armed) (not_added : is_that fabric armed.added ≡ false) (not_updated : is_that fabric armed.updated ≡ false) where
  rows_same : (rows : List Row) → filter (owns fabric) (filter (λ (row : Row). stays armed.added row.fabric) rows) ≡ filter (owns fabric) rows
  rows_same = both-filters (owns fabric) (λ (row : Row). stays armed.added row.fabric) (λ row mine. stays-other armed.added fabric row.fabric not_added (and_parts (row.fabric == fabric) (not (row.fabric == 0)) mine).0)

  entries_same : (entries : List AclEntry) → own_entries fabric (filter (λ (entry : AclEntry). stays armed.added entry.fabric) entries) ≡ own_entries fabric entries
  entries_same = both-filters (λ (entry : AclEntry). entry.fabric == fabric) (λ (entry : AclEntry). stays armed.added entry.fabric) (λ entry mine. stays-other armed.added fabric entry.fabric not_added mine)

  given_same : (updated : Option ℕ) (saved : Option Credentials) → is_that fabric updated ≡ false → (f : Fabric) → (f.index == fabric) ≡ true → given_back updated saved f ≡ f
  given_same None saved other f mine = refl
  given_same (Some u) None other f mine = refl
  given_same (Some u) (Some c) other f mine =
      let apart : (f.index == u) ≡ false = subst (λ n. (n == u) ≡ false) (sym (eqb-true f.index fabric mine)) (flipped u fabric other) in
      rw apart refl

  given_mine : (updated : Option ℕ) (saved : Option Credentials) → is_that fabric updated ≡ false → (fabrics : List Fabric) → filter (has_index fabric) (map (given_back updated saved) fabrics) ≡ filter (has_index fabric) fabrics
  given_mine updated saved other [] = refl
  given_mine updated saved other (f ∷ fabrics) =
      let rest = given_mine updated saved other fabrics in
      elim (cases_Bool (f.index == fabric)) [
        | inl mine ↦
            let same = given_same updated saved other f mine in
            rw (same, mine) (ap (λ (l : List Fabric). f ∷ l) rest)
        | inr not_mine ↦
            let still : ((given_back updated saved f).index == fabric) ≡ false = ap (λ n. n == fabric) (given-index updated saved f) ∙ not_mine in
            rw (still, not_mine) rest
      ]

  fabrics_same : (fabrics : List Fabric) → filter (has_index fabric) (map (given_back armed.updated armed.saved_credentials) (filter (λ (f : Fabric). stays armed.added f.index) fabrics)) ≡ filter (has_index fabric) fabrics
  fabrics_same fabrics =
      given_mine armed.updated armed.saved_credentials not_updated (filter (λ (f : Fabric). stays armed.added f.index) fabrics)
      ∙ both-filters (has_index fabric) (λ (f : Fabric). stays armed.added f.index) (λ f mine. stays-other armed.added fabric f.index not_added mine) fabrics

  none_saved : (updated : Option ℕ) → is_that fabric updated ≡ false → is_that fabric updated ≡ false
  none_saved None other = refl
  none_saved (Some u) other = other

  saved_same : None ≡ saved_for fabric s.armed
  saved_same = sym (ap (saved_for fabric) is ∙ ap (λ b. if b then armed.saved_credentials else None) (none_saved armed.updated not_updated))

  facts : keeps_facts s.fabrics (Some armed) ≡ true
  facts = subst (λ (a : Option Armed). keeps_facts s.fabrics a ≡ true) is valid.failsafe_facts

  -- the context is not this fabric where anything was added or updated
  not_context : (added updated : Option ℕ) → is_that fabric added ≡ false → is_that fabric updated ≡ false → is_added s.fabrics armed added ≡ true → is_updated s.fabrics armed added updated ≡ true
      → (fabric == armed.context && (is_some added || is_some updated)) ≡ false
  not_context None None a u is_a is_u = grind arith
  not_context (Some added) updated a u is_a is_u =
      let context = eqb-true armed.context added (and_parts _ _ is_a).0 in
      grind (arith, context, a)
  not_context None (Some updated) a u is_a is_u =
      let context = eqb-true armed.context updated (and_parts _ _ (and_parts (armed.owner == updated) _ is_u).1).0 in
      grind (arith, context, u)

  lives_on : (auth : Auth) (standing : Standing) → is_live_as fabric standing ≡ true → follows (Some armed) auth standing ≡ true → ends armed auth standing ≡ false
  lives_on Pase Waits live follow = impossible live
  lives_on Pase (Live other) live follow = elim (or_cases (other == 0) (was_added other (Some armed)) follow) [
    | inl zero ↦ absurd (some (sym (eqb-true other fabric live) ∙ eqb-true other 0 zero))
    | inr added ↦ impossible (sym not_added ∙ subst (λ n. is_that n armed.added ≡ true) (eqb-true other fabric live) added)
  ]
  lives_on Pase Ended live follow = impossible live
  lives_on Case Waits live follow = refl
  lives_on Case (Live other) live follow =
      let parts = and_parts (is_added s.fabrics armed armed.added) (is_updated s.fabrics armed armed.added armed.updated) facts in
      subst (λ n. (n == armed.context && (is_some armed.added || is_some armed.updated)) ≡ false) (sym (eqb-true other fabric live)) (not_context armed.added armed.updated not_added not_updated parts.0 parts.1)
  lives_on Case Ended live follow = refl
  lives_on Group Waits live follow = refl
  lives_on Group (Live other) live follow =
      let parts = and_parts (is_added s.fabrics armed armed.added) (is_updated s.fabrics armed armed.added armed.updated) facts in
      subst (λ n. (n == armed.context && (is_some armed.added || is_some armed.updated)) ≡ false) (sym (eqb-true other fabric live)) (not_context armed.added armed.updated not_added not_updated parts.0 parts.1)
  lives_on Group Ended live follow = refl

  abbrev mine_of : NodeSession → Bool
  mine_of session = is_live_as fabric session.standing

  sessions_same : (sessions : List NodeSession) → list_all (λ (session : NodeSession). follows (Some armed) session.auth session.standing) sessions ≡ true
      → filter mine_of (map (session_behind armed) sessions) ≡ filter mine_of sessions
  sessions_same [] follow = refl
  sessions_same (session ∷ sessions) follow =
      let both = and_parts (follows (Some armed) session.auth session.standing) (list_all (λ (other : NodeSession). follows (Some armed) other.auth other.standing) sessions) follow in
      let rest = sessions_same sessions both.1 in
      elim (cases_Bool (is_live_as fabric session.standing)) [
        | inl live ↦ rw (lives_on session.auth session.standing live both.0, live) (ap (λ (l : List NodeSession). session ∷ l) rest)
        | inr not_live ↦ elim (cases_Bool (ends armed session.auth session.standing)) [
          | inl over ↦ rw (over, not_live) rest
          | inr lives ↦ rw (lives, not_live) rest
        ]
      ]

  plain_same : (plain : Option ℕ) → plain_follows (Some armed) plain ≡ true → false ≡ is_that fabric plain
  plain_same None follow = refl
  plain_same (Some other) follow = elim (cases_Bool (other == fabric)) [
    | inl mine ↦ elim (or_cases (other == 0) (was_added other (Some armed)) follow) [
      | inl zero ↦ absurd (some (sym (eqb-true other fabric mine) ∙ eqb-true other 0 zero))
      | inr added ↦ impossible (sym not_added ∙ subst (λ n. is_that n armed.added ≡ true) (eqb-true other fabric mine) added)
    ]
    | inr not_mine ↦ sym not_mine
  ]

  undone-own : own fabric (undone armed s) ≡ own fabric s
  undone-own = λ i. record {
    rows = rows_same s.rows i;
    entries = entries_same s.entries i;
    fabrics = fabrics_same s.fabrics i;
    saved = saved_same i;
    sessions = sessions_same s.sessions (subst (λ (a : Option Armed). list_all (λ (session : NodeSession). follows a session.auth session.standing) s.sessions ≡ true) is valid.sessions_follow) i;
    is_plain = plain_same s.plain (subst (λ (a : Option Armed). plain_follows a s.plain ≡ true) is valid.plain_follow) i;
  }

module _
    (rows_stay : (keep : Row → Bool) (rows : List Row) → are_ascending rows ≡ true → are_ascending (filter keep rows) ≡ true)
    (entries_stay : (keep : AclEntry → Bool) (least : ℕ) (entries : List AclEntry) → ascend_from least entries ≡ true → ascend_from least (filter keep entries) ≡ true)
    (rows_ascend : (rows : List Row) (place : Place) (whose : ℕ) (vs : List Value) → are_ascending rows ≡ true → are_ascending (with_rows place whose vs rows) ≡ true)
    (rows_apart : (rows : List Row) (place : Place) (whose : ℕ) → are_ascending rows ≡ true → filter (is_below place whose) rows ++ filter (is_above place whose) rows ≡ filter (λ (row : Row). not (is_at place whose row)) rows)
    (entries_ascend : (es new : List AclEntry) (whose : ℕ) → ascend_from 0 es ≡ true → list_all (is_entry_of whose) new ≡ true → ascend_from 0 (with_entries whose new es) ≡ true)
    (entries_apart : (es : List AclEntry) (whose : ℕ) → ascend_from 0 es ≡ true → filter (is_entry_below whose) es ++ filter (is_entry_above whose) es ≡ filter (λ (e : AclEntry). not (is_entry_of whose e)) es)
    (fabric : ℕ) (some : fabric ≢ 0) where
  not_nobody : (0 == fabric) ≡ false
  not_nobody = grind (arith, some)

  pub spared : (armed : Option Armed) (s : NodeState) → s.armed ≡ armed → IsValid s → was_added fabric armed ≡ false → was_updated fabric armed ≡ false → own fabric (rolled_back armed s) ≡ own fabric s
  spared None s is valid not_added not_updated = refl
  spared (Some armed) s is valid not_added not_updated =
      own-kept rows_ascend rows_apart entries_ascend entries_apart fabric 0 not_nobody None (SetRow breadcrumb 0 (values.Uint 0 ∷ []) ∷ []) (undone armed s)
      (rows_stay (λ (row : Row). stays armed.added row.fabric) s.rows valid.rows_rise)
      (entries_stay (λ (entry : AclEntry). stays armed.added entry.fabric) 0 s.entries (from_zero s.entries valid.entries_rise)) refl
      ∙ undone-own fabric s valid some armed is not_added not_updated
