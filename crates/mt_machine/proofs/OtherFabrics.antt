-- What holds of the parts of a state, where the fabrics are others that have what those had.
use Rattle.std.proofs.Common.{◌≡◌, ℕ, ◌==◌, ◌&&◌, ◌||◌, inl, inr, is_none, nat_le, Bool, true, false, List, [], ◌∷◌, Option, Some, None, Result, Ok, Err, refl, sym, ◌∙◌}
use Rattle.std.proofs.lemmas.Bool.{and_from, and_parts, cases_Bool, eqb-false, eqb-true, eq-eqb, ne_eqb, not_from_false, not-true, or_cases, or_left, or_right}
use Rattle.std.specs.List.{list_any}
use Rattle.mt_failsafe.specs.Calls.{is_context}
use Rattle.mt_meta.specs.Finding.{find_data_of}
use Rattle.mt_meta.specs.Forms.{has_form}
use Rattle.mt_meta.specs.Stored.{is_stored}
use Rattle.mt_meta.specs.declared.meta.Meta.{Meta}
use Rattle.mt_model.specs.Optional.{is_that}
use Rattle.mt_model.specs.texts.Config.{has_identity}
use Rattle.mt_model.specs.declared.messages.status.Status.{Status}
use Rattle.mt_model.specs.declared.node.state.NodeSession.{NodeSession}
use Rattle.mt_model.specs.declared.node.state.Standing.{Standing}
use Rattle.mt_model.specs.declared.node.state.Standing.TheVariants.{Waits, Live, Ended}
use Rattle.mt_model.specs.declared.rows.place.Row.{Row}
use Rattle.mt_model.specs.declared.tables.access.AclEntry.{AclEntry}
use Rattle.mt_model.specs.declared.tables.access.Auth.{Auth}
use Rattle.mt_model.specs.declared.tables.access.Auth.TheVariants.{Pase, Case, Group}
use Rattle.mt_model.specs.declared.tables.fabric.Credentials.{Credentials}
use Rattle.mt_model.specs.declared.tables.fabric.Fabric.{Fabric}
use Rattle.mt_model.specs.declared.tables.network.Armed.{Armed}
use Rattle.mt_subs.specs.Leaving.{is_live_as}
use Rattle.mt_machine.specs.State.{is_added, is_among, is_plain_of, is_row, is_row_at, is_row_of, is_updated, keeps_facts, names_rightly, stands_rightly}
use Rattle.mt_model.specs.tables.Holding.{is_owned, saves_identity}
use Rattle.mt_machine.proofs.Counting.{impossible}

pub none-is : {X : Type 0} (o : Option X) → is_none o ≡ true → o ≡ None
none-is None none = refl
none-is (Some x) none = impossible none

-- the fabric with this index, and this identity
abbrev pub is_its : List ℕ → ℕ → ℕ → Fabric → Bool
is_its root_key fabric_id index f = f.index == index && has_identity root_key fabric_id f

pub same_number : (n : ℕ) → (n == n) ≡ true
same_number n = eq-eqb n n refl

pub eq-turned : (a b : ℕ) → (a == b) ≡ (b == a)
eq-turned a b = elim (cases_Bool (a == b)) [
  | inl same ↦ same ∙ sym (eq-eqb b a (sym (eqb-true a b same)))
  | inr other ↦ other ∙ sym (ne_eqb b a (λ same. eqb-false a b other (sym same)))
]

pub owned_among : (fabrics : List Fabric) (entry : AclEntry) → is_owned fabrics entry ≡ is_among fabrics entry.fabric
owned_among [] entry = refl
owned_among (f ∷ fabrics) entry = λ i. eq-turned entry.fabric f.index i || owned_among fabrics entry i

module _ (fs gs : List Fabric) where
  pub entry-among : (entry : AclEntry) → (is_among fs entry.fabric ≡ true → is_among gs entry.fabric ≡ true) → is_owned fs entry ≡ true → is_owned gs entry ≡ true
  entry-among entry among owned = owned_among gs entry ∙ among (sym (owned_among fs entry) ∙ owned)

  row_of : (scoped : Bool) (fabric : ℕ) → (is_among fs fabric ≡ true → is_among gs fabric ≡ true) → is_row_of fs scoped fabric ≡ true → is_row_of gs scoped fabric ≡ true
  row_of true fabric among of = among of
  row_of false fabric among of = of

  row_at : (row : Row) (found : Result Meta Status) → (is_among fs row.fabric ≡ true → is_among gs row.fabric ≡ true) → is_row_at fs row found ≡ true → is_row_at gs row found ≡ true
  row_at row (Err status) among at = impossible at
  row_at row (Ok meta) among at =
      let both = and_parts (has_form meta row.fabric row.value) (is_row_of fs meta.scoped row.fabric) at in
      and_from _ _ both.0 (row_of meta.scoped row.fabric among both.1)

  pub row-among : (row : Row) → (is_among fs row.fabric ≡ true → is_among gs row.fabric ≡ true) → is_row fs row ≡ true → is_row gs row ≡ true
  row-among row among is =
      let both = and_parts (is_stored row.place) (is_row_at fs row (find_data_of row.place)) is in
      and_from _ _ both.0 (row_at row (find_data_of row.place) among both.1)

  pub either-among : (fabric : ℕ) → (is_among fs fabric ≡ true → is_among gs fabric ≡ true) → (fabric == 0 || is_among fs fabric) ≡ true → (fabric == 0 || is_among gs fabric) ≡ true
  either-among fabric among stands = elim (or_cases (fabric == 0) (is_among fs fabric) stands) [
    | inl none ↦ or_left _ _ none
    | inr there ↦ or_right _ _ (among there)
  ]

  -- whom the fail-safe names is known still
  pub names-still : (armed : Option Armed) → ((n : ℕ) → is_context n armed ≡ true → is_among fs n ≡ true → is_among gs n ≡ true) → names_rightly fs armed ≡ true → names_rightly gs armed ≡ true
  names-still None among names = refl
  names-still (Some armed) among names =
      let both = and_parts (nat_le armed.owner 16) (armed.context == 0 || is_among fs armed.context) names in
      and_from _ _ both.0 (either-among armed.context (among armed.context (eq-eqb armed.context armed.context refl)) both.1)

  pub stands-still : (session : NodeSession) (auth : Auth) (standing : Standing)
      → ((n : ℕ) → is_live_as n standing ≡ true → is_among fs n ≡ true → is_among gs n ≡ true)
      → ((n : ℕ) → is_live_as n standing ≡ true → list_any (is_its session.root_key session.fabric_id n) fs ≡ true → list_any (is_its session.root_key session.fabric_id n) gs ≡ true)
      → (list_any (has_identity session.root_key session.fabric_id) fs ≡ false → list_any (has_identity session.root_key session.fabric_id) gs ≡ false)
      → stands_rightly fs session auth standing ≡ true → stands_rightly gs session auth standing ≡ true
  stands-still session Pase Waits among its none stands = impossible stands
  stands-still session Pase (Live fabric) among its none stands = either-among fabric (among fabric (same_number fabric)) stands
  stands-still session Pase Ended among its none stands = refl
  stands-still session Case Waits among its none stands = not_from_false _ (none (not-true _ stands))
  stands-still session Case (Live fabric) among its none stands = its fabric (same_number fabric) stands
  stands-still session Case Ended among its none stands = refl
  stands-still session Group Waits among its none stands = not_from_false _ (none (not-true _ stands))
  stands-still session Group (Live fabric) among its none stands = its fabric (same_number fabric) stands
  stands-still session Group Ended among its none stands = refl

  pub plain-still : (plain : Option ℕ) → ((n : ℕ) → is_that n plain ≡ true → is_among fs n ≡ true → is_among gs n ≡ true) → is_plain_of fs plain ≡ true → is_plain_of gs plain ≡ true
  plain-still None among stands = refl
  plain-still (Some fabric) among stands = either-among fabric (among fabric (same_number fabric)) stands

  -- The facts of the fail-safe.

  pub added-still : (armed : Armed) (added : Option ℕ) → ((n : ℕ) → (armed.context == n) ≡ true → is_among fs n ≡ true → is_among gs n ≡ true) → is_added fs armed added ≡ true → is_added gs armed added ≡ true
  added-still armed None among is = is
  added-still armed (Some fabric) among is =
      let both = and_parts (armed.context == fabric) (is_among fs fabric) is in
      and_from _ _ both.0 (among fabric both.0 both.1)

  saves-still : (fabric : ℕ) (saved : Option Credentials)
      → ((key : List ℕ) (id : ℕ) → list_any (is_its key id fabric) fs ≡ true → list_any (is_its key id fabric) gs ≡ true) → saves_identity fs fabric saved ≡ true → saves_identity gs fabric saved ≡ true
  saves-still fabric None its saves = impossible saves
  saves-still fabric (Some saved) its saves = its saved.root_key saved.fabric_id saves

  pub updated-still : (armed : Armed) (added updated : Option ℕ)
      → ((n : ℕ) (key : List ℕ) (id : ℕ) → (armed.context == n) ≡ true → list_any (is_its key id n) fs ≡ true → list_any (is_its key id n) gs ≡ true) → is_updated fs armed added updated ≡ true → is_updated gs armed added updated ≡ true
  updated-still armed added None its is = is
  updated-still armed None (Some fabric) its is =
      let outer = and_parts (armed.owner == fabric) (armed.context == fabric && saves_identity fs fabric armed.saved_credentials) is in
      let inner = and_parts (armed.context == fabric) (saves_identity fs fabric armed.saved_credentials) outer.1 in
      and_from _ _ outer.0 (and_from _ _ inner.0 (saves-still fabric armed.saved_credentials (λ key id. its fabric key id inner.0) inner.1))
  updated-still armed (Some added) (Some fabric) its is = impossible is

  pub facts-still : (armed : Option Armed)
      → ((n : ℕ) → is_context n armed ≡ true → is_among fs n ≡ true → is_among gs n ≡ true)
      → ((n : ℕ) (key : List ℕ) (id : ℕ) → is_context n armed ≡ true → list_any (is_its key id n) fs ≡ true → list_any (is_its key id n) gs ≡ true)
      → keeps_facts fs armed ≡ true → keeps_facts gs armed ≡ true
  facts-still None among its facts = refl
  facts-still (Some armed) among its facts =
      let both = and_parts (is_added fs armed armed.added) (is_updated fs armed armed.added armed.updated) facts in
      and_from _ _ (added-still armed armed.added among both.0) (updated-still armed armed.added armed.updated its both.1)
