-- By a step at most one fabric leaves the table: the first that is not there any more.
use Rattle.std.proofs.Common.{◌≡◌, ℕ, ◌==◌, ◌&&◌, ◌||◌, inl, inr, not, is_none, Bool, true, false, List, [], ◌∷◌, Option, Some, None, refl, sym, ap, ◌∙◌, subst, unwrap_or, if◌then◌else◌}
use Rattle.std.proofs.lemmas.Bool.{cases_Bool, eqb-true, or_right}
use Rattle.mt_fabrics.specs.Table.{changed, has_index, label_refusal, least_unused, with_credentials, with_index, with_label}
use Rattle.mt_failsafe.specs.Notes as notes
use Rattle.mt_model.specs.Optional.{is_that}
use Rattle.mt_model.specs.tables.Leaving.{stays}
use Rattle.mt_model.specs.declared.node.action.NodeStep.{NodeStep}
use Rattle.mt_model.specs.declared.node.action.NodeStep.TheVariants.{SetRow, SetEntries, PutNetwork, RemoveNetwork, ConnectNetwork, MoveNetwork, Arm, Renew, Expire, Complete, AddRoot, Csr, AddFabric, UpdateFabric, RemoveFabric, Label, Emit}
use Rattle.mt_model.specs.declared.node.state.NodeState.{NodeState}
use Rattle.mt_model.specs.declared.tables.access.Actor.{Actor}
use Rattle.mt_model.specs.declared.tables.fabric.Credentials.{Credentials}
use Rattle.mt_model.specs.declared.tables.fabric.Fabric.{Fabric}
use Rattle.mt_model.specs.declared.tables.network.Armed.{Armed}
use Rattle.mt_machine.specs.Effects.{after, after_all, completed, joined, labelled_in, may_join, may_leave, may_update, trusting, updated_in, with_request, without_fabric}
use Rattle.mt_machine.specs.Leaving.{has_left}
use Rattle.mt_machine.specs.Rollback.{added_in, rollback, rolled_back}
use Rattle.mt_machine.specs.State.{is_among}
use Rattle.mt_machine.specs.Step.{gone_between}
use Rattle.mt_machine.proofs.Expired.{among-behind}
use Rattle.mt_machine.proofs.JoinedValid.{placed-any}
use Rattle.mt_machine.proofs.LeftValid.{among-left}
use Rattle.mt_machine.proofs.OtherFabrics.{eq-turned, same_number}
use Rattle.mt_machine.proofs.Counting.{impossible}

-- Every fabric but one at most is still there.
abbrev StayBut : ℕ → List Fabric → List Fabric → Type 0
StayBut one before now = (n : ℕ) → (n == one) ≡ false → is_among before n ≡ true → is_among now n ≡ true

and_not : (b : Bool) → (b && false) ≡ false
and_not true = refl
and_not false = refl

-- of these all but one at most are still there
module _ (one : ℕ) (now : List Fabric) where
  -- the one that is not there any more is it
  is-one : (before : List Fabric) → StayBut one before now → (n : ℕ) → is_among before n ≡ true → is_among now n ≡ false → n ≡ one
  is-one before stay n there not_now = elim (cases_Bool (n == one)) [
    | inl its ↦ eqb-true n one its
    | inr other ↦ impossible (sym not_now ∙ stay n other there)
  ]

  tail : (f : Fabric) (before : List Fabric) → StayBut one (f ∷ before) now → StayBut one before now
  tail f before stay n other there = stay n other (or_right _ _ there)

  -- behind the first that is not there any more, all are
  none-more : (first fabric : ℕ) (before : List Fabric) → first ≡ one → (first == fabric) ≡ false → StayBut one before now → (is_among before fabric && not (is_among now fabric)) ≡ false
  none-more first fabric before is apart stay = elim (cases_Bool (is_among before fabric)) [
    | inl there ↦
        let other : (fabric == one) ≡ false = eq-turned fabric one ∙ ap (λ (n : ℕ). n == fabric) (sym is) ∙ apart in
        rw (there, stay fabric other there) refl
    | inr not_there ↦ rw not_there refl
  ]

  pub left-first : (before : List Fabric) → StayBut one before now → (fabric : ℕ) → (is_among before fabric && not (is_among now fabric)) ≡ is_that fabric (gone_between before now)
  left-first [] stay fabric = refl
  left-first (f ∷ before) stay fabric =
      let rest = left-first before (tail f before stay) fabric in
      elim (cases_Bool (is_among now f.index)) [
        | inl still ↦ elim (cases_Bool (f.index == fabric)) [
          | inl its ↦
              let here : is_among now fabric ≡ true = subst (λ (n : ℕ). is_among now n ≡ true) (eqb-true f.index fabric its) still in
              let nothing : (is_among before fabric && not (is_among now fabric)) ≡ false = rw here (and_not (is_among before fabric)) in
              rw (still, its, here) (sym nothing ∙ rest)
          | inr other ↦ rw (still, other) rest
        ]
        | inr not_now ↦ elim (cases_Bool (f.index == fabric)) [
          | inl its ↦
              let gone : is_among now fabric ≡ false = subst (λ (n : ℕ). is_among now n ≡ false) (eqb-true f.index fabric its) not_now in
              rw (not_now, its, gone) refl
          | inr other ↦
              let first = is-one (f ∷ before) stay f.index (rw (same_number f.index) refl) not_now in
              rw (not_now, other) (none-more f.index fabric before first other (tail f before stay))
        ]
      ]

-- What stays.

all-stay : (one : ℕ) (fs : List Fabric) → StayBut one fs fs
all-stay one fs n other there = there

changed-among : (index : ℕ) (change : Fabric → Fabric) → ((f : Fabric) → (change f).index ≡ f.index) → (fs : List Fabric) (n : ℕ) → is_among (changed index change fs) n ≡ is_among fs n
changed-among index change keeps [] n = refl
changed-among index change keeps (f ∷ fs) n = ap (λ (b : Bool). b || is_among (changed index change fs) n) (at (has_index index f)) ∙ ap (λ (b : Bool). f.index == n || b) (changed-among index change keeps fs n)
  where
    at : (this : Bool) → ((if this then change f else f).index == n) ≡ (f.index == n)
    at true = ap (λ (m : ℕ). m == n) (keeps f)
    at false = refl

-- the one that an expiry takes away
abbrev taken_away : Option Armed → ℕ
taken_away armed = unwrap_or (added_in armed) 0

stays-but : (added : Option ℕ) (n : ℕ) → (n == unwrap_or added 0) ≡ false → stays added n ≡ true
stays-but None n other = refl
stays-but (Some a) n other = ap not (eq-turned a n ∙ other)

behind-stay : (armed : Option Armed) (s : NodeState) → StayBut (taken_away armed) s.fabrics (rolled_back armed s).fabrics
behind-stay None s n other there = there
behind-stay (Some armed) s n other there = among-behind armed.added armed.updated armed.saved_credentials n s.fabrics ∙ rw (stays-but armed.added n other) there

completed-fabrics : (armed : Option Armed) (s : NodeState) → (completed armed s).fabrics ≡ s.fabrics
completed-fabrics None s = refl
completed-fabrics (Some armed) s = refl

trusting-fabrics : (cert : List ℕ) (s : NodeState) → (trusting cert s).fabrics ≡ s.fabrics
trusting-fabrics cert s = elim (cases_Bool (notes.may_note_root s.armed)) [ inl may ↦ rw may refl | inr not_now ↦ rw not_now refl ]

request-fabrics : (nonce : List ℕ) (update : Bool) (s : NodeState) → (with_request nonce update s).fabrics ≡ s.fabrics
request-fabrics nonce update s = elim (cases_Bool (notes.may_note_csr update s.armed)) [ inl may ↦ rw may refl | inr not_now ↦ rw not_now refl ]

joined-stay : (asker : Option Actor) (joins : Fabric) (s : NodeState) → StayBut 0 s.fabrics (joined asker joins s).fabrics
joined-stay asker joins s n other there = elim (cases_Bool (may_join joins s)) [
  | inl may ↦ rw may (placed-any (with_index (least_unused s.fabrics) joins) (has_index n) s.fabrics ∙ or_right _ _ there)
  | inr not_now ↦ rw not_now there
]

updated-stay : (index : ℕ) (given : Credentials) (s : NodeState) → StayBut 0 s.fabrics (updated_in index given s).fabrics
updated-stay index given s n other there = elim (cases_Bool (may_update index given s)) [
  | inl may ↦ rw may (changed-among index (with_credentials given) (λ f. refl) s.fabrics n ∙ there)
  | inr not_now ↦ rw not_now there
]

removed-stay : (index : ℕ) (s : NodeState) → StayBut index s.fabrics (without_fabric index s).fabrics
removed-stay index s n other there = elim (cases_Bool (may_leave index s)) [
  | inl may ↦ rw may (among-left index s.fabrics n other there)
  | inr not_now ↦ rw not_now there
]

labelled-stay : (index : ℕ) (label : List ℕ) (s : NodeState) → StayBut 0 s.fabrics (labelled_in index label s).fabrics
labelled-stay index label s n other there = elim (cases_Bool (is_none (label_refusal index label s.fabrics))) [
  | inl may ↦ rw may (changed-among index (with_label label) (λ f. refl) s.fabrics n ∙ there)
  | inr not_now ↦ rw not_now there
]

-- The laws.

as-before : (fabric : ℕ) (s t : NodeState) → t.fabrics ≡ s.fabrics → has_left s t fabric ≡ is_that fabric (gone_between s.fabrics t.fabrics)
as-before fabric s t same = left-first 0 t.fabrics s.fabrics (subst (StayBut 0 s.fabrics) (sym same) (all-stay 0 s.fabrics)) fabric

pub left_is_gone : (fabric : ℕ) (asker : Option Actor) (step : NodeStep) (s : NodeState) → has_left s (after asker step s) fabric ≡ is_that fabric (gone_between s.fabrics (after asker step s).fabrics)
left_is_gone fabric asker (SetRow place whose values) s = as-before fabric s (after asker (SetRow place whose values) s) refl
left_is_gone fabric asker (SetEntries whose entries) s = as-before fabric s (after asker (SetEntries whose entries) s) refl
left_is_gone fabric asker (PutNetwork id secret) s = as-before fabric s (after asker (PutNetwork id secret) s) refl
left_is_gone fabric asker (RemoveNetwork id) s = as-before fabric s (after asker (RemoveNetwork id) s) refl
left_is_gone fabric asker (ConnectNetwork id) s = as-before fabric s (after asker (ConnectNetwork id) s) refl
left_is_gone fabric asker (MoveNetwork id index) s = as-before fabric s (after asker (MoveNetwork id index) s) refl
left_is_gone fabric asker (Arm owner seconds) s = as-before fabric s (after asker (Arm owner seconds) s) refl
left_is_gone fabric asker (Renew seconds) s = as-before fabric s (after asker (Renew seconds) s) refl
left_is_gone fabric asker Expire s = left-first (taken_away s.armed) (rollback s).fabrics s.fabrics (behind-stay s.armed s) fabric
left_is_gone fabric asker Complete s = as-before fabric s (completed s.armed s) (completed-fabrics s.armed s)
left_is_gone fabric asker (AddRoot cert) s = as-before fabric s (trusting cert s) (trusting-fabrics cert s)
left_is_gone fabric asker (Csr nonce update) s = as-before fabric s (with_request nonce update s) (request-fabrics nonce update s)
left_is_gone fabric asker (AddFabric joins) s = left-first 0 (joined asker joins s).fabrics s.fabrics (joined-stay asker joins s) fabric
left_is_gone fabric asker (UpdateFabric index given) s = left-first 0 (updated_in index given s).fabrics s.fabrics (updated-stay index given s) fabric
left_is_gone fabric asker (RemoveFabric index) s = left-first index (without_fabric index s).fabrics s.fabrics (removed-stay index s) fabric
left_is_gone fabric asker (Label index label) s = left-first 0 (labelled_in index label s).fabrics s.fabrics (labelled-stay index label s) fabric
left_is_gone fabric asker (Emit place priority whose value) s = as-before fabric s s refl

-- an expiry that takes none away
none-away : (armed : Option Armed) (s : NodeState) → added_in armed ≡ None → (n : ℕ) → is_among s.fabrics n ≡ true → is_among (rolled_back armed s).fabrics n ≡ true
none-away None s none n there = there
none-away (Some armed) s none n there = among-behind armed.added armed.updated armed.saved_credentials n s.fabrics ∙ rw (ap (λ (added : Option ℕ). stays added n) none) there

pub left_behind_expiry : (fabric : ℕ) (asker : Option Actor) (index : ℕ) (s : NodeState) → added_in s.armed ≡ None
    → has_left s (after_all asker (Expire ∷ RemoveFabric index ∷ []) s) fabric ≡ is_that fabric (gone_between s.fabrics (after_all asker (Expire ∷ RemoveFabric index ∷ []) s).fabrics)
left_behind_expiry fabric asker index s none =
    left-first index (without_fabric index (rollback s)).fabrics s.fabrics (λ n other there. removed-stay index (rollback s) n other (none-away s.armed s none n there)) fabric
