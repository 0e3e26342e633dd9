-- The room that a plan takes for the steps of an answer is room for each of them as it is made.
use Rattle.std.proofs.Common.{◌≡◌, ℕ, ◌+◌, ◌≤◌, ◌==◌, ◌&&◌, inl, inr, Bool, true, false, not, if◌then◌else◌, List, [], ◌∷◌, ◌++◌, refl, sym, ap, ◌∙◌, filter, length, map, append_assoc, arith, Result, Ok, Err, IfOk, vec_capacity}
use Rattle.std.specs.Prelude.{⊤}
use Rattle.std.specs.Global.{Vec}
use Rattle.std.specs.List.{sum_by}
use Rattle.std.proofs.lemmas.Grind.{common_steps}
use Rattle.std.proofs.lemmas.Bool.{cases_Bool}
use Rattle.std.proofs.lemmas.List.Elements.{filter-append}
use Rattle.std.proofs.lemmas.List.Sums.{sum_by-append, sum_by-cons}
use Rattle.mt_tlv.specs.declared.value.Value.{Value}
use Rattle.mt_model.specs.rows.Order.{row_at}
use Rattle.mt_model.specs.rows.Setting.{is_above, is_below, is_other_at}
use Rattle.mt_model.specs.rows.Sight.{same_place}
use Rattle.mt_model.specs.declared.node.action.NodeStep.{NodeStep}
use Rattle.mt_model.specs.declared.node.action.NodeStep.TheVariants.{SetRow, SetEntries, PutNetwork, RemoveNetwork, ConnectNetwork, MoveNetwork, Arm, Renew, Expire, Complete, AddRoot, Csr, AddFabric, UpdateFabric, RemoveFabric, Label, Emit}
use Rattle.mt_model.specs.declared.rows.place.Place.{Place}
use Rattle.mt_model.specs.declared.rows.place.Row.{Row}
use Rattle.mt_node.specs.Plan.{HaveRoom, IsAmple, IsRoomFor, others_in, rows_behind}

-- Lists.

joined_length : {X : Type 0} (xs ys : List X) → length (xs ++ ys) ≡ length xs + length ys
joined_length [] ys = omega arith
joined_length (x ∷ xs) ys = omega (arith, joined_length xs ys)

-- what passes one of two tests that exclude each other
parted : {X : Type 0} (p a b : X → Bool) → ((x : X) → a x ≡ true → b x ≡ false) → (xs : List X) → length (filter p (filter a xs)) + length (filter p (filter b xs)) ≤ length (filter p xs)
parted p a b apart [] = omega arith
parted {X} p a b apart (x ∷ xs) = elim (cases_Bool (a x)) [
  | inl e ↦
      elim (cases_Bool (p x)) [
        | inl f ↦ rw (apart x e, e, f) (omega (arith, parted p a b apart xs))
        | inr f ↦ rw (apart x e, e, f) (omega (arith, parted p a b apart xs))
      ]
  | inr e ↦
      elim (cases_Bool (b x)) [
        | inl g ↦ elim (cases_Bool (p x)) [
          | inl f ↦ rw (e, g, f) (omega (arith, parted p a b apart xs))
          | inr f ↦ rw (e, g, f) (omega (arith, parted p a b apart xs))
        ]
        | inr g ↦ elim (cases_Bool (p x)) [
          | inl f ↦ rw (e, g, f) (omega (arith, parted p a b apart xs))
          | inr f ↦ rw (e, g, f) (omega (arith, parted p a b apart xs))
        ]
      ]
]

-- Rows of others that a step adds at a place.

excluded : (place : Place) (fabric : ℕ) (row : Row) → is_below place fabric row ≡ true → is_above place fabric row ≡ false
excluded place fabric row e = grind (arith, common_steps)

module _ (place : Place) (fabric : ℕ) where
  abbrev pub others : List Row → ℕ
  others rows = length (filter (is_other_at place fabric) rows)

  new_others : (at : Place) (whose : ℕ) (b : Bool) → (same_place at place && not (whose == fabric)) ≡ b → (values : List Value) → others (map (row_at at whose) values) ≡ (if b then length values else 0)
  new_others at whose true e [] = refl
  new_others at whose false e [] = refl
  new_others at whose true e (value ∷ values) = rw e (omega (arith, new_others at whose true e values))
  new_others at whose false e (value ∷ values) = rw e (new_others at whose false e values)

  pub step_adds : (step : NodeStep) (rows : List Row) → others (rows_behind step rows) ≤ others rows + others_in place fabric step
  step_adds (SetRow at whose values) rows =
      let lower : List Row = filter (is_below at whose) rows in
      let new : List Row = map (row_at at whose) values in
      let higher : List Row = filter (is_above at whose) rows in
      let first : others (lower ++ (new ++ higher)) ≡ others lower + others (new ++ higher)
      = ap length (filter-append (is_other_at place fabric) lower (new ++ higher)) ∙ joined_length (filter (is_other_at place fabric) lower) (filter (is_other_at place fabric) (new ++ higher)) in
      let rest : others (new ++ higher) ≡ others new + others higher
      = ap length (filter-append (is_other_at place fabric) new higher) ∙ joined_length (filter (is_other_at place fabric) new) (filter (is_other_at place fabric) higher) in
      let added : others new ≡ others_in place fabric (SetRow at whose values) = new_others at whose (same_place at place && not (whose == fabric)) refl values in
      let kept : others lower + others higher ≤ others rows = parted (is_other_at place fabric) (is_below at whose) (is_above at whose) (excluded at whose) rows in
      omega (arith, first, rest, added, kept)
  step_adds (SetEntries whose entries) rows = omega arith
  step_adds (PutNetwork id secret) rows = omega arith
  step_adds (RemoveNetwork id) rows = omega arith
  step_adds (ConnectNetwork id) rows = omega arith
  step_adds (MoveNetwork id index) rows = omega arith
  step_adds (Arm owner seconds) rows = omega arith
  step_adds (Renew seconds) rows = omega arith
  step_adds Expire rows = omega arith
  step_adds Complete rows = omega arith
  step_adds (AddRoot cert) rows = omega arith
  step_adds (Csr nonce update) rows = omega arith
  step_adds (AddFabric joins) rows = omega arith
  step_adds (UpdateFabric index given) rows = omega arith
  step_adds (RemoveFabric index) rows = omega arith
  step_adds (Label index label) rows = omega arith
  step_adds (Emit at-event priority whom value) rows = omega arith

-- Ample rooms.

module _ (rows : List Row) (all : List NodeStep) where
  -- one ample room for each of these steps
  abbrev pub AreAmple : List NodeStep → List (Vec Row) → Type 0
  AreAmple [] [] = ⊤
  AreAmple [] (room ∷ rooms) = ⊥
  AreAmple (step ∷ steps) [] = ⊥
  AreAmple (step ∷ steps) (room ∷ rooms) = IsAmple rows all step room × AreAmple steps rooms

  pub ample_more : (steps : List NodeStep) (rooms : List (Vec Row)) (step : NodeStep) (room : Vec Row) → AreAmple steps rooms → IsAmple rows all step room → AreAmple (steps ++ step ∷ []) (rooms ++ room ∷ [])
  ample_more [] [] step room ample one = (one, tt)
  ample_more [] (first ∷ rooms) step room ample one = absurd ample
  ample_more (next ∷ steps) [] step room ample one = absurd ample
  ample_more (next ∷ steps) (first ∷ rooms) step room ample one = (ample.0, ample_more steps rooms step room ample.1 one)

  module _ (done : List NodeStep) (now : List Row)
      (bound : (place : Place) (fabric : ℕ) → others place fabric now ≤ others place fabric rows + sum_by (others_in place fabric) done) where
    -- the steps so far, and those to come
    sum_of : (steps : List NodeStep) → all ≡ done ++ steps → (place : Place) (fabric : ℕ) → sum_by (others_in place fabric) done ≤ sum_by (others_in place fabric) all
    sum_of steps is place fabric =
        let sums : sum_by (others_in place fabric) all ≡ sum_by (others_in place fabric) done + sum_by (others_in place fabric) steps = ap (sum_by (others_in place fabric)) is ∙ sum_by-append (others_in place fabric) done steps in
        omega (arith, sums)

    room_now : (step : NodeStep) (steps : List NodeStep) (room : Vec Row) → all ≡ done ++ steps → IsAmple rows all step room → IsRoomFor now step room
    room_now (SetRow place fabric values) steps room is ample = (ample.0, omega (arith, ample.1, bound place fabric, sum_of steps is place fabric))
    room_now (SetEntries whose entries) steps room is ample = tt
    room_now (PutNetwork id secret) steps room is ample = tt
    room_now (RemoveNetwork id) steps room is ample = tt
    room_now (ConnectNetwork id) steps room is ample = tt
    room_now (MoveNetwork id index) steps room is ample = tt
    room_now (Arm owner seconds) steps room is ample = tt
    room_now (Renew seconds) steps room is ample = tt
    room_now Expire steps room is ample = tt
    room_now Complete steps room is ample = tt
    room_now (AddRoot cert) steps room is ample = tt
    room_now (Csr nonce update) steps room is ample = tt
    room_now (AddFabric joins) steps room is ample = tt
    room_now (UpdateFabric index given) steps room is ample = tt
    room_now (RemoveFabric index) steps room is ample = tt
    room_now (Label index label) steps room is ample = tt
    room_now (Emit at-event priority whom value) steps room is ample = tt

    bound_behind : (step : NodeStep) (place : Place) (fabric : ℕ) → others place fabric (rows_behind step now) ≤ others place fabric rows + sum_by (others_in place fabric) (done ++ step ∷ [])
    bound_behind step place fabric =
        let sums : sum_by (others_in place fabric) (done ++ step ∷ []) ≡ sum_by (others_in place fabric) done + sum_by (others_in place fabric) (step ∷ []) = sum_by-append (others_in place fabric) done (step ∷ []) in
        let one : sum_by (others_in place fabric) (step ∷ []) ≡ others_in place fabric step + sum_by (others_in place fabric) [] = sum_by-cons (others_in place fabric) step [] in
        omega (arith, sums, one, bound place fabric, step_adds place fabric step now)

  have_room : (done : List NodeStep) (now : List Row) → ((place : Place) (fabric : ℕ) → others place fabric now ≤ others place fabric rows + sum_by (others_in place fabric) done)
      → (steps : List NodeStep) → all ≡ done ++ steps → (rooms : List (Vec Row)) → AreAmple steps rooms → HaveRoom now steps rooms
  have_room done now bound [] is rooms ample = tt
  have_room done now bound (step ∷ steps) is [] ample = absurd ample
  have_room done now bound (step ∷ steps) is (room ∷ rooms) ample = (
    room_now done now bound step (step ∷ steps) room is ample.0,
    have_room (done ++ step ∷ []) (rows_behind step now) (bound_behind done now bound step) steps (is ∙ sym (append_assoc done (step ∷ []) steps)) rooms ample.1,
  )

  -- ample rooms are room for each step
  pub ample_rooms : (rooms : List (Vec Row)) → AreAmple all rooms → HaveRoom rows all rooms
  ample_rooms rooms ample = have_room [] rows (λ place fabric. omega arith) all refl rooms ample

-- what is taken for a step that sets rows
pub ample_of : {E : Type 0} (result : Result (Vec Row) E) (rows : List Row) (steps : List NodeStep) (place : Place) (fabric : ℕ) (values : List Value) (capacity : ℕ)
    → capacity ≡ (length (filter (is_other_at place fabric) rows) + length values) + sum_by (others_in place fabric) steps
    → IfOk result (λ room. room.items ≡ []) → IfOk result (λ room. vec_capacity room ≡ capacity) → IfOk result (IsAmple rows steps (SetRow place fabric values))
ample_of (Ok room) rows steps place fabric values capacity is empty exact = (empty, omega (arith, is, exact))
ample_of (Err e) rows steps place fabric values capacity is empty exact = empty
