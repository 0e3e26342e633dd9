-- Deadlines of plain actors are of their fabrics.
use Rattle.std.proofs.Common.{◌≡◌, ℕ, ◌==◌, ◌&&◌, not, Bool, true, false, List, [], ◌∷◌, ◌++◌, Option, Some, Result, Ok, Err, refl, sym, ap, ◌∙◌, filter, length, nat_lt, append-nil, arith, bytes_eq, if◌then◌else◌}
use Rattle.std.specs.List.{find}
use Rattle.std.specs.Option.{option_map}
use Rattle.std.proofs.lemmas.List.Elements.{filter-append}
use Rattle.mt_im.specs.declared.fault.ImFault.{ImFault}
use Rattle.mt_model.specs.declared.tables.access.Actor.{Actor}
use Rattle.mt_model.specs.declared.node.action.PlainDeadline.{PlainDeadline}
use Rattle.mt_model.specs.declared.messages.message.Request.{Request}
use Rattle.mt_model.specs.declared.messages.message.Request.TheVariants as requests
use Rattle.mt_machine.specs.Isolation.{is_deadline_in}
use Rattle.mt_machine.specs.Lines.{deadline_at, deadline_of, has_room, is_deadline_of, later_by, with_deadline, without}
use Rattle.mt_machine.specs.Step.{is_late}

abbrev pub own_deadlines : ℕ → List PlainDeadline → List PlainDeadline
own_deadlines fabric ds = filter (is_deadline_in fabric) ds

-- An actor's own deadline is among those of its fabric.

one_found : (actor : Actor) (d : PlainDeadline) (ds : List PlainDeadline) (own : Bool) → (d.fabric == actor.fabric) ≡ own → find (is_deadline_of actor) (own_deadlines actor.fabric ds) ≡ find (is_deadline_of actor) ds
    → find (is_deadline_of actor) (own_deadlines actor.fabric (d ∷ ds)) ≡ find (is_deadline_of actor) (d ∷ ds)
one_found actor d ds true is again = rw (is, is) (ap (λ (rest : Option PlainDeadline). if d.node == actor.node && bytes_eq d.cats actor.cats then Some d else rest) again)
one_found actor d ds false is again = rw is again

found_own : (actor : Actor) (ds : List PlainDeadline) → find (is_deadline_of actor) (own_deadlines actor.fabric ds) ≡ find (is_deadline_of actor) ds
found_own actor [] = refl
found_own actor (d ∷ ds) = one_found actor d ds (d.fabric == actor.fabric) refl (found_own actor ds)

pub deadline-own : (actor : Actor) (ds : List PlainDeadline) → deadline_of actor (own_deadlines actor.fabric ds) ≡ deadline_of actor ds
deadline-own actor ds = ap (option_map (λ (d : PlainDeadline). d.until)) (found_own actor ds)

one_other : (actor : Actor) (d : PlainDeadline) (ds : List PlainDeadline) (own same : Bool) → (d.fabric == actor.fabric) ≡ own → (d.node == actor.node && bytes_eq d.cats actor.cats) ≡ same
    → own_deadlines actor.fabric (without actor (own_deadlines actor.fabric ds)) ≡ own_deadlines actor.fabric (without actor ds)
    → own_deadlines actor.fabric (without actor (own_deadlines actor.fabric (d ∷ ds))) ≡ own_deadlines actor.fabric (without actor (d ∷ ds))
one_other actor d ds true true is at again = rw (is, is, at) again
one_other actor d ds true false is at again = rw (is, is, at, is) (ap (λ (rest : List PlainDeadline). d ∷ rest) again)
one_other actor d ds false same is at again = rw (is, is) again

others_own : (actor : Actor) (ds : List PlainDeadline) → own_deadlines actor.fabric (without actor (own_deadlines actor.fabric ds)) ≡ own_deadlines actor.fabric (without actor ds)
others_own actor [] = refl
others_own actor (d ∷ ds) = one_other actor d ds (d.fabric == actor.fabric) (d.node == actor.node && bytes_eq d.cats actor.cats) refl refl (others_own actor ds)

pub room-own : (actor : Actor) (ds : List PlainDeadline) → has_room actor (own_deadlines actor.fabric ds) ≡ has_room actor ds
room-own actor ds = ap (λ (rest : List PlainDeadline). nat_lt (length rest) 4) (others_own actor ds)

-- What a line leaves of its fabric's deadlines is made of those before.

pub own_twice : (fabric : ℕ) (ds : List PlainDeadline) → own_deadlines fabric (own_deadlines fabric ds) ≡ own_deadlines fabric ds
own_twice fabric [] = refl
own_twice fabric (d ∷ ds) = grind (arith, own_twice fabric ds)

module _ (asking : Actor) where
  left_more : (ds : List PlainDeadline) (until : ℕ) → own_deadlines asking.fabric (without asking (own_deadlines asking.fabric ds) ++ deadline_at asking until ∷ []) ≡ own_deadlines asking.fabric (without asking ds ++ deadline_at asking until ∷ [])
  left_more ds until =
      filter-append (is_deadline_in asking.fabric) (without asking (own_deadlines asking.fabric ds)) (deadline_at asking until ∷ [])
      ∙ ap (λ (rest : List PlainDeadline). rest ++ own_deadlines asking.fabric (deadline_at asking until ∷ [])) (others_own asking ds)
      ∙ sym (filter-append (is_deadline_in asking.fabric) (without asking ds) (deadline_at asking until ∷ []))

  left_if : (more : Bool) (ds : List PlainDeadline) (until : ℕ)
      → own_deadlines asking.fabric (if more then without asking (own_deadlines asking.fabric ds) ++ deadline_at asking until ∷ [] else without asking (own_deadlines asking.fabric ds))
      ≡ own_deadlines asking.fabric (if more then without asking ds ++ deadline_at asking until ∷ [] else without asking ds)
  left_if true ds until = left_more ds until
  left_if false ds until = others_own asking ds

  pub left_by : (ds : List PlainDeadline) (ms : ℕ) (asked : Result Request ImFault)
      → own_deadlines asking.fabric (with_deadline asking (own_deadlines asking.fabric ds) ms asked) ≡ own_deadlines asking.fabric (with_deadline asking ds ms asked)
  left_by ds ms (Ok (requests.Status code)) = others_own asking ds
  left_by ds ms (Ok (requests.Read paths wanted minimum filtered versions)) = others_own asking ds
  left_by ds ms (Ok (requests.Subscribe keep floor ceiling paths wanted minimum filtered versions)) = others_own asking ds
  left_by ds ms (Ok (requests.Write suppress timed items)) = others_own asking ds
  left_by ds ms (Ok (requests.Invoke suppress timed command fields)) = others_own asking ds
  left_by ds ms (Ok (requests.Timed wait)) =
      (λ i. own_deadlines asking.fabric (if room-own asking ds i && not (is_late (deadline-own asking ds i) ms) then without asking (own_deadlines asking.fabric ds) ++ deadline_at asking (later_by wait ms) ∷ [] else without asking (own_deadlines asking.fabric ds)))
      ∙ left_if (has_room asking ds && not (is_late (deadline_of asking ds) ms)) ds (later_by wait ms)
  left_by ds ms (Err fault) = others_own asking ds

-- The deadlines of other fabrics stay.

module _ (fabric : ℕ) (asking : Actor) (other : (asking.fabric == fabric) ≡ false) where
  kept_without : (ds : List PlainDeadline) → own_deadlines fabric (without asking ds) ≡ own_deadlines fabric ds
  kept_without [] = refl
  kept_without (d ∷ ds) = grind (arith, kept_without ds, other)

  kept_more : (ds : List PlainDeadline) (until : ℕ) → own_deadlines fabric (without asking ds ++ deadline_at asking until ∷ []) ≡ own_deadlines fabric ds
  kept_more ds until =
      filter-append (is_deadline_in fabric) (without asking ds) (deadline_at asking until ∷ [])
      ∙ ap (λ (end : List PlainDeadline). own_deadlines fabric (without asking ds) ++ end) (rw other refl)
      ∙ append-nil (own_deadlines fabric (without asking ds))
      ∙ kept_without ds

  kept_if : (more : Bool) (ds : List PlainDeadline) (until : ℕ) → own_deadlines fabric (if more then without asking ds ++ deadline_at asking until ∷ [] else without asking ds) ≡ own_deadlines fabric ds
  kept_if true ds until = kept_more ds until
  kept_if false ds until = kept_without ds

  pub kept_by : (ds : List PlainDeadline) (ms : ℕ) (asked : Result Request ImFault) → own_deadlines fabric (with_deadline asking ds ms asked) ≡ own_deadlines fabric ds
  kept_by ds ms (Ok (requests.Status code)) = kept_without ds
  kept_by ds ms (Ok (requests.Read paths wanted minimum filtered versions)) = kept_without ds
  kept_by ds ms (Ok (requests.Subscribe keep floor ceiling paths wanted minimum filtered versions)) = kept_without ds
  kept_by ds ms (Ok (requests.Write suppress timed items)) = kept_without ds
  kept_by ds ms (Ok (requests.Invoke suppress timed command fields)) = kept_without ds
  kept_by ds ms (Ok (requests.Timed wait)) = kept_if (has_room asking ds && not (is_late (deadline_of asking ds) ms)) ds (later_by wait ms)
  kept_by ds ms (Err fault) = kept_without ds
