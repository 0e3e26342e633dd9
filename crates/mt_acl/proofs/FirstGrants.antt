-- The first entry that grants, in the words of the contract.
use Rattle.std.proofs.Common.{cond, nat_lt, ◌||◌, length, sym, ap, ℕ, ◌≡◌, ◌&&◌, Bool, true, false, List, [], Some, None, filter, refl, arith}
use Rattle.std.specs.Prelude.{position, All, IsFalse}
use Rattle.std.specs.List.{position_or_len}
use Rattle.std.proofs.lemmas.List.Quantifiers.{position-Some}
use Rattle.std.proofs.lemmas.Option.{slice_get-get_or}
use Rattle.std.proofs.lemmas.List.Sums.{fails_before_first}
use Rattle.std.proofs.lemmas.List.Folds.{list_any_at, list_any_none}
use Rattle.std.proofs.lemmas.Map.Views.{any-filter_same}
use Rattle.std.proofs.lemmas.Bool.{ltb-false}
use Rattle.std.proofs.Math.ListN.{get_or}
use Rattle.mt_model.specs.declared.tables.access.AclEntry.{AclEntry}
use Rattle.mt_model.specs.declared.tables.access.Actor.{Actor}
use Rattle.mt_model.specs.declared.tables.access.Auth.TheVariants.{Pase}
use Rattle.mt_model.specs.declared.tables.access.Privilege.{Privilege}
use Rattle.mt_model.specs.declared.tables.access.Privilege.TheVariants.{View}
use Rattle.mt_model.specs.declared.rows.place.Place.{Place}
use Rattle.mt_acl.specs.Access.{IsFirstToGrant, implicit_grants, is_granted, entry_grants, own_entry_grants, is_own}

-- an entry for reads past the end
nobody : AclEntry
nobody = record { privilege = View; auth = Pase; subjects = []; targets = []; fabric = 0 }

pub first-position : (entries : List AclEntry) (actor : Actor) (place : Place) (asked : Privilege) (index : ℕ) → position (own_entry_grants actor place asked) entries ≡ Some index → IsFirstToGrant entries actor place asked index
first-position entries actor place asked index e =
    let found = position-Some (own_entry_grants actor place asked) entries index nobody e in record {
      entry = get_or entries index nobody;
      stands = slice_get-get_or entries index nobody found.0;
      grants = found.1;
      none_before = λ k d low high. (position-Some (own_entry_grants actor place asked) entries index d e).2 k high;
    }

none-false : (b : Bool) (n : ℕ) → cond b (Some n) None ≡ None → b ≡ false
none-false true n e = cc
none-false false n e = refl

-- where there is no first, none passes
pub position-None : {X : Type 0} (p : X → Bool) (xs : List X) → position p xs ≡ None → All (λ x. IsFalse (p x)) xs
position-None p xs e =
    let past = ltb-false _ _ (none-false (nat_lt (position_or_len p xs) (length xs)) (position_or_len p xs) e) in
    λ k d within. fails_before_first p xs k d (omega arith)

pub granted-Some : (entries : List AclEntry) (actor : Actor) (place : Place) (asked : Privilege) (scoped_change : Bool) (index : ℕ) → implicit_grants actor scoped_change ≡ false → position (own_entry_grants actor place asked) entries ≡ Some index → true ≡ is_granted entries actor place asked scoped_change
granted-Some entries actor place asked scoped_change index implicit e =
    let p = own_entry_grants actor place asked in
    let found = position-Some p entries index nobody e in
    rw implicit (sym (list_any_at p entries index nobody found.0 found.1))

pub granted-None : (entries : List AclEntry) (actor : Actor) (place : Place) (asked : Privilege) (scoped_change : Bool) → implicit_grants actor scoped_change ≡ false → position (own_entry_grants actor place asked) entries ≡ None → false ≡ is_granted entries actor place asked scoped_change
granted-None entries actor place asked scoped_change implicit e =
    let p = own_entry_grants actor place asked in
    rw implicit (sym (list_any_none p entries (position-None p entries e)))

-- where there is a first, not all fail
pub position-Some-All : {X : Type 0} (p : X → Bool) (xs : List X) (index : ℕ) (d : X) → position p xs ≡ Some index → All (λ x. IsFalse (p x)) xs → ⊥
position-Some-All p xs index d e none =
    let found = position-Some p xs index d e in
    let not_here : p (get_or xs index d) ≡ false = none index d found.0 in cc (found.1, not_here)

pub unless-Some : (entries : List AclEntry) (actor : Actor) (place : Place) (asked : Privilege) (index : ℕ) → position (own_entry_grants actor place asked) entries ≡ Some index → All (λ entry. IsFalse (own_entry_grants actor place asked entry)) entries → ⊥
unless-Some entries actor place asked index = position-Some-All (own_entry_grants actor place asked) entries index nobody

and-true-left : (a b : Bool) → (a && b) ≡ true → a ≡ true
and-true-left true b e = refl
and-true-left false b e = cc

-- the entries of other fabrics make no difference
pub is_granted-own : (entries : List AclEntry) (actor : Actor) (place : Place) (asked : Privilege) (scoped_change : Bool) → is_granted entries actor place asked scoped_change ≡ is_granted (filter (is_own actor) entries) actor place asked scoped_change
is_granted-own entries actor place asked scoped_change =
    let p = own_entry_grants actor place asked in
    let own : (entry : AclEntry) → p entry ≡ true → is_own actor entry ≡ true = λ entry yes. and-true-left (is_own actor entry) (entry_grants actor place asked entry) yes in
    ap (λ any. implicit_grants actor scoped_change || any) (sym (any-filter_same p (is_own actor) true own entries))
