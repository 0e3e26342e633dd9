-- Steps on networks leave a valid state valid.
use Rattle.std.proofs.Common.{◌≡◌, ℕ, zero, suc, ◌+◌, ◌≤◌, ◌&&◌, ◌++◌, inl, inr, not, nat_le, bytes_eq, Bool, true, false, List, [], ◌∷◌, length, refl, sym, ap, ◌∙◌, filter, map, take, drop, length-append, arith}
use Rattle.std.proofs.lemmas.Bool.{and_from, and_parts, both_ways, cases_Bool, cond_both, false_from_ne_true, leb-false, leb-true, le-leb, not_from_false, not-true, or_from, or_parts}
use Rattle.std.proofs.lemmas.List.Filters.{length-filter_both}
use Rattle.std.proofs.lemmas.List.Folds.{list_all-append, list_all-map, list_any-append}
use Rattle.std.proofs.lemmas.Slice.Eq.{bytes_eq-Decides}
use Rattle.std.specs.List.{list_all, list_any}
use Rattle.mt_model.specs.texts.Config.{has_up_to, none_alike}
use Rattle.mt_model.specs.declared.node.state.NodeState.{NodeState}
use Rattle.mt_model.specs.declared.tables.network.Network.{Network}
use Rattle.mt_commission.specs.NetworkCommissioning.{has_id}
use Rattle.mt_machine.specs.Effects.{connected_to, moved_to, others_than, with_network, with_new, with_secret}
use Rattle.mt_machine.specs.State.{IsValid, are_networks}
use Rattle.mt_model.specs.tables.Holding.{have_one_id, is_network}
use Rattle.mt_machine.proofs.Rolled.{none-filter, none-map}
use Rattle.mt_machine.proofs.ValidParts.{its_armed, its_entries, its_fabrics, its_plain, its_roots, its_rows, its_sessions, with-parts}
use Rattle.mt_machine.proofs.Counting.{all-filter, all-weaker}

-- Lists.

pub length-map : {X Y : Type 0} (h : X → Y) (xs : List X) → length (map h xs) ≡ length xs
length-map h [] = refl
length-map h (x ∷ xs) = ap suc (length-map h xs)

pub length-kept : {X : Type 0} (keep : X → Bool) (xs : List X) → length (filter keep xs) ≤ length xs
length-kept keep [] = omega arith
length-kept keep (x ∷ xs) =
    let rest = length-kept keep xs in
    elim (cases_Bool (keep x)) [ inl kept ↦ rw kept (omega (arith, rest)) | inr gone ↦ rw gone (omega (arith, rest)) ]

-- some put among others, at any place
module _ {X : Type 0} (new : List X) where
  abbrev pub put : ℕ → List X → List X
  put index xs = take index xs ++ (new ++ drop index xs)

  put-length : (index : ℕ) (xs : List X) → length (put index xs) ≡ length new + length xs
  put-length zero xs = length-append new xs
  put-length (suc index) [] = length-append new []
  put-length (suc index) (x ∷ xs) =
      let rest = put-length index xs in
      omega (arith, rest)

  put-all : (p : X → Bool) (index : ℕ) (xs : List X) → list_all p new ≡ true → list_all p xs ≡ true → list_all p (put index xs) ≡ true
  put-all p zero xs these all = list_all-append p new xs ∙ and_from _ _ these all
  put-all p (suc index) [] these all = list_all-append p new [] ∙ and_from _ _ these refl
  put-all p (suc index) (x ∷ xs) these all =
      let both = and_parts (p x) (list_all p xs) all in
      and_from _ _ both.0 (put-all p index xs these both.1)

  put-any : (p : X → Bool) (index : ℕ) (xs : List X) → list_any p new ≡ false → list_any p xs ≡ false → list_any p (put index xs) ≡ false
  put-any p zero xs these none = list_any-append p new xs ∙ or_from _ _ these none
  put-any p (suc index) [] these none = list_any-append p new [] ∙ or_from _ _ these refl
  put-any p (suc index) (x ∷ xs) these none =
      let both = or_parts (p x) (list_any p xs) none in
      or_from _ _ both.0 (put-any p index xs these both.1)

-- those that pass a test are unlike those that do not
module _ {X : Type 0} (alike : X → X → Bool) (mine : X → Bool)
    (apart : (x y : X) → mine x ≡ true → mine y ≡ false → alike x y ≡ false) (turned : (x y : X) → mine x ≡ true → mine y ≡ false → alike y x ≡ false)
  where
    none-other : (x : X) (xs : List X) → mine x ≡ true → list_all (λ y. not (mine y)) xs ≡ true → list_any (alike x) xs ≡ false
    none-other x [] its all = refl
    none-other x (y ∷ xs) its all =
        let both = and_parts (not (mine y)) (list_all (λ z. not (mine z)) xs) all in
        or_from _ _ (apart x y its (not-true _ both.0)) (none-other x xs its both.1)

    none-mine : (y : X) (new : List X) → mine y ≡ false → list_all mine new ≡ true → list_any (alike y) new ≡ false
    none-mine y [] other all = refl
    none-mine y (x ∷ new) other all =
        let both = and_parts (mine x) (list_all mine new) all in
        or_from _ _ (turned x y both.0 other) (none-mine y new other both.1)

    append-apart : (new xs : List X) → list_all mine new ≡ true → list_all (λ y. not (mine y)) xs ≡ true → none_alike alike new ≡ true → none_alike alike xs ≡ true → none_alike alike (new ++ xs) ≡ true
    append-apart [] xs are others differ none = none
    append-apart (x ∷ new) xs are others differ none =
        let both = and_parts (mine x) (list_all mine new) are in
        let parts = and_parts (not (list_any (alike x) new)) (none_alike alike new) differ in
        and_from _ _
        (not_from_false _ (list_any-append (alike x) new xs ∙ or_from _ _ (not-true _ parts.0) (none-other x xs both.0 others)))
        (append-apart new xs both.1 others parts.1 none)

    put-apart : (new : List X) (index : ℕ) (xs : List X) → list_all mine new ≡ true → list_all (λ y. not (mine y)) xs ≡ true → none_alike alike new ≡ true → none_alike alike xs ≡ true → none_alike alike (put new index xs) ≡ true
    put-apart new zero xs are others differ none = append-apart new xs are others differ none
    put-apart new (suc index) [] are others differ none = append-apart new [] are refl differ refl
    put-apart new (suc index) (x ∷ xs) are others differ none =
        let both = and_parts (not (mine x)) (list_all (λ y. not (mine y)) xs) others in
        let parts = and_parts (not (list_any (alike x) xs)) (none_alike alike xs) none in
        and_from _ _
        (not_from_false _ (put-any new (alike x) index xs (none-mine x new (not-true _ both.0) are) (not-true _ parts.0)))
        (put-apart new index xs are both.1 differ parts.1)

pub all-passing : {X : Type 0} (p : X → Bool) (xs : List X) → list_all p (filter p xs) ≡ true
all-passing p [] = refl
all-passing p (x ∷ xs) = elim (cases_Bool (p x)) [
  | inl passes ↦ rw passes (and_from _ _ passes (all-passing p xs))
  | inr fails ↦ rw fails (all-passing p xs)
]

none-from-any : {X : Type 0} (p : X → Bool) (xs : List X) → list_any p xs ≡ false → list_all (λ x. not (p x)) xs ≡ true
none-from-any p [] none = refl
none-from-any p (x ∷ xs) none =
    let both = or_parts (p x) (list_any p xs) none in
    and_from _ _ (not_from_false _ both.0) (none-from-any p xs both.1)

-- What holds of networks.

record Hold (networks : List Network) : Type 0 where
  few : length networks ≤ 4
  forms : list_all is_network networks ≡ true
  differ : none_alike have_one_id networks ≡ true

held : (networks : List Network) → are_networks networks ≡ true → Hold networks
held networks are =
    let outer = and_parts (nat_le (length networks) 4) (list_all is_network networks && none_alike have_one_id networks) are in
    let inner = and_parts (list_all is_network networks) (none_alike have_one_id networks) outer.1 in
    record { few = leb-true _ _ outer.0; forms = inner.0; differ = inner.1 }

are_of : (networks : List Network) → Hold networks → are_networks networks ≡ true
are_of networks hold = and_from _ _ (le-leb _ _ hold.few) (and_from _ _ hold.forms hold.differ)

module _ (id : List ℕ) where
  abbrev is_other : Network → Bool
  is_other network = not (has_id id network)

  its_id : (n : Network) → has_id id n ≡ true → n.id ≡ id
  its_id n has = (bytes_eq-Decides n.id id).0 has

  unlike : (x y : Network) → has_id id x ≡ true → has_id id y ≡ false → have_one_id x y ≡ false
  unlike x y its other = false_from_ne_true (have_one_id x y) (λ alike.
      both_ways (has_id id y) other ((bytes_eq-Decides y.id id).1 (sym ((bytes_eq-Decides x.id y.id).0 alike) ∙ its_id x its)))

  unlike-turned : (x y : Network) → has_id id x ≡ true → has_id id y ≡ false → have_one_id y x ≡ false
  unlike-turned x y its other = false_from_ne_true (have_one_id y x) (λ alike.
      both_ways (has_id id y) other ((bytes_eq-Decides y.id id).1 ((bytes_eq-Decides y.id x.id).0 alike ∙ its_id x its)))

  -- those that differ from it
  pub others_hold : (networks : List Network) → are_networks networks ≡ true → are_networks (others_than id networks) ≡ true
  others_hold networks are =
      let hold = held networks are in
      are_of (others_than id networks) (record {
        few = omega (arith, hold.few, length-kept is_other networks);
        forms = all-filter is_network is_other networks hold.forms;
        differ = none-filter have_one_id is_other networks hold.differ;
      })

  -- a change that keeps the id, and the form
  changed_hold : (h : Network → Network) → ((n : Network) → (h n).id ≡ n.id) → ((n : Network) → is_network n ≡ true → is_network (h n) ≡ true) → (networks : List Network) → are_networks networks ≡ true → are_networks (map h networks) ≡ true
  changed_hold h same form networks are =
      let hold = held networks are in
      are_of (map h networks) (record {
        few = omega (arith, hold.few, length-map h networks);
        forms = list_all-map is_network h networks ∙ all-weaker is_network (λ n. is_network (h n)) form networks hold.forms;
        differ = none-map have_one_id h (λ (n : Network). true) (λ x y _ _. λ i. bytes_eq (same x i) (same y i)) networks (all-passed-all networks) hold.differ;
      })
    where
      all-passed-all : (ns : List Network) → list_all (λ (n : Network). true) ns ≡ true
      all-passed-all [] = refl
      all-passed-all (n ∷ ns) = all-passed-all ns

  pub connected_hold : (networks : List Network) → are_networks networks ≡ true → are_networks (map (connected_to id) networks) ≡ true
  connected_hold = changed_hold (connected_to id) (λ n. refl) (λ n form. form)

  pub moved_hold : (index : ℕ) (networks : List Network) → are_networks networks ≡ true → are_networks (moved_to id index networks) ≡ true
  moved_hold index networks are =
      let hold = held networks are in
      let mine = filter (has_id id) networks in
      let others = others_than id networks in
      are_of (moved_to id index networks) (record {
        few = omega (arith, hold.few, put-length mine index others, length-filter_both (has_id id) is_other (λ n. refl) networks);
        forms = put-all mine is_network index others (all-filter is_network (has_id id) networks hold.forms) (all-filter is_network is_other networks hold.forms);
        differ = put-apart have_one_id (has_id id) unlike unlike-turned mine index others (all-passing (has_id id) networks) (all-passing is_other networks)
            (none-filter have_one_id (has_id id) networks hold.differ) (none-filter have_one_id is_other networks hold.differ);
      })

  module _ (secret : List ℕ) (good : (has_up_to 32 id && nat_le (length secret) 64) ≡ true) where
    same_id : (n : Network) → (with_secret id secret n).id ≡ n.id
    same_id n = cond_both (has_id id n) (record n { secret = secret }) n (λ (m : Network). m.id ≡ n.id) (λ its. refl) (λ other. refl)

    new_form : (n : Network) → is_network n ≡ true → is_network (with_secret id secret n) ≡ true
    new_form n form =
        let both = and_parts (has_up_to 32 n.id) (nat_le (length n.secret) 64) form in
        cond_both (has_id id n) (record n { secret = secret }) n (λ (m : Network). is_network m ≡ true) (λ its. and_from _ _ both.0 (and_parts (has_up_to 32 id) (nat_le (length secret) 64) good).1) (λ other. form)

    abbrev new : Network
    new = record { id = id; secret = secret; connected = false }

    new_hold : (networks : List Network) → are_networks networks ≡ true → list_any (has_id id) networks ≡ false → nat_le 4 (length networks) ≡ false → are_networks (networks ++ new ∷ []) ≡ true
    new_hold networks are none room =
        let hold = held networks are in
        are_of (networks ++ new ∷ []) (record {
          few = omega (arith, leb-false 4 (length networks) room, length-append networks (new ∷ []));
          forms = list_all-append is_network networks (new ∷ []) ∙ and_from _ _ hold.forms (and_from _ _ good refl);
          differ = last_apart networks (none-from-any (has_id id) networks none) hold.differ;
        })
      where
        last_apart : (ns : List Network) → list_all is_other ns ≡ true → none_alike have_one_id ns ≡ true → none_alike have_one_id (ns ++ new ∷ []) ≡ true
        last_apart [] others differ = refl
        last_apart (n ∷ ns) others differ =
            let both = and_parts (is_other n) (list_all is_other ns) others in
            let parts = and_parts (not (list_any (have_one_id n) ns)) (none_alike have_one_id ns) differ in
            let last : list_any (have_one_id n) (new ∷ []) ≡ false = or_from _ _ (not-true _ both.0) refl in
            and_from _ _ (not_from_false _ (list_any-append (have_one_id n) ns (new ∷ []) ∙ or_from _ _ (not-true _ parts.0) last)) (last_apart ns both.1 parts.1)

    pub put_hold : (networks : List Network) → are_networks networks ≡ true → are_networks (with_network id secret networks) ≡ true
    put_hold networks are =
        cond_both (list_any (has_id id) networks) (map (with_secret id secret) networks) (with_new id secret networks) (λ (ns : List Network). are_networks ns ≡ true)
        (λ known. changed_hold (with_secret id secret) same_id new_form networks are)
        (λ none. cond_both (nat_le 4 (length networks)) networks (networks ++ new ∷ []) (λ (ns : List Network). are_networks ns ≡ true)
        (λ full. are) (λ room. new_hold networks are none room))

-- The state with other networks.
pub networks-valid : (s : NodeState) → IsValid s → (networks : List Network) → are_networks networks ≡ true → IsValid (record s { networks = networks })
networks-valid s valid networks are =
    with-parts s valid s.fabrics s.entries s.rows s.roots networks s.armed s.sessions s.plain
    (its_fabrics s valid) (its_entries s valid) (its_rows s valid) (its_roots s valid) are (its_sessions s valid) (its_plain s valid) (its_armed s valid)
