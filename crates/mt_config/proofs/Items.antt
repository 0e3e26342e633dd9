-- Reading the items of a list one after the other, as a loop does.
use Rattle.std.proofs.Common.{◌≡◌, ℕ, zero, suc, ◌+◌, ◌<◌, ◌≤◌, List, [], ◌∷◌, ◌++◌, length, drop, get_or, Option, Some, None, option_map, refl, sym, ap, ◌∙◌, append_assoc, add-one, arith}
use Rattle.std.proofs.Math.Seq.{drop-cons}
use Rattle.serde_json.specs.Data.{Data}
use Rattle.serde_json.specs.Find.{get_item}
use Rattle.serde_json.specs.View.{view, items_view}
use Rattle.serde_json.specs.declared.value.Value.{Value}
use Rattle.mt_config.specs.Gives.{Fails}
use Rattle.mt_config.specs.Json.{◌>>=◌, count, each}
use Rattle.mt_config.specs.declared.json.Unread.{Unread}
use Rattle.mt_config.specs.declared.json.Unread.TheVariants.{Misformed, Memory}

pub count-items_view : (vs : List Value) → count (items_view vs) ≡ length vs
count-items_view [] = refl
count-items_view (v ∷ vs) = omega (arith, count-items_view vs)

pub item_at : (vs : List Value) (i : ℕ) (v : Value) → i < length vs → v ≡ get_or vs i v → get_item i (items_view vs) ≡ Some (view v)
item_at [] i v lt is = absurd (omega arith)
item_at (w ∷ vs) zero v lt is = ap (λ u. Some (view u)) (sym is)
item_at (w ∷ vs) (suc i) v lt is = item_at vs i v (omega arith) is

pub no_item_at : (vs : List Value) (i : ℕ) → length vs ≤ i → get_item i (items_view vs) ≡ None
no_item_at [] zero le = refl
no_item_at [] (suc i) le = refl
no_item_at (w ∷ vs) zero le = absurd (omega arith)
no_item_at (w ∷ vs) (suc i) le = no_item_at vs i (omega arith)

-- what was read before, and what is still read
abbrev pub with_front : {X : Type 0} → List X → Option (List X) → Option (List X)
with_front front read = option_map (λ rest. front ++ rest) read

regroup : {X : Type 0} (front : List X) (x : X) (read : Option (List X)) → with_front front (read >>= λ rest. Some (x ∷ rest)) ≡ with_front (front ++ x ∷ []) read
regroup front x (Some rest) = ap Some (simp append_assoc)
regroup front x None = refl

pub goes_on : {X : Type 0} (form : Data → Option X) (front : List X) (vs : List Value) (i : ℕ) (v : Value) (x : X) (total : Option (List X))
    → i < length vs → v ≡ get_or vs i v → form (view v) ≡ Some x
    → with_front front (each form (items_view (drop i vs))) ≡ total → with_front (front ++ x ∷ []) (each form (items_view (drop (i + 1) vs))) ≡ total
goes_on form front vs i v x total lt is h so_far =
    let k : drop i vs ≡ v ∷ drop (suc i) vs = drop-cons vs i v lt ∙ ap (λ u. u ∷ drop (suc i) vs) (sym is) in
    let one : with_front front (each form (items_view (drop i vs))) ≡ with_front (front ++ x ∷ []) (each form (items_view (drop (i + 1) vs))) = rw (add-one, k, h) (regroup front x (each form (items_view (drop (suc i) vs)))) in
    sym one ∙ so_far

pub stops : {X : Type 0} (e : Unread) (form : Data → Option X) (front : List X) (vs : List Value) (i : ℕ) (v : Value) (total : Option (List X))
    → i < length vs → v ≡ get_or vs i v → Fails e (form (view v))
    → with_front front (each form (items_view (drop i vs))) ≡ total → Fails e total
stops Memory form front vs i v total lt is h so_far = tt
stops Misformed form front vs i v total lt is h so_far =
    let k : drop i vs ≡ v ∷ drop (suc i) vs = drop-cons vs i v lt ∙ ap (λ u. u ∷ drop (suc i) vs) (sym is) in
    let one : with_front front (each form (items_view (drop i vs))) ≡ None = rw (k, h) refl in
    sym so_far ∙ one
