-- Items that are kept one after the other.
use Rattle.std.proofs.Common.{◌≡◌, ◌∙◌, sym, subst, ap, ℕ, ◌+◌, ◌-◌, ◌<◌, ◌≤◌, List, [], ◌∷◌, ◌++◌, Option, Result, Ok, Err, length, drop, get_or, refl, add-one, drop-cons, append_assoc}
use Rattle.std.proofs.lemmas.List.{drop_all, append-nil}
use Rattle.mt_tlv.specs.declared.value.Tag.{Tag}
use Rattle.mt_tlv.specs.declared.value.Value.{Value}
use Rattle.mt_tlv.specs.View.{tree, elements}
use Rattle.mt_tlv.specs.Tree.{Tree}
use Rattle.mt_model.specs.declared.messages.status.Status.{Status}
use Rattle.mt_write.specs.Items.{in_front, kept_each, with_room}

-- what was kept behind what was kept before
abbrev pub with_front : {X : Type 0} → List X → Result (List X) Status → Result (List X) Status
with_front front (Err status) = Err status
with_front front (Ok xs) = Ok (front ++ xs)

module _ {X : Type 0} (keep : Tree → Option X) where
  kept_step : (room : ℕ) (members : List (Tag × Value)) (i : ℕ) (d : Tag × Value) → i < length members
      → kept_each keep room (elements (drop i members)) ≡ in_front (with_room room (keep (tree (get_or members i d).1))) (kept_each keep (room - 1) (elements (drop (i + 1) members)))
  unfolding kept_each
  kept_step room members i d h = rw (add-one, drop-cons members i d) refl

  with_front-next : (front : List X) (x : X) (rest : Result (List X) Status) → with_front front (in_front (Ok x) rest) ≡ with_front (front ++ x ∷ []) rest
  with_front-next front x (Err status) = refl
  with_front-next front x (Ok xs) = ap Ok (sym (append_assoc front (x ∷ []) xs))

  kept_as : (room : ℕ) (members : List (Tag × Value)) (i : ℕ) (m : Tag × Value) (one : Result X Status) → i < length members → m ≡ get_or members i m
      → with_room room (keep (tree m.1)) ≡ one
      → kept_each keep room (elements (drop i members)) ≡ in_front one (kept_each keep (room - 1) (elements (drop (i + 1) members)))
  kept_as room members i m one h same found =
      let b : with_room room (keep (tree (get_or members i m).1)) ≡ one = subst (λ (y : Tag × Value). with_room room (keep (tree y.1)) ≡ one) same found in
      kept_step room members i m h ∙ ap (λ first. in_front first (kept_each keep (room - 1) (elements (drop (i + 1) members)))) b

  -- an item that is kept is one more in front
  pub kept_next : (front : List X) (room : ℕ) (members : List (Tag × Value)) (i : ℕ) (m : Tag × Value) (x : X) (all : Result (List X) Status) → i < length members → m ≡ get_or members i m
      → with_room room (keep (tree m.1)) ≡ Ok x → with_front front (kept_each keep room (elements (drop i members))) ≡ all
      → with_front (front ++ x ∷ []) (kept_each keep (room - 1) (elements (drop (i + 1) members))) ≡ all
  kept_next front room members i m x all h same found here =
      sym (with_front-next front x (kept_each keep (room - 1) (elements (drop (i + 1) members)))) ∙ sym (ap (with_front front) (kept_as room members i m (Ok x) h same found)) ∙ here

  -- one that is refused refuses all
  pub kept_bad : (front : List X) (room : ℕ) (members : List (Tag × Value)) (i : ℕ) (m : Tag × Value) (status : Status) (all : Result (List X) Status) → i < length members → m ≡ get_or members i m
      → with_room room (keep (tree m.1)) ≡ Err status → with_front front (kept_each keep room (elements (drop i members))) ≡ all → Err status ≡ all
  kept_bad front room members i m status all h same bad here = sym (ap (with_front front) (kept_as room members i m (Err status) h same bad)) ∙ here

  -- behind the last item all were kept
  pub kept_end : (front : List X) (room : ℕ) (members : List (Tag × Value)) (i : ℕ) (all : Result (List X) Status) → length members ≤ i
      → with_front front (kept_each keep room (elements (drop i members))) ≡ all → Ok front ≡ all
  unfolding kept_each
  kept_end front room members i all h here = sym (rw (drop_all i members h) (ap Ok (append-nil front))) ∙ here
