-- One turn of a scan, and its end.
use Rattle.std.proofs.Common.{◌≡◌, ℕ, suc, ◌+◌, ◌-◌, ◌<◌, ◌≤◌, min, Bool, true, false, ◌==◌, ◌&&◌, List, [], ◌∷◌, ◌++◌, length, Option, Some, None, Result, Ok, Err, refl, ap, sym, ◌∙◌, subst, arith}
use Rattle.std.specs.Prelude.{option_to_list, slice_get, slice_index, if◌then◌else◌}
use Rattle.std.proofs.lemmas.List.Sums.{sum_by-append}
use Rattle.mt_tlv.specs.declared.fault.TlvFault.{TlvFault}
use Rattle.mt_tlv.specs.Parts.{Piece, scalar, text, octets, enter, leave, Place, next_at}
use Rattle.mt_tlv.specs.Runs.{Comes}
use Rattle.mt_soak.specs.declared.codes.paths.Step.{Step}
use Rattle.mt_soak.specs.declared.codes.place.At.{At}
use Rattle.mt_soak.specs.Codes.{occurrences, most, AreCounted}
use Rattle.mt_soak.specs.Scan.{told, after, all_told, is_on_path, goes_next_into}

abbrev part_in : Result (Option Piece × Place) TlvFault → Option Piece
part_in (Ok x) = x.0
part_in (Err f) = None

abbrev place_in : Place → Result (Option Piece × Place) TlvFault → Place
place_in p (Ok x) = x.1
place_in p (Err f) = p

none_some : (x : Piece) → None ≡ Some x → ⊥
none_some x e = cc

some_same : (x y : Piece) → Some x ≡ Some y → x ≡ y
some_same x y e = cc

pub at_end : (p m end : Place) (ys : List Piece) → next_at p ≡ Ok (None, m) → Comes p ys end → ys ≡ []
at_end p m end [] n h = refl
at_end p m end (y ∷ ys) n h = absurd (none_some y (ap part_in (sym n ∙ h.1)))

pub at_fault : (p : Place) (f : TlvFault) (end : Place) (ys : List Piece) → next_at p ≡ Err f → Comes p ys end → ys ≡ []
at_fault p f end [] n h = refl
at_fault p f end (y ∷ ys) n h = let e = sym n ∙ h.1 in cc

pub none_ahead : (i n : ℕ) (ys : List Piece) → n ≤ i → i + length ys ≤ n → ys ≡ []
none_ahead i n [] le h = refl
none_ahead i n (y ∷ ys) le h = absurd (omega arith)

-- A scan that goes on meets the first of the parts ahead.
pub at_part : (p m end : Place) (x : Piece) (ys : List Piece) → next_at p ≡ Ok (Some x, m) → next_at end ≡ Ok (None, end) → Comes p ys end
    → (rest : List Piece) × (ys ≡ x ∷ rest) × Comes m rest end
at_part p m end x [] n e h = absurd (none_some x (ap part_in (sym e ∙ ap next_at (sym h) ∙ n)))
at_part p m end x (y ∷ ys) n e h =
    let same : y ≡ x = some_same y x (ap part_in (sym h.1 ∙ n)) in
    let place : h.0 ≡ m = ap (place_in p) (sym h.1 ∙ n) in
    (ys, ap (λ z. z ∷ ys) same, subst (λ q. Comes q ys end) place h.2)

occurrences-append : (code : ℕ) (xs ys : List ℕ) → occurrences code (xs ++ ys) ≡ occurrences code xs + occurrences code ys
occurrences-append code xs ys = sum_by-append (λ n. if n == code then 1 else 0) xs ys

counted_on : (code n n' all : ℕ) (one rest : List ℕ) → n' ≡ min (n + occurrences code one) most → min (n + occurrences code (one ++ rest)) most ≡ all → min (n' + occurrences code rest) most ≡ all
counted_on code n n' all one rest e f = omega (arith, occurrences-append code one rest)

pub onward : (path : List Step) (a a' : At) (x : Piece) (number : Option ℕ) (p m end : Place) (counter total : ℕ) (counts counts' : List ℕ) (all : ℕ → ℕ) (ys : List Piece)
    → next_at p ≡ Ok (Some x, m) → number ≡ told path a x → a' ≡ after path a x → AreCounted (option_to_list number) counts counts' → next_at end ≡ Ok (None, end)
    → Comes p ys end → counter + length ys ≤ total
    → ((code : ℕ) → code < 256 → min (slice_index counts code + occurrences code (all_told path a ys)) most ≡ all code)
    → (rest : List Piece) × Comes m rest end × (counter + 1 + length rest ≤ total)
    × ((code : ℕ) → code < 256 → min (slice_index counts' code + occurrences code (all_told path a' rest)) most ≡ all code)
onward path a a' x number p m end counter total counts counts' all ys n t f counted e comes room so_far =
    let q = at_part p m end x ys n e comes in
    let long : length ys ≡ suc (length q.0) = ap length q.1 in (
      q.0,
      q.2,
      omega arith,
      λ code below.
          counted_on code (slice_index counts code) (slice_index counts' code) (all code) (option_to_list number) (all_told path a' q.0) (counted code below)
          (ap (λ ns. min (slice_index counts code + occurrences code ns) most)
          (ap (λ o. option_to_list o ++ all_told path a' q.0) t ∙ ap (λ b. option_to_list (told path a x) ++ all_told path b q.0) f ∙ ap (all_told path a) (sym q.1))
          ∙ so_far code below),
    )

-- Where no part is ahead, all is counted.
pub finished : (path : List Step) (a : At) (ys : List Piece) (n code all : ℕ) → ys ≡ [] → n ≤ most → min (n + occurrences code (all_told path a ys)) most ≡ all → n ≡ all
finished path a ys n code all e le h = let g : min (n + occurrences code (all_told path a [])) most ≡ all = ap (λ zs. min (n + occurrences code (all_told path a zs)) most) (sym e) ∙ h in omega arith

inside_room : (b : Bool) (k p n : ℕ) → p ≤ n → (let at : At = if b then record { on_path = k + 1; passed_over = 0 } else record { on_path = k; passed_over = p + 1 } in at.passed_over) ≤ n + 1
inside_room true k p n le = omega arith
inside_room false k p n le = omega arith

outside_room : (b : Bool) (k p n : ℕ) → p ≤ n → (let at : At = if b then record { on_path = k - 1; passed_over = 0 } else record { on_path = k; passed_over = p - 1 } in at.passed_over) ≤ n + 1
outside_room true k p n le = omega arith
outside_room false k p n le = omega arith

after_room : (path : List Step) (a : At) (x : Piece) (n : ℕ) → a.passed_over ≤ n → (after path a x).passed_over ≤ n + 1
after_room path a (scalar tag v) n le = omega arith
after_room path a (text tag s) n le = omega arith
after_room path a (octets tag s) n le = omega arith
after_room path a (enter tag type) n le =
    inside_room (a.passed_over == 0 && (goes_next_into (slice_get path a.on_path) type && is_on_path path a.on_path tag)) a.on_path a.passed_over n le
after_room path a leave n le = outside_room (a.passed_over == 0) a.on_path a.passed_over n le

pub room_kept : (path : List Step) (a a' : At) (x : Piece) (n : ℕ) → a' ≡ after path a x → a.passed_over ≤ n → a'.passed_over ≤ n + 1
room_kept path a a' x n e le = let h = after_room path a x n le in omega (arith, h, ap (λ (b : At). b.passed_over) e)
