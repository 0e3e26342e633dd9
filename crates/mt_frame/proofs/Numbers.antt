-- The fields of a header, read and spelled.
use Rattle.std.proofs.Common.{◌≡◌, ◌≢◌, ℕ, ◌+◌, ◌/◌, ◌%◌, ◌^◌, ◌≤◌, Bool, true, false, cond, ltb, ◌||◌, List, [], ◌∷◌, ◌++◌, length, take, drop, Option, Some, None, Ok, refl, ap, ◌∙◌, arith, inl, inr}
use Rattle.std.specs.Prelude.{is_some}
use Rattle.std.proofs.lemmas.Bool.{cases_lt, ltb-false, eqb-false}
use Rattle.std.proofs.lemmas.List.{get_or-drop, get_or-take, get_or_past, length-take, drop_at}
use Rattle.byteorder.specs.Endian.{little_number}
use Rattle.byteorder.specs.Numbers.{little_from-append, little_from-take}
use Rattle.mt_frame.specs.declared.fault.FrameFault.{FrameFault}
use Rattle.mt_frame.specs.declared.fault.FrameFault.TheVariants.{Short}
use Rattle.mt_frame.specs.Fields.{AreBytes, IsNumber, IsOptional, is_set}
use Rattle.mt_frame.specs.Reading.{unless, fault_or_short, number_where, width_where}

-- ---- tests

pub unless_ok : {A : Type 0} (o : Option FrameFault) (x y : A) → unless o x ≡ Ok y → (o ≡ None) × (x ≡ y)
unless_ok None x y e = (refl, cc)
unless_ok (Some f) x y e = absurd cc

pub fault_none : (b : Bool) (f : FrameFault) (o : Option FrameFault) → cond b (Some f) o ≡ None → (b ≡ false) × (o ≡ None)
fault_none true f o e = absurd cc
fault_none false f o e = (refl, e)

pub short_none : (o : Option FrameFault) (there needed : ℕ) → fault_or_short o there needed ≡ None → (o ≡ None) × (needed ≤ there)
short_none (Some f) there needed e = absurd cc
short_none None there needed e =
    let g = fault_none (ltb there needed) Short None e in
    (refl, ltb-false _ _ g.0)

pub or_false : (a b : Bool) → (a || b) ≡ false → (a ≡ false) × (b ≡ false)
or_false true b e = absurd cc
or_false false b e = (refl, e)

-- a bit that is not set
pub bit_clear : (byte bit : ℕ) → is_set byte bit ≡ false → byte / 2 ^ bit % 2 ≡ 0
bit_clear byte bit e =
    let one : byte / 2 ^ bit % 2 ≢ 1 = eqb-false _ _ e in
    omega (arith, one)

-- ---- numbers

pub AreBytes-drop : (n : ℕ) (bytes : List ℕ) → AreBytes bytes → AreBytes (drop n bytes)
AreBytes-drop n bytes h i = rw get_or-drop (h (n + i))

pub AreBytes-take : (n : ℕ) (bytes : List ℕ) → AreBytes bytes → AreBytes (take n bytes)
AreBytes-take n bytes h i =
    elim (cases_lt i n) [
      | inl lt ↦ rw (get_or-take n bytes i 0 lt) (h i)
      | inr le ↦ rw (get_or_past (take n bytes) i 0 (omega (arith, length-take n bytes))) (omega arith)
    ]

-- the number in the first bytes is the number that they spell
pub is_number : (count : ℕ) (bytes : List ℕ) → count ≤ length bytes → AreBytes bytes → IsNumber count (little_number count bytes) (take count bytes)
is_number count bytes le fits = record {
  size = omega (arith, length-take count bytes);
  bytes = AreBytes-take count bytes fits;
  value = little_from-take 0 count count bytes (omega arith);
}

pub is_optional : (there : Bool) (count : ℕ) (bytes : List ℕ) → width_where there count ≤ length bytes → AreBytes bytes
    → IsOptional count (number_where there count bytes) (take (width_where there count) bytes)
is_optional true count bytes le fits = is_number count bytes le fits
is_optional false count bytes le fits = refl

pub is_some-number_where : (there : Bool) (count : ℕ) (bytes : List ℕ) → is_some (number_where there count bytes) ≡ there
is_some-number_where true count bytes = refl
is_some-number_where false count bytes = refl

-- a number that is spelled is read again
pub number_again : (count n : ℕ) (field rest : List ℕ) → IsNumber count n field → little_number count (field ++ rest) ≡ n
number_again count n field rest h = little_from-append count field rest (omega (arith, h.size)) ∙ h.value

pub length-optional : (count : ℕ) (number : Option ℕ) (field : List ℕ) → IsOptional count number field → length field ≡ width_where (is_some number) count
length-optional count None field h = ap length h
length-optional count (Some n) field h = h.size

pub optional_again : (count : ℕ) (number : Option ℕ) (field rest : List ℕ) → IsOptional count number field
    → number_where (is_some number) count (field ++ rest) ≡ number
optional_again count None field rest h = refl
optional_again count (Some n) field rest h = ap Some (number_again count n field rest h)

pub drop-optional : (count : ℕ) (number : Option ℕ) (field rest : List ℕ) → IsOptional count number field
    → drop (width_where (is_some number) count) (field ++ rest) ≡ rest
drop-optional count number field rest h = drop_at field rest (width_where (is_some number) count) (length-optional count number field h)

-- ---- cells

pub record IsPair (xs : List ℕ) : Type 0 where
  pub a : ℕ
  pub b : ℕ
  pub is : xs ≡ a ∷ b ∷ []

pub pair : (xs : List ℕ) → length xs ≡ 2 → IsPair xs
pair [] e = absurd (omega arith)
pair (a ∷ []) e = absurd (omega arith)
pair (a ∷ b ∷ []) e = record { a = a; b = b; is = refl }
pair (a ∷ b ∷ c ∷ xs) e = absurd (omega arith)

pub record IsFour (xs : List ℕ) : Type 0 where
  pub a : ℕ
  pub b : ℕ
  pub c : ℕ
  pub d : ℕ
  pub is : xs ≡ a ∷ b ∷ c ∷ d ∷ []

pub four : (xs : List ℕ) → length xs ≡ 4 → IsFour xs
four [] e = absurd (omega arith)
four (a ∷ []) e = absurd (omega arith)
four (a ∷ b ∷ []) e = absurd (omega arith)
four (a ∷ b ∷ c ∷ []) e = absurd (omega arith)
four (a ∷ b ∷ c ∷ d ∷ []) e = record { a = a; b = b; c = c; d = d; is = refl }
four (a ∷ b ∷ c ∷ d ∷ f ∷ xs) e = absurd (omega arith)
