-- A decimal number has one spelling.
use Rattle.std.proofs.Common.{◌≡◌, ℕ, ◌+◌, ◌-◌, ◌*◌, ◌^◌, ◌<◌, Bool, true, false, cond, eqb, leb, ◌&&◌, List, [], ◌∷◌, length, get_or, Some, None, refl, sym, ap, subst, ◌∙◌, arith, rules}
use Rattle.std.specs.Fmt.{decimal}
use Rattle.std.proofs.lemmas.Bool.{eqb-false}
use Rattle.std.proofs.lemmas.Fmt.{decimal-digits_value}
use Rattle.std.proofs.lemmas.Str.Parse.{IsNumeralModel, numerals_by_fold}
use Rattle.mt_files.specs.Field.{digits_from, number_of}

abbrev are_digits : List ℕ → Bool
are_digits [] = true
are_digits (digit ∷ digits) = (leb 48 digit && leb digit 57) && are_digits digits

abbrev value_from : ℕ → List ℕ → ℕ
value_from number [] = number
value_from number (digit ∷ digits) = value_from (10 * number + (digit - 48)) digits

own : IsNumeralModel (λ ds. are_digits ds ≡ true) (value_from 0)
own = numerals_by_fold _ (search rules) value_from (search rules)

digits-some : (ds : List ℕ) (number n : ℕ) → digits_from number ds ≡ Some n → (are_digits ds ≡ true) × (value_from number ds ≡ n)
digits-some [] number n h = (refl, let same : number ≡ n = cc in same)
digits-some (d ∷ ds) number n h = by_test (leb 48 d && leb d 57) (digits-some ds (number * 10 + (d - 48)) n) h
  where
    by_test : (t : Bool) → (digits_from (number * 10 + (d - 48)) ds ≡ Some n → (are_digits ds ≡ true) × (value_from (number * 10 + (d - 48)) ds ≡ n))
        → cond t (digits_from (number * 10 + (d - 48)) ds) None ≡ Some n → (t && are_digits ds ≡ true) × (value_from (10 * number + (d - 48)) ds ≡ n)
    by_test true rest h =
        let p = rest h in
        let same : 10 * number + (d - 48) ≡ number * 10 + (d - 48) = omega arith in
        (p.0, ap (λ k. value_from k ds) same ∙ p.1)
    by_test false rest h = absurd (cc)

spelled-by : (ds : List ℕ) (n : ℕ) → 0 < length ds → (get_or ds 0 0 ≡ 48 → length ds ≡ 1) → digits_from 0 ds ≡ Some n → n < 2 ^ 64 → ds ≡ decimal n
spelled-by ds n some first h small =
    let p = digits-some ds 0 n h in
    let fits : value_from 0 ds < 2 ^ 64 = subst (λ k. k < 2 ^ 64) (sym p.1) small in
    sym (decimal-digits_value own ds p.0 some first fits) ∙ ap decimal p.1

pub number_of-spelled : (text : List ℕ) (n : ℕ) → number_of text ≡ Some n → n < 2 ^ 64 → text ≡ decimal n
number_of-spelled [] n h small = absurd (cc)
number_of-spelled (d ∷ []) n h small = spelled-by (d ∷ []) n (omega arith) (λ e. refl) h small
number_of-spelled (d ∷ e ∷ ds) n h small = by_test (eqb d 48) refl h
  where
    by_test : (t : Bool) → eqb d 48 ≡ t → cond t None (digits_from 0 (d ∷ e ∷ ds)) ≡ Some n → d ∷ e ∷ ds ≡ decimal n
    by_test true is h = absurd (cc)
    by_test false is h = spelled-by (d ∷ e ∷ ds) n (omega arith) (λ zero_first. absurd (eqb-false d 48 is zero_first)) h small
