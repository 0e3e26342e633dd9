-- Words that are numbers of a range.
use Rattle.std.proofs.Common.{◌≡◌, ◌≤◌, ◌<◌, ◌^◌, ℕ, Bool, true, false, cond, leb, List, Option, Some, None, refl, ap, sym, subst, unwrap_or, decimal, arith}
use Rattle.std.proofs.lemmas.Bool.{le-leb, leb-true}
use Rattle.mt_files.specs.Field.{at_least, number_between, number_of, up_to}

-- a value that stays where it is tested
kept : (t : Bool) (value number : ℕ) → cond t (Some value) None ≡ Some number → (t ≡ true) × (value ≡ number)
kept true value number is = (refl, ap (λ (o : Option ℕ). unwrap_or o 0) is)
kept false value number is = cc

low : (least : ℕ) (found : Option ℕ) (number : ℕ) → at_least least found ≡ Some number → (least ≤ number) × (found ≡ Some number)
low least None number is = absurd (cc)
low least (Some value) number is =
    let both = kept (leb least value) value number is in
    (subst (λ n. least ≤ n) both.1 (leb-true least value both.0), ap Some both.1)

high : (most : ℕ) (found : Option ℕ) (number : ℕ) → up_to most found ≡ Some number → (number ≤ most) × (found ≡ Some number)
high most None number is = absurd (cc)
high most (Some value) number is =
    let both = kept (leb value most) value number is in
    (subst (λ n. n ≤ most) both.1 (leb-true value most both.0), ap Some both.1)

pub number_within : (least most : ℕ) (word : List ℕ) (number : ℕ) → number_between least most word ≡ Some number → (least ≤ number) × (number ≤ most)
number_within least most word number is =
    let above = low least (up_to most (number_of word)) number is in
    let below = high most (number_of word) number above.1 in
    (above.0, below.0)

pub number_written : ((text : List ℕ) (number : ℕ) → number_of text ≡ Some number → number < 2 ^ 64 → text ≡ decimal number)
    → (least most number : ℕ) (word : List ℕ) → most < 2 ^ 64 → number_between least most word ≡ Some number → (decimal number ≡ word) × (least ≤ number) × (number ≤ most)
number_written spelled least most number word small is =
    let above = low least (up_to most (number_of word)) number is in
    let below = high most (number_of word) number above.1 in
    let fits : number < 2 ^ 64 = let le = below.0 in omega arith in
    (sym (spelled word number below.1 fits), above.0, below.0)

pub written_number : ((number : ℕ) → number < 2 ^ 64 → number_of (decimal number) ≡ Some number)
    → (least most number : ℕ) → most < 2 ^ 64 → least ≤ number → number ≤ most → number_between least most (decimal number) ≡ Some number
written_number read least most number small above below =
    rw (read number (omega arith), le-leb number most below) (rw (le-leb least number above) refl)
