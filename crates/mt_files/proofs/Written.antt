-- Lines as they are written, and read again.
use Rattle.std.proofs.Common.{◌≡◌, ◌≢◌, ℕ, zero, suc, ◌+◌, ◌-◌, ◌*◌, ◌/◌, ◌%◌, ◌^◌, ◌<◌, ◌≤◌, Bool, true, false, cond, not, eqb, leb, ◌&&◌, List, [], ◌∷◌, ◌++◌, length, get_or, Some, None, refl, ap, ◌∙◌, arith}
use Rattle.std.specs.Prelude.{All}
use Rattle.std.specs.Fmt.{decimal}
use Rattle.std.specs.List.{join_with_byte, list_all}
use Rattle.std.proofs.lemmas.Bool.{ne_eqb, eq-eqb, eqb-false, le-leb, leb-true, and_from}
use Rattle.std.proofs.lemmas.Fmt.{decimal_by_steps, decimal_digit, first_decimal, decimal_nonempty}
use Rattle.std.proofs.lemmas.List.Elements.{All-nil, All-cons, All-head, All-tail, All-append, All-weaker, All-push}
use Rattle.std.proofs.lemmas.List.Splits.{slice_split_at, slice_split_none}
use Rattle.std.proofs.lemmas.List.Sums.{AllPass-from_list_all}
use Rattle.hex.specs.Hex.{encode_lower, encode_with, lower_digits}
use Rattle.mt_files.specs.Field.{digits_from, number_of, number_between}
use Rattle.mt_files.specs.Lines.{ended, lines_of, onto_line, parts_of, text_of}

-- no such byte stands in the text
abbrev pub Lacks : ℕ → List ℕ → Type 0
Lacks byte text = All (λ b. eqb b byte ≡ false) text

pub Lacks-nil : (byte : ℕ) → Lacks byte []
Lacks-nil byte = All-nil (λ b. eqb b byte ≡ false)

pub Lacks-cons : (byte b : ℕ) (text : List ℕ) → eqb b byte ≡ false → Lacks byte text → Lacks byte (b ∷ text)
Lacks-cons byte b text h hs = All-cons (λ b. eqb b byte ≡ false) b text h hs

pub Lacks-append : (byte : ℕ) (xs ys : List ℕ) → Lacks byte xs → Lacks byte ys → Lacks byte (xs ++ ys)
Lacks-append byte xs ys h k = All-append (λ b. eqb b byte ≡ false) xs ys h k

-- a word whose bytes are known
pub Lacks-word : (byte : ℕ) (text : List ℕ) → list_all (λ b. not (eqb b byte)) text ≡ true → Lacks byte text
Lacks-word byte text h = All-weaker (λ b. not (eqb b byte) ≡ true) (λ b. eqb b byte ≡ false) (λ b. by_test (eqb b byte)) text (AllPass-from_list_all (λ b. not (eqb b byte)) text h)
  where
    by_test : (t : Bool) → not t ≡ true → t ≡ false
    by_test true h = absurd (cc)
    by_test false h = refl

-- LF or a space, which stand in no field
pub record IsMark (byte : ℕ) : Type 0 where
  pub some : 0 < byte
  pub low : byte < 43

pub Lacks-high : (byte : ℕ) (text : List ℕ) → IsMark byte → list_all (λ b. leb 43 b) text ≡ true → Lacks byte text
Lacks-high byte text m h =
    let low = m.low in
    All-weaker (λ b. leb 43 b ≡ true) (λ b. eqb b byte ≡ false) (λ b e. let high = leb-true 43 b e in ne_eqb b byte (λ is. omega arith)) text (AllPass-from_list_all (λ b. leb 43 b) text h)

pub Lacks-none : (byte : ℕ) (text : List ℕ) → Lacks byte text → All (λ b. b ≢ byte) text
Lacks-none byte text h = All-weaker (λ b. eqb b byte ≡ false) (λ b. b ≢ byte) (λ b e. eqb-false b byte e) text h

-- Lines.

lines_of-ended : (line rest : List ℕ) → Lacks 10 line → lines_of (ended line ++ rest) ≡ line ∷ lines_of rest
lines_of-ended [] rest h = refl
lines_of-ended (b ∷ line) rest h =
    let here = All-head (λ b. eqb b 10 ≡ false) b line h in
    let behind = lines_of-ended line rest (All-tail (λ b. eqb b 10 ≡ false) b line h) in
    ap (λ t. cond t ([] ∷ lines_of (ended line ++ rest)) (onto_line b (lines_of (ended line ++ rest)))) here
    ∙ ap (onto_line b) behind

pub lines_of-text_of : (lines : List (List ℕ)) → All (Lacks 10) lines → lines_of (text_of lines) ≡ lines
lines_of-text_of [] h = refl
lines_of-text_of (line ∷ lines) h =
    lines_of-ended line (text_of lines) (All-head (Lacks 10) line lines h)
    ∙ ap (λ (ls : List (List ℕ)). line ∷ ls) (lines_of-text_of lines (All-tail (Lacks 10) line lines h))

-- Parts.

abbrev is : ℕ → ℕ → Bool
is byte other = eqb other byte

pub parts_of-join : (byte : ℕ) (part : List ℕ) (parts : List (List ℕ)) → All (Lacks byte) (part ∷ parts) → parts_of byte (join_with_byte byte (part ∷ parts)) ≡ part ∷ parts
parts_of-join byte part [] h = slice_split_none (is byte) part (All-head (Lacks byte) part [] h)
parts_of-join byte part (next ∷ parts) h =
    slice_split_at (is byte) part byte (join_with_byte byte (next ∷ parts)) (All-head (Lacks byte) part (next ∷ parts) h) (eq-eqb byte byte refl)
    ∙ ap (λ (ps : List (List ℕ)). part ∷ ps) (parts_of-join byte next parts (All-tail (Lacks byte) part (next ∷ parts) h))

-- another byte stands in a join only where it stands in a part
pub Lacks-join : (byte other : ℕ) (parts : List (List ℕ)) → eqb other byte ≡ false → All (Lacks byte) parts → Lacks byte (join_with_byte other parts)
Lacks-join byte other [] ne h = Lacks-nil byte
Lacks-join byte other (part ∷ []) ne h = All-head (Lacks byte) part [] h
Lacks-join byte other (part ∷ next ∷ parts) ne h =
    Lacks-append byte part (other ∷ join_with_byte other (next ∷ parts)) (All-head (Lacks byte) part (next ∷ parts) h)
    (Lacks-cons byte other (join_with_byte other (next ∷ parts)) ne (Lacks-join byte other (next ∷ parts) ne (All-tail (Lacks byte) part (next ∷ parts) h)))

-- Decimal numbers.

abbrev IsDigit : ℕ → Type 0
IsDigit b = (48 ≤ b) × (b ≤ 57)

decimal-digits : (n : ℕ) → n < 2 ^ 64 → All IsDigit (decimal n)
decimal-digits n h = decimal_by_steps (λ n ds. All IsDigit ds) one more n h
  where
    one : (n : ℕ) → n < 10 → All IsDigit ((48 + n) ∷ [])
    one n lt = All-cons IsDigit (48 + n) [] (omega arith, omega arith) (All-nil IsDigit)

    more : (n : ℕ) (ds : List ℕ) → 10 ≤ n → All IsDigit ds → All IsDigit (ds ++ ((48 + n % 10) ∷ []))
    more n ds le h = All-push IsDigit ds (48 + n % 10) h (omega arith, omega arith)

pub Lacks-decimal : (byte n : ℕ) → IsMark byte → n < 2 ^ 64 → Lacks byte (decimal n)
Lacks-decimal byte n m h = let low = m.low in All-weaker IsDigit (λ b. eqb b byte ≡ false) (λ b d. ne_eqb b byte (λ e. omega arith)) (decimal n) (decimal-digits n h)

digits_from-digit : (number d : ℕ) → 48 ≤ d → d ≤ 57 → digits_from number (d ∷ []) ≡ Some (number * 10 + (d - 48))
digits_from-digit number d low high =
    let both : leb 48 d && leb d 57 ≡ true = and_from (leb 48 d) (leb d 57) (le-leb 48 d low) (le-leb d 57 high) in
    ap (λ t. cond t (Some (number * 10 + (d - 48))) None) both

digits_from-push : (ds : List ℕ) (number m d : ℕ) → digits_from number ds ≡ Some m → digits_from number (ds ++ d ∷ []) ≡ digits_from m (d ∷ [])
digits_from-push [] number m d h = let same : number ≡ m = cc in ap (λ k. digits_from k (d ∷ [])) same
digits_from-push (e ∷ ds) number m d h = by_test (leb 48 e && leb e 57) (digits_from-push ds (number * 10 + (e - 48)) m d) h
  where
    by_test : (t : Bool) → (digits_from (number * 10 + (e - 48)) ds ≡ Some m → digits_from (number * 10 + (e - 48)) (ds ++ d ∷ []) ≡ digits_from m (d ∷ [])) → cond t (digits_from (number * 10 + (e - 48)) ds) None ≡ Some m → cond t (digits_from (number * 10 + (e - 48)) (ds ++ d ∷ [])) None ≡ digits_from m (d ∷ [])
    by_test true rest h = rest h
    by_test false rest h = absurd (cc)

digits_from-decimal : (n : ℕ) → n < 2 ^ 64 → digits_from 0 (decimal n) ≡ Some n
digits_from-decimal n h = decimal_by_steps (λ n ds. digits_from 0 ds ≡ Some n) one more n h
  where
    one : (n : ℕ) → n < 10 → digits_from 0 ((48 + n) ∷ []) ≡ Some n
    one n lt = digits_from-digit 0 (48 + n) (omega arith) (omega arith) ∙ (let e : 0 * 10 + (48 + n - 48) ≡ n = omega arith in ap Some e)

    more : (n : ℕ) (ds : List ℕ) → 10 ≤ n → digits_from 0 ds ≡ Some (n / 10) → digits_from 0 (ds ++ ((48 + n % 10) ∷ [])) ≡ Some n
    more n ds le h =
        digits_from-push ds 0 (n / 10) (48 + n % 10) h
        ∙ digits_from-digit (n / 10) (48 + n % 10) (omega arith) (omega arith)
        ∙ (let e : n / 10 * 10 + (48 + n % 10 - 48) ≡ n = omega arith in ap Some e)

-- digits that begin with no zero
number_of-digits : (ds : List ℕ) → 0 < length ds → (1 < length ds → 48 < get_or ds 0 0) → number_of ds ≡ digits_from 0 ds
number_of-digits [] some first = absurd (omega arith)
number_of-digits (d ∷ []) some first = refl
number_of-digits (d ∷ e ∷ ds) some first =
    let above : 48 < d = first (omega arith) in
    let other : eqb d 48 ≡ false = ne_eqb d 48 (λ is. omega arith) in
    ap (λ t. cond t None (digits_from 0 (d ∷ e ∷ ds))) other

pub number_of-decimal : (n : ℕ) → n < 2 ^ 64 → number_of (decimal n) ≡ Some n
number_of-decimal zero h = rw (decimal_digit 0 (omega arith)) refl
number_of-decimal (suc n) h =
    number_of-digits (decimal (suc n)) (decimal_nonempty (suc n) h) (λ long. first_decimal (suc n) (omega arith) h)
    ∙ digits_from-decimal (suc n) h

pub number_between-decimal : (least most n : ℕ) → n < 2 ^ 64 → least ≤ n → n ≤ most → number_between least most (decimal n) ≡ Some n
number_between-decimal least most n h low high = rw (number_of-decimal n h, le-leb n most high) (rw (le-leb least n low) refl)

-- Hex.

pub at_index : (P : ℕ → Type 0) (xs : List ℕ) (i : ℕ) → P 0 → All P xs → P (get_or xs i 0)
at_index P [] i z h = z
at_index P (x ∷ xs) zero z h = All-head P x xs h
at_index P (x ∷ xs) (suc i) z h = at_index P xs i z (All-tail P x xs h)

pub Lacks-encode : (byte : ℕ) (bytes : List ℕ) → Lacks byte lower_digits → eqb 0 byte ≡ false → Lacks byte (encode_lower bytes)
unfolding encode_with
Lacks-encode byte [] h z = Lacks-nil byte
Lacks-encode byte (b ∷ bytes) h z =
    let at = λ (i : ℕ). at_index (λ b. eqb b byte ≡ false) lower_digits i z h in
    Lacks-cons byte (get_or lower_digits (b / 16) 0) (get_or lower_digits (b % 16) 0 ∷ encode_lower bytes) (at (b / 16))
    (Lacks-cons byte (get_or lower_digits (b % 16) 0) (encode_lower bytes) (at (b % 16)) (Lacks-encode byte bytes h z))

pub Lacks-hex : (byte : ℕ) (bytes : List ℕ) → IsMark byte → Lacks byte (encode_lower bytes)
Lacks-hex byte bytes m = Lacks-encode byte bytes (Lacks-high byte lower_digits m refl) (ne_eqb 0 byte (λ e. let some = m.some in omega arith))

pub Lacks-hex_43 : (bytes : List ℕ) → Lacks 43 (encode_lower bytes)
Lacks-hex_43 bytes = Lacks-encode 43 bytes (Lacks-word 43 lower_digits refl) refl
