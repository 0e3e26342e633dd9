-- The first fault in the order of the format: it stands, and none before it does.
use Rattle.std.proofs.Common.{◌≡◌, ℕ, Bool, true, false, cond, ltb, eqb, ◌/◌, List, [], ◌∷◌, ◌++◌, length, drop, slice_index, Option, Some, None, Err, ◌↔◌, refl, sym, ap, ◌∙◌}
use Rattle.std.specs.Prelude.{IsOk}
use Rattle.std.proofs.lemmas.Bool.{cond-false}
use Rattle.std.proofs.lemmas.List.Elements.{All-nil, All-cons, All-head, All-tail}
use Rattle.byteorder.specs.Endian.{little_number}
use Rattle.mt_frame.specs.declared.fault.FrameFault.{FrameFault}
use Rattle.mt_frame.specs.declared.fault.FrameFault.TheVariants.{Short, Version, Reserved, Group, Private, Extended, Unsecured, Control}
use Rattle.mt_frame.specs.Fields.{is_set}
use Rattle.mt_frame.specs.Reading.{unless, fault_or_short, flags_fault, exchange_fault, has_reserved, is_group, message_fault, message_length, protocol_fault, protocol_length}
use Rattle.mt_frame.specs.Faults.{AreClear, IsFirst, Test, message_tests, protocol_tests}

abbrev pub first_of : List Test → Option FrameFault
first_of [] = None
first_of (test ∷ tests) = cond test.stands (Some test.fault) (first_of tests)

some_is : (f g : FrameFault) → Some f ≡ Some g → f ≡ g
some_is f g e = cc

first_from : (test : Test) (tests : List Test) (fault : FrameFault) (b : Bool) → test.stands ≡ b → cond b (Some test.fault) (first_of tests) ≡ Some fault
    → (first_of tests ≡ Some fault → IsFirst fault tests) → IsFirst fault (test ∷ tests)
first_from test tests fault true is e again =
    let same : test.fault ≡ fault = some_is test.fault fault e in
    record {
      before = [];
      after = tests;
      order = λ i. record { fault = same i; stands = is i } ∷ tests;
      none_before = All-nil (λ test. test.stands ≡ false);
    }
first_from test tests fault false is e again =
    let rest = again e in
    record {
      before = test ∷ rest.before;
      after = rest.after;
      order = ap (λ (x : List Test). test ∷ x) rest.order;
      none_before = All-cons (λ test. test.stands ≡ false) test rest.before is rest.none_before;
    }

first_is : (tests : List Test) (fault : FrameFault) → first_of tests ≡ Some fault → IsFirst fault tests
first_is [] fault e = absurd cc
first_is (test ∷ tests) fault e = first_from test tests fault test.stands refl e (first_is tests fault)

first_behind : (before after : List Test) (fault : FrameFault) → AreClear before
    → first_of (before ++ (record { fault = fault; stands = true } ∷ after)) ≡ Some fault
first_behind [] after fault clear = refl
first_behind (test ∷ before) after fault clear =
    cond-false test.stands _ _ (All-head (λ test. test.stands ≡ false) test before clear)
    ∙ first_behind before after fault (All-tail (λ test. test.stands ≡ false) test before clear)

is_first : (tests : List Test) (fault : FrameFault) → IsFirst fault tests → first_of tests ≡ Some fault
is_first tests fault is = ap first_of is.order ∙ first_behind is.before is.after fault is.none_before

clear_from : (test : Test) (tests : List Test) (b : Bool) → test.stands ≡ b → cond b (Some test.fault) (first_of tests) ≡ None
    → (first_of tests ≡ None → AreClear tests) → AreClear (test ∷ tests)
clear_from test tests true is e again = absurd cc
clear_from test tests false is e again = All-cons (λ test. test.stands ≡ false) test tests is (again e)

none_is_clear : (tests : List Test) → first_of tests ≡ None → AreClear tests
none_is_clear [] e = All-nil (λ test. test.stands ≡ false)
none_is_clear (test ∷ tests) e = clear_from test tests test.stands refl e (none_is_clear tests)

clear_is_none : (tests : List Test) → AreClear tests → first_of tests ≡ None
clear_is_none [] clear = refl
clear_is_none (test ∷ tests) clear =
    cond-false test.stands _ _ (All-head (λ test. test.stands ≡ false) test tests clear)
    ∙ clear_is_none tests (All-tail (λ test. test.stands ≡ false) test tests clear)

unless_err : {A : Type 0} (o : Option FrameFault) (x : A) (fault : FrameFault) → unless o x ≡ Err fault → o ≡ Some fault
unless_err None x fault e = absurd cc
unless_err (Some f) x fault e = cc

unless_is_ok : {A : Type 0} (o : Option FrameFault) (x : A) → IsOk (unless o x) → o ≡ None
unless_is_ok None x is = refl
unless_is_ok (Some f) x is = absurd cc

-- an answer that is made of the first fault of these tests
module _ {A : Type 0} (o : Option FrameFault) (x : A) (tests : List Test) (is : o ≡ first_of tests) where
  pub answered_is_first : (fault : FrameFault) → (unless o x ≡ Err fault) ↔ IsFirst fault tests
  answered_is_first fault = (
    λ e. first_is tests fault (sym is ∙ unless_err o x fault e),
    λ f. ap (λ (p : Option FrameFault). unless p x) (is ∙ is_first tests fault f),
  )

  pub answered_is_clear : IsOk (unless o x) ↔ AreClear tests
  answered_is_clear = (
    λ e. none_is_clear tests (sym is ∙ unless_is_ok o x e),
    λ clear. rw (is ∙ clear_is_none tests clear) refl,
  )

-- ---- the two headers

message_gathered : (a b c d e f g : Bool) (there needed : ℕ)
    → fault_or_short (cond a (Some Version) (cond b (Some Reserved) (cond c (Some Group) (cond d (Some Private) (cond e (Some Control) (cond f (Some Extended) (cond g (Some Unsecured) None))))))) there needed
    ≡ cond a (Some Version) (cond b (Some Reserved) (cond c (Some Group) (cond d (Some Private) (cond e (Some Control) (cond f (Some Extended) (cond g (Some Unsecured) (cond (ltb there needed) (Some Short) None)))))))
message_gathered true b c d e f g there needed = refl
message_gathered false true c d e f g there needed = refl
message_gathered false false true d e f g there needed = refl
message_gathered false false false true e f g there needed = refl
message_gathered false false false false true f g there needed = refl
message_gathered false false false false false true g there needed = refl
message_gathered false false false false false false true there needed = refl
message_gathered false false false false false false false there needed = refl

pub message_first : (bytes : List ℕ) → message_fault bytes ≡ first_of (message_tests bytes)
unfolding flags_fault message_tests
message_first bytes =
    let flags = slice_index bytes 0 in
    let security = slice_index bytes 3 in
    ap (cond (ltb (length bytes) 8) (Some Short))
    (message_gathered (ltb 0 (flags / 16)) (has_reserved flags security) (is_group flags security) (is_set security 7) (is_set security 6)
    (is_set security 5) (eqb (little_number 2 (drop 1 bytes)) 0) (length bytes) (message_length flags))

protocol_gathered : (a b : Bool) (there needed : ℕ)
    → fault_or_short (cond a (Some Reserved) (cond b (Some Extended) None)) there needed
    ≡ cond a (Some Reserved) (cond b (Some Extended) (cond (ltb there needed) (Some Short) None))
protocol_gathered true b there needed = refl
protocol_gathered false true there needed = refl
protocol_gathered false false there needed = refl

pub protocol_first : (bytes : List ℕ) → protocol_fault bytes ≡ first_of (protocol_tests bytes)
unfolding exchange_fault protocol_tests
protocol_first bytes =
    let flags = slice_index bytes 0 in
    ap (cond (ltb (length bytes) 6) (Some Short))
    (protocol_gathered (ltb 0 (flags / 32)) (is_set flags 3) (length bytes) (protocol_length flags))
