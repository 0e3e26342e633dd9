-- How many bytes a payload of a report has.
use Rattle.std.proofs.Common.{◌≡◌, ℕ, zero, suc, ◌+◌, ◌/◌, ◌^◌, ◌<◌, ◌≤◌, Bool, true, false, ◌&&◌, Option, Some, None, is_none, List, [], ◌∷◌, length, refl, ap, subst, inl, inr, length-append, if◌then◌else◌, arith}
use Rattle.std.specs.Prelude.{nat_lt, All, IfSome}
use Rattle.std.proofs.lemmas.Bool.Decides.{nat_tests}
use Rattle.std.proofs.lemmas.List.Elements.{All-nil, All-cons, All-head, All-tail}
use Rattle.mt_tlv.specs.Narrow.{end_of_container, little_endian, narrow_unsigned, width_of, narrow_elements}
use Rattle.mt_tlv.specs.Tree.{none}
use Rattle.mt_model.specs.messages.Blocks.{optional_number}
use Rattle.mt_model.specs.declared.limits.TheConstants.{ITEM_BYTES}
use Rattle.mt_model.specs.declared.messages.message.Item.{Item}
use Rattle.mt_model.specs.declared.messages.message.Reply.TheVariants.{Report}
use Rattle.mt_im_out.specs.Messages.{optional_truth}
use Rattle.mt_im_out.specs.Chunks.{Part, size_of, attribute_items, event_items, split_items, parts_of, report_payload, report_payloads, chunks_of}
use Rattle.mt_im_out.specs.Greedy.{IsShort, IsWithin, IsOfOneKind, IsShortPayload}
use Rattle.mt_im_out.specs.Packing.{optional_bytes, report_bytes}
use Rattle.mt_im_out.proofs.Bodies.{bytes_of, report_is}
use Rattle.mt_im_out.proofs.Greedy.{apart, within}

little-length : (k n : ℕ) → length (little_endian k n) ≡ k
little-length zero n = refl
little-length (suc k) n = ap suc (little-length k (n / 256))

few_widths : (a b c : Bool) → c ≡ true → 2 ^ (if a then 0 else if b then 1 else if c then 2 else 3) ≤ 4
few_widths true b c e = omega arith
few_widths false true c e = omega arith
few_widths false false true e = omega arith
few_widths false false false e = absurd cc

is_below : (n m : ℕ) → n < m → nat_lt n m ≡ true
is_below n m h = grind (arith, nat_tests)

-- a number of 32 bits takes at most 4 bytes
four_bytes : (n : ℕ) → n < 2 ^ 32 → length (narrow_unsigned n) ≤ 4
four_bytes n h = rw (little-length (2 ^ width_of n) n) (few_widths (nat_lt n (2 ^ 8)) (nat_lt n (2 ^ 16)) (nat_lt n (2 ^ 32)) (is_below n (2 ^ 32) h))

-- the parts of a report that may be missing

abbrev number_length : Option ℕ → ℕ
number_length subscription = length (narrow_elements (optional_number 0 subscription none))

six_bytes : (subscription : Option ℕ) → IfSome subscription (λ id. id < 2 ^ 32) → number_length subscription ≤ 6
six_bytes None h = omega arith
six_bytes (Some id) h = omega (arith, four_bytes id h, length-append (narrow_unsigned id) [])

optional-length : (tag : ℕ) (bytes : List ℕ) → length (optional_bytes tag bytes) ≤ length bytes + 3
optional-length tag [] = omega arith
optional-length tag (byte ∷ bytes) = omega (arith, length-append bytes (end_of_container ∷ []))

-- one array of items alone
one-array : (part : Part) → IsOfOneKind part
    → length (optional_bytes 1 (bytes_of part.attributes)) + length (optional_bytes 2 (bytes_of part.events)) ≤ size_of part.attributes + size_of part.events + 3
one-array part (inl e) = rw e (omega (arith, optional-length 2 (bytes_of part.events)))
one-array part (inr e) = rw e (omega (arith, optional-length 1 (bytes_of part.attributes)))

report-length : (subscription : Option ℕ) (xs es : List ℕ) (follows suppress : Bool)
    → length (report_bytes subscription xs es follows suppress)
    ≡ number_length subscription + (length (optional_bytes 1 xs) + length (optional_bytes 2 es)) + (length (narrow_elements (optional_truth 3 follows none)) + length (narrow_elements (optional_truth 4 suppress none))) + 5
report-length subscription xs es follows suppress = simp length-append (omega arith)

-- a payload that says that more follows, or that no confirmation is wanted, but to no subscription
one_truth : (subscription : Option ℕ) (follows suppress : Bool) → IfSome subscription (λ id. id < 2 ^ 32) → (suppress ≡ true → (subscription ≡ None) × (follows ≡ false))
    → number_length subscription + (length (narrow_elements (optional_truth 3 follows none)) + length (narrow_elements (optional_truth 4 suppress none))) ≤ 8
one_truth None true true h only = absurd (let e : true ≡ false = (only refl).1 in cc)
one_truth None true false h only = omega arith
one_truth None false true h only = omega arith
one_truth None false false h only = omega arith
one_truth (Some id) follows true h only = absurd (let e : Some id ≡ None = (only refl).0 in cc)
one_truth (Some id) true false h only = omega (arith, six_bytes (Some id) h)
one_truth (Some id) false false h only = omega (arith, six_bytes (Some id) h)

payload_short : (subscription : Option ℕ) (part : Part) (follows suppress : Bool) → IfSome subscription (λ id. id < 2 ^ 32) → (suppress ≡ true → (subscription ≡ None) × (follows ≡ false))
    → IsOfOneKind part → IsWithin part → IsShortPayload (report_payload subscription part follows suppress)
payload_short subscription part follows suppress h only one few =
    subst (λ (bytes : List ℕ). length bytes ≤ ITEM_BYTES + 16) (report_is subscription part.attributes part.events follows suppress)
    (omega (
      arith,
      report-length subscription (bytes_of part.attributes) (bytes_of part.events) follows suppress,
      one_truth subscription follows suppress h only,
      one-array part one,
      few,
    ))

never : (subscription : Option ℕ) → false ≡ true → (subscription ≡ None) × (true ≡ false)
never subscription e = absurd cc

payloads_short : (subscription : Option ℕ) (suppress : Bool) (parts : List Part) → IfSome subscription (λ id. id < 2 ^ 32) → (suppress ≡ true → subscription ≡ None)
    → All IsOfOneKind parts → All IsWithin parts → All IsShortPayload (report_payloads subscription suppress parts)
payloads_short subscription suppress [] h only ones few = All-nil IsShortPayload
payloads_short subscription suppress (part ∷ []) h only ones few =
    All-cons IsShortPayload (report_payload subscription part false suppress) []
    (payload_short subscription part false suppress h (λ e. (only e, refl)) (All-head IsOfOneKind part [] ones) (All-head IsWithin part [] few)) (All-nil IsShortPayload)
payloads_short subscription suppress (part ∷ next ∷ parts) h only ones few =
    All-cons IsShortPayload (report_payload subscription part true false) (report_payloads subscription suppress (next ∷ parts))
    (payload_short subscription part true false h (never subscription) (All-head IsOfOneKind part (next ∷ parts) ones) (All-head IsWithin part (next ∷ parts) few))
    (payloads_short subscription suppress (next ∷ parts) h only (All-tail IsOfOneKind part (next ∷ parts) ones) (All-tail IsWithin part (next ∷ parts) few))

to_no_subscription : (subscription : Option ℕ) (suppress : Bool) → (suppress && is_none subscription) ≡ true → subscription ≡ None
to_no_subscription None suppress e = refl
to_no_subscription (Some id) true e = absurd cc
to_no_subscription (Some id) false e = absurd cc

pub short : (subscription : Option ℕ) (items : List Item) (suppress : Bool) → IfSome subscription (λ id. id < 2 ^ 32)
    → All IsShort (split_items (attribute_items items)) → size_of (event_items items) ≤ ITEM_BYTES
    → All IsShortPayload (chunks_of (Report subscription items suppress))
short subscription items suppress h shorts few =
    payloads_short subscription (suppress && is_none subscription) (parts_of items) h (to_no_subscription subscription suppress) (apart items) (within items shorts few)
