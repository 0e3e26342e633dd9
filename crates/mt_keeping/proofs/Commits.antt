-- What may be committed, and what a boot commits first.
use Rattle.std.proofs.Common.{◌≡◌, ◌∙◌, refl, sym, ap, subst, inl, inr, ℕ, zero, suc, ◌/◌, ◌^◌, ◌≤◌, ◌<◌, nat_lt, Bool, true, false, true≢false, List, [], ◌∷◌, length, arith}
use Rattle.std.proofs.lemmas.Bool.{cases_Bool}
use Rattle.std.proofs.lemmas.List.{length-append}
use Rattle.std.specs.Prelude.{Some}
use Rattle.mt_tlv.specs.Limits.{IsAllowed, deepest, longest}
use Rattle.mt_tlv.specs.Narrow.{little_endian, narrow_unsigned, width_of}
use Rattle.mt_tlv.specs.Tree.{array}
use Rattle.mt_tlv.specs.declared.value.Value.TheVariants as values
use Rattle.mt_durable.specs.Changes.{change_bytes, entry_tree, entry_trees}
use Rattle.mt_durable.specs.Keeping.{LeadsTo}
use Rattle.mt_durable.specs.Maps.{keys_ascend}
use Rattle.mt_durable.specs.Reading.{Says}
use Rattle.mt_durable.specs.declared.durable.Entry.{Entry}
use Rattle.mt_grammar.specs.Grammar.{is_in_grammar, is_state}
use Rattle.mt_lasting.specs.Contents.{durable}
use Rattle.mt_lasting.specs.Laws.{MapsHaveImages}
use Rattle.mt_regained.specs.Begun.{first_change}
use Rattle.mt_regained.specs.Laws.{DurableIsKept}
use Rattle.mt_keeping.specs.Laws.{ChangesLeadToOne, FirstChangesAreSaid, StatesHaveMaps, StatesMayBeCommitted}

-- A change to the map of a valid state leads there alone, which has an image and is in the grammar.
pub may_commit : ChangesLeadToOne → DurableIsKept → MapsHaveImages → StatesMayBeCommitted
may_commit one is_kept images change told bytes s ceiling up whole says leads valid fits =
    let is = is_kept s ceiling valid fits in
    let there : (after : List Entry) → LeadsTo bytes told after → after ≡ durable s ceiling = λ after to. one change told after bytes up whole says to ∙ leads in
    record {
      form = (change, says);
      room = λ after to. subst (λ (map : List Entry). length (change_bytes map) ≤ 65535) (sym (there after to)) (images s ceiling valid fits).element.short;
      admitted = λ after to. ap is_in_grammar (there after to) ∙ ap is_state is.read ∙ is.facts;
    }

-- The map of a state begins with the number of its boot.

abbrev has_entries : List Entry → Bool
has_entries [] = false
has_entries (entry ∷ entries) = true

pub have_maps : StatesHaveMaps
have_maps s ceiling none = true≢false (ap has_entries none)

-- What a boot commits first are two numbers, of at most eight bytes each.

length_little : (k n : ℕ) → length (little_endian k n) ≡ k
length_little zero n = refl
length_little (suc k) n = ap suc (length_little k (n / 256))

in_eight : (n : ℕ) → 2 ^ width_of n ≤ 8
in_eight n = elim (cases_Bool (nat_lt n (2 ^ 8))) [
  | inl one ↦ rw one (omega arith)
  | inr more ↦ elim (cases_Bool (nat_lt n (2 ^ 16))) [
    | inl two ↦ rw (more, two) (omega arith)
    | inr most ↦ elim (cases_Bool (nat_lt n (2 ^ 32))) [
      | inl four ↦ rw (more, most, four) (omega arith)
      | inr eight ↦ rw (more, most, eight) (omega arith)
    ]
  ]
]

number_short : (n : ℕ) → length (narrow_unsigned n) ≤ 8
number_short n = subst (λ (k : ℕ). k ≤ 8) (sym (length_little (2 ^ width_of n) n)) (in_eight n)

first_short : (boot ceiling : ℕ) → length (change_bytes (first_change boot ceiling)) ≤ longest
first_short boot ceiling = simp length-append (omega (arith, number_short boot, number_short ceiling))

-- a number under a key of one byte
number_allowed : (key n : ℕ) → n < 2 ^ 64 → IsAllowed (entry_tree (record { key = key ∷ []; value = Some (values.Uint n) })) 15
number_allowed key n fits =
    let first : 0 < 2 ^ 8 = omega arith in
    let next : 1 < 2 ^ 8 = omega arith in
    let short : 1 ≤ longest = omega arith in
    (first, (refl, refl), short, (next, (refl, refl), fits, tt))

first_allowed : (boot ceiling : ℕ) → boot < 2 ^ 64 → ceiling < 2 ^ 64 → IsAllowed (array (entry_trees (first_change boot ceiling))) deepest
first_allowed boot ceiling low under = (tt, refl, number_allowed 1 boot low, (tt, refl, number_allowed 2 ceiling under, tt))

pub first_said : ((map : List Entry) → keys_ascend map ≡ true → IsAllowed (array (entry_trees map)) deepest → length (change_bytes map) ≤ longest → Says map (change_bytes map)) → FirstChangesAreSaid
first_said image boot ceiling low under = image (first_change boot ceiling) refl (first_allowed boot ceiling (omega arith) (omega arith)) (first_short boot ceiling)
