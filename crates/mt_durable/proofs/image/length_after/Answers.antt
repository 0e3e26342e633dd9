use Rattle.std.proofs.Common.{◌≡◌, List, [], ◌∷◌, length, ap, subst, arith}
use Rattle.std.specs.Prelude.{Option, Some, None}
use Rattle.std.proofs.lemmas.Grind.{common_steps}
use Rattle.mt_durable.specs.Fronts.{IsFront, bytes_to_end, entries_said}
use Rattle.mt_durable.specs.Setting.{with_all}
use Rattle.mt_durable.specs.declared.durable.Entry.{Entry}
use Rattle.mt_durable.specs.declared.image.Front.{Front}
use Rattle.mt_durable.proofs.Counting.{at_most_both, front_size}
use Rattle.mt_durable.proofs.Fronts.{behind_first, entries_behind, none_in_front, says_said}
use Rattle.mt_durable.proofs.image.length_after.Goals as goal

pub overflow_add-length-in-Some : goal.overflow_add-length-in-Some
overflow_add-length-in-Some c =
    let entries = entries_said c.entries.entries.now in
    let map = entries_said c.entries.image.now in
    let front = c.in-Some.entry in
    let is : IsFront entries (Some front) = subst (λ (r : Option Front). IsFront entries r) c.in-Some.is c.entry_in_front.ensures.front in
    let up = (says_said c.bytes_of_a_change_are_read.ensures.read (22 ∷ c.entries.entries.now) c.entries.invariant.change).ascend in
    let size = front_size entries map front is up in
    let lower = ap length c.split_entry.ensures.lower in
    let own = ap length c.own_bytes.ensures in
    let most = at_most_both c.bytes_of_a_change_are_read.ensures.read c.args.change.now c.args.from.now c.requires.change c.requires.from in
    omega (arith, size, lower, own, most, c.entries.invariant.counted)

pub entries-preserved : goal.entries-preserved
entries-preserved c =
    let entries = entries_said c.entries.entries.now in
    let map = entries_said c.entries.image.now in
    let front = c.in-Some.entry in
    let is : IsFront entries (Some front) = subst (λ (r : Option Front). IsFront entries r) c.in-Some.is c.entry_in_front.ensures.front in
    let up = (says_said c.bytes_of_a_change_are_read.ensures.read (22 ∷ c.entries.entries.now) c.entries.invariant.change).ascend in
    let size = front_size entries map front is up in
    let lower = ap length c.split_entry.ensures.lower in
    let own = ap length c.own_bytes.ensures in
    let left = ap (λ (l : List Entry). length (bytes_to_end (with_all (entries_said front.rest.now) l))) c.split_entry.ensures.left in
    record {
      image = c.split_entry.ensures.entries;
      change = entries_behind entries front is;
      counted = omega (arith, size, lower, own, left, c.entries.invariant.counted);
    }

pub overflow_add-result : goal.overflow_add-result
overflow_add-result c =
    let entries = entries_said c.entries.entries.now in
    let map = entries_said c.entries.image.now in
    let none : c.entry_in_front.result ≡ None = grind (arith, common_steps) in
    let empty : entries ≡ [] = none_in_front entries (subst (λ (r : Option Front). IsFront entries r) none c.entry_in_front.ensures.front) in
    let image : c.entries.image.now ≡ bytes_to_end map = behind_first map 22 c.entries.image.now (says_said c.bytes_of_a_change_are_read.ensures.read (22 ∷ c.entries.image.now) c.entries.invariant.image).narrow in
    let most = at_most_both c.bytes_of_a_change_are_read.ensures.read c.args.change.now c.args.from.now c.requires.change c.requires.from in
    omega (arith, most, c.entries.invariant.counted, ap (λ (l : List Entry). length (bytes_to_end (with_all l map))) empty, ap length image)

pub returns : goal.returns
returns c =
    let entries = entries_said c.entries.entries.now in
    let map = entries_said c.entries.image.now in
    let none : c.entry_in_front.result ≡ None = grind (arith, common_steps) in
    let empty : entries ≡ [] = none_in_front entries (subst (λ (r : Option Front). IsFront entries r) none c.entry_in_front.ensures.front) in
    let image : c.entries.image.now ≡ bytes_to_end map = behind_first map 22 c.entries.image.now (says_said c.bytes_of_a_change_are_read.ensures.read (22 ∷ c.entries.image.now) c.entries.invariant.image).narrow in
    omega (arith, c.entries.invariant.counted, ap (λ (l : List Entry). length (bytes_to_end (with_all l map))) empty, ap length image)
