use Rattle.std.proofs.Common.{◌≡◌, ℕ, List, [], ◌∷◌, ◌++◌, length, take, drop, ap, sym, ◌∙◌, subst, append_assoc, arith}
use Rattle.std.specs.Prelude.{Option, Some, None}
use Rattle.std.proofs.lemmas.Grind.{common_steps}
use Rattle.std.proofs.lemmas.List.{length-append}
use Rattle.mt_durable.specs.Fronts.{IsFront, bytes_if, bytes_to_end, entries_said, lower_bytes}
use Rattle.mt_durable.specs.Images.{image_after}
use Rattle.mt_durable.specs.Setting.{count_before, with_all, without}
use Rattle.mt_durable.specs.declared.durable.Entry.{Entry}
use Rattle.mt_durable.specs.declared.image.Front.{Front}
use Rattle.mt_durable.proofs.Fronts.{behind_first, entries_behind, fewer, merged_front, none_in_front, says_said}
use Rattle.mt_durable.proofs.Places.{size_with}
use Rattle.mt_durable.proofs.image.merge_image.Goals as goal

pub merge_entry-at-requires-clause-room : goal.merge_entry-at-requires-clause-room
merge_entry-at-requires-clause-room c =
    let entries = entries_said c.entries.entries.now in
    let map = entries_said c.entries.image.now in
    let front = c.in-Some.entry in
    let is : IsFront entries (Some front) = subst (λ (r : Option Front). IsFront entries r) c.in-Some.is c.entry_in_front.ensures.front in
    let up = (says_said c.bytes_of_a_change_are_read.ensures.read (22 ∷ c.entries.entries.now) c.entries.invariant.change).ascend in
    let behind = bytes_to_end (with_all (entries_said front.rest.now) (without front.key.now (drop (count_before front.key.now map) map))) in
    omega (
      arith,
      c.requires.room,
      size_with c.entries.into (bytes_to_end (with_all entries map)) (image_after c.args.change.now c.args.from.now) c.entries.end c.entries.invariant.added c.entries.invariant.within,
      ap length (merged_front entries map front is up),
      length-append (lower_bytes front.key.now map ++ bytes_if front.has_value front.bytes.now) behind,
      length-append (lower_bytes front.key.now map) (bytes_if front.has_value front.bytes.now),
    )

pub entries-smaller : goal.entries-smaller
entries-smaller c =
    let entries = entries_said c.entries.entries.now in
    let is : IsFront entries (Some c.in-Some.entry) = subst (λ (r : Option Front). IsFront entries r) c.in-Some.is c.entry_in_front.ensures.front in
    omega (arith, fewer entries c.in-Some.entry is)

pub entries-preserved : goal.entries-preserved
entries-preserved c =
    let entries = entries_said c.entries.entries.now in
    let map = entries_said c.entries.image.now in
    let front = c.in-Some.entry in
    let is : IsFront entries (Some front) = subst (λ (r : Option Front). IsFront entries r) c.in-Some.is c.entry_in_front.ensures.front in
    let up = (says_said c.bytes_of_a_change_are_read.ensures.read (22 ∷ c.entries.entries.now) c.entries.invariant.change).ascend in
    let own = lower_bytes front.key.now map ++ bytes_if front.has_value front.bytes.now in
    let left = without front.key.now (drop (count_before front.key.now map) map) in
    let written = take c.entries.end c.entries.into in
    record {
      image = c.merge_entry-at.ensures.entries;
      change = entries_behind entries front is;
      within = c.merge_entry-at.ensures.within;
      added =
          ap (λ (l : List ℕ). l ++ bytes_to_end (with_all (entries_said front.rest.now) (entries_said c.merge_entry-at.result.0.now))) c.merge_entry-at.ensures.added
          ∙ ap (λ (l : List Entry). (written ++ own) ++ bytes_to_end (with_all (entries_said front.rest.now) l)) c.merge_entry-at.ensures.left
          ∙ append_assoc written own (bytes_to_end (with_all (entries_said front.rest.now) left))
          ∙ ap (λ (l : List ℕ). written ++ l) (sym (merged_front entries map front is up))
          ∙ c.entries.invariant.added;
    }

pub add-requires : goal.add-requires
add-requires c =
    let entries = entries_said c.entries.entries.now in
    let map = entries_said c.entries.image.now in
    let none : c.entry_in_front.result ≡ None = grind (arith, common_steps) in
    let empty : entries ≡ [] = none_in_front entries (subst (λ (r : Option Front). IsFront entries r) none c.entry_in_front.ensures.front) in
    let image : c.entries.image.now ≡ bytes_to_end map = behind_first map 22 c.entries.image.now (says_said c.bytes_of_a_change_are_read.ensures.read (22 ∷ c.entries.image.now) c.entries.invariant.image).narrow in
    omega (
      arith,
      c.requires.room,
      size_with c.entries.into (bytes_to_end (with_all entries map)) (image_after c.args.change.now c.args.from.now) c.entries.end c.entries.invariant.added c.entries.invariant.within,
      ap (λ (l : List Entry). length (bytes_to_end (with_all l map))) empty,
      ap length image,
    )

pub returns-clause-count : goal.returns-clause-count
returns-clause-count c =
    let entries = entries_said c.entries.entries.now in
    let map = entries_said c.entries.image.now in
    let none : c.entry_in_front.result ≡ None = grind (arith, common_steps) in
    let empty : entries ≡ [] = none_in_front entries (subst (λ (r : Option Front). IsFront entries r) none c.entry_in_front.ensures.front) in
    let image : c.entries.image.now ≡ bytes_to_end map = behind_first map 22 c.entries.image.now (says_said c.bytes_of_a_change_are_read.ensures.read (22 ∷ c.entries.image.now) c.entries.invariant.image).narrow in
    omega (
      arith,
      size_with c.entries.into (bytes_to_end (with_all entries map)) (image_after c.args.change.now c.args.from.now) c.entries.end c.entries.invariant.added c.entries.invariant.within,
      ap (λ (l : List Entry). length (bytes_to_end (with_all l map))) empty,
      ap length image,
    )
