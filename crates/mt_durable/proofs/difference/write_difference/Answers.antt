use Rattle.std.proofs.Common.{◌≡◌, ℕ, List, [], ◌∷◌, ◌++◌, length, take, ap, ◌∙◌, subst, append_assoc, arith}
use Rattle.std.specs.Prelude.{Option, Some, None}
use Rattle.std.proofs.lemmas.Grind.{common_steps}
use Rattle.std.proofs.lemmas.List.{length-append}
use Rattle.std.proofs.lemmas.Option.{IfSome_then}
use Rattle.mt_durable.specs.Differences.{behind, difference_bytes, differences, set_up_to}
use Rattle.mt_durable.specs.Fronts.{IsFront, bytes_to_end, entries_bytes, entries_said}
use Rattle.mt_durable.specs.declared.durable.Entry.{Entry}
use Rattle.mt_durable.specs.declared.image.Front.{Front}
use Rattle.mt_durable.proofs.DifferenceSteps.{differences_front, stands_front}
use Rattle.mt_durable.proofs.Fronts.{behind_first, entries_behind, fewer, none_in_front, says_said}
use Rattle.mt_durable.proofs.Places.{size_with}
use Rattle.mt_durable.proofs.difference.write_difference.Goals as goal

pub returns-in_err-behind-clause-room : goal.returns-in_err-behind-clause-room
returns-in_err-behind-clause-room c = λ none.
    (let entries = entries_said c.entries.left.now in
    let others = entries_said c.entries.others.now in
    let front = c.in-Some.entry in
    let is : IsFront entries (Some front) = subst (λ (r : Option Front). IsFront entries r) c.in-Some.is c.entry_in_front.ensures.front in
    let stands = stands_front entries front is in
    omega (
      arith,
      c.write_entry.ensures.room stands c.in_err-behind.was,
      c.entries.invariant.size,
      size_with c.entries.into (bytes_to_end (differences entries others)) (difference_bytes c.args.from.now c.args.to.now) c.entries.end c.entries.invariant.added c.entries.invariant.within,
      ap length (differences_front entries others front is),
      length-append (entries_bytes (set_up_to stands.entry others)) (bytes_to_end (differences (entries_said front.rest.now) (behind front.key.now others))),
    ))

pub entries-smaller : goal.entries-smaller
entries-smaller c =
    let entries = entries_said c.entries.left.now in
    let is : IsFront entries (Some c.in-Some.entry) = subst (λ (r : Option Front). IsFront entries r) c.in-Some.is c.entry_in_front.ensures.front in
    omega (arith, fewer entries c.in-Some.entry is)

pub entries-preserved : goal.entries-preserved
entries-preserved c =
    let entries = entries_said c.entries.left.now in
    let others = entries_said c.entries.others.now in
    let front = c.in-Some.entry in
    let is : IsFront entries (Some front) = subst (λ (r : Option Front). IsFront entries r) c.in-Some.is c.entry_in_front.ensures.front in
    let stands = stands_front entries front is in
    let own = entries_bytes (set_up_to stands.entry others) in
    let rest = bytes_to_end (differences (entries_said front.rest.now) (behind front.key.now others)) in
    let written = take c.entries.end c.entries.into in
    record {
      left = entries_behind entries front is;
      others = c.in_ok-behind.ensures.entries;
      within = c.in_ok-behind.ensures.within;
      size = c.write_entry.ensures.size ∙ c.entries.invariant.size;
      added =
          ap (λ (l : List Entry). take c.in_ok-behind.at c.write_entry.new.into ++ bytes_to_end (differences (entries_said front.rest.now) l)) c.in_ok-behind.ensures.left
          ∙ ap (λ (l : List ℕ). l ++ rest) (c.in_ok-behind.ensures.added stands)
          ∙ append_assoc written own rest
          ∙ ap (λ (l : List ℕ). written ++ l) (differences_front entries others front is)
          ∙ c.entries.invariant.added;
    }

pub returns-clause-count : goal.returns-clause-count
returns-clause-count c =
    let entries = entries_said c.entries.left.now in
    let others = entries_said c.entries.others.now in
    let none : c.entry_in_front.result ≡ None = grind (arith, common_steps) in
    let empty : entries ≡ [] = none_in_front entries (subst (λ (r : Option Front). IsFront entries r) none c.entry_in_front.ensures.front) in
    let bytes : c.entries.others.now ≡ bytes_to_end others = behind_first others 22 c.entries.others.now (says_said c.bytes_of_a_change_are_read.ensures.read (22 ∷ c.entries.others.now) c.entries.invariant.others).narrow in
    let size = size_with c.entries.into (bytes_to_end (differences entries others)) (difference_bytes c.args.from.now c.args.to.now) c.entries.end c.entries.invariant.added c.entries.invariant.within in
    let left = ap (λ (l : List Entry). length (bytes_to_end (differences l others))) empty in
    let last = ap length bytes in
    IfSome_then c.add_within-2.result c.add_within-2.ensures.end (λ count is. omega (arith, is, size, left, last))

pub returns-clause-room : goal.returns-clause-room
returns-clause-room c = λ full.
    (let entries = entries_said c.entries.left.now in
    let others = entries_said c.entries.others.now in
    let none : c.entry_in_front.result ≡ None = grind (arith, common_steps) in
    let empty : entries ≡ [] = none_in_front entries (subst (λ (r : Option Front). IsFront entries r) none c.entry_in_front.ensures.front) in
    let bytes : c.entries.others.now ≡ bytes_to_end others = behind_first others 22 c.entries.others.now (says_said c.bytes_of_a_change_are_read.ensures.read (22 ∷ c.entries.others.now) c.entries.invariant.others).narrow in
    omega (
      arith,
      c.add_within-2.ensures.room full,
      c.entries.invariant.size,
      size_with c.entries.into (bytes_to_end (differences entries others)) (difference_bytes c.args.from.now c.args.to.now) c.entries.end c.entries.invariant.added c.entries.invariant.within,
      ap (λ (l : List Entry). length (bytes_to_end (differences l others))) empty,
      ap length bytes,
    ))
