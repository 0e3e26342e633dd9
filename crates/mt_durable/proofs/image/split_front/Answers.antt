use Rattle.std.proofs.Common.{◌≡◌, ℕ, List, length, take, drop, ap, sym, ◌∙◌, arith}
use Rattle.std.proofs.lemmas.List.{drop_at, length-append, take_at}
use Rattle.mt_durable.specs.Fronts.{bytes_to_end, entry_bytes}
use Rattle.mt_durable.proofs.Fronts.{HasFront, front_begins, goes_on, has_front, is_split}
use Rattle.mt_durable.proofs.image.split_front.Goals as goal

pub element_length-requires : goal.element_length-requires
element_length-requires c =
    let bytes = c.args.entries.now in
    let read = c.bytes_of_a_change_are_read.ensures.read in
    front_begins bytes (has_front read c.narrow_is_element.ensures bytes c.requires.entries (goes_on read bytes c.requires.entries c.requires.some))

pub split_at-requires : goal.split_at-requires
split_at-requires c =
    let bytes = c.args.entries.now in
    let read = c.bytes_of_a_change_are_read.ensures.read in
    let has : HasFront bytes = has_front read c.narrow_is_element.ensures bytes c.requires.entries (goes_on read bytes c.requires.entries c.requires.some) in
    let size : c.element_length.result ≡ length (entry_bytes has.entry) = c.element_length.ensures (front_begins bytes has) in
    omega (arith, size, ap length has.known.is, length-append (entry_bytes has.entry) (bytes_to_end has.entries))

pub returns-clause-front : goal.returns-clause-front
returns-clause-front c =
    let bytes = c.args.entries.now in
    let read = c.bytes_of_a_change_are_read.ensures.read in
    let has : HasFront bytes = has_front read c.narrow_is_element.ensures bytes c.requires.entries (goes_on read bytes c.requires.entries c.requires.some) in
    let size : c.element_length.result ≡ length (entry_bytes has.entry) = c.element_length.ensures (front_begins bytes has) in
    is_split read bytes has _ _
    (c.split_at.ensures.front ∙ ap (λ (b : List ℕ). take c.element_length.result b) has.known.is ∙ take_at (entry_bytes has.entry) (bytes_to_end has.entries) c.element_length.result (sym size))
    (c.split_at.ensures.back ∙ ap (λ (b : List ℕ). drop c.element_length.result b) has.known.is ∙ drop_at (entry_bytes has.entry) (bytes_to_end has.entries) c.element_length.result (sym size))
