use Rattle.std.proofs.Common.{◌≡◌, ℕ, List, length, take, drop, ap, sym, ◌∙◌, subst, arith}
use Rattle.std.specs.Prelude.{option_map}
use Rattle.std.proofs.lemmas.Grind.{common_steps}
use Rattle.std.proofs.lemmas.List.{drop_at, length-append, take_at}
use Rattle.mt_durable.specs.Fronts.{Names, bytes_to_end, entry_bytes}
use Rattle.mt_durable.specs.Maps.{has_value}
use Rattle.mt_durable.proofs.Fronts.{HasFront, front_begins, has_front, is_front}
use Rattle.mt_durable.proofs.image.entry_in_front.Goals as goal

pub returns-in_err-key : goal.returns-in_err-key
returns-in_err-key c =
    let bytes = c.args.entries.now in
    let has : HasFront bytes = has_front c.bytes_of_a_change_are_read.ensures.read c.narrow_is_element.ensures bytes c.requires (λ e. grind (arith, common_steps, e)) in
    let names = c.key_of.ensures has.entry (bytes_to_end has.entries) has.known.element has.known.is in
    absurd (subst (λ r. Names has.entry (option_map (λ named. (named.0.now, named.1)) r)) c.in_err-key.was names)

pub element_length-requires : goal.element_length-requires
element_length-requires c =
    let bytes = c.args.entries.now in
    front_begins bytes (has_front c.bytes_of_a_change_are_read.ensures.read c.narrow_is_element.ensures bytes c.requires (λ e. grind (arith, common_steps, e)))

pub split_at-requires : goal.split_at-requires
split_at-requires c =
    let bytes = c.args.entries.now in
    let has : HasFront bytes = has_front c.bytes_of_a_change_are_read.ensures.read c.narrow_is_element.ensures bytes c.requires (λ e. grind (arith, common_steps, e)) in
    let size : c.element_length.result ≡ length (entry_bytes has.entry) = c.element_length.ensures (front_begins bytes has) in
    omega (arith, size, ap length has.known.is, length-append (entry_bytes has.entry) (bytes_to_end has.entries))

pub returns-clause-front : goal.returns-clause-front
returns-clause-front c =
    let bytes = c.args.entries.now in
    let has : HasFront bytes = has_front c.bytes_of_a_change_are_read.ensures.read c.narrow_is_element.ensures bytes c.requires (λ e. grind (arith, common_steps, e)) in
    let size : c.element_length.result ≡ length (entry_bytes has.entry) = c.element_length.ensures (front_begins bytes has) in
    let names = c.key_of.ensures has.entry (bytes_to_end has.entries) has.known.element has.known.is in
    let named : (c.in_ok-key.key.now ≡ has.entry.key) × (c.in_ok-key.has_value ≡ has_value has.entry.value) = grind (arith, common_steps, names) in
    is_front c.bytes_of_a_change_are_read.ensures.read bytes has _ named.0 named.1
    (c.split_at.ensures.front ∙ ap (λ (b : List ℕ). take c.element_length.result b) has.known.is ∙ take_at (entry_bytes has.entry) (bytes_to_end has.entries) c.element_length.result (sym size))
    (c.split_at.ensures.back ∙ ap (λ (b : List ℕ). drop c.element_length.result b) has.known.is ∙ drop_at (entry_bytes has.entry) (bytes_to_end has.entries) c.element_length.result (sym size))
