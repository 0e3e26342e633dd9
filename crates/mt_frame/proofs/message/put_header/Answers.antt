use Rattle.std.proofs.Common.{◌≡◌, ◌+◌, ◌≤◌, List, [], ◌++◌, ℕ, drop, length, refl, sym, ap, ◌∙◌, arith}
use Rattle.std.specs.Prelude.{is_some}
use Rattle.std.proofs.lemmas.List.{length-append}
use Rattle.mt_frame.specs.Writing.{optional_bytes, message_bytes}
use Rattle.mt_frame.specs.Reading.{width_where}
use Rattle.mt_frame.proofs.Writes.{length-message}
use Rattle.mt_frame.proofs.message.put_header.Goals as goal

pub returns-clause-put : goal.returns-clause-put
returns-clause-put c =
    let header = c.args.header in
    let old = c.args.out.now in
    let fixed = c.fixed_fields.result in
    let source = optional_bytes 8 header.source in
    let destination = optional_bytes 8 header.destination in
    let first : c.put-at.new.out ≡ fixed ++ drop c.put-at.result old = c.put-at.ensures.front [] old refl refl in
    let one : length fixed ≡ c.put-at.result = omega (arith, c.put-at.ensures.place) in
    let second : c.put_node-at.new.out ≡ (fixed ++ source) ++ drop c.put_node-at.result old = c.put_node-at.ensures.front fixed old one first in
    let two : length (fixed ++ source) ≡ c.put_node-at.result = omega (arith, length-append fixed source, one, c.put_node-at.ensures.place) in
    let third : c.put_node-at-2.new.out ≡ ((fixed ++ source) ++ destination) ++ drop c.put_node-at-2.result old = c.put_node-at-2.ensures.front (fixed ++ source) old two second in
    let whole : (fixed ++ source) ++ destination ≡ message_bytes header = ap (λ (x : List ℕ). (x ++ source) ++ destination) c.fixed_fields.ensures.value in
    let three : length ((fixed ++ source) ++ destination) ≡ c.put_node-at-2.result = omega (arith, length-append (fixed ++ source) destination, two, c.put_node-at-2.ensures.place) in
    let size : c.put_node-at-2.result ≡ length (message_bytes header) = sym three ∙ ap length whole in
    let needed = length-message header in
    let source_said : c.is_some.result ≡ is_some header.source = c.is_some.ensures in
    let destination_said : c.is_some-2.result ≡ is_some header.destination = c.is_some-2.ensures in
    let length_is : c.header_length-length.result ≡ 8 + width_where (is_some header.source) 8 + width_where (is_some header.destination) 8 = rw (← source_said, ← destination_said) c.header_length-length.ensures in
    let room : length (message_bytes header) ≤ length old = omega (arith, needed, c.if-out-length.false, length_is) in
    (size, room, third ∙ ap (λ (x : List ℕ). x ++ drop c.put_node-at-2.result old) whole)
