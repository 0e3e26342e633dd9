use Rattle.std.proofs.Common.{◌≡◌, ◌+◌, ◌≤◌, List, [], ◌++◌, ℕ, drop, length, refl, sym, ap, ◌∙◌, arith}
use Rattle.std.specs.Prelude.{is_some}
use Rattle.std.proofs.lemmas.List.{length-append}
use Rattle.mt_frame.specs.Writing.{optional_bytes, protocol_bytes}
use Rattle.mt_frame.specs.Reading.{width_where}
use Rattle.mt_frame.proofs.Writes.{length-protocol}
use Rattle.mt_frame.proofs.protocol.put_header.Goals as goal

pub returns-clause-put : goal.returns-clause-put
returns-clause-put c =
    let header = c.args.header in
    let old = c.args.out.now in
    let fixed = c.fixed_fields.result in
    let vendor = optional_bytes 2 header.vendor in
    let acknowledged = optional_bytes 4 header.acknowledged in
    let first : c.put-at.new.out ≡ fixed ++ drop c.put-at.result old = c.put-at.ensures.front [] old refl refl in
    let one : length fixed ≡ c.put-at.result = omega (arith, c.put-at.ensures.place) in
    let second : c.put_vendor-at.new.out ≡ (fixed ++ vendor) ++ drop c.put_vendor-at.result old = c.put_vendor-at.ensures.front fixed old one first in
    let two : length (fixed ++ vendor) ≡ c.put_vendor-at.result = omega (arith, length-append fixed vendor, one, c.put_vendor-at.ensures.place) in
    let third : c.put_counter-at.new.out ≡ ((fixed ++ vendor) ++ acknowledged) ++ drop c.put_counter-at.result old = c.put_counter-at.ensures.front (fixed ++ vendor) old two second in
    let whole : (fixed ++ vendor) ++ acknowledged ≡ protocol_bytes header = ap (λ (x : List ℕ). (x ++ vendor) ++ acknowledged) c.fixed_fields.ensures.value in
    let three : length ((fixed ++ vendor) ++ acknowledged) ≡ c.put_counter-at.result = omega (arith, length-append (fixed ++ vendor) acknowledged, two, c.put_counter-at.ensures.place) in
    let size : c.put_counter-at.result ≡ length (protocol_bytes header) = sym three ∙ ap length whole in
    let needed = length-protocol header in
    let vendor_said : c.is_some.result ≡ is_some header.vendor = c.is_some.ensures in
    let acknowledged_said : c.is_some-2.result ≡ is_some header.acknowledged = c.is_some-2.ensures in
    let length_is : c.header_length-length.result ≡ 6 + width_where (is_some header.vendor) 2 + width_where (is_some header.acknowledged) 4 = rw (← vendor_said, ← acknowledged_said) c.header_length-length.ensures in
    let room : length (protocol_bytes header) ≤ length old = omega (arith, needed, c.if-out-length.false, length_is) in
    (size, room, third ∙ ap (λ (x : List ℕ). x ++ drop c.put_counter-at.result old) whole)
