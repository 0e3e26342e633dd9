use Rattle.std.proofs.Common.{◌≡◌, ◌+◌, ℕ, false, Ok, ap, sym, subst, ◌∙◌, arith}
use Rattle.std.specs.Prelude.{Option, option_map}
use Rattle.std.proofs.lemmas.Grind.{common_steps}
use Rattle.mt_tlv.specs.declared.cursor.Part.{Part}
use Rattle.mt_tlv.specs.Parts.{Place, next_at, piece}
use Rattle.mt_durable.specs.Lengths.{piece_length}
use Rattle.mt_durable.proofs.Lengths.{Counted, all_counted, at_start, counted_more, gives_part, some_bytes, within}
use Rattle.mt_durable.proofs.length.element_length.Goals as goal

pub parts-init : goal.parts-init
parts-init c = λ begins. subst (λ (p : Place). Counted c.args.bytes.now begins p 0) (sym c.new-cursor.ensures) (at_start c.args.bytes.now begins c.cursor_comes_over_the_element.ensures.parts)

pub overflow_add-length : goal.overflow_add-length
overflow_add-length c =
    let more = counted_more c.args.bytes.now c.requires c.cursor_comes_over_the_element.ensures.end c.parts.cursor c.parts.length (piece c.in-Ok-Some.part) c.next.new.self (c.in-Ok-Some.ensures ∙ ap (λ (o : Option Part). Ok (option_map piece o, c.next.new.self)) c.in-Ok-Some.field-0-is) (c.parts.invariant c.requires) in
    let few = within c.args.bytes.now c.requires c.next.new.self (c.parts.length + piece_length (piece c.in-Ok-Some.part)) more in
    grind (arith, common_steps, few, c.part_length-length.ensures)

pub parts-smaller : goal.parts-smaller
parts-smaller c =
    let more = counted_more c.args.bytes.now c.requires c.cursor_comes_over_the_element.ensures.end c.parts.cursor c.parts.length (piece c.in-Ok-Some.part) c.next.new.self (c.in-Ok-Some.ensures ∙ ap (λ (o : Option Part). Ok (option_map piece o, c.next.new.self)) c.in-Ok-Some.field-0-is) (c.parts.invariant c.requires) in
    let few = within c.args.bytes.now c.requires c.next.new.self (c.parts.length + piece_length (piece c.in-Ok-Some.part)) more in
    omega (arith, few, c.part_length-length.ensures, some_bytes (piece c.in-Ok-Some.part))

pub parts-preserved : goal.parts-preserved
parts-preserved c = λ begins.
    subst (λ (n : ℕ). Counted c.args.bytes.now begins c.next.new.self (c.parts.length + n)) (sym c.part_length-length.ensures)
    (counted_more c.args.bytes.now begins c.cursor_comes_over_the_element.ensures.end c.parts.cursor c.parts.length (piece c.in-Ok-Some.part) c.next.new.self (c.in-Ok-Some.ensures ∙ ap (λ (o : Option Part). Ok (option_map piece o, c.next.new.self)) c.in-Ok-Some.field-0-is) (c.parts.invariant begins))

pub returns-in_default : goal.returns-in_default
returns-in_default c = λ begins.
    (let no : gives_part (next_at c.parts.cursor) ≡ false = grind (arith, common_steps) in
    all_counted c.args.bytes.now begins c.parts.cursor c.parts.length no (c.parts.invariant begins))

pub returns-in_default-2 : goal.returns-in_default-2
returns-in_default-2 c = λ begins.
    (let no : gives_part (next_at c.parts.cursor) ≡ false = grind (arith, common_steps) in
    all_counted c.args.bytes.now begins c.parts.cursor c.parts.length no (c.parts.invariant begins))
