use Rattle.std.proofs.Common.{◌≡◌, ◌<◌, ◌++◌, ◌∷◌, [], true, false, length, Ok, refl, sym, ap, ◌∙◌, arith}
use Rattle.std.proofs.lemmas.Result.{err_from_is_err_and}
use Rattle.std.proofs.lemmas.List.{map_push}
use Rattle.mt_tlv.specs.declared.reading.Kind.TheVariants.{Struct}
use Rattle.mt_tlv.specs.declared.value.Tag.{Tag}
use Rattle.mt_tlv.specs.declared.value.Value.{Value}
use Rattle.mt_tlv.specs.Tree.{Tree}
use Rattle.mt_tlv.specs.View.{tree, value_of}
use Rattle.mt_tlv.specs.Reading.{is_end, body_at, members_with}
use Rattle.mt_tlv.specs.Outline.{emptied, outlines, outlines_in}
use Rattle.mt_tlv.proofs.Loop.{tags_of, before-none, in_front, in_front-none, in_front-push, ends, end_fails, goes_on, head_fails, tag_fails, body_fails}
use Rattle.mt_tlv.proofs.Outlines.{there_stands, fault_stands, outlines_push}
use Rattle.mt_tlv.proofs.Same.{tree_value}
use Rattle.mt_tlv.proofs.outline.outlined_fields.Goals as goal

pub fields-init : goal.fields-init
fields-init c = ([], length c.args.bytes.now, omega arith, rw c.new-items.ensures.items refl, c.new-seen.ensures, sym (in_front-none (members_with (body_at 15 c.args.whole) c.args.whole Struct (length c.args.bytes.now) [] c.args.bytes.now)))

pub returns-in_err-head : goal.returns-in_err-head
returns-in_err-head c =
    let p = err_from_is_err_and c.from_residual.result c.from_residual.ensures.1 in
    let inv = c.fields.invariant in
    let no : is_end c.fields.rest.now ≡ false = sym c.at_end.ensures ∙ c.fields-test.true in
    rw (p.1, p.2) (λ ne. ap outlines_in (inv.5 ∙ ap (in_front inv.0) (head_fails (body_at 15 c.args.whole) c.args.whole Struct inv.1 (tags_of inv.0) c.fields.rest.now c.in_err-head.field-0.0 inv.2 no c.in_err-head.ensures.gives)))

pub returns-in_err-allow : goal.returns-in_err-allow
returns-in_err-allow c =
    let p = err_from_is_err_and c.from_residual-in_err-allow.result c.from_residual-in_err-allow.ensures.1 in
    let inv = c.fields.invariant in
    let no : is_end c.fields.rest.now ≡ false = sym c.at_end.ensures ∙ c.fields-test.true in
    let h = c.in_ok-head in
    rw (p.1, p.2) (λ ne. ap outlines_in (inv.5 ∙ ap (in_front inv.0) (tag_fails (body_at 15 c.args.whole) c.args.whole Struct inv.1 (tags_of inv.0) c.fields.rest.now (h.head.element_type, h.head.tag) h.after.now c.in_err-allow.field-0.0 inv.2 no h.ensures.gives (c.in_err-allow.ensures.gives (tags_of inv.0) inv.4 ne))))

pub returns-in_err-value : goal.returns-in_err-value
returns-in_err-value c =
    let p = err_from_is_err_and c.from_residual-in_err-value.result c.from_residual-in_err-value.ensures.1 in
    let inv = c.fields.invariant in
    let no : is_end c.fields.rest.now ≡ false = sym c.at_end.ensures ∙ c.fields-test.true in
    let h = c.in_ok-head in
    let body = body_at 15 c.args.whole in
    rw (p.1, p.2) (λ ne. ap outlines_in (inv.5 ∙ ap (in_front inv.0) (body_fails body c.args.whole Struct inv.1 (tags_of inv.0) c.fields.rest.now (h.head.element_type, h.head.tag) h.after.now c.in_err-value.field-0.0 inv.2 no h.ensures.gives (c.in_ok-allow.ensures.gives (tags_of inv.0) inv.4) (fault_stands (body h.head.element_type h.after.now) c.in_err-value.field-0.0 (c.in_err-value.ensures.gives ne)))))

pub fields-preserved : goal.fields-preserved
fields-preserved c =
    let inv = c.fields.invariant in
    let ms = inv.0 in
    let items = c.fields.items.items in
    let no : is_end c.fields.rest.now ≡ false = sym c.at_end.ensures ∙ c.fields-test.true in
    let h = c.in_ok-head in
    let value = c.in_ok-value in
    let body = body_at 15 c.args.whole in
    let v = there_stands (body h.head.element_type h.after.now) (tree value.value) value.after.now value.ensures.gives in
    let m : Tag × Value = (h.head.tag, value_of v.0) in
    let is_read = v.1 ∙ ap (λ (w : Tree). Ok (w, value.after.now)) (sym (tree_value v.0)) in
    let short : length value.after.now < length c.fields.rest.now = omega (arith, h.ensures.shorter, value.ensures.shorter) in
    let next = goes_on body c.args.whole Struct inv.1 (tags_of ms) c.fields.rest.now (h.head.element_type, h.head.tag) h.after.now (tree m.1) value.after.now inv.2 no h.ensures.gives (c.in_ok-allow.ensures.gives (tags_of ms) inv.4) is_read short in
    let pushed : c.push.new.self.items ≡ items ++ (h.head.tag, value.value) ∷ [] = c.in_ok-push.ensures.items in
    let outline : tree value.value ≡ emptied (tree (value_of v.0)) = sym v.2 ∙ ap emptied (sym (tree_value v.0)) in (
      ms ++ m ∷ [],
      next.0,
      next.1,
      rw pushed (outlines_push items ms h.head.tag value.value (value_of v.0) inv.3 outline),
      rw (map_push _ ms m) (c.in_ok-allow.ensures.kept (tags_of ms) inv.4),
      inv.5 ∙ ap (in_front ms) next.2 ∙ in_front-push ms m (members_with body c.args.whole Struct next.0 (tags_of ms ++ h.head.tag ∷ []) value.after.now) ∙ rw (map_push _ ms m) refl,
    )

pub returns-in_err-take_piece : goal.returns-in_err-take_piece
returns-in_err-take_piece c =
    let p = err_from_is_err_and c.from_residual-in_err-take_piece.result c.from_residual-in_err-take_piece.ensures.1 in
    let inv = c.fields.invariant in
    let yes : is_end c.fields.rest.now ≡ true = sym c.at_end.ensures ∙ c.fields-test.false in
    rw (p.1, p.2) (λ ne. ap outlines_in (inv.5 ∙ ap (in_front inv.0) (end_fails (body_at 15 c.args.whole) c.args.whole Struct inv.1 (tags_of inv.0) c.fields.rest.now c.in_err-take_piece.field-0.0 inv.2 yes c.in_err-take_piece.ensures.gives)))

pub returns : goal.returns
returns c =
    let inv = c.fields.invariant in
    let yes : is_end c.fields.rest.now ≡ true = sym c.at_end.ensures ∙ c.fields-test.false in
    let piece = c.in_ok-take_piece.field-0 in
    ap outlines_in (inv.5 ∙ ap (in_front inv.0) (ends (body_at 15 c.args.whole) c.args.whole Struct inv.1 (tags_of inv.0) c.fields.rest.now (piece.0.now, piece.1.now) inv.2 yes c.in_ok-take_piece.ensures.gives)) ∙ ap (λ es. Ok (outlines es)) (before-none inv.0) ∙ ap Ok (sym inv.3)
