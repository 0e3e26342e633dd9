use Rattle.std.proofs.Common.{◌≡◌, ◌<◌, ◌++◌, ◌∷◌, [], true, false, length, Ok, refl, sym, ap, ◌∙◌, arith}
use Rattle.std.proofs.lemmas.Result.{err_from_is_err_and}
use Rattle.std.proofs.lemmas.List.{map_push}
use Rattle.mt_tlv.specs.declared.value.Tag.{Tag}
use Rattle.mt_tlv.specs.declared.value.Value.{Value}
use Rattle.mt_tlv.specs.Tree.{Tree}
use Rattle.mt_tlv.specs.View.{tree, value_of}
use Rattle.mt_tlv.specs.Reading.{is_end, body_at, members_with}
use Rattle.mt_tlv.specs.Outline.{behind}
use Rattle.mt_tlv.proofs.Loop.{tags_of, in_front, in_front-none, in_front-push, ends, end_fails, goes_on, head_fails, tag_fails, body_fails}
use Rattle.mt_tlv.proofs.Outlines.{there_is, fault_is, remembers_none}
use Rattle.mt_tlv.proofs.Same.{tree_value}
use Rattle.mt_tlv.proofs.outline.+passing.Goals as goal

pub test_members-members-init : goal.test_members-members-init
test_members-members-init t c = ([], length c.args.bytes.now, omega arith, omega arith, remembers_none c.args.kind c.new-seen.result c.new-seen.ensures, sym (in_front-none (members_with (body_at c.args.room c.args.whole) c.args.whole c.args.kind (length c.args.bytes.now) [] c.args.bytes.now)))

pub test_members-returns-in_err-head-clause-gives : goal.test_members-returns-in_err-head-clause-gives
test_members-returns-in_err-head-clause-gives t c =
    let p = err_from_is_err_and c.from_residual.result c.from_residual.ensures.1 in
    let inv = c.members.invariant in
    let no : is_end c.members.rest.now ≡ false = sym c.at_end.ensures ∙ c.members-test.true in
    rw (p.1, p.2) (λ ne. ap behind (inv.5 ∙ ap (in_front inv.0) (head_fails (body_at c.args.room c.args.whole) c.args.whole c.args.kind inv.1 (tags_of inv.0) c.members.rest.now c.in_err-head.field-0.0 inv.2 no c.in_err-head.ensures.gives)))

pub test_members-returns-in_err-allow-clause-gives : goal.test_members-returns-in_err-allow-clause-gives
test_members-returns-in_err-allow-clause-gives t c =
    let p = err_from_is_err_and c.from_residual-in_err-allow.result c.from_residual-in_err-allow.ensures.1 in
    let inv = c.members.invariant in
    let no : is_end c.members.rest.now ≡ false = sym c.at_end.ensures ∙ c.members-test.true in
    let h = c.in_ok-head in
    rw (p.1, p.2) (λ ne. ap behind (inv.5 ∙ ap (in_front inv.0) (tag_fails (body_at c.args.room c.args.whole) c.args.whole c.args.kind inv.1 (tags_of inv.0) c.members.rest.now (h.head.element_type, h.head.tag) h.after.now c.in_err-allow.field-0.0 inv.2 no h.ensures.gives (c.in_err-allow.ensures.gives (tags_of inv.0) inv.4 ne))))

pub test_members-returns-in_err-rest-clause-gives : goal.test_members-returns-in_err-rest-clause-gives
test_members-returns-in_err-rest-clause-gives t c =
    let p = err_from_is_err_and c.from_residual-in_err-rest.result c.from_residual-in_err-rest.ensures.1 in
    let inv = c.members.invariant in
    let no : is_end c.members.rest.now ≡ false = sym c.at_end.ensures ∙ c.members-test.true in
    let h = c.in_ok-head in
    let body = body_at c.args.room c.args.whole in
    rw (p.1, p.2) (λ ne. ap behind (inv.5 ∙ ap (in_front inv.0) (body_fails body c.args.whole c.args.kind inv.1 (tags_of inv.0) c.members.rest.now (h.head.element_type, h.head.tag) h.after.now c.in_err-rest.field-0.0 inv.2 no h.ensures.gives (c.in_ok-allow.ensures.gives (tags_of inv.0) inv.4) (fault_is (body h.head.element_type h.after.now) c.in_err-rest.field-0.0 (c.in_err-rest.ensures.gives ne)))))

pub test_members-members-preserved : goal.test_members-members-preserved
test_members-members-preserved t c =
    let inv = c.members.invariant in
    let ms = inv.0 in
    let no : is_end c.members.rest.now ≡ false = sym c.at_end.ensures ∙ c.members-test.true in
    let h = c.in_ok-head in
    let after = c.in_ok-rest.rest.now in
    let body = body_at c.args.room c.args.whole in
    let v = there_is (body h.head.element_type h.after.now) after c.in_ok-rest.ensures.gives in
    let m : Tag × Value = (h.head.tag, value_of v.0) in
    let is_read = v.1 ∙ ap (λ (w : Tree). Ok (w, after)) (sym (tree_value v.0)) in
    let short : length after < length c.members.rest.now = omega (arith, h.ensures.shorter, c.in_ok-rest.ensures.shorter) in
    let next = goes_on body c.args.whole c.args.kind inv.1 (tags_of ms) c.members.rest.now (h.head.element_type, h.head.tag) h.after.now (tree m.1) after inv.2 no h.ensures.gives (c.in_ok-allow.ensures.gives (tags_of ms) inv.4) is_read short in (
      ms ++ m ∷ [],
      next.0,
      next.1,
      omega (arith, short, inv.3),
      rw (map_push _ ms m) (c.in_ok-allow.ensures.kept (tags_of ms) inv.4),
      inv.5 ∙ ap (in_front ms) next.2 ∙ in_front-push ms m (members_with body c.args.whole c.args.kind next.0 (tags_of ms ++ h.head.tag ∷ []) after) ∙ rw (map_push _ ms m) refl,
    )

pub test_members-returns-in_err-rest-2-clause-gives : goal.test_members-returns-in_err-rest-2-clause-gives
test_members-returns-in_err-rest-2-clause-gives t c =
    let p = err_from_is_err_and c.from_residual-in_err-rest-2.result c.from_residual-in_err-rest-2.ensures.1 in
    let inv = c.members.invariant in
    let yes : is_end c.members.rest.now ≡ true = sym c.at_end.ensures ∙ c.members-test.false in
    rw (p.1, p.2) (λ ne. ap behind (inv.5 ∙ ap (in_front inv.0) (end_fails (body_at c.args.room c.args.whole) c.args.whole c.args.kind inv.1 (tags_of inv.0) c.members.rest.now c.in_err-rest-2.field-0.0 inv.2 yes c.in_err-rest-2.ensures.gives)))

pub test_members-returns-clause-gives : goal.test_members-returns-clause-gives
test_members-returns-clause-gives t c =
    let inv = c.members.invariant in
    let yes : is_end c.members.rest.now ≡ true = sym c.at_end.ensures ∙ c.members-test.false in
    ap behind (inv.5 ∙ ap (in_front inv.0) (ends (body_at c.args.room c.args.whole) c.args.whole c.args.kind inv.1 (tags_of inv.0) c.members.rest.now (c.in_ok-rest-2.field-0-0.now, c.in_ok-rest-2.rest.now) inv.2 yes c.in_ok-rest-2.ensures.gives))
