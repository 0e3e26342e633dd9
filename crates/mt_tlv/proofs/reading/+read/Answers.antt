use Rattle.std.proofs.Common.{◌≡◌, ◌<◌, ◌++◌, ◌∷◌, [], true, false, length, refl, sym, ap, ◌∙◌, arith}
use Rattle.std.proofs.lemmas.Result.{err_from_is_err_and}
use Rattle.std.proofs.lemmas.List.{map_push}
use Rattle.mt_tlv.specs.View.{tree}
use Rattle.mt_tlv.specs.Reading.{is_end, body_at, members_with}
use Rattle.mt_tlv.proofs.Loop.{tags_of, in_front, in_front-push, before-none, ends, end_fails, goes_on, head_fails, tag_fails, body_fails, container_fails}
use Rattle.mt_tlv.proofs.reading.+read.Goals as goal

pub read_members-returns-in_err-head-clause-gives : goal.read_members-returns-in_err-head-clause-gives
read_members-returns-in_err-head-clause-gives t c =
    let p = err_from_is_err_and c.from_residual.result c.from_residual.ensures.1 in
    let inv = c.members.invariant in
    let no : is_end c.members.rest.now ≡ false = sym c.at_end.ensures ∙ c.members-test.true in
    rw (p.1, p.2) (λ ne. inv.4 ∙ ap (in_front c.members.items.items) (head_fails (body_at c.args.room c.args.whole) c.args.whole c.args.kind inv.0 (tags_of c.members.items.items) c.members.rest.now c.in_err-head.field-0.0 inv.1 no c.in_err-head.ensures.gives))

pub read_members-returns-in_err-allow-clause-gives : goal.read_members-returns-in_err-allow-clause-gives
read_members-returns-in_err-allow-clause-gives t c =
    let p = err_from_is_err_and c.from_residual-in_err-allow.result c.from_residual-in_err-allow.ensures.1 in
    let inv = c.members.invariant in
    let no : is_end c.members.rest.now ≡ false = sym c.at_end.ensures ∙ c.members-test.true in
    let h = c.in_ok-head in
    rw (p.1, p.2) (λ ne. inv.4 ∙ ap (in_front c.members.items.items) (tag_fails (body_at c.args.room c.args.whole) c.args.whole c.args.kind inv.0 (tags_of c.members.items.items) c.members.rest.now (h.head.element_type, h.head.tag) h.after.now c.in_err-allow.field-0.0 inv.1 no h.ensures.gives (c.in_err-allow.ensures.gives (tags_of c.members.items.items) inv.3 ne)))

pub read_members-returns-in_err-value-clause-gives : goal.read_members-returns-in_err-value-clause-gives
read_members-returns-in_err-value-clause-gives t c =
    let p = err_from_is_err_and c.from_residual-in_err-value.result c.from_residual-in_err-value.ensures.1 in
    let inv = c.members.invariant in
    let no : is_end c.members.rest.now ≡ false = sym c.at_end.ensures ∙ c.members-test.true in
    let h = c.in_ok-head in
    rw (p.1, p.2) (λ ne. inv.4 ∙ ap (in_front c.members.items.items) (body_fails (body_at c.args.room c.args.whole) c.args.whole c.args.kind inv.0 (tags_of c.members.items.items) c.members.rest.now (h.head.element_type, h.head.tag) h.after.now c.in_err-value.field-0.0 inv.1 no h.ensures.gives (c.in_ok-allow.ensures.gives (tags_of c.members.items.items) inv.3) (c.in_err-value.ensures.gives ne)))

pub read_members-members-preserved : goal.read_members-members-preserved
read_members-members-preserved t c =
    let inv = c.members.invariant in
    let items = c.members.items.items in
    let no : is_end c.members.rest.now ≡ false = sym c.at_end.ensures ∙ c.members-test.true in
    let h = c.in_ok-head in
    let v = c.in_ok-value in
    let short : length v.after.now < length c.members.rest.now = omega (arith, h.ensures.shorter, v.ensures.shorter) in
    let next = goes_on (body_at c.args.room c.args.whole) c.args.whole c.args.kind inv.0 (tags_of items) c.members.rest.now (h.head.element_type, h.head.tag) h.after.now (tree v.value) v.after.now inv.1 no h.ensures.gives (c.in_ok-allow.ensures.gives (tags_of c.members.items.items) inv.3) v.ensures.gives short in
    let pushed : c.push.new.self.items ≡ items ++ (h.head.tag, v.value) ∷ [] = c.in_ok-push.ensures.items in (
      next.0,
      next.1,
      omega (arith, short, inv.2),
      rw (pushed, map_push _ items (h.head.tag, v.value)) (c.in_ok-allow.ensures.kept (tags_of items) inv.3),
      inv.4 ∙ ap (in_front items) next.2 ∙ in_front-push items (h.head.tag, v.value) (members_with (body_at c.args.room c.args.whole) c.args.whole c.args.kind next.0 (tags_of items ++ h.head.tag ∷ []) v.after.now)
          ∙ rw (pushed, map_push _ items (h.head.tag, v.value)) refl,
    )

pub read_members-returns-in_err-rest-clause-gives : goal.read_members-returns-in_err-rest-clause-gives
read_members-returns-in_err-rest-clause-gives t c =
    let p = err_from_is_err_and c.from_residual-in_err-rest.result c.from_residual-in_err-rest.ensures.1 in
    let inv = c.members.invariant in
    let yes : is_end c.members.rest.now ≡ true = sym c.at_end.ensures ∙ c.members-test.false in
    rw (p.1, p.2) (λ ne. inv.4 ∙ ap (in_front c.members.items.items) (end_fails (body_at c.args.room c.args.whole) c.args.whole c.args.kind inv.0 (tags_of c.members.items.items) c.members.rest.now c.in_err-rest.field-0.0 inv.1 yes c.in_err-rest.ensures.gives))

pub read_members-returns-clause-gives : goal.read_members-returns-clause-gives
read_members-returns-clause-gives t c =
    let inv = c.members.invariant in
    let yes : is_end c.members.rest.now ≡ true = sym c.at_end.ensures ∙ c.members-test.false in
    inv.4 ∙ ap (in_front c.members.items.items) (ends (body_at c.args.room c.args.whole) c.args.whole c.args.kind inv.0 (tags_of c.members.items.items) c.members.rest.now (c.in_ok-rest.field-0-0.now, c.in_ok-rest.rest.now) inv.1 yes c.in_ok-rest.ensures.gives) ∙ rw (before-none c.members.items.items) refl

pub read_container-returns-in_err-items-clause-gives : goal.read_container-returns-in_err-items-clause-gives
read_container-returns-in_err-items-clause-gives t c =
    let p = err_from_is_err_and c.from_residual-in_err-items.result c.from_residual-in_err-items.ensures.1 in
    rw (p.1, p.2) (λ ne. container_fails c.args.room c.args.whole c.args.kind c.args.bytes.now (c.in_ok-rest.field-0-0.now, c.in_ok-rest.rest.now) c.in_err-items.field-0.0 (omega (arith, c.if-room-eq0.false)) c.in_ok-rest.ensures.gives (c.in_err-items.ensures.gives ne))
