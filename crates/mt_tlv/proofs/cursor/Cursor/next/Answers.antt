use Rattle.std.proofs.Common.{◌≡◌, true, false, ◌&&◌, take, refl, sym, ap, ◌∙◌, arith, length, Option, Some, Ok}
use Rattle.std.specs.Prelude.{is_none, reverse}
use Rattle.std.proofs.lemmas.List.{length-reverse, length-take}
use Rattle.mt_tlv.specs.Parts.{innermost, kinds_after, piece}
use Rattle.mt_tlv.specs.declared.fault.TlvFault.{TlvFault}
use Rattle.mt_tlv.proofs.Cursors.{place, next_fault, next_ended, next_err, next_ok}
use Rattle.mt_tlv.proofs.cursor.Cursor.next.Goals as goal

pub returns-in-Some : goal.returns-in-Some
returns-in-Some c = rw (← c.self.view_is) (next_fault _ c.in-Some.fault c.in-Some.is)

pub returns-then-ended : goal.returns-then-ended
returns-then-ended c =
    let i = c.self.inside in
    let yes : (i.begun && is_none (innermost (reverse (take i.depth i.kinds)))) ≡ true = rw (← c.innermost_of-innermost.ensures.value) (sym c.ended.ensures ∙ c.if-ended.true) in
    rw (← c.self.view_is) (next_ended _ c.in_default.not-Some yes)

pub returns-in-Err : goal.returns-in-Err
returns-in-Err c =
    let i = c.self.inside in
    let no : (i.begun && is_none (innermost (reverse (take i.depth i.kinds)))) ≡ false = rw (← c.innermost_of-innermost.ensures.value) (sym c.ended.ensures ∙ c.if-ended.false) in
    let depth : i.depth ≡ length (reverse (take i.depth i.kinds)) = simp (length-reverse, length-take) (omega arith) in
    rw (← c.self.view_is) (next_err _ c.in_default.not-Some no c.in-Err.fault i.depth depth (rw (← c.innermost_of-innermost.ensures.value) c.in-Err.ensures.gives), refl)

pub returns-in-Ok : goal.returns-in-Ok
returns-in-Ok c =
    let i = c.self.inside in
    let no : (i.begun && is_none (innermost (reverse (take i.depth i.kinds)))) ≡ false = rw (← c.innermost_of-innermost.ensures.value) (sym c.ended.ensures ∙ c.if-ended.false) in
    let depth : i.depth ≡ length (reverse (take i.depth i.kinds)) = simp (length-reverse, length-take) (omega arith) in
    let next = next_ok _ c.in_default.not-Some no (piece c.in-Ok.part) c.in-Ok.rest.now i.depth depth (rw (← c.innermost_of-innermost.ensures.value) c.in-Ok.ensures.gives) in
    rw (← c.self.view_is) (rw c.step-self-inside.ensures.kinds (next ∙ ap (λ (f : Option TlvFault). Ok (Some (piece c.in-Ok.part), place i.whole c.in-Ok.rest.now (kinds_after (piece c.in-Ok.part) (reverse (take i.depth i.kinds))) true f)) (sym c.in_default.is)))
