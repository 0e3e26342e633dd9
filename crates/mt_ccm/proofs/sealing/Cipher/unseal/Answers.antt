use Rattle.std.proofs.Common.{ℕ, ◌-◌, List, length, take, refl, arith}
use Rattle.std.proofs.lemmas.Bool.{both_ways}
use Rattle.mt_ccm.proofs.ScheduleFacts.{schedule_of}
use Rattle.mt_ccm.proofs.SealFacts.{back_is, none_in_short, opened_is, put_back, same_tag}
use Rattle.mt_ccm.specs.Words.{IsScheduleOf}
use Rattle.mt_ccm.proofs.sealing.Cipher.unseal.Goals as goal

pub returns-then-buf-lt16-clause-refused : goal.returns-then-buf-lt16-clause-refused
returns-then-buf-lt16-clause-refused c = λ plain is.
    none_in_short c.args.self.now c.args.nonce.now c.args.aad.now plain c.args.buf.now c.if-buf-lt16.true is

pub returns-then-whole-clause-opened : goal.returns-then-whole-clause-opened
returns-then-whole-clause-opened c =
    let held : IsScheduleOf c.args.self.now c.self.inside.words = schedule_of c.args.self.now c.self.inside.words c.self.view_is c.self.invariant in
    let key : List ℕ = c.args.self.now in
    let old : List ℕ = c.args.buf.now in
    let middle : List ℕ = c.open_text-tag.new.bytes in
    let n : ℕ = length old - 16 in
    opened_is key c.args.nonce.now c.args.aad.now old middle (take n middle) c.open_text-tag.result n
    (omega arith) refl (c.open_text-tag.ensures.text key held)
    (c.open_text-tag.ensures.tag key held) (c.ends_with_tag-whole.ensures.0 c.if-whole.true)

pub returns-then-whole-clause-rest : goal.returns-then-whole-clause-rest
returns-then-whole-clause-rest c =
    let held : IsScheduleOf c.args.self.now c.self.inside.words = schedule_of c.args.self.now c.self.inside.words c.self.view_is c.self.invariant in
    let old : List ℕ = c.args.buf.now in
    back_is c.args.self.now c.args.nonce.now c.args.aad.now old c.open_text-tag.new.bytes (length old - 16) (omega arith)
    (c.open_text-tag.ensures.text c.args.self.now held)

pub returns-clause-refused : goal.returns-clause-refused
returns-clause-refused c = λ plain is.
    let held : IsScheduleOf c.args.self.now c.self.inside.words = schedule_of c.args.self.now c.self.inside.words c.self.view_is c.self.invariant in
    let key : List ℕ = c.args.self.now in
    let old : List ℕ = c.args.buf.now in
    let middle : List ℕ = c.open_text-tag.new.bytes in
    let n : ℕ = length old - 16 in
    both_ways _ c.if-whole.false (c.ends_with_tag-whole.ensures.1
    (same_tag key c.args.nonce.now c.args.aad.now plain old middle (take n middle) c.open_text-tag.result n
    (omega arith) refl (c.open_text-tag.ensures.text key held)
    (c.open_text-tag.ensures.tag key held) is))

pub returns-clause-kept : goal.returns-clause-kept
returns-clause-kept c =
    let held : IsScheduleOf c.args.self.now c.self.inside.words = schedule_of c.args.self.now c.self.inside.words c.self.view_is c.self.invariant in
    let key : List ℕ = c.args.self.now in
    let old : List ℕ = c.args.buf.now in
    put_back key c.args.nonce.now c.args.aad.now old c.open_text-tag.new.bytes c.mask.new.bytes (length old - 16) (omega arith)
    (c.open_text-tag.ensures.text key held) (c.mask.ensures key held)
