use Rattle.std.proofs.Common.{◌≡◌, ◌∙◌, ap, subst, sym, true}
use Rattle.mt_events.specs.declared.numbers.Numbers.{Numbers}
use Rattle.mt_runs.specs.mt_ledger.History.{History, without_left}
use Rattle.mt_interactions.specs.Recording.{may_record, numbers_after}
use Rattle.mt_interactions.proofs.Recorded.{have_numbers, numbers_left, numbers_told}
use Rattle.mt_interactions.proofs.history.History.ceiling_behind.Goals as goal

pub numbers_after-requires-clause-within : goal.numbers_after-requires-clause-within
numbers_after-requires-clause-within c = c.self.invariant.within

pub numbers_after-requires-clause-room : goal.numbers_after-requires-clause-room
numbers_after-requires-clause-room c =
    let inside = c.self.inside in
    have_numbers c.args.told.now (record { rings = inside.rings; numbers = inside.numbers }) (subst (λ (h : History). may_record c.args.told.now h ≡ true) (sym c.self.view_is) c.requires)

pub returns : goal.returns
returns c = λ ms gone.
    let told = c.args.told.now in
    let h : History = c.args.self.now in
    ap (λ (n : Numbers). n.ceiling) (c.numbers_after.ensures
    ∙ ap (λ (k : History). numbers_after told k.numbers) c.self.view_is
    ∙ sym (numbers_told ms told (without_left gone h) ∙ ap (numbers_after told) (numbers_left gone h)))
