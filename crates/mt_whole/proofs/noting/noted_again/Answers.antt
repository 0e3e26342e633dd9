use Rattle.std.proofs.Common.{◌≡◌, ℕ, Bool, true, false, Some, is_some, not, refl, sym, ap, subst, ◌∙◌, if◌then◌else◌}
use Rattle.mt_interactions.specs.mt_machine.Step.{session_actor}
use Rattle.mt_talk.specs.Talks.{after_resend}
use Rattle.mt_interactions.specs.mt_runs.Whole.{is_live}
use Rattle.mt_marks.specs.declared.shown.Shown.TheVariants as codes
use Rattle.mt_whole.specs.Noting.{IsNoteOf}
use Rattle.mt_whole.proofs.Noted.{one_noted}
use Rattle.mt_whole.proofs.noting.noted_again.Goals as goal

pub returns-then-is_none : goal.returns-then-is_none
returns-then-is_none c t at =
    let s = c.args.whole.now.interactions.state in
    let off : is_live s.node t.row.session ≡ false =
    ap (λ (n : ℕ). is_some (session_actor s.node n)) (sym at.id) ∙ ap is_some (sym c.actor.ensures) ∙ c.is_none.ensures ∙ ap not c.if-is_none.true in
    ap (λ (b : Bool). (if b then after_resend c.args.ms t.talk else t.talk).shown) off

pub returns : goal.returns
returns c t at =
    let s = c.args.whole.now.interactions.state in
    let on : is_live s.node t.row.session ≡ true =
    ap (λ (n : ℕ). is_some (session_actor s.node n)) (sym at.id) ∙ ap is_some (sym c.actor.ensures) ∙ c.is_none.ensures ∙ ap not c.if-is_none.false in
    let note = c.in_ok-note_of.field-0 in
    subst (λ (b : Bool). IsNoteOf (Some note) t (if b then after_resend c.args.ms t.talk else t.talk)) (sym on)
    (one_noted note t (after_resend c.args.ms t.talk) (codes.Again c.args.ms) (c.in_ok-note_of.ensures.session ∙ at.id) c.in_ok-note_of.ensures.shown refl)
