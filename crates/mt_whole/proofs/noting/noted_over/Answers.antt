use Rattle.std.proofs.Common.{Option, subst, ◌∙◌}
use Rattle.mt_talk.specs.Talks.{after_report}
use Rattle.mt_marks.specs.declared.shown.Shown.{Shown}
use Rattle.mt_whole.specs.Noting.{IsShownBehind}
use Rattle.mt_whole.proofs.Noted.{none_noted, one_noted}
use Rattle.mt_whole.proofs.noting.noted_over.Goals as goal

pub returns-in_ok-note_of-in-Some : goal.returns-in_ok-note_of-in-Some
returns-in_ok-note_of-in-Some c t at =
    let next = after_report t.row c.args.subscription c.args.payloads c.args.ms t.talk in
    let shows = subst (λ (went : Option Shown). IsShownBehind went t.talk next) c.in-Some.is (c.in_ok-went.ensures t.row t.talk at.talk) in
    one_noted c.in_ok-note_of-in-Some.field-0 t next c.in-Some.one (c.in_ok-note_of-in-Some.ensures.session ∙ at.id) c.in_ok-note_of-in-Some.ensures.shown shows

pub returns-in-None : goal.returns-in-None
returns-in-None c t at =
    let next = after_report t.row c.args.subscription c.args.payloads c.args.ms t.talk in
    none_noted t next (subst (λ (went : Option Shown). IsShownBehind went t.talk next) c.in-None.is (c.in_ok-went.ensures t.row t.talk at.talk))
