use Rattle.std.proofs.Common.{◌∙◌, sym}
use Rattle.std.proofs.lemmas.Result.{on_err_weaker, on_ok_weaker}
use Rattle.mt_marks.proofs.Edited.{kept_at, noted_at, noted_nowhere}
use Rattle.mt_marks.proofs.told.add_note.Goals as goal

pub returns-in-Some-clause-noted : goal.returns-in-Some-clause-noted
returns-in-Some-clause-noted c =
    on_ok_weaker c.add_to.result (noted_at c.args.note c.args.talks.now c.in-Some.place c.index-talks-place.result c.add_to.new.told (sym c.place_of.ensures ∙ c.in-Some.is)) c.add_to.ensures.noted

pub returns-in-Some-clause-kept : goal.returns-in-Some-clause-kept
returns-in-Some-clause-kept c = on_err_weaker c.add_to.result (kept_at c.args.talks.now c.in-Some.place c.index-talks-place.result c.add_to.new.told) c.add_to.ensures.kept

pub returns-in-None-clause-noted : goal.returns-in-None-clause-noted
returns-in-None-clause-noted c = noted_nowhere c.args.note c.args.talks.now (sym c.place_of.ensures ∙ c.in-None.is)
