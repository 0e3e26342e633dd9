use Rattle.std.proofs.Common.{◌≡◌, List, ap, subst, ◌∙◌, length}
use Rattle.std.specs.Prelude.{IfOk}
use Rattle.mt_files.specs.Lines.{text_of}
use Rattle.mt_model.specs.declared.texts.recording.Event.{Event}
use Rattle.mt_model.specs.texts.Contents.{contents_of}
use Rattle.mt_compare.specs.mt_runs.Messages.{run}
use Rattle.mt_soak.specs.Generated.{State, begun, events_from}
use Rattle.mt_top.specs.Asked.{summary_of}
use Rattle.mt_top.specs.Begun.{begun_with}
use Rattle.mt_top.proofs.soaking.summarized.Goals as goal

pub tell_all-requires-clause-first : goal.tell_all-requires-clause-first
tell_all-requires-clause-first g c = c.new-generator.ensures.none

pub tell_all-requires-clause-within : goal.tell_all-requires-clause-within
tell_all-requires-clause-within g c = c.requires

pub returns : goal.returns
returns g c =
    let node = begun_with (contents_of c.args.config.now) in
    let told = c.in_ok-tell_all.ensures node c.in_ok-player.ensures.plays c.new-tally.ensures in
    let same : events_from c.new-generator.result c.args.count ≡ events_from (begun c.args.begin (length c.args.config.now.fabrics)) c.args.count =
    ap (λ (s : State). events_from s c.args.count) (c.new-generator.ensures.begun ∙ ap (begun c.args.begin) c.fabrics_of.ensures) in
    subst (λ (events : List Event). IfOk c.summary.result (λ summary. summary.items ≡ text_of (summary_of node c.args.count events).lines)) same
    (c.summary.ensures (run node.given node.sessions node.going (events_from c.new-generator.result c.args.count)) told)
