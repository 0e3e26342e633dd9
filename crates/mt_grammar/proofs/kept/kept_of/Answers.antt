use Rattle.std.proofs.Common.{◌≡◌, ◌∙◌, sym, Some, None}
use Rattle.mt_grammar.specs.Decoding.{with_entry}
use Rattle.mt_grammar.proofs.Reading.{kept_bad, kept_end, kept_next}
use Rattle.mt_grammar.proofs.kept.kept_of.Goals as goal

pub returns-in_default : goal.returns-in_default
returns-in_default c =
    let bad : with_entry c.loop-entry.kept c.entry-item.result ≡ None = sym c.in_ok-next.ensures ∙ c.in_default.is in
    sym (kept_bad c.loop-entry.kept c.args.entries.now c.loop-entry.entry-index c.entry-item.result _ c.loop-entry-test.true c.entry-item.is bad c.loop-entry.invariant)

pub loop-entry-preserved : goal.loop-entry-preserved
loop-entry-preserved c =
    let found : with_entry c.loop-entry.kept c.entry-item.result ≡ Some c.in-Some.next = sym c.in_ok-next.ensures ∙ c.in-Some.is in
    kept_next c.loop-entry.kept c.in-Some.next c.args.entries.now c.loop-entry.entry-index c.entry-item.result _ c.loop-entry-test.true c.entry-item.is found c.loop-entry.invariant

pub returns : goal.returns
returns c = sym (kept_end c.loop-entry.kept c.args.entries.now c.loop-entry.entry-index _ c.loop-entry-test.false c.loop-entry.invariant)
