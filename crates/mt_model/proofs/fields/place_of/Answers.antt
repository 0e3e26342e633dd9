use Rattle.std.proofs.Common.{sym}
use Rattle.mt_model.proofs.FirstField.{field_here, field_behind, field_nowhere}
use Rattle.mt_model.proofs.fields.place_of.Goals as goal

pub returns-then-is_context : goal.returns-then-is_context
returns-then-is_context c = (c.loop-i-test.true, field_here c.args.number c.args.members.now c.loop-i.i c.index-members-i.result c.loop-i-test.true c.index-members-i.is (sym c.if-is_context.ensures) c.loop-i.invariant)

pub loop-i-preserved : goal.loop-i-preserved
loop-i-preserved c = field_behind c.args.number c.args.members.now c.loop-i.i c.index-members-i.result c.loop-i-test.true c.index-members-i.is (sym c.if-is_context.ensures) c.loop-i.invariant

pub returns : goal.returns
returns c = field_nowhere c.args.number c.args.members.now c.loop-i.i c.loop-i-test.false c.loop-i.invariant
