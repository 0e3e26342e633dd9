use Rattle.std.proofs.Common.{not, ap, ◌∙◌}
use Rattle.std.specs.Ordering.{nat_cmp}
use Rattle.std.specs.BTreeSet.{contains}
use Rattle.mt_tlv.specs.declared.value.Tag.TheVariants.{Context}
use Rattle.mt_tlv.proofs.Tags.{gains, context_gained, other_was, other_gained}
use Rattle.mt_tlv.proofs.tag_set.TagSet.insert.Goals as goal

pub returns-in-Context-clause-kept : goal.returns-in-Context-clause-kept
returns-in-Context-clause-kept c tags exact = rw c.in-Context.is (gains c.args.self.now (Context c.in-Context.number) tags exact (record c.args.self.now { contexts = c.insert_context.new.contexts }) (context_gained c.args.self.now c.in-Context.number c.insert_context.new.contexts c.insert_context.ensures.marked))

pub returns : goal.returns
returns c =
    let fits = c.key_of.ensures.fits in
    let other = c.in_default.not-Context in
    let gained = rw c.key_of.ensures.key at c.in_ok-insert.ensures.updates.0 in record {
      new = λ tags exact. c.in_ok-insert.ensures.added ∙ ap not (ap (contains nat_cmp c.args.self.now.others) c.key_of.ensures.key ∙ other_was c.args.self.now c.args.tag fits other tags exact);
      kept = λ tags exact. gains c.args.self.now c.args.tag tags exact (record c.args.self.now { others = c.insert.new.self }) (other_gained c.args.self.now c.args.tag fits other c.insert.new.self gained);
    }
