use Rattle.std.proofs.Common.{◌≡◌, List, [], ◌∷◌, ◌++◌, refl, sym, ap, subst, ◌∙◌, arith}
use Rattle.std.specs.Prelude.{OnOk}
use Rattle.std.proofs.lemmas.Grind.{common_steps}
use Rattle.mt_durable.specs.Changes.{entry_trees}
use Rattle.mt_durable.specs.declared.durable.Entry.{Entry}
use Rattle.mt_durable.proofs.Structures.{all_of, followed_by, one_more}
use Rattle.mt_tlv.specs.Narrow.{narrow}
use Rattle.mt_tlv.specs.Tree.{Elements, array, more}
use Rattle.mt_tlv.specs.View.{elements}
use Rattle.mt_tlv.specs.declared.value.Tag.{Tag}
use Rattle.mt_tlv.specs.declared.value.Tag.TheVariants.{Anonymous}
use Rattle.mt_tlv.specs.declared.value.Value.{Value}
use Rattle.mt_durable.proofs.change.write_change.Goals as goal

pub loop-entry-preserved : goal.loop-entry-preserved
loop-entry-preserved c =
    let structure = c.in_ok-structure.structure in
    let entry = c.in-Some.entry in
    let rest = c.next.new.self.rest.items in
    let items : c.push.new.self.items ≡ c.loop-entry.structures.items ++ (Anonymous, structure) ∷ [] = grind (arith, common_steps) in
    let was : c.loop-entry.entry-iterator.rest.items ≡ entry ∷ rest = grind (arith, common_steps) in
    record {
      next = tt;
      finite = tt;
      rest =
          ap (λ (l : List (Tag × Value)). followed_by l (entry_trees rest)) items
          ∙ one_more c.loop-entry.structures.items Anonymous structure (entry_trees rest)
          ∙ ap (λ t. followed_by c.loop-entry.structures.items (more Anonymous t (entry_trees rest))) c.in_ok-structure.ensures
          ∙ ap (λ (l : List Entry). followed_by c.loop-entry.structures.items (entry_trees l)) (sym was)
          ∙ c.loop-entry.invariant.rest;
      out = refl;
    }

pub returns : goal.returns
returns c =
    let none_left : c.loop-entry.entry-iterator.rest.items ≡ [] = grind (arith, common_steps) in
    let all : elements c.loop-entry.structures.items ≡ entry_trees c.args.change =
    sym (all_of c.loop-entry.structures.items) ∙ ap (λ (l : List Entry). followed_by c.loop-entry.structures.items (entry_trees l)) (sym none_left) ∙ c.loop-entry.invariant.rest in
    record {
      written = subst (λ (es : Elements). OnOk c.write.result (c.write.new.out.items ≡ c.args.out.now.items ++ narrow Anonymous (array es))) (c.from_vec.ensures ∙ all) c.write.ensures.written;
      restored = c.write.ensures.restored;
    }
