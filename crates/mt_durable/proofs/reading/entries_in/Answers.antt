use Rattle.std.proofs.Common.{◌≡◌, List, [], ◌∷◌, ◌++◌, sym, ap, ◌∙◌, arith}
use Rattle.std.specs.Prelude.{Option, Some, None}
use Rattle.std.proofs.lemmas.Grind.{common_steps}
use Rattle.mt_tlv.specs.View.{elements, tree}
use Rattle.mt_tlv.specs.declared.value.Tag.{Tag}
use Rattle.mt_tlv.specs.declared.value.Value.{Value}
use Rattle.mt_durable.specs.Reading.{entries_in, entry_of, in_front}
use Rattle.mt_durable.specs.declared.durable.Entry.{Entry}
use Rattle.mt_durable.proofs.Said.{all_with, none_with, one_more_read, with_those}
use Rattle.mt_durable.proofs.reading.entries_in.Goals as goal

pub returns-in_default : goal.returns-in_default
returns-in_default c =
    let rest = c.next.new.self.rest.items in
    let was : c.loop-tag.tag-iterator.rest.items ≡ (c.in-Some.tag, c.in-Some.value) ∷ rest = grind (arith, common_steps) in
    let no_entry : entry_of c.in-Some.tag (tree c.in-Some.value) ≡ None = grind (arith, common_steps) in
    sym c.loop-tag.invariant.rest
    ∙ ap (λ (l : List (Tag × Value)). with_those c.loop-tag.entries.items (entries_in (elements l))) was
    ∙ ap (λ (o : Option Entry). with_those c.loop-tag.entries.items (in_front o (entries_in (elements rest)))) no_entry
    ∙ none_with c.loop-tag.entries.items

pub loop-tag-preserved : goal.loop-tag-preserved
loop-tag-preserved c =
    let rest = c.next.new.self.rest.items in
    let entry = c.in-Some-entry_of.entry in
    let was : c.loop-tag.tag-iterator.rest.items ≡ (c.in-Some.tag, c.in-Some.value) ∷ rest = grind (arith, common_steps) in
    let one : entry_of c.in-Some.tag (tree c.in-Some.value) ≡ Some entry = grind (arith, common_steps) in
    let items : c.push.new.self.items ≡ c.loop-tag.entries.items ++ entry ∷ [] = grind (arith, common_steps) in
    record {
      next = tt;
      finite = tt;
      rest =
          ap (λ (l : List Entry). with_those l (entries_in (elements rest))) items
          ∙ one_more_read c.loop-tag.entries.items entry (entries_in (elements rest))
          ∙ ap (λ (o : Option Entry). with_those c.loop-tag.entries.items (in_front o (entries_in (elements rest)))) (sym one)
          ∙ ap (λ (l : List (Tag × Value)). with_those c.loop-tag.entries.items (entries_in (elements l))) (sym was)
          ∙ c.loop-tag.invariant.rest;
    }

pub returns : goal.returns
returns c =
    let none_left : c.loop-tag.tag-iterator.rest.items ≡ [] = grind (arith, common_steps) in
    sym c.loop-tag.invariant.rest
    ∙ ap (λ (l : List (Tag × Value)). with_those c.loop-tag.entries.items (entries_in (elements l))) none_left
    ∙ all_with c.loop-tag.entries.items
