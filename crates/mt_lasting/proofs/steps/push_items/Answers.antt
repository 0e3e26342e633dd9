use Rattle.std.proofs.Common.{◌∙◌, ◌++◌, ℕ, None, List, ap}
use Rattle.std.specs.List.{flat_map}
use Rattle.mt_durable.specs.declared.durable.Entry.{Entry}
use Rattle.mt_grammar.specs.declared.keys.Key.{Key}
use Rattle.mt_machine.specs.Effects.{after_all}
use Rattle.mt_lasting.specs.Changes.{differing_at}
use Rattle.mt_lasting.specs.Keys.{keys_of}
use Rattle.mt_lasting.proofs.SoFar.{all_done, one_more}
use Rattle.mt_lasting.proofs.steps.push_items.Goals as goal

pub loop-fabric-preserved : goal.loop-fabric-preserved
loop-fabric-preserved c = λ ceiling.
    let said : Key → List Entry = differing_at c.args.state.now ceiling (after_all None c.args.steps.now c.args.state.now) ceiling in
    one_more (λ fabric. flat_map said (keys_of fabric)) c.indexes-fabrics.result.now c.loop-fabric.fabric-index _ c.loop-fabric.entries.items c.push_items_of.new.entries.items _ c.loop-fabric-test.true
    (c.loop-fabric.invariant ceiling) (c.in_ok-push_items_of.ensures ceiling)

pub returns : goal.returns
returns c = λ ceiling.
    let said : Key → List Entry = differing_at c.args.state.now ceiling (after_all None c.args.steps.now c.args.state.now) ceiling in
    all_done (λ fabric. flat_map said (keys_of fabric)) c.indexes-fabrics.result.now c.loop-fabric.fabric-index c.loop-fabric.entries.items _ c.loop-fabric-test.false (c.loop-fabric.invariant ceiling)
    ∙ ap (λ (fabrics : List ℕ). c.args.entries.now.items ++ flat_map (λ fabric. flat_map said (keys_of fabric)) fabrics) c.indexes-fabrics.ensures
