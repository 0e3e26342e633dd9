-- A form without limits is the same within any, and one that is nobody's the same of any fabric.
use Rattle.mt_grammar.proofs.forms.has_form.Goals as goal

pub returns-in-Bool : goal.returns-in-Bool
returns-in-Bool c = rw c.in-Bool.is (c.is_bool.ensures c.args.meta.now.least c.args.meta.now.limit c.args.fabric)

pub returns-in-Uint : goal.returns-in-Uint
returns-in-Uint c = rw c.in-Uint.is (c.is_uint.ensures c.args.meta.now.least c.args.meta.now.limit c.args.fabric)

pub returns-in-Uint32 : goal.returns-in-Uint32
returns-in-Uint32 c = rw c.in-Uint32.is (c.is_uint32.ensures c.args.meta.now.least c.args.meta.now.limit c.args.fabric)

pub returns-in-NullableUint : goal.returns-in-NullableUint
returns-in-NullableUint c = rw c.in-NullableUint.is (c.is_nullable_uint.ensures c.args.meta.now.least c.args.meta.now.limit c.args.fabric)

pub returns-in-NullableOctets : goal.returns-in-NullableOctets
returns-in-NullableOctets c = rw c.in-NullableOctets.is (c.is_nullable_id.ensures c.args.meta.now.least c.args.meta.now.limit c.args.fabric)

pub returns-in-Text : goal.returns-in-Text
returns-in-Text c = rw c.in-Text.is (c.is_text.ensures c.args.fabric)

pub returns-in-Labels : goal.returns-in-Labels
returns-in-Labels c = rw c.in-Labels.is (c.are_labels.ensures c.args.meta.now.least c.args.fabric)

pub returns-in-Binding : goal.returns-in-Binding
returns-in-Binding c = rw c.in-Binding.is (c.is_binding.ensures c.args.meta.now.least c.args.meta.now.limit)

pub returns-in-Bench : goal.returns-in-Bench
returns-in-Bench c = rw c.in-Bench.is (c.is_bench.ensures c.args.meta.now.least c.args.meta.now.limit)

pub returns-in-GroupKeyMap : goal.returns-in-GroupKeyMap
returns-in-GroupKeyMap c = rw c.in-GroupKeyMap.is (c.is_mapped.ensures c.args.meta.now.least c.args.meta.now.limit)

pub returns-in-KeySets : goal.returns-in-KeySets
returns-in-KeySets c = rw c.in-KeySets.is (c.is_set.ensures c.args.meta.now.least c.args.meta.now.limit)
