use Rattle.std.proofs.Common.{refl}
use Rattle.mt_names.specs.Names.{attributes_of, clusters, commands_of, events_of, extensions_of, globals, responses_of}
use Rattle.mt_names.proofs.laws.names_differ.Goals as goal

pub returns-clause-clusters : goal.returns-clause-clusters
unfolding clusters
returns-clause-clusters c = refl

pub returns-clause-globals : goal.returns-clause-globals
unfolding globals
returns-clause-globals c = refl

pub returns-clause-columns : goal.returns-clause-columns
unfolding attributes_of clusters commands_of events_of extensions_of globals responses_of
returns-clause-columns c = refl
