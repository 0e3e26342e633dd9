use Rattle.std.proofs.Common.{refl}
use Rattle.mt_meta.specs.Stored.{is_stored}
use Rattle.mt_meta.specs.Table.{attributes_of, clusters_of, endpoints, extensions_of, globals}
use Rattle.mt_apps.proofs.laws.places_have_their_rows.Goals as goal

-- by computation
pub returns : goal.returns
unfolding endpoints clusters_of attributes_of globals extensions_of is_stored
returns c = λ parts. refl
