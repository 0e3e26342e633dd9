-- Networks without their secrets stand where the networks stand.
use Rattle.std.proofs.Common.{◌≡◌, ℕ, List, [], ◌∷◌, map, refl, arith}
use Rattle.std.specs.Prelude.{position}
use Rattle.std.specs.List.{position_or_len}
use Rattle.std.proofs.lemmas.List.{length-map}
use Rattle.mt_model.specs.tables.Known.{bare_network}
use Rattle.mt_model.specs.declared.tables.network.Network.{Network}
use Rattle.mt_commission.specs.NetworkCommissioning.{has_id, place_among}

bare_or_len : (id : List ℕ) (networks : List Network) → position_or_len (has_id id) (map bare_network networks) ≡ position_or_len (has_id id) networks
bare_or_len id [] = refl
bare_or_len id (network ∷ networks) = grind (arith, bare_or_len id networks)

pub bare_place : (id : List ℕ) (networks : List Network) → place_among (map bare_network networks) id ≡ position (has_id id) networks
bare_place id networks = rw (bare_or_len id networks) (rw (length-map networks bare_network) refl)
