use Rattle.std.proofs.Common.{◌≡◌, drop}
use Rattle.serde_json.specs.View.{items_view}
use Rattle.mt_config.specs.Json.{each}
use Rattle.mt_config.proofs.Items.{with_front}
use Rattle.mt_config.proofs.json.each.Given as goal

abbrev pub invariant-loop-item : goal.invariant-loop-item
invariant-loop-item g l = with_front l.found.items (each g.T.FromJson.form (items_view (drop l.item-index l.items))) ≡ each g.T.FromJson.form (items_view l.items)
