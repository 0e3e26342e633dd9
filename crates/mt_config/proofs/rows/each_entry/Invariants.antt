use Rattle.std.proofs.Common.{◌≡◌, drop}
use Rattle.serde_json.specs.View.{items_view}
use Rattle.mt_config.specs.Json.{each}
use Rattle.mt_config.specs.Rows.{entry_of}
use Rattle.mt_config.proofs.Items.{with_front}
use Rattle.mt_config.proofs.rows.each_entry.Given as goal

abbrev pub invariant-loop-item : goal.invariant-loop-item
invariant-loop-item l = with_front l.entries.items (each (entry_of l.fabric) (items_view (drop l.item-index l.items))) ≡ each (entry_of l.fabric) (items_view l.items)
