-- the lines so far and those of the items to come are those of all
use Rattle.std.proofs.Common.{◌≡◌, ◌++◌, drop}
use Rattle.mt_ctl.specs.Text.{shown_text}
use Rattle.mt_asking.proofs.showing.shown_text.Given as goal

abbrev pub invariant-loop-item : goal.invariant-loop-item
invariant-loop-item l = l.text.items ++ shown_text (drop l.item-index l.fn.items) ≡ shown_text l.fn.items
