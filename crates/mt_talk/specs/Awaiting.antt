-- Of the payloads of a reply each but the last awaits its confirmation.
use Rattle.std.specs.Prelude.{ℕ, ◌≤◌, true, false, length, Option}
use Rattle.std.specs.List.{AllByRecursion}
use Rattle.mt_tlv.specs.declared.value.Tag.TheVariants.{Anonymous}
use Rattle.mt_tlv.specs.Limits.{IsAllowed, deepest, longest}
use Rattle.mt_tlv.specs.Narrow.{narrow}
use Rattle.mt_im_out.specs.Chunks.{Part, chunks_of, parts_of}
use Rattle.mt_im_out.specs.Messages.{report_tree}
use Rattle.mt_model.specs.declared.messages.message.Reply.{Reply}
use Rattle.mt_model.specs.declared.messages.message.Reply.TheVariants as replies
use Rattle.mt_exchange.specs.Retold.{AwaitsAll}

-- What a payload of a report says is allowed in a message, and it has 65,535 bytes at most.
pub record IsReadable (subscription : Option ℕ) (part : Part) : Type 0 where
  pub allowed : IsAllowed (report_tree subscription part.attributes part.events true false) deepest
  pub short : length (narrow Anonymous (report_tree subscription part.attributes part.events true false)) ≤ longest

abbrev pub AreReadable : Reply → Type 0
AreReadable (replies.Report subscription items suppress) = AllByRecursion (IsReadable subscription) (parts_of items)
AreReadable reply = Unit {0}

-- So of such a report each payload but the last awaits its confirmation. Any other reply has one payload at most.
abbrev pub RepliesAwaitTheirConfirmations : Type 0
RepliesAwaitTheirConfirmations = (reply : Reply) → AreReadable reply → AwaitsAll (chunks_of reply)
