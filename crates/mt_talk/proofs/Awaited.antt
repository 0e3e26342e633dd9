-- A payload of a report behind which more follows wants a confirmation.
use Rattle.std.proofs.Common.{◌≡◌, ◌≤◌, ◌++◌, ℕ, Bool, true, false, true≢false, not, List, [], ◌∷◌, length, Option, Some, None, Ok, refl, ap, sym, ◌∙◌, append-nil}
use Rattle.std.specs.List.{AllByRecursion}
use Rattle.mt_tlv.specs.declared.value.Tag.{Tag}
use Rattle.mt_tlv.specs.declared.value.Tag.TheVariants.{Anonymous}
use Rattle.mt_tlv.specs.Limits.{IsAllowed, IsTag, deepest, longest}
use Rattle.mt_tlv.specs.Narrow.{narrow}
use Rattle.mt_tlv.specs.Reading.{element_at}
use Rattle.mt_tlv.specs.Tree.{Elements, Tree}
use Rattle.mt_im.specs.Requests.{optional_blocks, revision}
use Rattle.mt_im_out.specs.Chunks.{Part, parts_of, report_payload, report_payloads}
use Rattle.mt_im_out.specs.Messages.{optional_truth, report_tree}
use Rattle.mt_model.specs.Trees.{field_in}
use Rattle.mt_model.specs.declared.messages.message.Item.{Item}
use Rattle.mt_model.specs.declared.messages.message.Reply.TheVariants as replies
use Rattle.mt_model.specs.messages.Blocks.{item_tree, optional_number}
use Rattle.mt_exchange.specs.Payloads.{awaits, is_suppressed, is_true_field, members_of}
use Rattle.mt_exchange.specs.Retold.{AwaitsAll}
use Rattle.mt_talk.specs.Awaiting.{IsReadable, RepliesAwaitTheirConfirmations}

-- what is written is read again
abbrev pub WrittenIsRead : Type 0
WrittenIsRead = (tag : Tag) (v : Tree) (rest : List ℕ) → IsTag tag → IsAllowed v deepest → length (narrow tag v) ≤ longest → element_at (narrow tag v ++ rest) ≡ Ok ((tag, v), rest)

-- fields 0, 1 and 2 are none of field 4

behind_number : (number : Option ℕ) (es : Elements) → field_in 4 (optional_number 0 number es) ≡ field_in 4 es
behind_number None es = refl
behind_number (Some n) es = refl

behind_first : (items : List Item) (es : Elements) → field_in 4 (optional_blocks 1 item_tree items es) ≡ field_in 4 es
behind_first [] es = refl
behind_first (item ∷ items) es = refl

behind_second : (items : List Item) (es : Elements) → field_in 4 (optional_blocks 2 item_tree items es) ≡ field_in 4 es
behind_second [] es = refl
behind_second (item ∷ items) es = refl

no_suppression : (subscription : Option ℕ) (part : Part)
    → field_in 4 (optional_number 0 subscription (optional_blocks 1 item_tree part.attributes (optional_blocks 2 item_tree part.events (optional_truth 3 true (optional_truth 4 false revision))))) ≡ None
no_suppression subscription part =
    let last = optional_truth 3 true (optional_truth 4 false revision) in
    let events = optional_blocks 2 item_tree part.events last in
    behind_number subscription (optional_blocks 1 item_tree part.attributes events) ∙ behind_first part.attributes events ∙ behind_second part.events last

first_awaits : WrittenIsRead → (subscription : Option ℕ) (part : Part) → IsReadable subscription part → awaits (report_payload subscription part true false) ≡ true
first_awaits law subscription part is =
    let message = report_tree subscription part.attributes part.events true false in
    let bytes = narrow Anonymous message in
    let read : element_at bytes ≡ Ok ((Anonymous, message), []) = ap element_at (sym (append-nil bytes)) ∙ law Anonymous message [] tt is.allowed is.short in
    let told : is_suppressed bytes ≡ false = ap (λ x. is_true_field (field_in 4 (members_of x))) read ∙ ap is_true_field (no_suppression subscription part) in
    ap not told

payloads_await : WrittenIsRead → (subscription : Option ℕ) (suppress : Bool) (parts : List Part) → AllByRecursion (IsReadable subscription) parts → AwaitsAll (report_payloads subscription suppress parts)
payloads_await law subscription suppress [] all = tt
payloads_await law subscription suppress (part ∷ []) all = (λ any. absurd (true≢false (sym any)), tt)
payloads_await law subscription suppress (part ∷ next ∷ parts) all = (λ any. first_awaits law subscription part all.0, payloads_await law subscription suppress (next ∷ parts) all.1)

pub replies_await : WrittenIsRead → RepliesAwaitTheirConfirmations
replies_await law (replies.Status code) is = (λ any. absurd (true≢false (sym any)), tt)
replies_await law (replies.Report subscription items suppress) is = payloads_await law subscription _ (parts_of items) is
replies_await law (replies.Subscribed id ceiling) is = (λ any. absurd (true≢false (sym any)), tt)
replies_await law (replies.Written items) is = (λ any. absurd (true≢false (sym any)), tt)
replies_await law (replies.Invoked command fields) is = (λ any. absurd (true≢false (sym any)), tt)
replies_await law (replies.InvokeStatus command code) is = (λ any. absurd (true≢false (sym any)), tt)
replies_await law (replies.InvokeClusterStatus command code reason) is = (λ any. absurd (true≢false (sym any)), tt)
replies_await law replies.Nothing is = tt
