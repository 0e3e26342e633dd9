use Rattle.std.proofs.Common.{◌≡◌, ◌∙◌, List, ap, rules, sym}
use Rattle.std.proofs.lemmas.List.Folds.{list_all-map}
use Rattle.std.specs.List.{list_all}
use Rattle.circular_buffer.specs.Buffer.{Buffer}
use Rattle.mt_events.specs.Rings.{is_below, is_new}
use Rattle.mt_model.specs.declared.messages.message.Happened.{Happened}
use Rattle.mt_events.proofs.rings.Rings.is_new.Goals as goal

pub returns : goal.returns
returns c =
    let n = c.args.number in
    let items = c.self.inside.rings.items in
    let told : c.are_below.result ≡ list_all (λ (ring : Buffer Happened). list_all (is_below n) ring.items) items = search rules in
    told
    ∙ sym (list_all-map (λ (ring : List Happened). list_all (is_below n) ring) (λ (b : Buffer Happened). b.items) items)
    ∙ ap (λ (rings : List (List Happened)). is_new n rings) c.self.view_is
