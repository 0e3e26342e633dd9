use Rattle.std.proofs.Common.{◌≡◌, List, [], IfOk, subst, ap, ◌∙◌, arith}
use Rattle.std.proofs.lemmas.Grind.{common_steps}
use Rattle.mt_model.specs.declared.messages.message.Payload.{Payload}
use Rattle.mt_im_out.specs.Chunks.{event_items, parts_of, report_payloads}
use Rattle.mt_im_out.specs.Packing.{packed, put_attributes, finished}
use Rattle.mt_im_out.proofs.Bodies.{bytes_of}
use Rattle.mt_im_out.proofs.Puts.{begun_with, packs_report}
use Rattle.mt_im_out.proofs.reports.report.Goals as goal

pub returns : goal.returns
returns c =
    let put_is : packed c.put_attributes.new.self ≡ put_attributes (begun_with c.args.subscription [] []) c.args.items.now = grind (arith, common_steps) in
    let events_are : c.as_slice.result.now ≡ bytes_of (event_items c.args.items.now) = grind (arith, common_steps) in
    let made : finished (packed c.put_attributes.new.self) c.as_slice.result.now c.args.suppress ≡ report_payloads c.args.subscription c.args.suppress (parts_of c.args.items.now) =
    ap (λ p. finished p c.as_slice.result.now c.args.suppress) put_is
    ∙ ap (λ z. finished (put_attributes (begun_with c.args.subscription [] []) c.args.items.now) z c.args.suppress) events_are
    ∙ packs_report c.args.subscription c.args.items.now c.args.suppress in
    subst (λ (z : List Payload). IfOk c.finish.result (λ payloads. payloads ≡ z)) made c.finish.ensures
