use Rattle.std.proofs.Common.{List, subst}
use Rattle.std.specs.Prelude.{IsTrue, ◌↔◌, Some}
use Rattle.mt_durable.specs.Keeping.{HasRoom}
use Rattle.mt_durable.specs.declared.durable.Entry.{Entry}
use Rattle.mt_store.proofs.Leads.{image_said, said_is}
use Rattle.mt_store.proofs.image.Image.has_room.Goals as goal

pub image_has_room-requires-clause-image : goal.image_has_room-requires-clause-image
image_has_room-requires-clause-image c = image_said c.bytes_of_a_change_are_read.ensures.read c.args.self.now c.as_slice.result.now c.as_slice.ensures.says c.as_slice.ensures.whole

pub returns-clause-room : goal.returns-clause-room
returns-clause-room c =
    subst (λ (m : List Entry). IsTrue c.image_has_room.result ↔ HasRoom c.args.change.now (Some m))
    (said_is c.bytes_of_a_change_are_read.ensures.read c.args.self.now c.as_slice.result.now c.as_slice.ensures.says)
    c.image_has_room.ensures
