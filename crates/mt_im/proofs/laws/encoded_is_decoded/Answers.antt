use Rattle.mt_tlv.specs.declared.value.Tag.TheVariants.{Anonymous}
use Rattle.mt_tlv.specs.Narrow.{narrow}
use Rattle.std.proofs.Common.{◌++◌}
use Rattle.mt_im.specs.Requests.{opcode_of, request_tree}
use Rattle.mt_im.proofs.Allowed.{request_allowed}
use Rattle.mt_im.proofs.RequestLaws.{element_only}
use Rattle.mt_im.proofs.Written.{request_written}
use Rattle.mt_im.proofs.laws.encoded_is_decoded.Goals as goal

pub returns-clause-spelled : goal.returns-clause-spelled
returns-clause-spelled c = λ request h. request_written request h.fits

pub returns-clause-decoded : goal.returns-clause-decoded
returns-clause-decoded c = λ request rest h.
    element_only c.values_are_trees.ensures.tree c.values_are_trees.ensures.value (opcode_of request) (narrow Anonymous (request_tree request) ++ rest) rest (request_tree request) request
    (c.written_is_read.ensures Anonymous (request_tree request) rest tt (request_allowed request h.fits) h.short) (request_written request h.fits) h.within
