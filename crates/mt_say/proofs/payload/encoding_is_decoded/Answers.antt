use Rattle.std.proofs.Common.{[], ap, sym, ◌∙◌, append-nil}
use Rattle.mt_tlv.specs.declared.value.Tag.TheVariants.{Anonymous}
use Rattle.mt_tlv.specs.Narrow.{narrow}
use Rattle.mt_im.specs.Reading.{request_in}
use Rattle.mt_im.specs.Requests.{opcode_of, request_tree}
use Rattle.mt_say.proofs.payload.encoding_is_decoded.Goals as goal

pub returns : goal.returns
returns c = λ request h.
    ap (λ bytes. request_in (opcode_of request) bytes) (sym (append-nil (narrow Anonymous (request_tree request))))
    ∙ c.encoded_is_decoded.ensures.decoded request [] h
