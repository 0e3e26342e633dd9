use Rattle.std.proofs.Common.{sym, ap, ◌∙◌, Ok}
use Rattle.mt_tlv.proofs.Texts.{text_of-text, text_of-none}
use Rattle.mt_tlv.proofs.reading.text_of.Goals as goal

pub returns-in_default : goal.returns-in_default
returns-in_default c = text_of-none c.args.bytes.now c.in_default.ensures.cases.0

pub returns : goal.returns
returns c = text_of-text c.args.bytes.now c.in-Ok.ensures.cases.1 ∙ ap Ok (sym c.in-Ok.ensures.cases.0)
