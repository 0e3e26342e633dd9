use Rattle.std.proofs.Common.{◌≡◌, ◌∙◌, ap, sym, length, true≢false}
use Rattle.std.specs.Prelude.{◌==◌}
use Rattle.mt_files.proofs.Sizes.{size-payload}
use Rattle.mt_files.proofs.size.payload_size.Goals as goal

pub returns-clause-size : goal.returns-clause-size
returns-clause-size c =
    size-payload c.args.bytes.now (λ none. true≢false (sym (ap (λ bytes. length bytes == 0) none) ∙ sym c.is_empty.ensures ∙ c.if-is_empty.false))
