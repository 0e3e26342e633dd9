use Rattle.std.proofs.Common.{ap, ◌∙◌, sym}
use Rattle.mt_files.specs.Field.{number_between}
use Rattle.mt_words.proofs.Numbers.{number_written, written_number}
use Rattle.mt_words.proofs.laws.numbers_are_as_they_are_written.Goals as goal

pub returns : goal.returns
returns c = λ least most number word small. (
  number_written c.numbers_have_one_spelling.ensures.spelled least most number word small,
  λ is. ap (number_between least most) (sym is.0) ∙ written_number c.numbers_have_one_spelling.ensures.read least most number small is.1 is.2,
)
