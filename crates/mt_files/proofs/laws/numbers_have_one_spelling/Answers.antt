use Rattle.mt_files.proofs.Spellings.{number_of-spelled}
use Rattle.mt_files.proofs.Written.{number_of-decimal}
use Rattle.mt_files.proofs.laws.numbers_have_one_spelling.Goals as goal

pub returns-clause-spelled : goal.returns-clause-spelled
returns-clause-spelled c = number_of-spelled

pub returns-clause-read : goal.returns-clause-read
returns-clause-read c = number_of-decimal
