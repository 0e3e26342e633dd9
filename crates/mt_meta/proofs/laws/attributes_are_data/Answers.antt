use Rattle.mt_meta.proofs.TableFacts.{data-known}
use Rattle.mt_meta.proofs.laws.attributes_are_data.Goals as goal

pub returns : goal.returns
returns c = data-known
