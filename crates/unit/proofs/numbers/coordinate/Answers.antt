-- `coordinate`: by the precision asked for.
use Rattle.unit.proofs.numbers.coordinate.Goals as goal

pub returns-in-Single : goal.returns-in-Single
returns-in-Single c = cc

pub returns-in-Double : goal.returns-in-Double
returns-in-Double c = cc
