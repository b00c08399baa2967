-- `judging::zeros`: a test of each byte of the slice.
use borrow.Author.Rules.{rules}
use Rattle.region_file.proofs.Zeros.{each_zero}
use Rattle.region_file.proofs.judging.zeros.Goals as goal

pub returns : goal.returns
returns c = each_zero c.args.file.now c.args.start c.args.count c.all.result c.requires (search rules)
