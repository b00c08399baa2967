-- `next_group`: from the last product of the group.
use Rattle.products.proofs.Consecutive.{group-last}
use Rattle.products.proofs.axis.Axis.next_group.Goals as goal

pub next-requires : goal.next-requires
next-requires c = let a = c.args in
    group-last a.self.now.columns a.self.now.sums a.self.now.sums_value a.first a.word c.requires.whole c.requires.word_value
