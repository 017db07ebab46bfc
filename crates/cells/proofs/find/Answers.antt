use Rattle.std.proofs.Common.{rules}
use Rattle.std.proofs.lemmas.List.Sorted.{IsPartitionPoint-from_clause}
use Rattle.lent.specs.Lists.{words_of, stretch_of}
use Rattle.cells.proofs.Finds.{precedes, pairs_part, found_place}
use Rattle.cells.proofs.find.Goals as goal

pub returns : goal.returns
returns c =
    let m = words_of c.args.list in let s = stretch_of c.args.list in let e = c.args.entry in let pairs = c.entries.result.now in
    found_place m s e.row e.column pairs c.args.list.listed c.entries.ensures c.partition_point.result c.partition_point.ensures.bound
    (IsPartitionPoint-from_clause (precedes e.row e.column) pairs c.partition_point.result c.partition_point.ensures.partitioned
    (pairs_part m s e.row e.column pairs c.args.list.listed c.entries.ensures) (λ a r f k. search rules))
