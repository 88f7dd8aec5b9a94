use Rattle.manifest_value.proofs.ReadingLemmas.{ascend_view}
use Rattle.manifest_value.proofs.source.TableSource.entries.Goals as goal

pub returns-in-Borrowed-clause-in_order : goal.returns-in-Borrowed-clause-in_order
returns-in-Borrowed-clause-in_order c = rw c.in-Borrowed.is (ascend_view c.in-Borrowed.table.now.entries
    c.iter.ensures.ordered)

pub returns-in-Owned-clause-in_order : goal.returns-in-Owned-clause-in_order
returns-in-Owned-clause-in_order c = rw c.in-Owned.is (ascend_view c.in-Owned.table.entries
    c.into_iter.ensures.into_iter_gives.5)
