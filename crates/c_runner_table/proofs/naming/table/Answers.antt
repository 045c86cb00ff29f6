use Rattle.c_runner_table.proofs.naming.table.Goals as goal

pub table_by-requires : goal.table_by-requires
table_by-requires c = rw c.as_slice.ensures at c.in_ok-numbers.ensures
