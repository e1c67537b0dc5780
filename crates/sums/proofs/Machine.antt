-- What the flat machine does with the words of the table.
use Rattle.std.proofs.Common.{◌≡◌, ap, rules}
use Rattle.flat.proofs.Worked.{divides, undefined, loads, loads_element}
use Rattle.sums.specs.Table.{Table, asked, table, entered}
use Rattle.sums.specs.declared.rows.Sums.{Sums}

same : (s : Table) (t : Table) → s.sums ≡ t.sums → s.zero_divisor ≡ t.zero_divisor → s.vector_form ≡ t.vector_form → s.line ≡ t.line → s.element ≡ t.element → s ≡ t
same s t a b c d e = search (rules, a, b, c, d, e)

-- where the code gives the table's sums, all that is asked gives the table
pub machine_rows : (sums : Sums) → sums ≡ table.sums → asked sums ≡ table
machine_rows sums h = same (asked sums) table h (ap entered divides) (ap entered undefined) loads loads_element
