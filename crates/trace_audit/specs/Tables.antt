-- Tables by client and call number, as functions.
use Rattle.std.specs.Prelude.{ℕ, Bool, Option}
use Rattle.std.specs.declared.cmp.Ordering.{Ordering}
use Rattle.std.specs.Ordering.{nat_cmp, ordering_then}
use Rattle.std.specs.BTreeMap as tree
use Rattle.std.specs.BTreeSet as names
use Rattle.trace_audit.specs.declared.tables.Row.{Row}

-- the order of names: by client, then by number
abbrev pub name_cmp : ℕ × ℕ → ℕ × ℕ → Ordering
name_cmp a b = ordering_then (nat_cmp a.0 b.0) (nat_cmp a.1 b.1)

-- what the table has at the client's call of this number
abbrev pub call_row : tree.BTreeMap (ℕ × ℕ) Row → ℕ → ℕ → Option Row
call_row rows client number = tree.get name_cmp rows (client, number)

-- whether the client's call of this number is among the names
abbrev pub is_listed : names.BTreeSet (ℕ × ℕ) → ℕ → ℕ → Bool
is_listed listed client number = names.contains name_cmp listed (client, number)
