-- The moments at which cells charged the buckets of one contract.
use Rattle.std.specs.Prelude.{ℕ, ◌==◌, ◌&&◌, List, map, filter}
use Rattle.leaky.specs.declared.contract.Contract.{Contract}
use Rattle.leaky.specs.Arrivals.{charges_first, charges_second}
use Rattle.line_record.specs.declared.entry.Entry.{Entry}

-- The moments of the cells that charged bucket 1 of the contract of this number: those that it passed or tagged.
abbrev pub peak_charges : ℕ → List Entry → List ℕ
peak_charges number entries =
    map (λ entry. entry.moment) (filter (λ entry. (entry.value == number) && charges_first entry.verdict) entries)

-- The moments of the cells that charged bucket 2 of the contract of this number: those that met this bucket and passed.
abbrev pub sustained_charges : ℕ → Contract → List Entry → List ℕ
sustained_charges number contract entries =
    map (λ entry. entry.moment)
    (filter (λ entry. (entry.value == number) && charges_second entry.verdict contract entry.clp) entries)
