-- Numbers as keys.
use Rattle.std.specs.Prelude.{ℕ}
use Rattle.std.specs.Ordering.{nat_cmp}
use Rattle.std.specs.Cmp.{nat_cmp_total}
use Rattle.std.specs.FinMap.{nat_cmp-IsAntisymmetric}
use Rattle.finite_maps.specs.Map.{Order}

-- numbers by their size
abbrev pub nat_order : Order ℕ
nat_order = record { cmp = nat_cmp; total = nat_cmp_total; same = nat_cmp-IsAntisymmetric }
