-- What contracts see of a marked list.
use Rattle.std.specs.Prelude.{ℕ, ◌-◌, List, length, drop, refl}
use Rattle.std.specs.Coded.{Coded, code_by, coded×, coded_list}

-- the list now, and the lists at the marks that stand, the newest first
pub record Versions (T : Type 0) : Type 0 where
  pub list : List T
  pub marked : List (List T)

-- they are stored as the pair of these fields
abbrev pub versions_code : {T : Type 0} → Coded T → Coded (Versions T)
versions_code {T} code =
    code_by (List T × List (List T)) (coded× (coded_list code) (coded_list (coded_list code)))
    (λ v. (v.list, v.marked)) (λ p. record { list = p.0; marked = p.1 }) (λ _. refl)

-- so many of the oldest lists, where the newest is the first
abbrev pub oldest : {T : Type 0} → ℕ → List T → List T
oldest n lists = drop (length lists - n) lists
