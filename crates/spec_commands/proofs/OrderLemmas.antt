-- What is told of an order that has no rank.
use Rattle.std.proofs.Common.{◌≡◌, ◌<◌, refl, subst, ℕ, List, length, Option, Result, Ok, Err, arith}
use Rattle.bound_specs.specs.Spec.{SpecFile, ranks}
use Rattle.bound_specs.specs.Binding.{IsFileOf}
use Rattle.order_names.specs.declared.error.OrderError.{OrderError}
use Rattle.order_names.specs.declared.error.OrderError.TheVariants as order_error
use Rattle.order_names.specs.Orders.{Name, IsRefused}
use Rattle.transcripts.specs.declared.counted.Counted.{Counted}
use Rattle.spec_commands.specs.declared.ordering.RankFault.{RankFault}
use Rattle.spec_commands.specs.declared.ordering.RankFault.TheVariants as rank_fault
use Rattle.spec_commands.specs.Ordering.{NamesStep, IsExplained, IsNamePlace, IsNotRanked, IsRanked}

pub names-step : (file : SpecFile) (names : List Name) (error : OrderError) → IsRefused file names error → NamesStep file error
names-step file names (order_error.UnknownStep place) r = tt
names-step file names (order_error.Again place) r = tt
names-step file names (order_error.OutOfTurn place due) r =
    let x = r.0.1 in
    let less = x.2 in
    let known = x.1.known in
    omega (arith, less, known)
names-step file names (order_error.LeftOut due) r = r.0.2
names-step file names order_error.NoLine r = tt
names-step file names order_error.NoMemory r = tt

-- where a name is told, it is one of the order
placed-by : (file : SpecFile) (names : List Name) (error : OrderError) → IsRefused file names error → (fault : RankFault) → IsExplained file error fault
    → IsNamePlace (length names) fault
placed-by file names error r (rank_fault.Spec fault) e = absurd e
placed-by file names error r (rank_fault.UnknownStep place) e =
    (let h : IsRefused file names (order_error.UnknownStep place) = subst (IsRefused file names) e r in h.0.0)
placed-by file names error r (rank_fault.Again place) e =
    (let h : IsRefused file names (order_error.Again place) = subst (IsRefused file names) e r in h.0.0.inside)
placed-by file names error r (rank_fault.OutOfTurn place due) e =
    (let h : IsRefused file names (order_error.OutOfTurn place e.0) = subst (IsRefused file names) e.1 r in h.0.0.inside)
placed-by file names error r (rank_fault.LeftOut due) e = tt
placed-by file names error r rank_fault.NoLine e = tt
placed-by file names error r rank_fault.NoMemory e = tt
placed-by file names error r (rank_fault.Write fault) e = absurd e

pub placed : (file : SpecFile) (names : List Name) (count : ℕ) → length names ≡ count → (error : OrderError) → IsRefused file names error → (fault : RankFault)
    → IsExplained file error fault → IsNamePlace count fault
placed file names count same error r fault e = subst (λ n. IsNamePlace n fault) same (placed-by file names error r fault e)

-- nothing is written
pub unranked : {W : Type 0} (contents : W → Option (List ℕ)) (old : Counted W) (bytes : List ℕ) (file : SpecFile) → IsFileOf bytes file → (names : List Name)
    → (error : OrderError) → IsRefused file names error → (fault : RankFault) → IsExplained file error fault → IsRanked contents old old bytes names (Err fault)
unranked contents old bytes file is names error r (rank_fault.Spec fault) e = absurd e
unranked contents old bytes file is names error r (rank_fault.UnknownStep place) e = (refl, (file, is, (error, r, e)))
unranked contents old bytes file is names error r (rank_fault.Again place) e = (refl, (file, is, (error, r, e)))
unranked contents old bytes file is names error r (rank_fault.OutOfTurn place due) e = (refl, (file, is, (error, r, e)))
unranked contents old bytes file is names error r (rank_fault.LeftOut due) e = (refl, (file, is, (error, r, e)))
unranked contents old bytes file is names error r rank_fault.NoLine e = (refl, (file, is, (error, r, e)))
unranked contents old bytes file is names error r rank_fault.NoMemory e = (refl, (file, is, (error, r, e)))
unranked contents old bytes file is names error r (rank_fault.Write fault) e = absurd e
