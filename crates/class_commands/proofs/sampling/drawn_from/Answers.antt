use Rattle.std.proofs.Common.{◌≡◌, ◌∙◌, ◌<◌, All, List, ℕ, max, refl, map, subst, sym, arith}
use Rattle.bound_specs.specs.Spec.{Spec, ranks}
use Rattle.spec_classes.specs.Classes.{drawn}
use Rattle.spec_classes.specs.Drawing.{AreDrawn}
use Rattle.class_rows.specs.Pages.{IsClassed}
use Rattle.class_commands.specs.Classing.{with_rank}
use Rattle.class_commands.proofs.SampleLemmas.{drawn-counted, drawn-inside, ranks-drawn}
use Rattle.class_commands.proofs.sampling.drawn_from.Goals as goal

-- as many ranks of the spec are drawn as are wanted
as-wanted : (run : Spec) (seed orders count bound : ℕ) (rs : List ℕ) → count ≡ max 1 orders → bound ≡ ranks run → AreDrawn seed count bound rs
    → AreDrawn seed (max 1 orders) (ranks run) rs
as-wanted run seed orders count bound rs many all draws = subst (λ n. AreDrawn seed n (ranks run) rs) many (subst (λ m. AreDrawn seed count m rs) all draws)

pub placed-requires-clause-inside : goal.placed-requires-clause-inside
placed-requires-clause-inside c =
    let run = c.args.explored.spec.now.run in
    let sample = c.args.sample in
    let rs = c.in-Ok.ranks.items in
    let draws = as-wanted run sample.seed sample.orders c.count_of.result c.ranks_of.result rs c.count_of.ensures.is c.ranks_of.ensures.all c.in-Ok.ensures in
    subst (All (λ r. r < ranks run)) (sym c.deref.ensures.value) (drawn-inside sample.seed (max 1 sample.orders) (ranks run) rs draws)

pub placed-requires-clause-some : goal.placed-requires-clause-some
placed-requires-clause-some c none =
    let run = c.args.explored.spec.now.run in
    let sample = c.args.sample in
    let rs = c.in-Ok.ranks.items in
    let draws = as-wanted run sample.seed sample.orders c.count_of.result c.ranks_of.result rs c.count_of.ensures.is c.ranks_of.ensures.all c.in-Ok.ensures in
    let some : 0 < max 1 sample.orders = omega arith in
    ranks-drawn sample.seed (max 1 sample.orders) (ranks run) rs some draws (sym c.deref.ensures.value ∙ none)

-- the classes of drawn orders are told by their ranks
pub returns-in-Ok-placed-clause-found : goal.returns-in-Ok-placed-clause-found
returns-in-Ok-placed-clause-found c =
    let x = c.args.explored in
    let run = x.spec.now.run in
    let sample = c.args.sample in
    let rs = c.in-Ok.ranks.items in
    let found = c.in-Ok-placed.found in
    let filters = c.args.asked.filters.now in
    let draws = as-wanted run sample.seed sample.orders c.count_of.result c.ranks_of.result rs c.count_of.ensures.is c.ranks_of.ensures.all c.in-Ok.ensures in
    let are = subst (λ (l : List ℕ). IsClassed x.kind x.tables.now (drawn run l) filters c.args.asked.by found) c.deref.ensures.value c.in-Ok-placed.ensures.found in
    let rows = subst (λ (l : List ℕ). c.put_ranks.new.rows.items ≡ map (with_rank l) found.rows.items) c.deref-in-Ok-placed.ensures.value c.put_ranks.ensures in
    drawn-counted x.kind x.tables.now run filters c.args.asked.by sample rs found (record { orders = found.orders; totals = found.totals; rows = c.put_ranks.new.rows })
    draws are refl refl rows

pub returns-clause-refused : goal.returns-clause-refused
returns-clause-refused c = c.in-Err.ensures.refused c.args.sample
