-- Why the main setups of a file that is bound are not refused.
use Rattle.std.proofs.Common.{◌≡◌, ◌∙◌, ℕ, List, [], Ok, Err, refl, sym}
use Rattle.bound_statements.specs.declared.statement.Bound.{Bound}
use Rattle.binding_model.specs.declared.error.BindStop.{BindStop}
use Rattle.binding_model.specs.declared.error.BindStop.TheVariants.{Memory, Refused}
use Rattle.binding_model.specs.declared.tables.Table.{Table}
use Rattle.binding_model.specs.Refusals.{Bind, Binds}
use Rattle.bound_specs.specs.Binding.{IsFileAt, declared, main_setup, shaped, written_file}
use Rattle.bound_specs.specs.Lines.{orders_of}
use Rattle.bound_specs.specs.Spec.{SpecFile}
use Rattle.bound_specs.proofs.FileLemmas.{bind}

only-memory : {Y : Type 0} (stop : BindStop) (r : Bind Y) (y : Y) → r ≡ Ok y → Binds (λ (y : Y). y) (Err stop) r → stop ≡ Memory
only-memory Memory r y e h = refl
only-memory (Refused error) r y e h = let same : Ok y ≡ Err error = sym e ∙ h in absurd (cc same)

-- they stop for want of memory alone
pub setups-want-memory : (stop : BindStop) (r : Bind (List Table × List (List Bound))) (text : List ℕ) (file : SpecFile) → (is : IsFileAt text file)
    → r ≡ declared main_setup [] is.tree.front.setups → Binds (λ (main : List Table × List (List Bound)). main) (Err stop) r → stop ≡ Memory
setups-want-memory stop r text file is e h =
    let w = bind (written_file text is.tree) _ file is.is_bound in
    let a = bind (shaped (orders_of is.tree)) _ w.0 w.1.0 in
    let b = bind (declared main_setup [] is.tree.front.setups) _ w.0 a.1.1 in
    only-memory stop r b.0 (e ∙ b.1.0) h
