use Rattle.std.proofs.Common.{◌≡◌, ap, sym, ◌∙◌, map, length, arith, Ok}
use Rattle.std.specs.Prelude.{string_bytes}
use Rattle.std.proofs.lemmas.List.{length-map}
use Rattle.spec_reader.specs.Views.{session_tree, block_tree}
use Rattle.spec_reader.specs.Whole.{spec_tree}
use Rattle.spec_binding.specs.Bindings.{bound_session}
use Rattle.bound_specs.specs.Orders.{lines_of}
use Rattle.bound_specs.specs.Binding.{session, declared, main_setup}
use Rattle.bound_specs.specs.Levels.{levelled_block, levelled_step}
use Rattle.bound_specs.specs.Lines.{session_names, step_names}
use Rattle.binding_model.specs.Refusals.{each}
use Rattle.spec_binding.proofs.FileLemmas.{few-sessions, kept}
use Rattle.spec_binding.proofs.binding.bound.Goals as goal
use Rattle.spec_binding.proofs.binding.bound.Goals.{In_ok-bound}

-- the sessions, with the tables that the main setups declared
sessions_are : (c : In_ok-bound) → each (session c.setups.new.tables.items) (spec_tree c.args.text.now).sessions
    ≡ Ok (map bound_session c.in_ok-bound.bound.items)
sessions_are c = (λ i. each (session (sym c.deref-4.ensures.value i)) (map session_tree (sym c.deref-5.ensures.value i))) ∙ c.in_ok-bound.ensures

pub all_steps-requires : goal.all_steps-requires
all_steps-requires c =
    omega (
      arith,
      length-map c.in_ok-bound.bound.items bound_session,
      few-sessions (spec_tree c.args.text.now) (lines_of c.in_ok-orders.orders) c.setups.new.tables.items (map bound_session c.in_ok-bound.bound.items)
          c.in_ok-orders.ensures.bound (sessions_are c),
    )

pub from_parts-requires : goal.from_parts-requires
from_parts-requires c =
    let text = c.args.text.now in
    let names = c.in_ok-session_names.ensures ∙ ap (λ ss. session_names (map session_tree ss)) c.deref-6.ensures.value in
    let steps = c.in_ok-step_names.ensures ∙ ap (λ ss. step_names (map session_tree ss)) c.deref.ensures.value in
    let bytes = c.in_ok-copy.ensures.ok ∙ c.deref-7.ensures in
    let count : c.len.result ≡ length (map session_tree text.sessions.items) =
    omega (arith, c.len.ensures, text.sessions.ok.0, length-map text.sessions.items session_tree) in
    kept _ (string_bytes text.text) (spec_tree text) c.known.ensures (lines_of c.in_ok-orders.orders) (
      c.setups.new.tables.items,
      c.in_ok-setups.setups.items,
    ) (map bound_session c.in_ok-bound.bound.items)
    (λ i. record {
      text = bytes i;
      session_names = names i;
      step_names = steps i;
      asked = c.args.levels;
      run = record {
        sessions = count i;
        steps = (c.in_ok-steps.ensures ∙ ap (map (levelled_step c.args.levels)) c.in_ok-written_steps.ensures.steps) i;
        setups = c.in_ok-setups-2.ensures i;
        session_setups = (c.in_ok-session_setups.ensures ∙ ap (map (levelled_block c.args.levels)) c.in_ok-written_steps.ensures.setups) i;
        lines = lines_of c.in_ok-orders.orders;
      };
    })
    c.in_ok-orders.ensures.bound ((λ i. declared main_setup (sym c.new-tables.ensures.items i) (map block_tree (sym c.deref-3.ensures.value i)))
    ∙ c.in_ok-setups.ensures) (sessions_are (goal.at.from_parts-requires c).In_ok-bound) c.in_ok-orders.ensures.fits
