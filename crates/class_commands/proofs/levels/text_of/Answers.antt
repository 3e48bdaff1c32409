use Rattle.std.proofs.Common.{◌≡◌, ◌∙◌, [], List, None, ap, false, subst}
use Rattle.std.proofs.lemmas.Result.{IfOk-weaker}
use Rattle.class_texts.specs.Levels.{Side, levels_bytes}
use Rattle.class_texts.specs.Pages.{Page}
use Rattle.class_texts.specs.declared.kind.ClassKind.TheVariants.{Answers}
use Rattle.class_commands.specs.Levels.{AreOnly, side_of}
use Rattle.class_commands.proofs.levels.text_of.Goals as goal

pub returns : goal.returns
returns c =
    let y = c.args.found.now in
    let wanted = c.args.wanted.now in
    IfOk-weaker c.levels_text.result _ _ (λ text is x kept.
    let only = c.in_ok-only.only.items in
    let are = subst (λ rows. AreOnly x.results.rows.items rows only) c.as_slice.ensures.value (c.in_ok-only.ensures x.results.rows.items kept.results) in
    let first : c.side_of.result ≡ side_of x =
    c.side_of.ensures
    ∙ (λ i. let s : Side = record { level = (kept.levels i).asked; other_lines = (kept.levels i).other_lines.items; totals = kept.totals i } in s) in (
      only,
      are,
      is
          ∙ (λ i. let p : Page = record {
            path = c.args.path.now;
            orders = y.results.orders;
            all_orders = false;
            sample = None;
            sessions = c.session_names.ensures.are i;
            steps = c.step_names.ensures.are i;
            tables = c.as_slice-2.ensures.value i;
            by = Answers;
            is_filtered = false;
            filters = [];
            missing = None;
            level = y.levels.asked;
            other_lines = y.levels.other_lines.items;
            expectations = [];
            totals = y.results.totals;
            rows = c.as_slice-3.ensures.value i;
            is_brief = wanted.brief;
            with_ranks = false;
            ranks = [];
            with_outcomes = wanted.outcomes;
            with_left = wanted.final_rows;
            looks = [];
          } in levels_bytes (first i) (c.side_of-2.ensures i) y.results.totals.all.classes p),
    )) c.levels_text.ensures
