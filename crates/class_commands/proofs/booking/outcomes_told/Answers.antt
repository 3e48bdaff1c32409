use Rattle.std.proofs.Common.{None, ◌∙◌, [], false, subst}
use Rattle.class_texts.specs.Pages.{Page}
use Rattle.class_texts.specs.declared.kind.ClassKind.TheVariants.{Outcomes}
use Rattle.class_commands.specs.Written.{IsWritten, written_bytes}
use Rattle.class_commands.proofs.booking.outcomes_told.Goals as goal

pub returns : goal.returns
returns c =
    let spec = c.args.found.now.spec in
    let classes = c.args.found.now.classes in (
      c.in_ok-ranks.ranks.items,
      c.in_ok-ranks.ensures,
      (
        c.in_ok-levels.levels,
        c.in_ok-levels.ensures,
        subst (λ (p : Page). IsWritten c.args.wanted.now.json spec.text spec p (written_bytes c.in_ok-written.written))
            (λ k. let p : Page = record {
              path = (c.as_str.ensures.value ∙ c.in_ok-name.ensures) k;
              orders = c.ranks.ensures k;
              all_orders = false;
              sample = None;
              sessions = c.session_names.ensures.are k;
              steps = c.step_names.ensures.are k;
              tables = [];
              by = Outcomes;
              is_filtered = c.is_some.ensures k;
              filters = [];
              missing = classes.missing;
              level = c.in_ok-levels.levels.asked;
              other_lines = c.in_ok-levels.levels.other_lines.items;
              expectations = [];
              totals = classes.totals;
              rows = c.as_slice.ensures.value k;
              is_brief = c.args.wanted.now.brief;
              with_ranks = c.args.wanted.now.ranks;
              ranks = c.as_slice-2.ensures.value k;
              with_outcomes = c.args.wanted.now.outcomes;
              with_left = false;
              looks = [];
            } in p) c.in_ok-written.ensures,
      ),
    )
