use Rattle.std.proofs.Common.{◌∙◌, [], None, ap, false, map, subst, sym}
use Rattle.class_texts.specs.Letters.{kind_of}
use Rattle.class_texts.specs.Pages.{Page}
use Rattle.class_commands.specs.Opened.{IsWrittenAs}
use Rattle.class_commands.specs.Written.{written_bytes}
use Rattle.class_commands.specs.Classing.{IsFinding, expectation_over, filters_text, has_some, look_over}
use Rattle.class_commands.specs.Parts.{finding_by}
use Rattle.class_commands.proofs.ClassLemmas.{finding-is}
use Rattle.class_commands.proofs.telling.told.Goals as goal

pub returns-clause-text : goal.returns-clause-text
returns-clause-text c =
    let expectations =
    c.as_slice-5.ensures.value ∙ c.in_ok-expectations.ensures
    ∙ (λ k. map (expectation_over (c.as_slice-rows.ensures.value k)) (c.as_slice-2.ensures.value k)) in
    let filtered = c.has_some.ensures ∙ ap has_some c.as_slice-4.ensures.value in
    let looks =
    c.as_slice-6.ensures.value ∙ c.in_ok-looks.ensures ∙ (λ k. map (look_over (c.as_slice-rows.ensures.value k)) (c.as_slice.ensures.value k)) in
    let filters = c.as_str.ensures.value ∙ c.in_ok-filters.ensures ∙ ap filters_text (c.as_slice-3.ensures.value ∙ c.in_ok-wanted_filters.ensures) in
    subst (λ (p : Page). IsWrittenAs c.args.wanted.now.form c.args.spec.now.text c.args.spec.now p (written_bytes c.in_ok-written.written))
    (λ k. let p : Page = record {
      path = c.args.path.now;
      orders = c.args.found.now.orders;
      all_orders = c.args.wanted.now.all_orders;
      sample = c.seed_of.ensures k;
      sessions = c.session_names.ensures.are k;
      steps = c.step_names.ensures.are k;
      tables = c.args.tables.now;
      by = (c.of.ensures ∙ ap kind_of c.grouping.ensures) k;
      is_filtered = filtered k;
      filters = filters k;
      missing = None;
      level = c.args.levels.now.asked;
      other_lines = c.args.levels.now.other_lines.items;
      expectations = expectations k;
      totals = c.args.found.now.totals;
      rows = c.as_slice-rows.ensures.value k;
      is_brief = c.args.wanted.now.brief;
      with_ranks = false;
      ranks = [];
      with_outcomes = c.args.wanted.now.outcomes;
      with_left = c.args.wanted.now.final_rows;
      looks = looks k;
    } in p) c.in_ok-written.ensures

pub returns-clause-finding : goal.returns-clause-finding
returns-clause-finding c =
    let rows = c.args.found.now.rows.items in
    let es = c.args.asked.now.expectations.items in
    let expectations =
    c.as_slice-7.ensures.value ∙ c.in_ok-expectations.ensures
    ∙ (λ k. map (expectation_over (c.as_slice-rows.ensures.value k)) (c.as_slice-2.ensures.value k)) in
    subst (IsFinding rows es) (sym (c.finding_of.ensures ∙ ap finding_by expectations)) (finding-is c.one_row_is_met.ensures rows es)
