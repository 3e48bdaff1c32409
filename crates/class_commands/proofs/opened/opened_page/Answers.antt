use Rattle.std.proofs.Common.{◌∙◌, sym}
use Rattle.class_commands.specs.Opened.{page_html}
use Rattle.class_commands.proofs.OpenedLemmas.{classes-line}
use Rattle.class_commands.proofs.opened.opened_page.Goals as goal

pub returns : goal.returns
returns c =
    let json = c.in_ok-classes.ensures in
    let ends = classes-line c.args.page.now _ json.0 in
    record {
      classes = ends.0;
      as_json = (json.0, json.1, sym ends.1);
      orders = c.args.orders.now;
      are_orders = c.requires;
      text_is =
          c.in_ok-bytes.ensures
          ∙ (λ k. page_html (c.without_line_feed.ensures ends.0 (c.bytes.ensures ∙ json.2 ∙ ends.1) k) c.args.orders.now);
    }
