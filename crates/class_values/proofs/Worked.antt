-- Pages of classes and their parts, by hand.
use Rattle.std.specs.Prelude.{◌≡◌, refl, ℕ, pos, true, false, [], ◌∷◌, ◌++◌, Some, None, codes}
use Rattle.std.specs.Fmt.{digits}
use Rattle.json.specs.Print.{escape_byte}
use Rattle.lock_modes.specs.declared.value.Value.TheVariants.{Int, Text}
use Rattle.events.specs.declared.event.Event.TheVariants.{Sent, Row, Rows, Updated, Waiting, Done}
use Rattle.bound_statements.specs.declared.statement.Level.TheVariants.{Serializable, Committed}
use Rattle.order_classes.specs.declared.rows.ClassRow.{ClassRow}
use Rattle.order_classes.specs.declared.rows.Letters.{Letters}
use Rattle.order_classes.specs.declared.rows.Total.{Total}
use Rattle.class_texts.specs.declared.kind.ClassKind.TheVariants.{Shows, Answers, Outcomes}
use Rattle.order_classes.specs.declared.shows.Rest.TheVariants.{HasEnded, IsOpen, StillWaits}
use Rattle.shown_values.specs.Strings.{escaped}
use Rattle.class_texts.specs.Expected.{Expectation}
use Rattle.class_texts.specs.Pages.{Page}
use Rattle.class_values.specs.Totals.{totals_json}
use Rattle.class_values.specs.Expected.{expected_json}
use Rattle.class_values.specs.Labels.{label}
use Rattle.class_values.specs.Class.{left_part}
use Rattle.class_values.specs.Page.{classes_json, counts_json, levels_part, missing_by}

abbrev total : ℕ → ℕ → Total
total orders classes = record { orders = orders; classes = classes }

-- ---- a page of a spec with two steps and a look, by shows, with ranks

abbrev ended : Letters
ended = record { waits = false; deadlock = false; error = false; unsent = false; stuck = false; not_serial = Some false }

abbrev stuck : Letters
stuck = record { waits = true; deadlock = false; error = false; unsent = false; stuck = true; not_serial = Some false }

-- the second session waits for the first one, which is in a transaction
abbrev first_class : ClassRow
first_class = record {
  least = 0;
  count = 1;
  letters = stuck;
  line = record { items = 0 ∷ 1 ∷ [] };
  shows = record {
    told = (Sent 0 ∷ Updated 1 ∷ Done ∷ []) ∷ (Sent 1 ∷ Waiting ∷ []) ∷ [];
    left = ((Int (pos 1), Int (pos 1) ∷ Text (codes "<") ∷ []) ∷ []) ∷ [];
    rests = IsOpen ∷ StillWaits ∷ [];
  };
}

-- it comes first, and both end
abbrev second_class : ClassRow
second_class = record {
  least = 1;
  count = 1;
  letters = ended;
  line = record { items = 1 ∷ 0 ∷ [] };
  shows = record {
    told = (Sent 0 ∷ Updated 0 ∷ Done ∷ []) ∷ (Sent 1 ∷ Updated 1 ∷ Done ∷ []) ∷ [];
    left = [] ∷ [];
    rests = HasEnded ∷ HasEnded ∷ [];
  };
}

abbrev one_row : Expectation
one_row = record {
  text = codes "SELECT n FROM t";
  values = Int (pos 1) ∷ Text (codes "it's") ∷ [];
  seen = (Row (Int (pos 1) ∷ Text (codes "it's") ∷ []) ∷ Rows 1 ∷ []) ∷ (Rows 0 ∷ []) ∷ [];
}

abbrev two_orders : Page
two_orders = record {
  path = codes "two.spec";
  orders = 2;
  all_orders = true;
  sample = None;
  sessions = codes "a" ∷ codes "b" ∷ [];
  steps = codes "a1" ∷ codes "b1" ∷ [];
  tables = record { name = codes "t"; columns = []; key = None } ∷ [];
  by = Shows;
  is_filtered = false;
  filters = [];
  missing = None;
  level = None;
  other_lines = [];
  expectations = one_row ∷ [];
  totals = record {
    all = total 2 2;
    waits = total 1 1;
    deadlock = total 0 0;
    error = total 0 0;
    unsent = total 0 0;
    stuck = total 1 1;
    not_serial = Some (total 0 0);
  };
  rows = first_class ∷ second_class ∷ [];
  is_brief = false;
  with_ranks = true;
  ranks = (record { first = 0; end = 1 } ∷ []) ∷ (record { first = 1; end = 2 } ∷ []) ∷ [];
  with_outcomes = false;
  with_left = false;
  looks = record { text = codes "SELECT COUNT(*) FROM t"; seen = (Row (Int (pos 1) ∷ []) ∷ Rows 1 ∷ []) ∷ (Row (Int (pos 0) ∷ []) ∷ Rows 1 ∷ []) ∷ [] } ∷ [];
}

two_orders_json : classes_json two_orders (0 ∷ 1 ∷ []) (codes "UPDATE t SET n = 1" ∷ codes "DELETE FROM t" ∷ [])
    ≡ codes "{\"format\":2,\"name\":\"two.spec\",\"orders\":2,\"asked\":2,\"sessions\":[\"a\",\"b\"],"
    ++ codes "\"steps\":[{\"name\":\"a1\",\"session\":0,\"sql\":\"UPDATE t SET n = 1\"},{\"name\":\"b1\",\"session\":1,\"sql\":\"DELETE FROM t\"}],\"level_lines\":[],"
    ++ codes "\"by\":\"shows\",\"totals\":{\"W\":[1,1],\"D\":[0,0],\"E\":[0,0],\"N\":[0,0],\"S\":[1,1],\"R\":[0,0]},"
    ++ codes "\"expectations\":[{\"select\":\"SELECT n FROM t\",\"values\":[\"1\",\"'it''s'\"],\"holds_in\":1,\"first\":1}],\"queries\":[\"SELECT COUNT(*) FROM t\"],"
    ++ codes "\"classes\":[{\"first_rank\":0,\"orders\":1,\"letters\":\"W...S.\",\"order\":[0,1],"
    ++ codes "\"transcripts\":[[\"step a1\",\"updated 1\",\"done\"],[\"step b1\",\"waiting\"]],\"final_rows\":[{\"table\":\"t\",\"rows\":[\"1|'\\u003c'\"]}],"
    ++ codes "\"open\":[[0,\"in\"],[1,\"waits\"]],\"query_rows\":[[\"row 1\",\"rows 1\"]],\"ranks\":[[0,0]]},"
    ++ codes "{\"first_rank\":1,\"orders\":1,\"letters\":\"......\",\"order\":[1,0],"
    ++ codes "\"transcripts\":[[\"step a1\",\"updated 0\",\"done\"],[\"step b1\",\"updated 1\",\"done\"]],\"final_rows\":[{\"table\":\"t\",\"rows\":[]}],"
    ++ codes "\"open\":[],\"query_rows\":[[\"row 0\",\"rows 1\"]],\"ranks\":[[1,1]]}]}\n"
unfolding digits escaped escape_byte label
two_orders_json = refl

-- ---- by answers

-- waits and steps that are not sent are not told, and R is not told of a file with permutation lines
answers_totals : totals_json Answers true
    (record {
      all = total 9 3;
      waits = total 5 2;
      deadlock = total 4 2;
      error = total 0 0;
      unsent = total 1 1;
      stuck = total 2 1;
      not_serial = None;
    })
    ≡ codes "{\"W\":null,\"D\":[4,2],\"E\":[0,0],\"N\":null,\"S\":[2,1],\"R\":null}"
unfolding digits
answers_totals = refl

-- nor is it told how sessions stand
answers_left : left_part Answers two_orders.tables first_class.shows ≡ codes ",\"final_rows\":[{\"table\":\"t\",\"rows\":[\"1|'\\u003c'\"]}]"
unfolding digits escaped escape_byte label
answers_left = refl

-- ---- of books

-- what is left is not known, and so are two of the letters
outcomes_totals : totals_json Outcomes false two_orders.totals ≡ codes "{\"W\":[1,1],\"D\":[0,0],\"E\":[0,0],\"N\":[0,0],\"S\":null,\"R\":null}"
unfolding digits
outcomes_totals = refl

outcomes_left : left_part Outcomes two_orders.tables first_class.shows ≡ []
outcomes_left = refl

-- which orders are missing is told of books alone
outcomes_missing : missing_by Outcomes (Some (record { ranks = 12; first = 3 })) ∷ missing_by Outcomes None ∷ missing_by Answers None ∷ []
    ≡ codes ",\"missing\":{\"orders\":12,\"first\":3}" ∷ codes ",\"missing\":null" ∷ [] ∷ []
unfolding digits
outcomes_missing = refl

-- it is so of all orders
met_by_all : expected_json (first_class ∷ []) one_row ≡ codes "{\"select\":\"SELECT n FROM t\",\"values\":[\"1\",\"'it''s'\"],\"holds_in\":1,\"first\":null}"
unfolding digits escaped escape_byte label
met_by_all = refl

-- a sample by the seed 7, of which both classes were seen once
counts_of_sample : counts_json (record two_orders { sample = Some 7 })
    ≡ codes "{\"format\":2,\"name\":\"two.spec\",\"orders\":2,\"asked\":2,\"sample\":{\"seed\":7,\"seen_once\":2}"
unfolding digits escaped escape_byte
counts_of_sample = refl

-- ---- the one order of a file with one step that has no statement

abbrev one_step : Page
one_step = record {
  path = codes "one.spec";
  orders = 1;
  all_orders = false;
  sample = None;
  sessions = codes "a" ∷ [];
  steps = codes "s" ∷ [];
  tables = [];
  by = Shows;
  is_filtered = false;
  filters = [];
  missing = None;
  level = None;
  other_lines = 3 ∷ 12 ∷ [];
  expectations = [];
  totals = record {
    all = total 1 1;
    waits = total 0 0;
    deadlock = total 0 0;
    error = total 0 0;
    unsent = total 0 0;
    stuck = total 0 0;
    not_serial = Some (total 0 0);
  };
  rows =
      record {
        least = 0;
        count = 1;
        letters = ended;
        line = record { items = 0 ∷ [] };
        shows = record { told = (Sent 0 ∷ Done ∷ []) ∷ []; left = []; rests = HasEnded ∷ [] };
      } ∷ [];
  is_brief = false;
  with_ranks = false;
  ranks = [];
  with_outcomes = false;
  with_left = false;
  looks = [];
}

one_step_json : classes_json one_step (0 ∷ []) ([] ∷ [])
    ≡ codes "{\"format\":2,\"name\":\"one.spec\",\"orders\":1,\"asked\":1,\"sessions\":[\"a\"],"
    ++ codes "\"steps\":[{\"name\":\"s\",\"session\":0,\"sql\":\"\"}],\"level_lines\":[3,12],\"by\":\"shows\","
    ++ codes "\"totals\":{\"W\":[0,0],\"D\":[0,0],\"E\":[0,0],\"N\":null,\"S\":[0,0],\"R\":[0,0]},\"expectations\":[],\"queries\":[],"
    ++ codes "\"classes\":[{\"first_rank\":0,\"orders\":1,\"letters\":\".....\",\"order\":[0],\"transcripts\":[[\"step s\",\"done\"]],"
    ++ codes "\"final_rows\":[],\"open\":[],\"query_rows\":[]}]}\n"
unfolding digits escaped escape_byte label
one_step_json = refl

-- ---- levels that are asked for, in the place of lines with a level that has no effect

committed_but_for_two : levels_part (record one_step { level = Some Committed; other_lines = 8 ∷ 10 ∷ [] })
    ≡ codes ",\"levels\":{\"default\":\"read-committed\",\"other_lines\":[8,10]},\"level_lines\":[]"
unfolding digits
committed_but_for_two = refl

serializable_alone : levels_part (record one_step { level = Some Serializable; other_lines = [] })
    ≡ codes ",\"levels\":{\"default\":\"serializable\",\"other_lines\":[]},\"level_lines\":[]"
serializable_alone = refl

-- it stands behind the steps
committed_step_json : classes_json (record one_step { level = Some Committed; other_lines = 3 ∷ [] }) (0 ∷ []) ([] ∷ [])
    ≡ codes "{\"format\":2,\"name\":\"one.spec\",\"orders\":1,\"asked\":1,\"sessions\":[\"a\"],"
    ++ codes "\"steps\":[{\"name\":\"s\",\"session\":0,\"sql\":\"\"}],"
    ++ codes "\"levels\":{\"default\":\"read-committed\",\"other_lines\":[3]},\"level_lines\":[],\"by\":\"shows\","
    ++ codes "\"totals\":{\"W\":[0,0],\"D\":[0,0],\"E\":[0,0],\"N\":null,\"S\":[0,0],\"R\":[0,0]},\"expectations\":[],\"queries\":[],"
    ++ codes "\"classes\":[{\"first_rank\":0,\"orders\":1,\"letters\":\".....\",\"order\":[0],\"transcripts\":[[\"step s\",\"done\"]],"
    ++ codes "\"final_rows\":[],\"open\":[],\"query_rows\":[]}]}\n"
unfolding digits escaped escape_byte label
committed_step_json = refl
