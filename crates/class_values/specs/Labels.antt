-- What stands in front of members.
use Rattle.std.specs.Prelude.{ℕ, List, codes}
use Rattle.class_values.specs.declared.label.Label.{Label}
use Rattle.class_values.specs.declared.label.Label.TheVariants.{FirstRank, ClassOrders, Letters, Order, Transcripts, FinalRows, Open, QueryRows, Expectations, Queries}

-- it does not unfold: what is pushed behind it does not go by its text
unfoldable pub label : Label → List ℕ
label FirstRank = codes "{\"first_rank\":"
label ClassOrders = codes ",\"orders\":"
label Letters = codes ",\"letters\":"
label Order = codes ",\"order\":"
label Transcripts = codes ",\"transcripts\":"
label FinalRows = codes ",\"final_rows\":"
label Open = codes ",\"open\":"
label QueryRows = codes ",\"query_rows\":"
label Expectations = codes ",\"expectations\":"
label Queries = codes ",\"queries\":"
