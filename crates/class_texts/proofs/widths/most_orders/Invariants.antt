use Rattle.std.proofs.Common.{◌≡◌, map, drop}
use Rattle.class_texts.specs.Letters.{total_of}
use Rattle.class_texts.specs.Pages.{largest, most_orders, orders_of}
use Rattle.class_texts.proofs.widths.most_orders.Given as goal

-- the largest of those passed and those left
abbrev pub invariant-loop-letter : goal.invariant-loop-letter
invariant-loop-letter l = largest l.most (map (λ m. orders_of (total_of l.totals m)) (drop l.letter-index l.letters)) ≡ most_orders l.totals l.letters
