use Rattle.std.proofs.Common.{◌≡◌, map, drop}
use Rattle.class_texts.specs.Letters.{total_of}
use Rattle.class_texts.specs.Pages.{classes_of, largest, most_classes}
use Rattle.class_texts.proofs.widths.most_classes.Given as goal

-- the largest of those passed and those left
abbrev pub invariant-loop-letter : goal.invariant-loop-letter
invariant-loop-letter l = largest l.most (map (λ m. classes_of (total_of l.totals m)) (drop l.letter-index l.letters)) ≡ most_classes l.totals l.letters
