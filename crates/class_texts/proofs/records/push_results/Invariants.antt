use Rattle.std.proofs.Common.{◌≡◌, ◌++◌, drop}
use Rattle.std.specs.String.{string_bytes}
use Rattle.class_texts.specs.Records.{results_bytes}
use Rattle.class_texts.proofs.records.push_results.Given as goal

-- the rows put and those left
abbrev pub invariant-loop-place : goal.invariant-loop-place
invariant-loop-place l = string_bytes l.text ++ results_bytes l.page l.place (drop l.place l.rows) ≡ string_bytes l.fn.text ++ results_bytes l.page 0 l.rows
