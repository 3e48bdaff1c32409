use Rattle.std.proofs.Common.{◌≡◌, ◌++◌, drop}
use Rattle.std.specs.String.{string_bytes}
use Rattle.class_texts.specs.Beneath.{outcome_beneath}
use Rattle.class_texts.proofs.outcomes.push_outcome.Given as goal

-- the sessions put and those left
abbrev pub invariant-loop-session : goal.invariant-loop-session
invariant-loop-session l =
    string_bytes l.text ++ outcome_beneath (drop l.session l.sessions) l.steps (drop l.session l.told)
    ≡ string_bytes l.fn.text ++ outcome_beneath l.sessions l.steps l.told
