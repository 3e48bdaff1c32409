-- A session is told of events one after another.
use Rattle.std.proofs.Common.{◌≡◌, ◌<◌, ◌∙◌, ap, ℕ, List, [], ◌∷◌, ◌++◌, length, set, set-set, get_or-set_same}
use Rattle.std.proofs.lemmas.List.{append-nil, append_assoc, set-get_or}
use Rattle.marked_logs.specs.Logs.{telling, told_to}

module _ {E : Type 0} where
  -- a session is told of these events
  abbrev pub telling_each : List (List E) → ℕ → List E → List (List E)
  telling_each logs session events = set logs session (told_to logs session ++ events)

  pub telling_each-nil : (logs : List (List E)) (session : ℕ) → telling_each logs session [] ≡ logs
  telling_each-nil logs session = ap (set logs session) (append-nil (told_to logs session)) ∙ set-get_or logs session []

  pub telling_each-cons : (logs : List (List E)) (session : ℕ) (event : E) (rest : List E) → session < length logs
      → telling_each (telling logs session event) session rest ≡ telling_each logs session (event ∷ rest)
  telling_each-cons logs session event rest inside =
      let before = told_to logs session in
      ap (λ told. set (telling logs session event) session (told ++ rest)) (get_or-set_same logs session (before ++ event ∷ []) [] inside)
      ∙ set-set logs session (before ++ event ∷ []) ((before ++ event ∷ []) ++ rest)
      ∙ ap (set logs session) (append_assoc before (event ∷ []) rest)
