-- What sessions were told, as lists of a tree, now and at marks.
use Rattle.std.specs.Prelude.{ℕ, List, [], ◌∷◌, ◌++◌, get_or, set, refl}
use Rattle.std.specs.Coded.{Coded, code_by, coded×, coded_list}

-- the lists of the tree by the numbers of their nodes, what each session was told, and what each was told at the marks that stand, the newest first
pub record Logs (E : Type 0) : Type 0 where
  pub lists : List (List E)
  pub now : List (List E)
  pub marked : List (List (List E))

-- they are stored as the triple of these fields
abbrev pub logs_code : {E : Type 0} → Coded E → Coded (Logs E)
logs_code {E} code =
    code_by (List (List E) × (List (List E) × List (List (List E))))
    (coded× (coded_list (coded_list code)) (coded× (coded_list (coded_list code)) (coded_list (coded_list (coded_list code)))))
    (λ l. (l.lists, (l.now, l.marked))) (λ p. record { lists = p.0; now = p.1.0; marked = p.1.1 }) (λ _. refl)

module _ {E : Type 0} where
  -- what a session was told
  abbrev pub told_to : List (List E) → ℕ → List E
  told_to logs session = get_or logs session []

  -- a session is told of an event
  abbrev pub telling : List (List E) → ℕ → E → List (List E)
  telling logs session event = set logs session (told_to logs session ++ event ∷ [])

  -- a session was told nothing
  abbrev pub forgetting : List (List E) → ℕ → List (List E)
  forgetting logs session = set logs session []
