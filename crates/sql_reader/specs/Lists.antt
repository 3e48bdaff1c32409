-- Lists of one or more items with a sign between them.
use Rattle.std.specs.Prelude.{ℕ, suc, List, length}
use Rattle.sql_grammar.specs.Tokens.{Sign, Placed}
use Rattle.sql_grammar.specs.Tree.{Chain, Last, More}
use Rattle.sql_grammar.specs.Reading.{Read, chain, the}

-- the item of each number, from 0
abbrev pub Items : Type 0 → Type 0
Items A = ℕ → List Placed → Read A

-- items with this sign between them
abbrev pub with_signs : {A : Type 0} → List ℕ → Items A → List Placed → Read (Chain A)
with_signs sign item ts = chain Last (λ a u l. More a l) (the (Sign sign)) item (suc (length ts)) 0 ts
